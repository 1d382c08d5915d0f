-- The words of a joined line. CTfile Formats, V3000; that brackets don't nest, and that an open part runs to the end,
-- is own.
use Rattle.std.specs.Prelude.{ℕ, List, [], ◌∷◌, ◌++◌, ◌+◌, ◌==◌, ◌&&◌, Bool, true, false, length, take, drop, position, Some, None, if◌then◌else◌}
use Rattle.std.specs.declared.option.Option.{Option}
use Rattle.cip_v3000.specs.declared.lines.word_splitter.QuoteState.{QuoteState}
use Rattle.cip_v3000.specs.declared.lines.word_splitter.QuoteState.TheVariants.{Plain, Bracket, Quote}

-- what a byte after this one is in; a quote in brackets and a bracket between quotes are plain text
abbrev pub after : QuoteState → ℕ → QuoteState
after Plain b = if b == 40 then Bracket else if b == 34 then Quote else Plain
after Bracket b = if b == 41 then Plain else Bracket
after Quote b = if b == 34 then Plain else Quote

abbrev pub is_plain : QuoteState → Bool
is_plain Plain = true
is_plain Bracket = false
is_plain Quote = false

-- a space outside brackets and quotes ends a word
abbrev pub ends_word : QuoteState → ℕ → Bool
ends_word within b = is_plain within && (b == 32)

abbrev pub ended : List ℕ → List (List ℕ)
ended word = if length word == 0 then [] else word ∷ []

-- the words of a text, after the word that has begun
abbrev pub words_from : QuoteState → List ℕ → List ℕ → List (List ℕ)
words_from within word [] = ended word
words_from within word (b ∷ bs) =
    if ends_word within b then ended word ++ words_from Plain [] bs
    else words_from (after within b) (word ++ b ∷ []) bs

unfoldable pub words_of : List ℕ → List (List ℕ)
words_of text = words_from Plain [] text

abbrev pub equals_sign : ℕ
equals_sign = 61

-- KEY=value, cut at the first =
abbrev pub cut_at : List ℕ → Option ℕ → Option (List ℕ × List ℕ)
cut_at word None = None
cut_at word (Some place) = Some (take place word, drop (place + 1) word)

unfoldable pub keyed : List ℕ → Option (List ℕ × List ℕ)
keyed word = cut_at word (position (λ b. b == equals_sign) word)
