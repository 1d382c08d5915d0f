-- Numbers of few digits as words.
use Rattle.std.proofs.Common.{◌≡◌, ◌≤◌, ◌<◌, ◌-◌, ◌++◌, ℕ, ℤ, List, [], ◌∷◌, true, false, refl, sym, ◌∙◌, ap, subst, append-nil, append_assoc, inl, inr, arith, length, take, drop, get_or, pos, Some, Ok, unsigned_abs}
use Rattle.std.specs.declared.option.Option.{Option}
use Rattle.std.specs.Prelude.{IfSome}
use Rattle.std.specs.List.{list_all}
use Rattle.std.proofs.lemmas.Bool.{cases_lt, and_parts}
use Rattle.std.proofs.lemmas.Bool.Decides.{nat_tests}
use Rattle.std.proofs.lemmas.List.{length-take-le, take-append-drop}
use Rattle.cip_text.specs.Columns.{without_spaces_before}
use Rattle.cip_ctfile.specs.Fields.{parse_number, up_to}
use Rattle.cip_ctfile.specs.Usual.{is_high, Spells, IsDecimalBegun}
use Rattle.cip_ctfile.proofs.lemmas.UsualNumbers.{digits_read}
use Rattle.cip_v3000.specs.declared.lines.word_splitter.QuoteState.{QuoteState}
use Rattle.cip_v3000.specs.declared.lines.word_splitter.QuoteState.TheVariants.{Plain}
use Rattle.cip_v3000.specs.LineWords.{HaveNumber, HaveCoordinate}
use Rattle.cip_v3000.specs.NumberWords.{IsNumberBegun}
use Rattle.cip_v3000.specs.Words.{ends_word, ended, words_from, words_of}
use Rattle.cip_v3000.proofs.lemmas.FirstWords.{begun_ends, begun_runs_out, first_word, state_stays}

-- what a number of few digits is as a word
number_read : (most : ℕ) (word : List ℕ) (number : ℕ) → Spells word number
    → up_to most (Some (pos number)) ≡ parse_number most word
unfolding parse_number
number_read most word number is = rw (digits_read word number is) refl

-- a part of a text without a space outside brackets and quotes is a word where a space or the end follows
pub number_ends : (text : List ℕ) (at : ℕ) → at ≤ length text → (at < length text → get_or text at 0 ≡ 32)
    → words_from Plain (take at text) (drop at text) ≡ words_of text
    → words_of text ≡ ended (take at text) ++ words_of (drop at text)
number_ends text at within space is = elim (cases_lt at (length text)) [
  | inl lt ↦ (let b = space lt in
      let cuts : ends_word Plain (get_or text at 0) ≡ true = rw b refl in
      begun_ends Plain text at lt cuts is)
  | inr past ↦ (let end : length text ≡ at = omega (arith, past, within) in
      rw (← end) (begun_runs_out Plain text at past is))
]

pub number_next : (most : ℕ) (text begun : List ℕ) (number end : ℕ) (found : Option ℕ)
    → begun ≡ without_spaces_before text → IsNumberBegun begun (number, end)
    → found ≡ up_to most (Some (pos number)) → IfSome found (λ n. n ≤ most)
    → HaveNumber most (words_of text) found (words_of (take (length begun - end) (drop end begun)))
number_next most text begun number end found bare is read few =
    let some : 0 < length begun = omega (arith, is.spells.some, length-take-le end begun is.within, is.within) in
    record {
      word = take end begun;
      split = (first_word text begun end bare some is.cut is.within is.space).words;
      is = read ∙ number_read most (take end begun) number is.spells;
      few = few;
    }

-- bytes above the closing bracket stay in their word
high_goes_on : (front rest word : List ℕ) → list_all is_high front ≡ true
    → words_from Plain word (front ++ rest) ≡ words_from Plain (word ++ front) rest
high_goes_on [] rest word h = rw (append-nil word) refl
high_goes_on (b ∷ bs) rest word h =
    let each = and_parts (is_high b) (list_all is_high bs) h in
    let high : 41 < b = let first = each.0 in grind (arith, nat_tests, first) in
    let stays : ends_word Plain b ≡ false = grind (arith, nat_tests, high) in
    rw stays (subst (λ (within : QuoteState). words_from within (word ++ b ∷ []) (bs ++ rest)
    ≡ words_from Plain (word ++ b ∷ bs) rest) (state_stays Plain b high)
    (high_goes_on bs rest (word ++ b ∷ []) each.1
    ∙ ap (λ front. words_from Plain front rest) (append_assoc word (b ∷ []) bs)))

high_begun : (text : List ℕ) (end : ℕ) → list_all is_high (take end text) ≡ true
    → words_from Plain (take end text) (drop end text) ≡ words_of text
unfolding words_of
high_begun text end h =
    sym (high_goes_on (take end text) (drop end text) [] h) ∙ ap (words_from Plain []) (take-append-drop end text)

-- a decimal that begins a text is its first word
pub decimal_first : (text begun : List ℕ) (found number : ℤ) (end : ℕ) → begun ≡ without_spaces_before text
    → found ≡ number → IsDecimalBegun begun (number, end) → unsigned_abs number ≤ 500000000
    → HaveCoordinate (words_of text) (Ok found) (words_of (take (length begun - end) (drop end begun)))
decimal_first text begun found number end bare same is nearer =
    let some : 0 < length begun = omega (arith, is.some, is.within) in
    let cut = number_ends begun end is.within is.space (high_begun begun end is.plain) in
    record {
      word = take end begun;
      split = (first_word text begun end bare some cut is.within is.space).words;
      value = rw (same, is.decimal) refl;
      nearer = rw same nearer;
    }
