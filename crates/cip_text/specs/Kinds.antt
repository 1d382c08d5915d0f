-- What a line is for, by its content. CTfile Formats; that spaces may follow `$$$$` and `M  END`, and
-- tabs be in a blank line, is own.
use Rattle.std.specs.Prelude.{ℕ, List, [], ◌∷◌, Bool, ◌==◌, ◌&&◌, ◌||◌, codes, drop}
use Rattle.std.specs.List.{list_all}
use Rattle.cip_text.specs.Lines.{starts_with_byte}

-- spaces and tabs at most
abbrev pub is_blank : List ℕ → Bool
is_blank content = list_all (λ b. b == 32 || b == 9) content

abbrev pub are_spaces : List ℕ → Bool
are_spaces text = list_all (λ b. b == 32) text

-- this word, and spaces at most after it
abbrev pub is_word : List ℕ → List ℕ → Bool
is_word [] content = are_spaces content
is_word (b ∷ bs) content = starts_with_byte b content && is_word bs (drop 1 content)

abbrev pub is_terminator : List ℕ → Bool
is_terminator content = is_word (codes "$$$$") content

abbrev pub is_molecule_end : List ℕ → Bool
is_molecule_end content = is_word (codes "M  END") content
