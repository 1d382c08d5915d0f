-- What is between the spaces of a text. Own.
use Rattle.std.specs.Prelude.{ℕ, List, ◌==◌, filter, length, nat_lt}
use Rattle.std.specs.List.{slice_split}

-- the parts between single spaces, without the empty ones
unfoldable pub spaced_words_of : List ℕ → List (List ℕ)
spaced_words_of text = filter (λ word. nat_lt 0 (length word)) (slice_split (λ b. b == 32) text)
