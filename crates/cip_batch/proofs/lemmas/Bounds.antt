-- Bounds on what is taken of a source.
use Rattle.std.proofs.Common.{◌≤◌, ◌+◌, ℕ, List, ◌++◌, length, Some, None, Option, [], refl, sym, ap, ◌∙◌, append_assoc, arith}
use Rattle.std.proofs.lemmas.List.{length-append}
use Rattle.std.specs.Io.KnownBytes.{Consumes}
use Rattle.cip_batch.specs.Reading.{TakesAtMost}

pub consumes_both : (left middle rest : Option (List ℕ)) (xs ys : List ℕ) → Consumes left middle xs
    → Consumes middle rest ys → Consumes left rest (xs ++ ys)
consumes_both None middle rest xs ys first second = tt
consumes_both (Some a) None rest xs ys first second = absurd first
consumes_both (Some a) (Some b) None xs ys first second = absurd second
consumes_both (Some a) (Some b) (Some c) xs ys first second = first ∙ ap (λ s. xs ++ s) second
    ∙ sym (append_assoc xs ys c)

pub takes_none : (most : ℕ) (left : Option (List ℕ)) → TakesAtMost most left left
takes_none most None = record { bytes = []; few = omega arith; taken = tt }
takes_none most (Some bytes) = record { bytes = []; few = omega arith; taken = refl }

-- what was taken before, and what one more read took
pub takes_more : (most room : ℕ) (left middle rest : Option (List ℕ)) (before : List ℕ) → Consumes left middle before
    → TakesAtMost room middle rest → length before + room ≤ most → TakesAtMost most left rest
takes_more most room left middle rest before first second fits = record {
  bytes = before ++ second.bytes;
  few = omega (arith, length-append before second.bytes, second.few);
  taken = consumes_both left middle rest before second.bytes first second.taken;
}
