-- Answers in the order of their jobs.
use Rattle.std.proofs.Common.{arith, ◌≡◌, ◌≤◌, ◌<◌, ◌+◌, ℕ, List, [], ◌∷◌, ◌++◌, map, take, get_or, length, slice_index_or, sym, ◌∙◌, ap}
use Rattle.std.proofs.lemmas.List.{take_all, take_more, map-append}

first_more : {J X : Type 0} (f : J → X) (jobs : List J) (k : ℕ) (d : J) (x : X) → k < length jobs
    → x ≡ f (slice_index_or jobs k d) → map f (take k jobs) ++ x ∷ [] ≡ map f (take (k + 1) jobs)
first_more f jobs k d x within is =
    ap (λ y. map f (take k jobs) ++ y ∷ []) is ∙ sym (map-append f (take k jobs) (get_or jobs k d ∷ []))
    ∙ ap (map f) (sym (take_more jobs k d within))

-- the answers to the first jobs, and the next one after them
pub one_more : {J X : Type 0} (f : J → X) (jobs : List J) (k : ℕ) (x : X) → k < length jobs
    → ((d : J) → x ≡ f (slice_index_or jobs k d)) → map f (take k jobs) ++ x ∷ [] ≡ map f (take (k + 1) jobs)
one_more f [] k x within is = absurd (omega arith)
one_more f (j ∷ js) k x within is = first_more f (j ∷ js) k j x within (is j)

-- no job is left
pub all_in_order : {J X : Type 0} (f : J → X) (jobs : List J) (answers : List X) (k : ℕ) → length jobs ≤ k
    → answers ≡ map f (take k jobs) → answers ≡ map f jobs
all_in_order f jobs answers k all found = found ∙ ap (map f) (take_all k jobs all)
