-- Answers of workers, each with the place of its job. Own.
use Rattle.std.specs.Prelude.{◌≡◌, List, Option, IfSome, All, slice_index_or}
use Rattle.cip_batch.specs.declared.jobs.workers.Entry.{Entry}

-- an entry answers the job at its place
abbrev pub IsAnswer : {J X : Type 0} → (J → X) → List J → Entry X → Type 0
IsAnswer f jobs e = (d : _) → e.answer ≡ f (slice_index_or jobs e.place d)

-- each entry answers the job at its place
abbrev pub AreAnswers : {J X : Type 0} → (J → X) → List J → List (Entry X) → Type 0
AreAnswers f jobs entries = All (IsAnswer f jobs) entries

-- each entry that is there answers the job at its place
abbrev pub ArePlaced : {J X : Type 0} → (J → X) → List J → List (Option (Entry X)) → Type 0
ArePlaced f jobs found = All (λ s. IfSome s (IsAnswer f jobs)) found
