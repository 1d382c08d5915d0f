use Rattle.std.proofs.Common.{arith, ◌≡◌, ◌<◌, ◌∙◌, ℕ, List, None, Some, Option, IfSome, get_or, length, set, slice_index_or, subst, sym}
use Rattle.std.proofs.lemmas.List.Elements.{All-get_or, All-set}
use Rattle.std.proofs.lemmas.Grind.{common_steps}
use Rattle.cip_batch.specs.declared.jobs.workers.Entry.{Entry}
use Rattle.cip_batch.specs.Entries.{ArePlaced, IsAnswer}
use Rattle.cip_batch.proofs.jobs.workers.answer_at.Goals as goal
use Rattle.cip_batch.proofs.jobs.workers.answer_at.Goals.{else-place-found-via-else-place-found, else-place-found-via-then-place-found+in-None-1, else-place-found-via-then-place-found+in-Some+else-entry-place}

-- an answer that was taken out leaves the others at their places
taken_out : {J X : Type 0} (f : J → X) (jobs : List J) (found : List (Option (Entry X))) (place : ℕ)
    (left : Option (Entry X)) → left ≡ None → ArePlaced f jobs found → ArePlaced f jobs (set found place left)
taken_out f jobs found place left none placed =
    All-set (λ s. IfSome s (IsAnswer f jobs)) found place left
    (subst (λ s. IfSome s (IsAnswer f jobs)) (sym none) tt) placed

-- an entry that was found at its place answers the job there
found_there : {J X : Type 0} (f : J → X) (jobs : List J) (found : List (Option (Entry X))) (place : ℕ)
    (given : Option (Entry X)) (entry : Entry X) → place < length found → get_or found place given ≡ Some entry
    → entry.place ≡ place → ArePlaced f jobs found → (d : J) → entry.answer ≡ f (slice_index_or jobs place d)
found_there f jobs found place given entry within is here placed d =
    subst (λ p. entry.answer ≡ f (slice_index_or jobs p d)) here
    (subst (λ s. IfSome s (IsAnswer f jobs)) is
    (All-get_or (λ s. IfSome s (IsAnswer f jobs)) found place given within placed) d)

pub returns-clause-found : goal.returns-clause-found
returns-clause-found g c =
    taken_out g.J.Job.answer c.args.jobs.now c.args.found.now c.args.place c.take.new.self c.take.ensures.after
    c.requires.found

pub returns-2-clause-found : goal.returns-2-clause-found
returns-2-clause-found g c =
    let taken = λ (left : Option (Entry _)). λ (none : left ≡ None). taken_out g.J.Job.answer c.args.jobs.now
    c.args.found.now c.args.place left none c.requires.found in
    elim c.else-place-found.branch [
      | else-place-found-via-else-place-found w ↦ rw w.found-is c.requires.found
      | else-place-found-via-then-place-found+in-None-1 w ↦ rw w.found-is (taken w.take.new.self w.take.ensures.after)
      | else-place-found-via-then-place-found+in-Some+else-entry-place w ↦
          rw w.found-is (taken w.take.new.self w.take.ensures.after)
    ]

pub returns-clause-answer : goal.returns-clause-answer
returns-clause-answer g c =
    found_there g.J.Job.answer c.args.jobs.now c.args.found.now c.args.place c.index-found-place.result c.in-Some.entry
    c.if-place-found.true (sym c.take.ensures.value ∙ c.in-Some.is) c.if-entry-place.true c.requires.found

pub offset_bounds-found-place : goal.offset_bounds-found-place
offset_bounds-found-place g c = grind (arith, common_steps)
