use Rattle.std.proofs.Common.{◌≡◌, ◌≤◌, ℕ, List}
use Rattle.cip_batch.specs.ExpectedOutput.{ExpectedOutput}
use Rattle.cip_batch.specs.Batches.{told_from}
use Rattle.cip_batch.proofs.lemmas.Batches.{IsJoined}
use Rattle.cip_batch.proofs.streams.output.write_joined.Given as goal

abbrev pub invariant-loop-one : goal.invariant-loop-one
invariant-loop-one g l = record {
  so_far : (expected : ExpectedOutput g.row.N.Denot) (number : ℕ) (records : List (List ℕ))
      → l.found ≡ told_from expected number records
      → IsJoined expected number records l.one-index l.verdict l.joined (g.K.Sink.taken l.initial.sink)
      (g.K.Sink.taken l.sink);
  later : g.K.Sink.faults l.initial.sink ≤ g.K.Sink.faults l.sink;
}
