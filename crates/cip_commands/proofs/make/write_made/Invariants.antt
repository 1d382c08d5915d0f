use Rattle.std.proofs.Common.{◌≤◌}
use Rattle.std.specs.Io.KnownBytes.{Appends}
use Rattle.cip_commands.specs.Making.{made_text}
use Rattle.cip_commands.proofs.make.write_made.Given as goal

abbrev pub invariant-loop-before : goal.invariant-loop-before
invariant-loop-before g l = record {
  written : Appends (g.K.Sink.taken l.initial.sink) (g.K.Sink.taken l.sink) (made_text l.start l.before);
  later : g.K.Sink.faults l.initial.sink ≤ g.K.Sink.faults l.sink;
}
