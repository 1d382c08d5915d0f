use Rattle.std.proofs.Common.{◌≡◌, drop}
use Rattle.std.specs.List.{list_any}
use Rattle.cip_digraph.specs.units.Ranked.{is_tie}
use Rattle.cip_label.proofs.decisions.has_tie.Given as goal

abbrev pub invariant-loop-decision : goal.invariant-loop-decision
invariant-loop-decision l = list_any is_tie (drop l.decision-index l.decided) ≡ list_any is_tie l.decided
