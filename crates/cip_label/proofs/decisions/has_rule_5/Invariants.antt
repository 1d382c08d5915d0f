use Rattle.std.proofs.Common.{◌≡◌, drop}
use Rattle.std.specs.List.{list_any}
use Rattle.cip_label.specs.Pairwise.{is_by_rule_5}
use Rattle.cip_label.proofs.decisions.has_rule_5.Given as goal

abbrev pub invariant-loop-decision : goal.invariant-loop-decision
invariant-loop-decision l = list_any is_by_rule_5 (drop l.decision-index l.decided) ≡ list_any is_by_rule_5 l.decided
