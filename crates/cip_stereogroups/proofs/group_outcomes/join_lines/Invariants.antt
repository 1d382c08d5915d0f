use Rattle.std.proofs.Common.{◌≡◌, take}
use Rattle.cip_stereogroups.specs.Outcomes.{lines_of_groups}
use Rattle.cip_stereogroups.proofs.group_outcomes.join_lines.Given as goal

abbrev pub invariant-loop-group : goal.invariant-loop-group
invariant-loop-group g l = record {
  so_far : l.output.lines.items ≡ lines_of_groups l.fn.labeller l.centres (take l.group-index l.groups);
  same : l.units ≡ l.centres.units;
  kept : l.labeller ≡ l.fn.labeller;
}
