use Rattle.std.proofs.Common.{◌≡◌, ◌++◌, map, take}
use Rattle.cip_stereogroups.specs.Outcomes.{line_of}
use Rattle.cip_stereogroups.proofs.group_outcomes.atom_lines.Given as goal

abbrev pub invariant-loop-atom : goal.invariant-loop-atom
invariant-loop-atom g l = record {
  so_far : l.output.lines.items
      ≡ l.fn.output.lines.items ++ map (line_of l.fn.labeller l.centres l.group) (take l.atom-index l.group.atoms);
  kept : l.labeller ≡ l.fn.labeller;
}
