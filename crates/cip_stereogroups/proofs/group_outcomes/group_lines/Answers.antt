use Rattle.std.proofs.Common.{arith, ap, ◌∙◌}
use Rattle.std.proofs.lemmas.Grind.{common_steps}
use Rattle.std.proofs.lemmas.Result.{on_ok_weaker}
use Rattle.cip_digraph.specs.units.Inverted.{inverted}
use Rattle.cip_digraph.proofs.lemmas.reflected.Inversions.{units_turned_back}
use Rattle.cip_stereogroups.proofs.group_outcomes.group_lines.Goals as goal

pub returns-else-is_empty-clause-back : goal.returns-else-is_empty-clause-back
returns-else-is_empty-clause-back g c =
    on_ok_weaker c.turned_lines-put.result
    (λ _. c.invert-else-is_empty.ensures ∙ ap (inverted c.as_slice-atoms.result.now) c.invert.ensures
    ∙ units_turned_back c.as_slice-atoms.result.now c.args.units.now)
    c.turned_lines-put.ensures.lines

pub returns-then-is_empty-clause-lines : goal.returns-then-is_empty-clause-lines
returns-then-is_empty-clause-lines g c = grind (arith, common_steps)

pub returns-else-is_empty-clause-lines : goal.returns-else-is_empty-clause-lines
returns-else-is_empty-clause-lines g c = c.turned_lines-put.ensures.lines

pub returns-else-is_empty-clause-kept : goal.returns-else-is_empty-clause-kept
returns-else-is_empty-clause-kept g c = c.turned_lines-put.ensures.kept
