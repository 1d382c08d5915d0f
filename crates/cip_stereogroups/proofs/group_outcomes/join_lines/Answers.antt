use Rattle.std.proofs.Common.{◌∙◌, ℕ, ap}
use Rattle.std.proofs.lemmas.List.{take_all}
use Rattle.cip_stereogroups.specs.Outcomes.{lines_of_groups, lines_of}
use Rattle.cip_stereogroups.proofs.lemmas.LinesSoFar.{lines_more}
use Rattle.cip_stereogroups.proofs.group_outcomes.join_lines.Goals as goal

pub loop-group-preserved : goal.loop-group-preserved
loop-group-preserved g c =
    let bound = c.args.labeller.now in
    let drawn = c.args.centres.now in
    let group = c.group-item.result in
    record {
      so_far = c.in-Ok.ensures.lines
          ∙ lines_more c.args.groups.now c.loop-group.group-index group c.loop-group-test.true
          c.loop-group.output.lines.items (lines_of bound drawn) (lines_of c.loop-group.labeller drawn group)
          c.loop-group.invariant.so_far
          (ap (λ (b : ℕ). lines_of b drawn group) c.loop-group.invariant.kept
          ∙ ap (lines_of bound drawn) c.group-item.is);
      same = c.in-Ok.ensures.back ∙ c.loop-group.invariant.same;
      kept = c.in-Ok.ensures.kept ∙ c.loop-group.invariant.kept;
    }

pub returns : goal.returns
returns g c = record {
  lines = c.loop-group.invariant.so_far
      ∙ ap (lines_of_groups c.args.labeller.now c.args.centres.now)
      (take_all c.loop-group.group-index c.args.groups.now c.loop-group-test.false);
  kept = c.loop-group.invariant.kept;
}

pub returns-in_default-clause-kept : goal.returns-in_default-clause-kept
returns-in_default-clause-kept g c = c.in_default.ensures.kept ∙ c.loop-group.invariant.kept

pub returns-in_default-clause-lines : goal.returns-in_default-clause-lines
returns-in_default-clause-lines g c = tt
