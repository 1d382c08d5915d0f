use Rattle.std.proofs.Common.{ap, ◌∙◌, arith}
use Rattle.std.proofs.lemmas.Grind.{common_steps}
use Rattle.std.specs.List.{slice_set}
use Rattle.cip_rules.specs.Rule4bWorkspace.{s_higher, read_as, between}
use Rattle.cip_rules.proofs.lemmas.Noted.{mapped_more}
use Rattle.cip_rules.proofs.rule_4b.read_all.Goals as goal

pub loop-one-preserved : goal.loop-one-preserved
loop-one-preserved c =
    ap (slice_set c.loop-one.pairs c.loop-one.one-index) c.read_one.ensures
    ∙ mapped_more (between (read_as c.args.branches.now (s_higher c.args.sides.now) c.args.lower))
    c.args.pairs.now c.loop-one.pairs c.loop-one.one-index _ c.loop-one.invariant (omega arith)

pub returns : goal.returns
returns c = grind (arith, common_steps)
