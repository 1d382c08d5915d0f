use Rattle.std.proofs.Common.{ap, ◌∙◌, arith}
use Rattle.std.proofs.lemmas.Grind.{common_steps}
use Rattle.std.specs.List.{slice_set}
use Rattle.cip_digraph.specs.Asking.{found_between, with_found}
use Rattle.cip_rules.proofs.lemmas.Noted.{mapped_more}
use Rattle.cip_rules.proofs.recording.record_decisions.Goals as goal

pub loop-one-preserved : goal.loop-one-preserved
loop-one-preserved c =
    ap (slice_set c.loop-one.pairs c.loop-one.one-index) c.noted.ensures
    ∙ mapped_more (with_found (found_between c.args.branches.now.layers.ranked.numbers c.args.rule c.args.depth))
    c.args.pairs.now c.loop-one.pairs c.loop-one.one-index _ c.loop-one.invariant (omega arith)

pub returns : goal.returns
returns c = grind (arith, common_steps)
