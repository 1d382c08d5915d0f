use Rattle.std.proofs.Common.{◌∙◌, ap, fold}
use Rattle.std.proofs.lemmas.List.{take_all}
use Rattle.cip_v2000.specs.Statements.{with_pair}
use Rattle.cip_v2000.proofs.lemmas.Stated.{folded_more}
use Rattle.cip_v2000.proofs.atom_properties.with_pairs.Goals as goal

pub loop-pair-preserved : goal.loop-pair-preserved
loop-pair-preserved c = record {
  so_far = folded_more with_pair _ c.args.pairs.now c.loop-pair.pair-index _ _ _
      c.loop-pair-test.true c.loop-pair.invariant.so_far c.state.ensures.value;
  counted = c.state.ensures.counted ∙ c.loop-pair.invariant.counted;
  range = c.state.ensures.range;
}

pub returns-clause-value : goal.returns-clause-value
returns-clause-value c =
    c.loop-pair.invariant.so_far
    ∙ ap (fold with_pair c.args.atoms.items)
    (take_all c.loop-pair.pair-index c.args.pairs.now c.loop-pair-test.false)
