use Rattle.std.proofs.Common.{arith}
use Rattle.cip_mancude.proofs.lemmas.Listed.{all_below, all_listed, listed_next, next_within, none_yet}
use Rattle.cip_mancude.proofs.bond_positions.set_each.Goals as goal

pub set_positions-requires-clause-within : goal.set_positions-requires-clause-within
set_positions-requires-clause-within c =
    next_within c.args.alternation.now c.loop-vertex.vertex _ _ c.loop-vertex.invariant c.loop-vertex-test.true

pub set_positions-requires-clause-none : goal.set_positions-requires-clause-none
set_positions-requires-clause-none c =
    none_yet c.args.alternation.now c.loop-vertex.vertex _ _ c.loop-vertex.invariant c.loop-vertex-test.true

pub set_positions-requires-clause-below : goal.set_positions-requires-clause-below
set_positions-requires-clause-below c =
    all_below c.args.alternation.now c.loop-vertex.vertex _ _ c.loop-vertex.invariant
    (omega (arith, c.loop-vertex-test.true))

pub loop-vertex-preserved : goal.loop-vertex-preserved
loop-vertex-preserved c =
    listed_next c.args.alternation.now c.loop-vertex.vertex _ _ c.loop-vertex.invariant _ c.loop-vertex-test.true
    c.in-Ok-set_positions.ensures

pub returns : goal.returns
returns c =
    all_listed c.args.alternation.now c.loop-vertex.vertex _ _ c.loop-vertex.invariant
    c.requires
    (omega (arith, c.loop-vertex-test.false, c.loop-vertex.auto))
