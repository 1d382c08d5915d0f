use Rattle.std.proofs.Common.{ap, ◌∙◌, ◌==◌, ◌||◌, arith, subst, sym}
use Rattle.cip_digraph.specs.rings.Alternating.{closes_ring}
use Rattle.cip_digraph.specs.rings.PositionLists.{IsPositionList}
use Rattle.cip_mancude.proofs.lemmas.Listed.{along_all, along_next, are_positions}
use Rattle.cip_mancude.proofs.lemmas.Searched.{partner_of}
use Rattle.cip_mancude.proofs.lemmas.Turned.{leads_there}
use Rattle.cip_mancude.proofs.bond_positions.positions_at.Goals as goal

pub is_position-requires-clause-nearer : goal.is_position-requires-clause-nearer
is_position-requires-clause-nearer c =
    leads_there c.args.double.vertex _ _ c.loop-edge.edge-index _ c.other_end-other.result
    c.edges_at-edge-items.ensures.value c.loop-edge-test.true c.other_end-other.ensures

pub loop-edge-preserved : goal.loop-edge-preserved
loop-edge-preserved c =
    along_next c.args.alternation.now c.args.double.vertex _ _ c.loop-edge.edge-index _ c.other_end-other.result
    c.in-Ok.found _ _ c.edges_at-edge-items.ensures.value
    c.loop-edge-test.true c.loop-edge.invariant c.other_end-other.ensures
    (c.in-Ok.ensures
    ∙ ap (λ partner. (c.other_end-other.result == partner)
    || closes_ring c.args.alternation.now c.args.double.vertex c.other_end-other.result)
    (partner_of c.args.alternation.now c.args.double.vertex c.args.double.partner (sym c.requires.partner)))
    c.in-Ok-push_if.ensures

pub returns-clause-value : goal.returns-clause-value
returns-clause-value c =
    along_all c.args.alternation.now c.args.double.vertex c.args.double.partner c.loop-edge.edge-index _ _
    c.requires.partner c.edges_at-edge-items.ensures.value (omega (arith, c.loop-edge-test.false))
    c.loop-edge.invariant

pub returns-clause-list : goal.returns-clause-list
returns-clause-list c =
    subst IsPositionList (sym (returns-clause-value c))
    (are_positions c.args.alternation.now c.args.double.vertex c.edges_at-edge-items.ensures.sound)
