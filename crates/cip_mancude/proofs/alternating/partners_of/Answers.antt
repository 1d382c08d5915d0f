use Rattle.std.proofs.Common.{◌<◌, arith, false, length}
use Rattle.cip_digraph.specs.declared.drawing.graph.Edge.{Edge}
use Rattle.cip_mancude.proofs.lemmas.Noted.{all_noted, noted_next}
use Rattle.std.proofs.lemmas.Grind.{common_steps}
use Rattle.cip_mancude.proofs.alternating.partners_of.Goals as goal

abbrev no_edge : Edge
no_edge = record { a = 0; b = 0; order = 0; counted = false }

pub note_partners-requires-clause-a : goal.note_partners-requires-clause-a
note_partners-requires-clause-a c =
    let edges = c.edges-edge-items.ensures in
    rw (edges.value, c.loop-edge.invariant.len)
    (edges.sound.edges c.loop-edge.edge-index no_edge (rw (← edges.value) c.loop-edge-test.true)).a

pub note_partners-requires-clause-b : goal.note_partners-requires-clause-b
note_partners-requires-clause-b c =
    let edges = c.edges-edge-items.ensures in
    rw (edges.value, c.loop-edge.invariant.len)
    (edges.sound.edges c.loop-edge.edge-index no_edge (rw (← edges.value) c.loop-edge-test.true)).b

pub loop-edge-preserved : goal.loop-edge-preserved
loop-edge-preserved c =
    let edges = c.edges-edge-items.ensures in
    let lt : c.loop-edge.edge-index < length c.args.graph.now.edges = rw (← edges.value) c.loop-edge-test.true in
    rw (c.note_partners.ensures, edges.value)
    (noted_next c.args.graph.now c.loop-edge.edge-index no_edge c.loop-edge.partners.items edges.sound lt
    c.loop-edge.invariant)

pub returns : goal.returns
returns c =
    all_noted c.args.graph.now c.loop-edge.edge-index c.loop-edge.partners.items
    (rw (← c.edges-edge-items.ensures.value) (omega (arith, c.loop-edge-test.false))) c.loop-edge.invariant

pub loop-edge-init : goal.loop-edge-init
loop-edge-init c = grind (arith, common_steps)
