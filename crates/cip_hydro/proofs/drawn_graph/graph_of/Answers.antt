use Rattle.std.proofs.Common.{◌≡◌, ◌∙◌, ◌++◌, arith, ap, length, map, refl, replicate}
use Rattle.std.specs.List.{range_with_len}
use Rattle.cip_digraph.specs.graph.DrawnGraph.{atom_vertex, graph_of, hydrogen}
use Rattle.cip_digraph.specs.graph.Graph.{Graph}
use Rattle.cip_digraph.proofs.lemmas.bonds.Sound.{drawn_sound}
use Rattle.cip_hydro.proofs.lemmas.Drawn.{around_counted, made_in_range, made_is}
use Rattle.cip_hydro.proofs.drawn_graph.graph_of.Goals as goal

pub hydrogen_count-further-requires-clause-atoms : goal.hydrogen_count-further-requires-clause-atoms
hydrogen_count-further-requires-clause-atoms c =
    let counted = around_counted c.args.molecule.now _ _ c.in-Ok.ensures.value refl in
    rw c.deref.ensures.value (omega (arith, counted, c.atoms-drawn.ensures.range.few_atoms))

pub vertices_of-requires-clause-few : goal.vertices_of-requires-clause-few
vertices_of-requires-clause-few c =
    let counted = around_counted c.args.molecule.now _ _ c.in-Ok.ensures.value refl in
    let few = rw c.deref.ensures.value at c.hydrogen_count-further.ensures.few in
    rw c.deref-2.ensures.value (omega (arith, counted, few, c.atoms-drawn.ensures.range.few_atoms))

pub edges_of-requires-clause-few : goal.edges_of-requires-clause-few
edges_of-requires-clause-few c =
    let counted = around_counted c.args.molecule.now _ _ c.in-Ok.ensures.value refl in
    let value = rw c.deref.ensures.value at c.hydrogen_count-further.ensures.value in
    let few = rw c.deref.ensures.value at c.hydrogen_count-further.ensures.few in
    rw c.deref-3.ensures.value
    (omega (arith, counted, value, few, c.atoms-drawn.ensures.range.few_atoms))

same : (c : goal.In-Ok-edges_of)
    → ◌≡◌ {A = Graph}
    (record {
      vertices = c.in-Ok-vertices_of.vertices.items;
      edges = c.in-Ok-edges_of.edges.items;
      drawn = length c.atoms-drawn.result.now;
    }) (graph_of c.args.molecule.now)
same c =
    let counted = rw c.deref.ensures.value at c.hydrogen_count-further.ensures.value in
    made_is c.args.molecule.now _ _ c.in-Ok.ensures.value refl _ _ _
    (c.in-Ok-vertices_of.ensures
    ∙ ap (λ n. map (atom_vertex c.args.molecule.now) (range_with_len 0 (length c.args.molecule.now.atoms))
    ++ replicate n hydrogen) counted)
    (rw c.deref-3.ensures.value at c.in-Ok-edges_of.ensures)
    (ap length c.atoms-drawn.ensures.value)

pub new-requires-clause-range : goal.new-requires-clause-range
new-requires-clause-range c =
    let counted = rw c.deref.ensures.value at c.hydrogen_count-further.ensures.value in
    let few = rw c.deref.ensures.value at c.hydrogen_count-further.ensures.few in
    rw (same c)
    (made_in_range c.args.molecule.now _ _ c.in-Ok.ensures.value refl c.atoms-drawn.ensures.range
    (omega (arith, counted, few)))

pub new-requires-clause-sound : goal.new-requires-clause-sound
new-requires-clause-sound c = rw (same c) (drawn_sound c.args.molecule.now c.atoms-drawn.ensures.sound)

pub returns-in-Ok-edges_of : goal.returns-in-Ok-edges_of
returns-in-Ok-edges_of c =
    let counted = rw c.deref.ensures.value at c.hydrogen_count-further.ensures.value in
    let same : ◌≡◌ {A = Graph}
    (record {
      vertices = c.in-Ok-vertices_of.vertices.items;
      edges = c.in-Ok-edges_of.edges.items;
      drawn = length c.atoms-drawn.result.now;
    }) (graph_of c.args.molecule.now) =
    made_is c.args.molecule.now _ _ c.in-Ok.ensures.value refl _ _ _
    (c.in-Ok-vertices_of.ensures
    ∙ ap (λ n. map (atom_vertex c.args.molecule.now) (range_with_len 0 (length c.args.molecule.now.atoms))
    ++ replicate n hydrogen) counted)
    (rw c.deref-3.ensures.value at c.in-Ok-edges_of.ensures)
    (ap length c.atoms-drawn.ensures.value) in
    rw (← same) c.new.ensures
