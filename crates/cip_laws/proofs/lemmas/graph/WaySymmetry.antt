-- In a sound graph each way leads back, and two ways to one vertex are the same.
use Rattle.std.proofs.Common.{◌≡◌, ◌≢◌, ℕ, map, length, filter, refl, sym, ap, subst, ◌∙◌, Bool, true, false, cond, ◌==◌, ◌||◌, eqb-true, eq-eqb}
use Rattle.std.specs.List.{AllByRecursion}
use Rattle.std.proofs.lemmas.Bool.{ne_eqb, or_right}
use Rattle.std.proofs.lemmas.List.Sorted.{IsPermutation-sym}
use Rattle.cip_digraph.specs.declared.drawing.graph.Edge.{Edge}
use Rattle.cip_digraph.specs.graph.Graph.{Graph, touches, other_end, edges_at}
use Rattle.cip_digraph.specs.graph.SoundGraphs.{JoinsBelow, IsSound}
use Rattle.cip_digraph.proofs.lemmas.lists.Elements.{Pairwise, by_recursion}
use Rattle.cip_digraph.proofs.lemmas.bonds.Neighbours.{neighbours_differ}
use Rattle.cip_symmetry.specs.Images.{Among}
use Rattle.cip_symmetry.proofs.lemmas.lists.Among.{among_map, from_map, among_filter, from_filter, among_arranged, among_all}
use Rattle.cip_symmetry.proofs.lemmas.lists.CarriedLists.{mapped_twice}
use Rattle.cip_symmetry.specs.Renamed.{Way, way, ways, way_image, IsRenamed}
use Rattle.cip_laws.proofs.lemmas.drawings.RenumberedAtoms.{one_of}
use Rattle.cip_laws.proofs.lemmas.graph.RenumberedGraph.{sorted_permutes}

-- an edge at a vertex
pub record IsEdgeAt (graph : Graph) (vertex : ℕ) (w : Way) : Type 0 where
  pub edge : Edge
  pub among : Among edge graph.edges
  pub touched : touches vertex edge ≡ true
  pub is : w ≡ way vertex edge

module _ (graph : Graph) where
  pub edge_of : (vertex : ℕ) (w : Way) → Among w (ways graph vertex) → IsEdgeAt graph vertex w
  edge_of vertex w h =
      let found = from_map (way vertex) w (edges_at graph vertex) h in
      let some = filter (touches vertex) graph.edges in
      let kept =
      from_filter (touches vertex) found.0 graph.edges
      (among_arranged found.0 (edges_at graph vertex) some
      (IsPermutation-sym some (edges_at graph vertex) (sorted_permutes vertex some)) found.1) in
      record { edge = found.0; among = kept.0; touched = kept.1; is = found.2 }

  pub way_of : (vertex : ℕ) (edge : Edge) → Among edge graph.edges → touches vertex edge ≡ true
      → Among (way vertex edge) (ways graph vertex)
  way_of vertex edge h t =
      let some = filter (touches vertex) graph.edges in
      among_map (way vertex) edge (edges_at graph vertex)
      (among_arranged edge some (edges_at graph vertex) (sorted_permutes vertex some)
      (among_filter (touches vertex) edge graph.edges h t))

  -- the same way from its other end
  abbrev pub back_way : ℕ → Way → Way
  back_way vertex w = record { to = vertex; order = w.order; counted = w.counted }

  module _ (sound : IsSound graph) where
    joins : AllByRecursion (JoinsBelow (length graph.vertices)) graph.edges
    joins = by_recursion (JoinsBelow (length graph.vertices)) graph.edges sound.edges

    pub record LeadsBack (vertex : ℕ) (w : Way) : Type 0 where
      pub back : Among (back_way vertex w) (ways graph w.to)
      pub differ : vertex ≢ w.to

    edge_back : (vertex : ℕ) (edge : Edge) → Among edge graph.edges → touches vertex edge ≡ true
        → LeadsBack vertex (way vertex edge)
    edge_back vertex edge h t = by (edge.a == vertex) refl
      where
        j : JoinsBelow (length graph.vertices) edge
        j = among_all (JoinsBelow (length graph.vertices)) edge graph.edges joins h

        by : (b : Bool) → (edge.a == vertex) ≡ b
            → LeadsBack vertex
            (record { to = cond (edge.a == vertex) edge.b edge.a; order = edge.order; counted = edge.counted })
        by true e =
            let is_a = eqb-true edge.a vertex e in
            let there : touches edge.b edge ≡ true =
            or_right (edge.a == edge.b) (edge.b == edge.b) (eq-eqb edge.b edge.b refl) in
            let back : other_end edge.b edge ≡ vertex =
            ap (λ x. cond x edge.b edge.a) (ne_eqb edge.a edge.b j.differ) ∙ is_a in
            rw e
            (record {
              back =
                  subst (λ v. Among (record { to = v; order = edge.order; counted = edge.counted }) (ways graph edge.b))
                  back (way_of edge.b edge h there);
              differ = λ same. j.differ (is_a ∙ same);
            })
        by false e =
            let is_b = eqb-true edge.b vertex (sym (ap (λ x. x || (edge.b == vertex)) e) ∙ t) in
            let there : touches edge.a edge ≡ true = ap (λ x. x || (edge.b == edge.a)) (eq-eqb edge.a edge.a refl) in
            let back : other_end edge.a edge ≡ vertex =
            ap (λ x. cond x edge.b edge.a) (eq-eqb edge.a edge.a refl) ∙ is_b in
            rw e
            (record {
              back =
                  subst (λ v. Among (record { to = v; order = edge.order; counted = edge.counted }) (ways graph edge.a))
                  back (way_of edge.a edge h there);
              differ = λ same. j.differ (sym same ∙ sym is_b);
            })

    pub leads_back : (vertex : ℕ) (w : Way) → Among w (ways graph vertex) → LeadsBack vertex w
    leads_back vertex w h = let e = edge_of vertex w h in
        subst (LeadsBack vertex) (sym e.is) (edge_back vertex e.edge e.among e.touched)

    pub one_way_to : (vertex : ℕ) (w v : Way) → Among w (ways graph vertex) → Among v (ways graph vertex) → w.to ≡ v.to
        → w ≡ v
    one_way_to vertex w v h k e =
        one_of (λ w. w.to) (ways graph vertex)
        (subst (Pairwise ◌≢◌) (sym (mapped_twice (way vertex) (λ w. w.to) (edges_at graph vertex)))
        (neighbours_differ graph sound vertex)) w v h k e

module _ (graph other : Graph) (image : ℕ → ℕ) (r : IsRenamed graph other image) where
  pub way_there : (vertex : ℕ) (w : Way) → Among w (ways graph vertex)
      → Among (way_image image w) (ways other (image vertex))
  way_there vertex w h =
      among_arranged (way_image image w) (map (way_image image) (ways graph vertex)) (ways other (image vertex))
      (r.ways vertex) (among_map (way_image image) w (ways graph vertex) h)
