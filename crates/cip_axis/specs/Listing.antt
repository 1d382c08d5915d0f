-- Further units, an atom or a bond at a time, and what their search goes through. Own.
use Rattle.std.specs.Prelude.{◌≡◌, ℕ, ◌==◌, ◌&&◌, Bool, cond, List, [], ◌∷◌, ◌+◌, filter, flat_map, length, nat_le, nat_lt, not, map, slice_index_or}
use Rattle.std.specs.List.{list_any}
use Rattle.cip_mol.specs.Drawing.{Drawing}
use Rattle.cip_digraph.specs.declared.drawing.graph.Edge.{Edge}
use Rattle.cip_digraph.specs.graph.Graph.{Graph, other_end}
use Rattle.cip_digraph.specs.graph.SoundGraphs.{IsSound}
use Rattle.cip_digraph.specs.rings.Alternating.{is_in}
use Rattle.cip_digraph.specs.units.Allenes.{is_axis_end}
use Rattle.cip_ring.specs.AnyRings.{is_in_ring}
use Rattle.cip_unit.specs.Sites.{LeadsToAtoms}
use Rattle.cip_axis.specs.Biaryls.{hindered_at, is_biaryl, is_biaryl_end, is_hindered, stands_beside}
use Rattle.cip_axis.specs.Cumulenes.{chain_over, first_atom, last_atom, is_cumulene}
use Rattle.cip_axis.specs.Further.{biaryl_unit, cumulene_unit}
use Rattle.cip_axis.specs.declared.site.FurtherUnit.{FurtherUnit}

-- a sound graph whose drawn vertices are the atoms of a drawing, and whose double bonds join them
pub record IsGraphOf (drawing : Drawing) (graph : Graph) : Type 0 where
  pub drawn : graph.drawn ≡ length drawing.atoms
  pub leads : LeadsToAtoms graph
  pub sound : IsSound graph

abbrev pub one_cumulene : Drawing → Graph → List ℕ → List FurtherUnit
one_cumulene drawing graph chain = cond (is_cumulene graph chain) (cumulene_unit drawing graph chain ∷ []) []

abbrev pub one_biaryl : Drawing → Graph → List (List ℕ) → ℕ → Edge → List FurtherUnit
one_biaryl drawing graph positions a edge =
    cond (is_biaryl graph positions a edge) (biaryl_unit drawing graph a (other_end a edge) ∷ []) []

-- the first bond of a chain lies in a ring
abbrev pub first_in_ring : Graph → List ℕ → Bool
first_in_ring graph chain = is_in_ring graph (slice_index_or chain 0 0) (slice_index_or chain 1 0)

-- but for rings
abbrev pub can_be_cumulene : Graph → List ℕ → Bool
can_be_cumulene graph chain =
    nat_le 4 (length chain) && nat_lt (first_atom chain) (last_atom chain)
    && is_axis_end graph chain (first_atom chain) && is_axis_end graph chain (last_atom chain)

-- by its ends alone
abbrev pub can_be_biaryl : Graph → List (List ℕ) → ℕ → Edge → Bool
can_be_biaryl graph positions a edge =
    let b = other_end a edge in
    let unit = a ∷ b ∷ [] in
    (edge.order == 1) && nat_lt a b && nat_lt b graph.drawn && is_biaryl_end graph positions unit a
    && is_biaryl_end graph positions unit b

abbrev pub are_three_hindered : Graph → ℕ → ℕ → Bool
are_three_hindered graph a b =
    let unit = a ∷ b ∷ [] in nat_le 3 (length (hindered_at graph unit a) + length (hindered_at graph unit b))

abbrev pub beside_along : Graph → ℕ → ℕ → List Edge → Bool
beside_along graph end neighbour edges = list_any (stands_beside graph end neighbour) (map (other_end neighbour) edges)

-- the cumulenes over the double bonds among some edges at their first end
abbrev pub cumulenes_along : Drawing → Graph → ℕ → List Edge → List FurtherUnit
cumulenes_along drawing graph a edges =
    flat_map (λ next. one_cumulene drawing graph (chain_over graph a next))
    (map (other_end a) (filter (λ edge. edge.order == 2) edges))

abbrev pub is_hindered_outside : Graph → List ℕ → ℕ → ℕ → Bool
is_hindered_outside graph unit end neighbour = not (is_in neighbour unit) && is_hindered graph end neighbour

-- the hindered neighbours along some edges at an end
abbrev pub hindered_along : Graph → List ℕ → ℕ → List Edge → List ℕ
hindered_along graph unit end edges =
    filter (is_hindered graph end) (filter (λ other. not (is_in other unit)) (map (other_end end) edges))
