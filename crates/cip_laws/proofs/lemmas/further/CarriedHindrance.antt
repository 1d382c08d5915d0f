-- Hindered neighbours of a renamed graph, and rings of any size.
use Rattle.std.proofs.Common.{◌≡◌, ℕ, List, map, length, sym, ap, subst, ◌∙◌, ◌==◌, ◌&&◌}
use Rattle.std.specs.List.{list_any}
use Rattle.std.specs.List.Sorted.{IsPermutation}
use Rattle.std.proofs.lemmas.List.Sorted.{list_any-IsPermutation}
use Rattle.cip_digraph.specs.graph.Graph.{Graph, edges_at, neighbours}
use Rattle.cip_digraph.specs.graph.SoundGraphs.{IsSound}
use Rattle.cip_digraph.specs.rings.Alternating.{is_in}
use Rattle.cip_digraph.specs.rings.Positions.{positions_of}
use Rattle.cip_digraph.specs.rings.SmallRings.{within_steps}
use Rattle.cip_digraph.specs.units.DoubleBonds.{outer_neighbours}
use Rattle.cip_ring.specs.AnyRings.{is_in_ring}
use Rattle.cip_axis.specs.Biaryls.{stands_beside, is_hindered, hindered_at, is_biaryl_end}
use Rattle.cip_symmetry.proofs.lemmas.lists.Arranged.{filter_arranged}
use Rattle.cip_symmetry.proofs.lemmas.lists.CarriedLists.{filter_carried, any_carried, same_eq}
use Rattle.cip_symmetry.proofs.lemmas.digraph.CarriedNodes.{delocalised_carried}
use Rattle.cip_symmetry.specs.Renamed.{IsRenamed}
use Rattle.cip_symmetry.proofs.lemmas.graph.CarriedPositions.{degree_carried, neighbours_moved, positions_renamed}
use Rattle.cip_laws.proofs.lemmas.units.CarriedSites.{SameUnit, end_bonds_carried, moved_long, outer_moved, z_same}
use Rattle.cip_laws.proofs.lemmas.graph.CarriedSmallRings.{steps_carried, steps_turned}
use Rattle.cip_laws.proofs.lemmas.further.CarriedSharing.{shared_carried}

pub ring_back : (graph : Graph) → IsSound graph → (a b : ℕ) → is_in_ring graph a b ≡ is_in_ring graph b a
ring_back graph sound a b = steps_turned graph sound (length graph.vertices) a b

module _ (graph other : Graph) (image : ℕ → ℕ) (r : IsRenamed graph other image) where
  pub ring_carried : (a b : ℕ) → is_in_ring other (image a) (image b) ≡ is_in_ring graph a b
  ring_carried a b =
      ap (λ n. is_in (image b) (within_steps other (image a) (image b) n)) r.count
      ∙ steps_carried graph other image r (length graph.vertices) a b

  beside_carried : (end neighbour o : ℕ)
      → stands_beside other (image end) (image neighbour) (image o) ≡ stands_beside graph end neighbour o
  beside_carried end neighbour o =
      rw (z_same graph other image r o, same_eq image r.injective o end, shared_carried graph other image r neighbour o)

  hindered_carried : (end neighbour : ℕ)
      → is_hindered other (image end) (image neighbour) ≡ is_hindered graph end neighbour
  hindered_carried end neighbour =
      ap
      (λ k. (k == 3)
      && list_any (stands_beside other (image end) (image neighbour)) (neighbours other (image neighbour)))
      (degree_carried graph other image r neighbour)
      ∙ ap (λ b. (length (edges_at graph neighbour) == 3) && b)
      (sym
      (list_any-IsPermutation (stands_beside other (image end) (image neighbour))
      (map image (neighbours graph neighbour)) (neighbours other (image neighbour))
      (neighbours_moved graph other image r neighbour))
      ∙ any_carried image (stands_beside graph end neighbour) (stands_beside other (image end) (image neighbour))
      (beside_carried end neighbour) (neighbours graph neighbour))

  outer_long : (unit theirs : List ℕ) → SameUnit graph other image r unit theirs → (v : ℕ)
      → length (outer_neighbours other theirs (image v)) ≡ length (outer_neighbours graph unit v)
  outer_long unit theirs same v =
      moved_long image (outer_neighbours graph unit v) _ (outer_moved graph other image r unit theirs same v)

  pub hindered_long : (unit theirs : List ℕ) → SameUnit graph other image r unit theirs → (end : ℕ)
      → length (hindered_at other theirs (image end)) ≡ length (hindered_at graph unit end)
  hindered_long unit theirs same end =
      moved_long image (hindered_at graph unit end) (hindered_at other theirs (image end))
      (subst (λ vs. IsPermutation vs (hindered_at other theirs (image end)))
      (filter_carried image (is_hindered graph end) (is_hindered other (image end)) (hindered_carried end)
      (outer_neighbours graph unit end))
      (filter_arranged (is_hindered other (image end)) (map image (outer_neighbours graph unit end))
      (outer_neighbours other theirs (image end)) (outer_moved graph other image r unit theirs same end)))

  pub biaryl_end_carried : (unit theirs : List ℕ) → SameUnit graph other image r unit theirs → (v : ℕ)
      → is_biaryl_end other (positions_of other) theirs (image v) ≡ is_biaryl_end graph (positions_of graph) unit v
  biaryl_end_carried unit theirs same v =
      rw (
        delocalised_carried graph other (positions_of graph) (positions_of other) image r
            (positions_renamed graph other image r) v,
        degree_carried graph other image r v,
        end_bonds_carried graph other image r unit theirs same v,
        outer_long unit theirs same v,
      )
