-- A graph without double bonds has neither bond units nor axis units.
use Rattle.std.proofs.Common.{◌≡◌, ℕ, Bool, false, ◌==◌, List, [], ◌∷◌, map, refl, ap}
use Rattle.std.specs.Prelude.{filter, flat_map}
use Rattle.std.specs.List.{AllByRecursion, range_with_len}
use Rattle.std.proofs.lemmas.Bool.{eqb-false, false_from_ne_true}
use Rattle.std.proofs.lemmas.List.{append-nil}
use Rattle.cip_mol.specs.Drawing.{Drawing}
use Rattle.cip_mol.specs.declared.site.Unit as units
use Rattle.cip_digraph.specs.declared.drawing.graph.Edge.{Edge}
use Rattle.cip_digraph.specs.graph.Graph.{Graph, edges_at, other_end, touches}
use Rattle.cip_digraph.specs.units.Allenes.{axis_site, axis_sites, doubles, is_axis_unit}
use Rattle.cip_digraph.specs.units.DoubleBonds.{bond_site, bond_sites, is_bond_unit}
use Rattle.cip_digraph.proofs.lemmas.lists.Elements.{all_by, all_filtered}
use Rattle.cip_digraph.proofs.lemmas.bonds.Neighbours.{sorted_all}
use Rattle.cip_digraph.proofs.lemmas.ties.Settled as settled
use Rattle.cip_unit.specs.Sites.{has_double, with_axes, with_bonds}
use Rattle.cip_unit.proofs.lemmas.Shown.{unit_parts}

abbrev IsOther : Edge → Type 0
IsOther edge = (edge.order == 2) ≡ false

pub none_pass : (test : Edge → Bool) (edges : List Edge) → AllByRecursion (λ edge. test edge ≡ false) edges
    → filter test edges ≡ []
none_pass test [] all = refl
none_pass test (edge ∷ edges) all = rw (all.0) (none_pass test edges all.1)

pub flat_none : {X : Type 0} (f : ℕ → List X) → ((n : ℕ) → f n ≡ []) → (ns : List ℕ) → flat_map f ns ≡ []
flat_none f none [] = refl
flat_none f none (n ∷ ns) = rw (none n) (flat_none f none ns)

module _ (graph : Graph) (none : has_double graph ≡ false) where
  others_at : (vertex : ℕ) → AllByRecursion IsOther (edges_at graph vertex)
  others_at vertex =
      sorted_all IsOther vertex (filter (touches vertex) graph.edges)
      (all_filtered IsOther (touches vertex) graph.edges (settled.none_pass (λ edge. edge.order == 2) graph.edges none))

  no_bonds : (positions : List (List ℕ)) (a : ℕ) → bond_sites graph positions a ≡ []
  no_bonds positions a =
      ap (map (bond_site graph a))
      (none_pass (is_bond_unit graph positions a) (edges_at graph a)
      (all_by IsOther (λ edge. is_bond_unit graph positions a edge ≡ false)
      (λ edge e.
      false_from_ne_true (is_bond_unit graph positions a edge)
      (λ is. eqb-false edge.order 2 e (unit_parts graph positions a edge is).double)) (edges_at graph a) (others_at a)))

  no_doubles : (a : ℕ) → doubles graph a ≡ []
  no_doubles a = ap (map (other_end a)) (none_pass (λ edge. edge.order == 2) (edges_at graph a) (others_at a))

  no_axes : (a : ℕ) → axis_sites graph a ≡ []
  no_axes a =
      ap (flat_map (λ middle. map (axis_site graph a middle)
      (filter (is_axis_unit graph a middle) (doubles graph middle)))) (no_doubles a)

  pub nothing_more : (drawing : Drawing) (positions : List (List ℕ)) (atoms : ℕ) (all : List units.Unit)
      → all ≡ with_axes drawing graph atoms (with_bonds drawing graph positions atoms all)
  nothing_more drawing positions atoms all =
      rw (
        flat_none (bond_sites graph positions) (no_bonds positions) (range_with_len 0 atoms),
        flat_none (axis_sites graph) no_axes (range_with_len 0 atoms),
        append-nil all,
        append-nil all,
      ) refl
