-- An atom that can't be a first end begins no bond unit.
use Rattle.std.proofs.Common.{◌≡◌, ℕ, true, false, List, [], ◌∷◌, map, sym, ap, ◌∙◌}
use Rattle.std.specs.Prelude.{not}
use Rattle.std.specs.List.{AllByRecursion}
use Rattle.std.proofs.lemmas.Bool.{and_from, and_parts, false_from_ne_true, true≢false}
use Rattle.cip_digraph.specs.declared.drawing.graph.Edge.{Edge}
use Rattle.cip_digraph.specs.graph.Graph.{Graph, edges_at, other_end}
use Rattle.cip_digraph.specs.rings.Positions.{is_delocalised}
use Rattle.cip_digraph.specs.units.DoubleBonds.{bond_site, bond_sites, has_end_bonds, is_bond_unit}
use Rattle.cip_unit.specs.Sites.{can_begin}
use Rattle.cip_unit.proofs.lemmas.NoDoubles.{none_pass}
use Rattle.cip_unit.proofs.lemmas.Shown.{unit_parts}

module _ (graph : Graph) (positions : List (List ℕ)) (a : ℕ) where
  begins : (edge : Edge) → is_bond_unit graph positions a edge ≡ true → can_begin graph positions a ≡ true
  begins edge is =
      let parts = unit_parts graph positions a edge is in
      let end = and_parts _ (has_end_bonds graph (a ∷ other_end a edge ∷ []) a) parts.first in
      and_from (not (is_delocalised positions a)) _ parts.fixed end.0

  module _ (none : can_begin graph positions a ≡ false) where
    no_unit : (edges : List Edge) → AllByRecursion (λ edge. is_bond_unit graph positions a edge ≡ false) edges
    no_unit [] = tt
    no_unit (edge ∷ edges) = (
      false_from_ne_true (is_bond_unit graph positions a edge) (λ is. true≢false (sym (begins edge is) ∙ none)),
      no_unit edges,
    )

    pub none_begins : bond_sites graph positions a ≡ []
    none_begins =
        ap (map (bond_site graph a))
        (none_pass (is_bond_unit graph positions a) (edges_at graph a) (no_unit (edges_at graph a)))
