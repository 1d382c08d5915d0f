-- Further units of a sound graph are fit.
use Rattle.std.proofs.Common.{◌≡◌, ℕ, List, [], ◌∷◌, ◌++◌, ◌-◌, length, filter, flat_map, true, false}
use Rattle.std.specs.List.{AllByRecursion, range_with_len}
use Rattle.std.proofs.lemmas.List.Elements.{All-from_recursion}
use Rattle.cip_mol.specs.Drawing.{Drawing}
use Rattle.cip_digraph.specs.graph.Graph.{Graph, edges_at, other_end}
use Rattle.cip_digraph.specs.graph.SoundGraphs.{IsSound}
use Rattle.cip_digraph.specs.units.Descriptors.{is_odd}
use Rattle.cip_digraph.specs.units.DoubleBonds.{end_ligands}
use Rattle.cip_digraph.specs.declared.drawing.graph.Edge.{Edge}
use Rattle.cip_digraph.proofs.lemmas.lists.Elements.{all_append, all_mapped, all_told}
use Rattle.cip_digraph.proofs.lemmas.lists.Elements.{all_flat_each}
use Rattle.cip_label.specs.Fitting.{IsFitSite}
use Rattle.cip_label.proofs.lemmas.FitUnits.{three_end_fit, two_ended_fit}
use Rattle.cip_axis.specs.Biaryls.{is_biaryl}
use Rattle.cip_axis.specs.Cumulenes.{chains, first_atom, last_atom, is_cumulene}
use Rattle.cip_axis.specs.Further.{biaryls_of, biaryl_unit, cumulenes_of, cumulene_site, cumulene_unit, further_of}
use Rattle.cip_axis.specs.Likeness.{like}
use Rattle.cip_axis.specs.declared.site.FurtherUnit.{FurtherUnit}
use Rattle.cip_axis.proofs.lemmas.Sited.{axis_end_parts, biaryl_parts, cumulene_parts}
use Rattle.cip_axis.specs.FurtherOutcomes.{AreFurtherFit, FurtherUnitsAreFit}

module _ (graph : Graph) (sound : IsSound graph) where
  cumulene_fit : (chain : List ℕ) → is_cumulene graph chain ≡ true → IsFitSite graph (like (cumulene_site graph chain))
  cumulene_fit chain is =
      let parts = cumulene_parts graph chain is in
      let a = first_atom chain in
      let b = last_atom chain in
      let first = axis_end_parts graph chain a parts.first in
      let last = axis_end_parts graph chain b parts.last in
      two_ended_fit graph sound (is_odd (length chain - 1)) a b (end_ligands graph chain a) (end_ligands graph chain b)
      (three_end_fit graph sound chain a first.three first.two) (three_end_fit graph sound chain b last.three last.two)

  biaryl_fit : (drawing : Drawing) (positions : List (List ℕ)) (a : ℕ) (e : Edge) → is_biaryl graph positions a e ≡ true
      → IsFitSite graph (like (biaryl_unit drawing graph a (other_end a e)).site)
  biaryl_fit drawing positions a e is =
      let b = other_end a e in
      let unit = a ∷ b ∷ [] in
      let parts = biaryl_parts graph positions a e is in
      two_ended_fit graph sound false a b (end_ligands graph unit a) (end_ligands graph unit b)
      (three_end_fit graph sound unit a parts.first.three parts.first.two)
      (three_end_fit graph sound unit b parts.second.three parts.second.two)

  abbrev Fit : FurtherUnit → Type 0
  Fit unit = IsFitSite graph (like unit.site)

  cumulenes_fit : (drawing : Drawing) (a : ℕ) → AllByRecursion Fit (cumulenes_of drawing graph a)
  cumulenes_fit drawing a =
      let all = chains graph a in
      all_mapped Fit (cumulene_unit drawing graph) (filter (is_cumulene graph) all)
      (all_told (λ chain. Fit (cumulene_unit drawing graph chain)) (is_cumulene graph) cumulene_fit all)

  biaryls_fit : (drawing : Drawing) (positions : List (List ℕ)) (a : ℕ)
      → AllByRecursion Fit (biaryls_of drawing graph positions a)
  biaryls_fit drawing positions a =
      let all = edges_at graph a in
      all_mapped Fit (λ e. biaryl_unit drawing graph a (other_end a e)) (filter (is_biaryl graph positions a) all)
      (all_told (λ e. Fit (biaryl_unit drawing graph a (other_end a e))) (is_biaryl graph positions a)
      (biaryl_fit drawing positions a) all)

  pub units_fit : (drawing : Drawing) (positions : List (List ℕ)) → AreFurtherFit graph (further_of drawing graph positions)
  unfolding further_of
  units_fit drawing positions =
      let atoms = range_with_len 0 graph.drawn in
      All-from_recursion Fit (flat_map (cumulenes_of drawing graph) atoms
      ++ flat_map (biaryls_of drawing graph positions) atoms)
      (all_append Fit (flat_map (cumulenes_of drawing graph) atoms) (flat_map (biaryls_of drawing graph positions) atoms)
      (all_flat_each Fit (cumulenes_of drawing graph) (cumulenes_fit drawing) atoms)
      (all_flat_each Fit (biaryls_of drawing graph positions) (biaryls_fit drawing positions) atoms))

pub further_units_are_fit : FurtherUnitsAreFit
further_units_are_fit drawing graph positions sound = units_fit graph sound drawing positions
