-- Further units of a molecule are few.
use Rattle.std.proofs.Common.{◌≡◌, ◌<◌, ◌≤◌, ◌*◌, ◌^◌, ◌==◌, ℕ, Bool, true, false, List, [], cond, length, map, arith, ap, refl, eqb-true}
use Rattle.std.specs.Prelude.{filter, flat_map}
use Rattle.std.specs.List.{range_with_len}
use Rattle.std.proofs.lemmas.List.{length-append, length-map}
use Rattle.std.proofs.lemmas.List.FromFn.{length-range_with_len}
use Rattle.cip_mol.specs.Drawing.{Drawing}
use Rattle.cip_digraph.specs.declared.drawing.graph.Edge.{Edge}
use Rattle.cip_digraph.specs.graph.DrawnGraph.{graph_of}
use Rattle.cip_digraph.specs.graph.Graph.{Graph, edges_at, other_end}
use Rattle.cip_digraph.specs.units.Allenes.{doubles}
use Rattle.cip_unit.proofs.lemmas.FewUnits.{few_each, few_passed, passed_few}
use Rattle.cip_axis.specs.Biaryls.{is_biaryl}
use Rattle.cip_axis.specs.Cumulenes.{chain_over, chains, is_cumulene}
use Rattle.cip_axis.specs.Further.{biaryl_unit, biaryls_of, cumulene_unit, cumulenes_of, further_of}
use Rattle.cip_axis.specs.declared.site.FurtherUnit.{FurtherUnit}
use Rattle.cip_axis.proofs.lemmas.Sited.{at_most, biaryl_parts}

module _ (graph : Graph) where
  few_doubles : (a : ℕ) → length (doubles graph a) ≤ length (edges_at graph a)
  few_doubles a =
      rw (length-map (filter (λ (edge : Edge). edge.order == 2) (edges_at graph a)) (other_end a))
      (passed_few (λ (edge : Edge). edge.order == 2) (edges_at graph a))

  few_chains : (a : ℕ) → length (chains graph a) ≤ 3
  few_chains a = by (length (edges_at graph a) == 3) refl
    where
      by : (b : Bool) → (length (edges_at graph a) == 3) ≡ b
          → length (cond b (map (chain_over graph a) (doubles graph a)) []) ≤ 3
      by true e =
          let three : length (edges_at graph a) ≡ 3 = eqb-true (length (edges_at graph a)) 3 e in
          let few = few_doubles a in
          let same = length-map (doubles graph a) (chain_over graph a) in
          omega (arith, three, few, same)
      by false e = omega arith

  few_cumulenes : (drawing : Drawing) (a : ℕ) → length (cumulenes_of drawing graph a) ≤ 3
  few_cumulenes drawing a =
      let few = few_chains a in
      let passed = passed_few (is_cumulene graph) (chains graph a) in
      let same = length-map (filter (is_cumulene graph) (chains graph a)) (cumulene_unit drawing graph) in
      omega (arith, few, passed, same)

  few_biaryls : (drawing : Drawing) (positions : List (List ℕ)) (a : ℕ)
      → length (biaryls_of drawing graph positions a) ≤ 3
  few_biaryls drawing positions a =
      rw (length-map (filter (is_biaryl graph positions a) (edges_at graph a))
      (λ edge. biaryl_unit drawing graph a (other_end a edge)))
      (few_passed (is_biaryl graph positions a) 3 (length (edges_at graph a)) (edges_at graph a) (omega arith)
      (λ edge is. at_most (biaryl_parts graph positions a edge is).first.three))

  few_of : (drawing : Drawing) (positions : List (List ℕ))
      → length (further_of drawing graph positions) ≤ graph.drawn * 6
  unfolding further_of
  few_of drawing positions =
      let atoms = range_with_len 0 graph.drawn in
      let counted : length atoms ≡ graph.drawn = length-range_with_len 0 graph.drawn in
      let chains_few : length (flat_map (cumulenes_of drawing graph) atoms) ≤ length atoms * 3 =
      few_each (cumulenes_of drawing graph) 3 atoms (few_cumulenes drawing) in
      let axes_few : length (flat_map (biaryls_of drawing graph positions) atoms) ≤ length atoms * 3 =
      few_each (biaryls_of drawing graph positions) 3 atoms (few_biaryls drawing positions) in
      rw (length-append (flat_map (cumulenes_of drawing graph) atoms)
      (flat_map (biaryls_of drawing graph positions) atoms))
      (omega (arith, counted, chains_few, axes_few))

-- fewer than a list can hold
pub few_further : (drawing : Drawing) (graph : Graph) (positions : List (List ℕ)) (all : List FurtherUnit)
    → length drawing.atoms ≤ 16384 → graph ≡ graph_of drawing → all ≡ further_of drawing graph positions
    → length all < 2 ^ 32
unfolding graph_of
few_further drawing graph positions all few is at =
    let drawn : graph.drawn ≡ length drawing.atoms = ap (λ (g : Graph). g.drawn) is in
    let units = few_of graph drawing positions in
    let same : length all ≡ length (further_of drawing graph positions) = ap length at in
    omega (arith, few, drawn, units, same)
