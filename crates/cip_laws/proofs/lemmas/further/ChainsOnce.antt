-- No chain is tried twice.
use Rattle.std.proofs.Common.{◌≡◌, ◌≢◌, ◌≤◌, ◌+◌, ℕ, zero, suc, List, [], length, filter, flat_map, map, refl, sym, ap}
use Rattle.std.proofs.Common.{subst, ◌∙◌, Bool, true, false, cond, ◌==◌, arith}
use Rattle.std.specs.Prelude.{slice_index_or}
use Rattle.std.specs.List.{AllByRecursion, range_with_len}
use Rattle.cip_digraph.specs.graph.Graph.{Graph, edges_at, other_end}
use Rattle.cip_digraph.specs.graph.SoundGraphs.{IsSound}
use Rattle.cip_digraph.specs.units.Allenes.{doubles}
use Rattle.cip_digraph.proofs.lemmas.lists.Elements.{Pairwise, all_append, all_by, all_filtered, all_mapped, pairwise_append}
use Rattle.cip_digraph.proofs.lemmas.lists.Elements.{pairwise_by, pairwise_filtered, pairwise_mapped}
use Rattle.cip_digraph.proofs.lemmas.lists.Elements.{all_each}
use Rattle.cip_digraph.proofs.lemmas.bonds.Neighbours.{neighbours_differ}
use Rattle.cip_axis.specs.Cumulenes.{chain_from, chain_over, chains, first_atom, is_cumulene}
use Rattle.cip_symmetry.proofs.lemmas.lists.Elements.{unmapped}
use Rattle.cip_laws.specs.CumuleneLaws.{chains_in}

-- lists that begin with their own number differ where those of one number do
module _ (f : ℕ → List (List ℕ)) (begin : (a : ℕ) → AllByRecursion (λ c. first_atom c ≡ a) (f a))
    (differ : (a : ℕ) → Pairwise ◌≢◌ (f a)) where
  above : (start count : ℕ) → AllByRecursion (λ c. start ≤ first_atom c) (flat_map f (range_with_len start count))
  above start zero = tt
  above start (suc count) =
      all_append (λ c. start ≤ first_atom c) (f start) (flat_map f (range_with_len (start + 1) count))
      (all_by (λ c. first_atom c ≡ start) (λ c. start ≤ first_atom c) (λ c e. omega (arith, e)) (f start) (begin start))
      (all_by (λ c. start + 1 ≤ first_atom c) (λ c. start ≤ first_atom c) (λ c le. omega (arith, le))
      (flat_map f (range_with_len (start + 1) count)) (above (start + 1) count))

  heads_apart : (start : ℕ) (c d : List ℕ) → first_atom c ≡ start → start + 1 ≤ first_atom d → c ≢ d
  heads_apart start c d e le same =
      let heads : first_atom c ≡ first_atom d = ap first_atom same in absurd (omega (arith, e, le, heads))

  all_differ : (start count : ℕ) → Pairwise ◌≢◌ (flat_map f (range_with_len start count))
  all_differ start zero = tt
  all_differ start (suc count) =
      let rest : List (List ℕ) = flat_map f (range_with_len (start + 1) count) in
      pairwise_append ◌≢◌ (f start) rest (differ start) (all_differ (start + 1) count)
      (all_by (λ c. first_atom c ≡ start) (λ c. AllByRecursion (λ d. c ≢ d) rest)
      (λ c e. all_by (λ d. start + 1 ≤ first_atom d) (λ d. c ≢ d) (λ d le. heads_apart start c d e le) rest
      (above (start + 1) count))
      (f start) (begin start))

module _ (graph : Graph) (sound : IsSound graph) where
  tried_begin : (a : ℕ) (b : Bool)
      → AllByRecursion (λ c. first_atom c ≡ a) (cond b (map (chain_over graph a) (doubles graph a)) [])
  tried_begin a true =
      all_mapped (λ c. first_atom c ≡ a) (chain_over graph a) (doubles graph a)
      (all_each (λ n. first_atom (chain_over graph a n) ≡ a) (λ n. refl) (doubles graph a))
  tried_begin a false = tt

  doubles_differ : (a : ℕ) → Pairwise ◌≢◌ (doubles graph a)
  doubles_differ a =
      pairwise_mapped ◌≢◌ (other_end a) (filter (λ edge. edge.order == 2) (edges_at graph a))
      (pairwise_filtered (λ one other. other_end a one ≢ other_end a other) (λ edge. edge.order == 2) (edges_at graph a)
      (unmapped ◌≢◌ (other_end a) (edges_at graph a) (neighbours_differ graph sound a)))

  -- where there is a vertex
  module _ (count : ℕ) (is : length graph.vertices ≡ suc count) where
    second_is : (a n : ℕ) → slice_index_or (chain_over graph a n) 1 0 ≡ n
    second_is a n = ap (λ k. slice_index_or (chain_from graph k a n) 0 0) is

    over_differ : (a one other : ℕ) → one ≢ other → chain_over graph a one ≢ chain_over graph a other
    over_differ a one other differ same =
        differ (sym (second_is a one) ∙ ap (λ c. slice_index_or c 1 0) same ∙ second_is a other)

    tried_differ : (a : ℕ) (b : Bool) → Pairwise ◌≢◌ (cond b (map (chain_over graph a) (doubles graph a)) [])
    tried_differ a true =
        pairwise_mapped ◌≢◌ (chain_over graph a) (doubles graph a)
        (pairwise_by ◌≢◌ (λ one other. chain_over graph a one ≢ chain_over graph a other) (over_differ a)
        (doubles graph a) (doubles_differ a))
    tried_differ a false = tt

    some_differ : Pairwise ◌≢◌ (chains_in graph)
    some_differ =
        all_differ (λ a. filter (is_cumulene graph) (chains graph a))
        (λ a. all_filtered (λ c. first_atom c ≡ a) (is_cumulene graph) (chains graph a)
        (tried_begin a (length (edges_at graph a) == 3)))
        (λ a. pairwise_filtered ◌≢◌ (is_cumulene graph) (chains graph a)
        (tried_differ a (length (edges_at graph a) == 3)))
        0 graph.drawn

  by_count : (count : ℕ) → length graph.vertices ≡ count → Pairwise ◌≢◌ (chains_in graph)
  by_count zero is =
      let few = sound.drawn in
      let none : graph.drawn ≡ 0 = omega (arith, few, is) in
      subst (λ n. Pairwise ◌≢◌ (flat_map (λ a. filter (is_cumulene graph) (chains graph a)) (range_with_len 0 n)))
      (sym none) tt
  by_count (suc count) is = some_differ count is

  pub chains_differ : Pairwise ◌≢◌ (chains_in graph)
  chains_differ = by_count (length graph.vertices) refl
