-- Where what is found between the branches of each two ligands is their order by all rules, they are ordered by it.
use Rattle.std.proofs.Common.{◌≡◌, ◌==◌, ◌∷◌, [], ℕ, Bool, true, false, cond, List, map, slice_get, None, Some, refl, sym, ap, ◌∙◌}
use Rattle.std.specs.declared.option.Option.{Option}
use Rattle.std.proofs.lemmas.Bool.{eqb-true}
use Rattle.cip_mol.specs.declared.site.Ligand.{Ligand}
use Rattle.cip_mol.specs.declared.site.Ligand.TheVariants.{Vertex}
use Rattle.cip_digraph.specs.declared.decisions.decision.Decision.{Decision}
use Rattle.cip_digraph.specs.digraph.Digraph.{Node, real_node}
use Rattle.cip_digraph.specs.rules.Decisions.{order}
use Rattle.cip_digraph.specs.rules.Orders.{Seen}
use Rattle.cip_digraph.proofs.lemmas.orders.Early.{itself}
use Rattle.cip_constitution.specs.Noting.{asked_by}
use Rattle.cip_constitution.specs.Pairs.{pairs_of}
use Rattle.cip_constitution.specs.declared.pairs.VertexPair.{VertexPair}
use Rattle.cip_digraph.specs.Asking.{with_found}
use Rattle.cip_label.specs.BranchComparison.{reversed}
use Rattle.cip_label.proofs.lemmas.OppositeOrders.{order_reversed}
use Rattle.cip_ranker.specs.Standing.{Standing, asked_in, by_vertices, found_of, standing_of}
use Rattle.cip_ranker.proofs.lemmas.FoundPairs.{answered, found_mapped, has_pair}

module _ (seen : Seen Node) (root : ℕ) (ligands : List Ligand) (branch : ℕ → ℕ)
    (find : Bool → ℕ → ℕ → Option Decision)
    (ordered : (r_first : Bool) (i j v w : ℕ) → slice_get ligands i ≡ Some (Vertex v)
    → slice_get ligands j ≡ Some (Vertex w)
    → find r_first (branch v) (branch w) ≡ order seen r_first (real_node v (root ∷ [])) (real_node w (root ∷ [])))
    (standing : Standing) (requested : (r_first : Bool) → asked_in standing r_first
    ≡ by_vertices (pairs_of ligands) (map (with_found (find r_first)) (map (asked_by branch) (pairs_of ligands))))
  where
    abbrev decide : Bool → VertexPair → Option Decision
    decide r_first one = find r_first (branch one.a) (branch one.b)

    named : (r_first : Bool) (pairs : List VertexPair)
        → by_vertices pairs (map (with_found (find r_first)) (map (asked_by branch) pairs))
        ≡ map (answered (decide r_first)) pairs
    named r_first [] = refl
    named r_first (pair ∷ pairs) = ap (λ others. answered (decide r_first) pair ∷ others) (named r_first pairs)

    pub stands_paired : (r_first : Bool) (i j v w : ℕ) → slice_get ligands i ≡ Some (Vertex v)
        → slice_get ligands j ≡ Some (Vertex w)
        → standing_of standing r_first v w ≡ order seen r_first (real_node v (root ∷ [])) (real_node w (root ∷ []))
    stands_paired r_first i j v w at_v at_w = by (v == w) refl
      where
        by : (same : Bool) → (v == w) ≡ same → cond same None (found_of v w (asked_in standing r_first))
            ≡ order seen r_first (real_node v (root ∷ [])) (real_node w (root ∷ []))
        by true is =
            sym (ap (λ x. order seen r_first (real_node v (root ∷ [])) (real_node x (root ∷ [])))
            (sym (eqb-true v w is)) ∙ itself seen r_first (real_node v (root ∷ [])))
        by false is =
            ap (found_of v w) (requested r_first ∙ named r_first (pairs_of ligands))
            ∙ found_mapped v w (decide r_first)
            (order seen r_first (real_node v (root ∷ [])) (real_node w (root ∷ [])))
            (ordered r_first i j v w at_v at_w) (ap reversed (ordered r_first j i w v at_w at_v)
            ∙ order_reversed seen r_first (real_node v (root ∷ [])) (real_node w (root ∷ []))) (pairs_of ligands)
            (has_pair v w ligands i j at_v at_w is)

-- what is asked of vertices is noted by them
pub named_already : (find : ℕ → ℕ → Option Decision) (pairs : List VertexPair)
    → by_vertices pairs (map (with_found find) (map (asked_by (λ vertex. vertex)) pairs))
    ≡ map (with_found find) (map (asked_by (λ vertex. vertex)) pairs)
named_already find [] = refl
named_already find (pair ∷ pairs) =
    ap (λ others. with_found find (asked_by (λ vertex. vertex) pair) ∷ others) (named_already find pairs)
