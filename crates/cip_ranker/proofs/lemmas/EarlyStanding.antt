-- Where all ligands of a root differ by Rule 1a, what was noted of their branches is their order by all rules.
use Rattle.std.proofs.Common.{
  ◌≡◌,
  ◌<◌,
  ◌≤◌,
  ◌+◌,
  ℕ,
  zero,
  suc,
  Bool,
  true,
  false,
  List,
  [],
  ◌∷◌,
  map,
  length,
  slice_get,
  None,
  Some,
  refl,
  sym,
  ap,
  ◌∙◌,
  subst,
  arith,
}
use Rattle.std.specs.Prelude.{slice_index_or}
use Rattle.std.specs.List.{AllByRecursion}
use Rattle.std.specs.declared.option.Option.{Option}
use Rattle.cip_rank.specs.declared.rules.Rules.{Rules}
use Rattle.cip_mol.specs.declared.labels.outcome.Rule.TheVariants.{R1a}
use Rattle.cip_mol.specs.declared.site.Ligand.{Ligand}
use Rattle.cip_mol.specs.declared.site.Ligand.TheVariants.{Vertex}
use Rattle.cip_mol.specs.declared.site.Unit as units
use Rattle.cip_digraph.specs.declared.decisions.decision.Decision.{Decision}
use Rattle.cip_digraph.specs.rings.Alternating.{is_in}
use Rattle.cip_digraph.specs.rules.Auxiliary.{auxiliary, ligand_node}
use Rattle.cip_digraph.specs.rules.Decisions.{Difference, first_difference, order}
use Rattle.cip_digraph.specs.digraph.Digraph.{Node, real_node}
use Rattle.cip_digraph.specs.digraph.View.{view_children}
use Rattle.cip_digraph.specs.rules.EarlyOrder.{order_within, seen_at, differ_within}
use Rattle.cip_digraph.specs.rules.Orders.{Seen, rule_1a}
use Rattle.cip_digraph.specs.units.Ends.{end_at}
use Rattle.cip_digraph.specs.graph.Graph.{Graph, neighbours}
use Rattle.cip_digraph.specs.outcome.Outcomes.{is_in_unit}
use Rattle.cip_digraph.specs.units.Ranked.{ligand_order}
use Rattle.cip_digraph.specs.graph.SoundGraphs.{IsSound}
use Rattle.cip_digraph.proofs.lemmas.orders.Early.{places_told}
use Rattle.cip_digraph.proofs.lemmas.tree.Ligands.{one_at_most}
use Rattle.cip_arena.specs.Growth.{Growth, Holds}
use Rattle.cip_constitution.specs.Noting.{asked_by, by_atoms, top_of, Notes}
use Rattle.cip_constitution.specs.Pairs.{pairs_of}
use Rattle.cip_constitution.proofs.lemmas.seen.Rules.{IsFurther, seen_1a}
use Rattle.cip_digraph.specs.declared.decisions.branch_pair.BranchPair.{BranchPair}
use Rattle.cip_digraph.specs.Asking.{decided, with_found}
use Rattle.cip_rules.specs.Orders.{found_below}
use Rattle.cip_rules.proofs.lemmas.FoundWithin.{same_difference}
use Rattle.cip_constitution.specs.declared.pairs.VertexPair.{VertexPair}
use Rattle.cip_ranker.specs.Standing.{Standing, asked_in, by_vertices, standing_of}
use Rattle.cip_ranker.proofs.lemmas.PairedStanding.{stands_paired}
use Rattle.cip_label.proofs.lemmas.LigandNodes.{one_node}
use Rattle.cip_ranker.proofs.lemmas.RootNodes.{number_is}

-- by one rule alone
decided_first : (found : Option Difference) → decided R1a found
    ≡ elim found as (λ _. Option Decision) [
      | None ↦ None
      | Some found ↦ Some (record { side = found.side; rule = R1a; sphere = found.depth + 1 })
    ]
decided_first None = refl
decided_first (Some found) = refl

pub entry : {X : Type 0} (f : Ligand → List X) (ligands : List Ligand) (i : ℕ) (ligand : Ligand)
    → slice_get ligands i ≡ Some ligand → slice_index_or (map f ligands) i [] ≡ f ligand
entry f [] i ligand e = let bad : None ≡ Some ligand = e in cc
entry f (one ∷ ligands) zero ligand e = let same : Some one ≡ Some ligand = e in let is : one ≡ ligand = cc in ap f is
entry f (one ∷ ligands) (suc i) ligand e = entry f ligands i ligand e

-- what Rule 1a decides within a sphere of the nodes that stand for vertices, seen from the root
module _ (rules : Rules) (g : Graph) (positions : List (List ℕ)) (all : List units.Unit) (root sphere : ℕ)
    (some : 0 < sphere) (sound : IsSound g) (ligands : List Ligand)
    (beside : (i vertex : ℕ) → slice_get ligands i ≡ Some (Vertex vertex) → is_in vertex (neighbours g root) ≡ true)
    (low : sphere ≤ (seen_at rules g positions all root).height + 1)
    (differ : differ_within rules g positions all (end_at root ligands) sphere ≡ true) (top : ℕ → Node) (branch : ℕ → ℕ)
    (further : (v : ℕ) → is_in v (neighbours g root) ≡ true → IsFurther g positions root (real_node v (root ∷ [])))
    (stands : (v : ℕ) → is_in v (neighbours g root) ≡ true → top (branch v) ≡ real_node v (root ∷ [])) where
  abbrev seen : Seen Node
  seen = seen_at rules g positions all root

  abbrev find : ℕ → ℕ → Option Decision
  find = found_below R1a (by_atoms g positions root 0) top sphere

  each_short : (some : List Ligand) → AllByRecursion (λ nodes. length nodes ≤ 1)
      (map (ligand_node (view_children g positions (root ∷ []) (real_node root []))) some)
  each_short [] = tt
  each_short (ligand ∷ others) = (one_at_most g positions sound root ligand, each_short others)

  -- what is found of two branches is what Rule 1a finds of their vertices
  found_first : (v w : ℕ) → is_in v (neighbours g root) ≡ true → is_in w (neighbours g root) ≡ true
      → find (branch v) (branch w) ≡ order_within seen sphere (real_node v (root ∷ [])) (real_node w (root ∷ []))
  found_first v w by_v by_w =
      let x = real_node v (root ∷ []) in
      let y = real_node w (root ∷ []) in
      let between : Node → Node → Option Decision = λ n m.
      decided R1a (first_difference (λ d. by_atoms g positions root 0 d n m) 0 sphere) in
      ap (λ n. between n (top (branch w))) (stands v by_v)
      ∙ ap (between x) (stands w by_w)
      ∙ ap (decided R1a)
      (same_difference (λ d. by_atoms g positions root 0 d x y) (λ d. rule_1a seen d x y)
      (λ d. sym (seen_1a g positions root rules (auxiliary rules g positions all) d x y (further v by_v)
      (further w by_w))) 0 sphere)
      ∙ decided_first (first_difference (λ d. rule_1a seen d x y) 0 sphere)

  -- and it is the order by all rules
  told_first : (r_first : Bool) (i j v w : ℕ) → slice_get ligands i ≡ Some (Vertex v)
      → slice_get ligands j ≡ Some (Vertex w)
      → order_within seen sphere (real_node v (root ∷ [])) (real_node w (root ∷ []))
      ≡ order seen r_first (real_node v (root ∷ [])) (real_node w (root ∷ []))
  told_first r_first i j v w at_v at_w =
      let around = view_children g positions (root ∷ []) (real_node root []) in
      let branches = map (ligand_node around) ligands in
      let of_v : slice_index_or branches i [] ≡ real_node v (root ∷ []) ∷ [] =
      entry (ligand_node around) ligands i (Vertex v) at_v ∙ one_node g sound root positions v (beside i v at_v) in
      let of_w : slice_index_or branches j [] ≡ real_node w (root ∷ []) ∷ [] =
      entry (ligand_node around) ligands j (Vertex w) at_w ∙ one_node g sound root positions w (beside j w at_w) in
      let node_data = places_told seen (real_node root []) branches (is_in_unit rules g positions all) sphere
      (omega (arith, some)) low (each_short ligands) differ r_first i j in
      sym (ap (λ x. ligand_order (order_within seen sphere) x (slice_index_or branches j [])) of_v
      ∙ ap (ligand_order (order_within seen sphere) (real_node v (root ∷ []) ∷ [])) of_w)
      ∙ sym node_data
      ∙ ap (λ x. ligand_order (order seen r_first) x (slice_index_or branches j [])) of_v
      ∙ ap (ligand_order (order seen r_first) (real_node v (root ∷ []) ∷ [])) of_w

  module _ (noted : List BranchPair)
      (notes : noted ≡ map (with_found (found_below R1a (by_atoms g positions root 0) top sphere))
      (map (asked_by branch) (pairs_of ligands))) where
    abbrev pairs : List VertexPair
    pairs = pairs_of ligands

    asked_is : (standing : Standing) → standing.natural ≡ by_vertices pairs noted
        → standing.turned ≡ by_vertices pairs noted → (r_first : Bool)
        → asked_in standing r_first ≡ by_vertices pairs (map (with_found find) (map (asked_by branch) pairs))
    asked_is standing natural turned true = natural ∙ ap (by_vertices pairs) notes
    asked_is standing natural turned false = turned ∙ ap (by_vertices pairs) notes

    pub stands_first : (standing : Standing) → standing.natural ≡ by_vertices (pairs_of ligands) noted
        → standing.turned ≡ by_vertices (pairs_of ligands) noted → (r_first : Bool) (i j v w : ℕ)
        → slice_get ligands i ≡ Some (Vertex v)
        → slice_get ligands j ≡ Some (Vertex w)
        → standing_of standing r_first v w
        ≡ order (seen_at rules g positions all root) r_first (real_node v (root ∷ [])) (real_node w (root ∷ []))
    stands_first standing natural turned =
        stands_paired seen root ligands branch (λ r_first. find)
        (λ r_first i j v w at_v at_w. found_first v w (beside i v at_v) (beside j w at_w)
        ∙ told_first r_first i j v w at_v at_w) standing (asked_is standing natural turned)

-- noted while its digraph was grown
module _ (rules : Rules) (g : Graph) (positions : List (List ℕ)) (all : List units.Unit) (a : Growth)
    (h : Holds g positions a) (some : 0 < a.sphere) (sound : IsSound g) (ligands : List Ligand)
    (beside : (i vertex : ℕ) → slice_get ligands i ≡ Some (Vertex vertex)
    → is_in vertex (neighbours g a.root) ≡ true)
    (low : a.sphere ≤ (seen_at rules g positions all a.root).height + 1)
    (differ : differ_within rules g positions all (end_at a.root ligands) a.sphere ≡ true) (noted : List BranchPair)
    (notes : Notes g positions a.root a.bound a.sphere (pairs_of ligands) noted) where
  further : (v : ℕ) → is_in v (neighbours g a.root) ≡ true → IsFurther g positions a.root (real_node v (a.root ∷ []))
  further v by_v =
      let of_v = number_is g positions a h some sound v by_v in
      subst (IsFurther g positions a.root) of_v.node of_v.first.further

  stands : (v : ℕ) → is_in v (neighbours g a.root) ≡ true
      → top_of g positions a.root a.bound (notes.branch v) ≡ real_node v (a.root ∷ [])
  stands v by_v = notes.stands v (real_node v (a.root ∷ [])) (one_node g sound a.root positions v by_v)

  pub stands_early : (standing : Standing) → standing.natural ≡ by_vertices (pairs_of ligands) noted
      → standing.turned ≡ by_vertices (pairs_of ligands) noted → (r_first : Bool) (i j v w : ℕ)
      → slice_get ligands i ≡ Some (Vertex v)
      → slice_get ligands j ≡ Some (Vertex w)
      → standing_of standing r_first v w
      ≡ order (seen_at rules g positions all a.root) r_first (real_node v (a.root ∷ [])) (real_node w (a.root ∷ []))
  stands_early =
      stands_first rules g positions all a.root a.sphere some sound ligands beside low differ
      (top_of g positions a.root a.bound) notes.branch further stands noted notes.noted
