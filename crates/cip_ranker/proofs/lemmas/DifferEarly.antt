-- The answers of all pairs are decided where each two ligands of a root differ within two spheres.
use Rattle.std.proofs.Common.{◌≡◌, ◌≢◌, ◌&&◌, ◌∙◌, ℕ, Bool, true, false, cond, not, List, [], ◌∷◌, flat_map, None, Some, refl, sym, ap}
use Rattle.std.proofs.lemmas.List.Folds.{list_all-append, list_all-map}
use Rattle.std.proofs.lemmas.Simd.{map-map}
use Rattle.std.specs.Cmp.Lexicographic.{slice_cmp}
use Rattle.std.specs.List.{AllByRecursion, list_all}
use Rattle.std.specs.Ordering.{is_eq, ordering_then}
use Rattle.std.specs.declared.cmp.Ordering.{Ordering}
use Rattle.std.specs.declared.cmp.Ordering.TheVariants.{Less, Equal, Greater}
use Rattle.std.specs.declared.option.Option.{Option}
use Rattle.cip_mol.specs.declared.labels.outcome.Rule.TheVariants.{R1a}
use Rattle.cip_mol.specs.declared.site.Ligand.{Ligand}
use Rattle.cip_mol.specs.declared.site.Ligand.TheVariants.{Vertex, LonePair}
use Rattle.cip_digraph.specs.declared.decisions.decision.Decision.{Decision}
use Rattle.cip_digraph.specs.digraph.Digraph.{Node, real_node}
use Rattle.cip_digraph.specs.digraph.View.{view_children}
use Rattle.cip_digraph.specs.graph.Graph.{neighbours}
use Rattle.cip_digraph.specs.graph.SoundGraphs.{IsSound}
use Rattle.cip_digraph.specs.rings.Alternating.{is_in}
use Rattle.cip_digraph.specs.rules.Auxiliary.{auxiliary, ligand_node}
use Rattle.cip_digraph.specs.rules.Decisions.{or_else}
use Rattle.cip_digraph.specs.rules.EarlyOrder.{differ_within, seen_at}
use Rattle.cip_digraph.specs.rules.Orders.{rule_1a}
use Rattle.cip_digraph.specs.units.Ends.{end_at}
use Rattle.cip_digraph.specs.units.Ranked.{every_pair}
use Rattle.cip_digraph.proofs.lemmas.lists.Elements.{Pairwise, by_recursion, pairwise_from_pairs, all_both}
use Rattle.cip_label.proofs.lemmas.LigandNodes.{one_node, ne_eqb}
use Rattle.cip_label.specs.Fitting.{IsFit, IsNeighbour}
use Rattle.cip_label.specs.Settings.{LabelContext}
use Rattle.cip_constitution.proofs.lemmas.node_data.Differ.{pairs_by}
use Rattle.cip_constitution.proofs.lemmas.seen.Rules.{IsFurther, seen_1a}
use Rattle.cip_constitution.specs.Noting.{asked_by, by_atoms}
use Rattle.cip_constitution.specs.Pairs.{pair, pair_with, pairs_at, pairs_of}
use Rattle.cip_constitution.specs.declared.pairs.VertexPair.{VertexPair}
use Rattle.cip_digraph.specs.Asking.{decided, differing, is_decided, with_found}
use Rattle.cip_digraph.specs.declared.decisions.branch_pair.BranchPair.{BranchPair}
use Rattle.cip_ranker.specs.ToldEarly.{found_early, noted_early}
use Rattle.cip_ranker.proofs.lemmas.NeighbourNodes.{neighbour_further}
use Rattle.cip_ranker.proofs.lemmas.ToldBranches.{first_of_two, sets_compared}
use Rattle.cip_rank.proofs.lemmas.ExtendedOrder.{then_equal}

all_flat : {X Y : Type 0} (test : Y → Bool) (f : X → List Y) (xs : List X)
    → list_all test (flat_map f xs) ≡ list_all (λ x. list_all test (f x)) xs
all_flat test f [] = refl
all_flat test f (x ∷ xs) =
    list_all-append test (f x) (flat_map f xs) ∙ ap (λ b. list_all test (f x) && b) (all_flat test f xs)

all_alike : {X : Type 0} (P : X → Type 0) (test other : X → Bool) → ((x : X) → P x → test x ≡ other x)
    → (xs : List X) → AllByRecursion P xs → list_all test xs ≡ list_all other xs
all_alike P test other same [] all = refl
all_alike P test other same (x ∷ xs) all =
    ap (λ b. b && list_all test xs) (same x all.0)
    ∙ ap (λ b. other x && b) (all_alike P test other same xs all.1)

all_true : {X : Type 0} (xs : List X) → list_all (λ x. true) xs ≡ true
all_true [] = refl
all_true (x ∷ xs) = all_true xs

-- tests that are alike for each two different elements
module _ {X : Type 0} (P : X → Type 0) (test other : X → X → Bool)
    (same : (x y : X) → P x → P y → x ≢ y → test x y ≡ other x y) where
  pairs_alike : (xs : List X) → AllByRecursion P xs → Pairwise ◌≢◌ xs → every_pair test xs ≡ every_pair other xs
  pairs_alike [] all differ = refl
  pairs_alike (x ∷ xs) all differ =
      ap (λ b. b && every_pair test xs) (all_alike (λ y. P y × x ≢ y) (test x) (other x)
      (λ y p. same x y all.0 p.0 p.1) xs (all_both P (λ y. x ≢ y) xs all.1 differ.0))
      ∙ ap (λ b. list_all (other x) xs && b) (pairs_alike xs all.1 differ.1)

abbrev is_some : Option Decision → Bool
is_some found = elim found as (λ _. Bool) [ None ↦ false | Some decision ↦ true ]

some_decided : (first sets : Ordering) → is_some (decided R1a (or_else (differing 0 first) (differing 1 sets)))
    ≡ not (is_eq (ordering_then first sets))
some_decided Less sets = refl
some_decided Greater sets = refl
some_decided Equal Less = refl
some_decided Equal Equal = refl
some_decided Equal Greater = refl

and_true : (b : Bool) → (b && true) ≡ b
and_true true = refl
and_true false = refl

module _ (setting : LabelContext) (root : ℕ) (sound : IsSound setting.graph) where
  abbrev node : ℕ → Node
  node vertex = real_node vertex (root ∷ [])

  abbrev by_key : ℕ → Node → Node → Ordering
  by_key = by_atoms setting.graph setting.positions root 0

  abbrev answer : VertexPair → BranchPair
  answer one = with_found (found_early setting root) (asked_by (λ vertex. vertex) one)

  abbrev is_answered : VertexPair → Bool
  is_answered one = is_decided (answer one)

  answered_is : (a b : ℕ) → is_answered (pair a b) ≡ not (is_eq (by_key 1 (node a) (node b)))
  answered_is a b =
      let compare : ℕ → Ordering = λ depth. by_key depth (node a) (node b) in
      let is = sets_compared setting.graph setting.positions (node a) (node b) in
      ap (λ found. is_some (decided R1a found)) (first_of_two compare _ is)
      ∙ some_decided (compare 0) _ ∙ sym (ap (λ side. not (is_eq side)) is)

  abbrev pair_if : Ligand → Ligand → List VertexPair
  pair_if LonePair other = []
  pair_if (Vertex a) other = pair_with a other

  abbrev is_asked : Ligand → Ligand → Bool
  is_asked one other = list_all is_answered (pair_if one other)

  asked_at : (ligands : List Ligand) (one : Ligand) → list_all is_answered (pairs_at ligands one)
      ≡ list_all (is_asked one) ligands
  asked_at ligands LonePair = sym (all_true ligands)
  asked_at ligands (Vertex a) = all_flat is_answered (pair_with a) ligands

  each_asked : (ligands : List Ligand) → list_all is_answered (pairs_of ligands) ≡ every_pair is_asked ligands
  each_asked [] = refl
  each_asked (one ∷ ligands) =
      list_all-append is_answered (pairs_at ligands one) (pairs_of ligands)
      ∙ (λ k. asked_at ligands one k && each_asked ligands k)

  abbrev around : List Node
  around = view_children setting.graph setting.positions (root ∷ []) (real_node root [])

  further : (vertex : ℕ) → is_in vertex (neighbours setting.graph root) ≡ true
      → IsFurther setting.graph setting.positions root (node vertex)
  further = neighbour_further setting.graph setting.positions root sound

  abbrev rule : Node → Node → Ordering
  rule = rule_1a (seen_at setting.rules setting.graph setting.positions setting.units root) 1

  abbrev differ : Ligand → Ligand → Bool
  differ one other = not (is_eq (slice_cmp rule (ligand_node around one) (ligand_node around other)))

  stands : (vertex : ℕ) → is_in vertex (neighbours setting.graph root) ≡ true
      → ligand_node around (Vertex vertex) ≡ node vertex ∷ []
  stands vertex beside = one_node setting.graph sound root setting.positions vertex beside

  differ_is : (a b : ℕ) → is_in a (neighbours setting.graph root) ≡ true
      → is_in b (neighbours setting.graph root) ≡ true
      → differ (Vertex a) (Vertex b) ≡ not (is_eq (by_key 1 (node a) (node b)))
  differ_is a b by_a by_b =
      ap (λ nodes. not (is_eq (slice_cmp rule nodes (ligand_node around (Vertex b))))) (stands a by_a)
      ∙ ap (λ nodes. not (is_eq (slice_cmp rule (node a ∷ []) nodes))) (stands b by_b)
      ∙ ap (λ side. not (is_eq side)) (then_equal (rule (node a) (node b))
      ∙ seen_1a setting.graph setting.positions root setting.rules
      (auxiliary setting.rules setting.graph setting.positions setting.units) 1 (node a) (node b) (further a by_a)
      (further b by_b))

  same : (one other : Ligand) → IsNeighbour setting.graph root one → IsNeighbour setting.graph root other
      → one ≢ other → is_asked one other ≡ differ one other
  same LonePair LonePair p q apart = absurd (apart refl)
  same LonePair (Vertex b) p q apart = sym (ap (λ nodes. not (is_eq (slice_cmp rule [] nodes))) (stands b q))
  same (Vertex a) LonePair p q apart = sym (ap (λ nodes. not (is_eq (slice_cmp rule nodes []))) (stands a p))
  same (Vertex a) (Vertex b) p q apart =
      ap (λ s. list_all is_answered (cond s [] (pair a b ∷ []))) (ne_eqb a b (λ e. apart (ap Vertex e)))
      ∙ and_true (is_answered (pair a b)) ∙ answered_is a b ∙ sym (differ_is a b p q)

  pub decided_is : (ligands : List Ligand) → IsFit setting.graph root ligands
      → list_all is_decided (noted_early setting root ligands)
      ≡ differ_within setting.rules setting.graph setting.positions setting.units (end_at root ligands) 2
  decided_is ligands fit =
      ap (list_all is_decided) (map-map (with_found (found_early setting root)) (asked_by (λ vertex. vertex))
      (pairs_of ligands))
      ∙ list_all-map is_decided answer (pairs_of ligands) ∙ each_asked ligands
      ∙ pairs_alike (IsNeighbour setting.graph root) is_asked differ same ligands
      (by_recursion (IsNeighbour setting.graph root) ligands fit.beside)
      (pairwise_from_pairs ◌≢◌ ligands fit.different)
      ∙ pairs_by (ligand_node around) (λ xs ys. not (is_eq (slice_cmp rule xs ys))) differ (λ x y. refl) ligands
