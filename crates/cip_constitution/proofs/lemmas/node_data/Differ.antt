-- Rank numbers of the digraph up to a sphere say which ligands differ by Rule 1a within it.
use Rattle.std.proofs.Common.{◌≡◌, ◌<◌, ◌≤◌, ◌-◌, ◌==◌, ◌&&◌, ℕ, zero, suc, pos, Bool, true, false, cond, not, List, []}
use Rattle.std.proofs.Common.{◌∷◌, map, length, None, Some, slice_index, refl, sym, ap, ◌∙◌, subst, arith}
use Rattle.std.specs.Prelude.{filter}
use Rattle.std.specs.declared.option.Option.{Option}
use Rattle.std.specs.declared.cmp.Ordering.{Ordering}
use Rattle.std.specs.declared.cmp.Ordering.TheVariants.{Less, Equal, Greater}
use Rattle.std.specs.List.{AllByRecursion, list_all}
use Rattle.std.specs.Ordering.{is_eq, nat_cmp, ordering_then}
use Rattle.std.specs.Cmp.Lexicographic.{slice_cmp}
use Rattle.std.proofs.lemmas.Bool.Decides.{nat_tests}
use Rattle.cip_rank.specs.Comparison.{comparison}
use Rattle.cip_rank.specs.Ranking.{by_number}
use Rattle.cip_rank.specs.Tree.{children_of}
use Rattle.cip_rank.specs.declared.rules.Rules.{Rules}
use Rattle.cip_rank.proofs.lemmas.Children.{IsChild, children_are}
use Rattle.cip_mol.specs.declared.site.Ligand.{Ligand}
use Rattle.cip_mol.specs.declared.site.Ligand.TheVariants.{Vertex, LonePair}
use Rattle.cip_mol.specs.declared.site.Unit as units
use Rattle.cip_digraph.specs.declared.nodes.NodeKind.{NodeKind}
use Rattle.cip_digraph.specs.declared.nodes.NodeKind.TheVariants.{Real, Closure, Multiple, Delocalised}
use Rattle.cip_digraph.specs.rules.Auxiliary.{stands_for, ligand_node, auxiliary}
use Rattle.cip_digraph.specs.digraph.Digraph.{Node, real_node, duplicate, children, digraph}
use Rattle.cip_digraph.specs.rules.EarlyOrder.{seen_at, differ_within}
use Rattle.cip_digraph.specs.units.Ends.{end_at}
use Rattle.cip_digraph.specs.graph.Graph.{Graph}
use Rattle.cip_digraph.specs.rules.Keys.{atomic_key}
use Rattle.cip_digraph.specs.digraph.NodeList.{told_at, parents_of}
use Rattle.cip_digraph.specs.rules.Orders.{all_tie, rule_1a}
use Rattle.cip_digraph.specs.units.Ranked.{every_pair}
use Rattle.cip_digraph.specs.graph.SoundGraphs.{IsSound}
use Rattle.cip_digraph.specs.digraph.Telling.{node_at, first_of}
use Rattle.cip_digraph.specs.digraph.View.{view_children}
use Rattle.cip_digraph.proofs.lemmas.tree.Branches.{at_root}
use Rattle.cip_digraph.proofs.lemmas.numbered.Cut.{size, size_le, kids_near}
use Rattle.cip_digraph.proofs.lemmas.tree.Ended.{IsPath, Anywhere, leads_anywhere, paths_pass}
use Rattle.cip_digraph.proofs.lemmas.tree.Ligands.{one_at_most}
use Rattle.cip_digraph.proofs.lemmas.lists.Elements.{all_by, all_unmapped}
use Rattle.cip_digraph.proofs.lemmas.numbered.PlaceTrees.{root_first, some_nodes, count_is, told_children}
use Rattle.cip_digraph.proofs.lemmas.numbered.Placing.{placed_parents}
use Rattle.cip_constitution.proofs.lemmas.seen.Rules.{IsFurther, seen_1a}
use Rattle.cip_digraph.proofs.lemmas.lists.Elements.{all_both}
use Rattle.cip_arena.specs.Growth.{Growth, Holds}
use Rattle.cip_constitution.specs.Standing.{stands_told, first_standing, ligand_number, have_other_ranks, differ_told}

-- tests of pairs, one element after the other
all_pairs_by : {X Y : Type 0} (f : X → Y) (p : Y → Bool) (q : X → Bool) → ((x : X) → q x ≡ p (f x)) → (xs : List X)
    → list_all q xs ≡ list_all p (map f xs)
all_pairs_by f p q same [] = refl
all_pairs_by f p q same (x ∷ xs) = ap (λ b. b && list_all q xs) (same x) ∙ ap (λ b. p (f x) && b)
    (all_pairs_by f p q same xs)

pub pairs_by : {X Y : Type 0} (f : X → Y) (p : Y → Y → Bool) (q : X → X → Bool) → ((x y : X) → q x y ≡ p (f x) (f y))
    → (xs : List X) → every_pair q xs ≡ every_pair p (map f xs)
pairs_by f p q same [] = refl
pairs_by f p q same (x ∷ xs) =
    ap (λ b. b && every_pair q xs) (all_pairs_by f (p (f x)) (q x) (same x) xs)
    ∙ ap (λ b. list_all (p (f x)) (map f xs) && b) (pairs_by f p q same xs)

stands_same : (kind : NodeKind) (path : List ℕ) (last vertex : ℕ)
    → stands_for vertex (record { kind = kind; path = path; vertex = last }) ≡ stands_for vertex
    (duplicate kind last [])
stands_same Real path last vertex = refl
stands_same Closure path last vertex = refl
stands_same Multiple path last vertex = refl
stands_same Delocalised path last vertex = refl

pub eq_by_cmp : (i j : ℕ) → is_eq (nat_cmp i j) ≡ (i == j)
eq_by_cmp i j = grind (arith, nat_tests)

module _ (g : Graph) (positions : List (List ℕ)) (a : Growth) (h : Holds g positions a) (some : 0 < a.sphere)
    (sound : IsSound g) where
  abbrev nodes : List Node
  nodes = digraph g positions a.root a.sphere

  stands_is : (n vertex : ℕ) → n < length a.nodes → stands_for vertex (node_at nodes n) ≡ stands_told vertex
      (told_at a.nodes n)
  stands_is n vertex lt =
      let node = node_at nodes n in
      let t = h.tells.each n lt in
      stands_same node.kind node.path node.vertex vertex
      ∙ ap (λ k. stands_for vertex (duplicate k node.vertex [])) (sym t.kind)
      ∙ ap (λ v. stands_for vertex (duplicate (told_at a.nodes n).kind v [])) (sym t.vertex)

  -- a child of the root
  pub record IsFirst (n : ℕ) : Type 0 where
    pub behind : 1 ≤ n
    pub low : n < size g positions a.root 1
    pub within : n < length a.nodes
    pub further : IsFurther g positions a.root (node_at nodes n)

  abbrev pub LigandAt : Option ℕ → List Node → Type 0
  LigandAt None stand = stand ≡ []
  LigandAt (Some n) stand = (stand ≡ node_at nodes n ∷ []) × IsFirst n

  none_of : (xs : List Node) → length xs ≤ 0 → xs ≡ []
  none_of [] le = refl
  none_of (x ∷ xs) le = absurd (omega (arith, le))

  found_by : (b : Bool) (n : ℕ) (rest : List Node) (later : Option ℕ) → IsFirst n
      → length (cond b (node_at nodes n ∷ rest) rest) ≤ 1 → (length rest ≤ 1 → LigandAt later rest)
      → LigandAt (cond b (Some n) later) (cond b (node_at nodes n ∷ rest) rest)
  found_by true n rest later first few go = (ap (λ xs. node_at nodes n ∷ xs) (none_of rest (omega (arith, few))), first)
  found_by false n rest later first few go = go few

  found : (vertex : ℕ) (ns : List ℕ) → AllByRecursion IsFirst ns
      → length (filter (stands_for vertex) (map (node_at nodes) ns)) ≤ 1
      → LigandAt (first_standing a.nodes vertex ns) (filter (stands_for vertex) (map (node_at nodes) ns))
  found vertex [] all few = refl
  found vertex (n ∷ ns) all few =
      let rest = filter (stands_for vertex) (map (node_at nodes) ns) in
      let is = stands_is n vertex all.0.within in
      subst (λ b. LigandAt (cond (stands_told vertex (told_at a.nodes n)) (Some n) (first_standing a.nodes vertex ns))
      (cond b (node_at nodes n ∷ rest) rest)) (sym is)
      (found_by (stands_told vertex (told_at a.nodes n)) n rest (first_standing a.nodes vertex ns) all.0
      (subst (λ b. length (cond b (node_at nodes n ∷ rest) rest) ≤ 1) is few) (found vertex ns all.1))

  inner : 0 < first_of g positions a.root a.sphere
  inner = by a.sphere some
    where
      by : (number : ℕ) → 0 < number → 0 < first_of g positions a.root number
      by zero lt = absurd (omega (arith, lt))
      by (suc before) lt = some_nodes g positions a.root before

  abbrev around : List Node
  around = view_children g positions (a.root ∷ []) (real_node a.root [])

  around_is : map (node_at nodes) (children_of (parents_of a.nodes) 0) ≡ around
  around_is =
      told_children g positions a.root a.sphere a.nodes h.tells 0 inner ∙ ap (children g positions)
      (root_first g positions a.root a.sphere)
      ∙ sym (at_root g positions a.root)

  all_further : AllByRecursion (IsFurther g positions a.root) around
  all_further =
      subst (AllByRecursion (IsFurther g positions a.root)) (sym (at_root g positions a.root))
      (let passes = paths_pass g positions Anywhere (λ vertex _. leads_anywhere g vertex) a.root tt in
      all_by (IsPath Anywhere 1) (IsFurther g positions a.root) (λ node p. record { number = 0; path = p })
      (children g positions (real_node a.root [])) (passes.step 0 (real_node a.root []) passes.at_root))

  numbers_behind : AllByRecursion (λ n. 1 ≤ n) (children_of (parents_of a.nodes) 0)
  numbers_behind = all_by (IsChild (parents_of a.nodes) 0) (λ n. 1 ≤ n) (λ n is. is.behind)
      (children_of (parents_of a.nodes) 0) (children_are (parents_of a.nodes) 0)

  numbers_low : AllByRecursion (λ n. n < size g positions a.root 1) (children_of (parents_of a.nodes) 0)
  numbers_low =
      subst (λ ps. AllByRecursion (λ n. n < size g positions a.root 1) (children_of ps 0)) (placed_parents g positions
      a.root a.sphere ∙ sym h.tells.parents)
      (kids_near g positions a.root a.sphere 0 0 (omega arith))

  few_nodes : size g positions a.root 1 ≤ length a.nodes
  few_nodes = let le = size_le g positions a.root 1 a.sphere (omega (arith, some)) in let len = h.tells.len in
      omega (arith, le, len, count_is g positions a.root a.sphere)

  all_first : AllByRecursion IsFirst (children_of (parents_of a.nodes) 0)
  all_first =
      all_by (λ n. ((1 ≤ n) × (n < size g positions a.root 1)) × IsFurther g positions a.root (node_at nodes n)) IsFirst
      (λ n p. record {
        behind = p.0.0;
        low = p.0.1;
        within = let lt = p.0.1 in omega (arith, lt, few_nodes);
        further = p.1;
      }) (children_of (parents_of a.nodes) 0)
      (all_both (λ n. (1 ≤ n) × (n < size g positions a.root 1)) (λ n. IsFurther g positions a.root (node_at nodes n))
      (children_of (parents_of a.nodes) 0)
      (all_both (λ n. 1 ≤ n) (λ n. n < size g positions a.root 1) (children_of (parents_of a.nodes) 0) numbers_behind
      numbers_low)
      (all_unmapped (IsFurther g positions a.root) (node_at nodes) (children_of (parents_of a.nodes) 0)
      (subst (AllByRecursion (IsFurther g positions a.root)) (sym around_is) all_further)))

  pub ligand_at : (ligand : Ligand) → LigandAt (ligand_number a.nodes ligand) (ligand_node around ligand)
  ligand_at LonePair = refl
  ligand_at (Vertex vertex) =
      subst (λ ns. LigandAt (first_standing a.nodes vertex (children_of (parents_of a.nodes) 0))
      (filter (stands_for vertex) ns)) around_is
      (found vertex (children_of (parents_of a.nodes) 0) all_first
      (subst (λ ns. length (filter (stands_for vertex) ns) ≤ 1) (sym around_is) (one_at_most g positions sound a.root
      (Vertex vertex))))

  -- the numbers of the root's children order them by Rule 1a within the last sphere
  pub record OrderFirst (ranks : List ℕ) : Type 0 where
    pub each : (n m : ℕ) → IsFirst n → IsFirst m
        → by_number ranks n m ≡ comparison (children g positions) all_tie (λ node. pos (atomic_key g positions node))
        (a.sphere - 1) (node_at nodes n) (node_at nodes m)

  module _ (ranks : List ℕ) (ranked : OrderFirst ranks) where
    module _ (rules : Rules) (all : List units.Unit) where
      abbrev rule : Node → Node → Ordering
      rule = rule_1a (seen_at rules g positions all a.root) (a.sphere - 1)

      rule_is : (n m : ℕ) → IsFirst n → IsFirst m → rule (node_at nodes n) (node_at nodes m) ≡ by_number ranks n m
      rule_is n m p q =
          seen_1a g positions a.root rules (auxiliary rules g positions all) (a.sphere - 1) (node_at nodes n)
          (node_at nodes m) p.further q.further
          ∙ sym (ranked.each n m p q)

      then_equal : (r : Ordering) → is_eq (ordering_then r Equal) ≡ is_eq r
      then_equal Less = refl
      then_equal Equal = refl
      then_equal Greater = refl

      pair_by : (x y : Option ℕ) (xs ys : List Node) → LigandAt x xs → LigandAt y ys → have_other_ranks ranks x y ≡ not
          (is_eq (slice_cmp rule xs ys))
      pair_by None None xs ys p q = sym (ap (λ l. not (is_eq (slice_cmp rule l ys))) p
          ∙ ap (λ l. not (is_eq (slice_cmp rule [] l))) q)
      pair_by None (Some m) xs ys p q = sym (ap (λ l. not (is_eq (slice_cmp rule l ys))) p
          ∙ ap (λ l. not (is_eq (slice_cmp rule [] l))) q.0)
      pair_by (Some n) None xs ys p q = sym (ap (λ l. not (is_eq (slice_cmp rule l ys))) p.0
          ∙ ap (λ l. not (is_eq (slice_cmp rule (node_at nodes n ∷ []) l))) q)
      pair_by (Some n) (Some m) xs ys p q =
          sym (ap (λ l. not (is_eq (slice_cmp rule l ys))) p.0
          ∙ ap (λ l. not (is_eq (slice_cmp rule (node_at nodes n ∷ []) l))) q.0
          ∙ ap not (then_equal (rule (node_at nodes n) (node_at nodes m)) ∙ ap is_eq (rule_is n m p.1 q.1)
          ∙ eq_by_cmp (slice_index ranks n) (slice_index ranks m)))

      -- the test by rank numbers is the test of the definition
      pub differ_is : (ligands : List Ligand) → every_pair (differ_told ranks a.nodes) ligands ≡ differ_within rules g
          positions all (end_at a.root ligands) a.sphere
      differ_is ligands =
          pairs_by (ligand_node around) (λ xs ys. not (is_eq (slice_cmp rule xs ys))) (differ_told ranks a.nodes)
          (λ x y. pair_by (ligand_number a.nodes x) (ligand_number a.nodes y) (ligand_node around x)
          (ligand_node around y) (ligand_at x) (ligand_at y)) ligands
