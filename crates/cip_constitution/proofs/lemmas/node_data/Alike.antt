-- Numbers by Rules 1a, 1b and 2 say which closed ligands are alike.
use Rattle.std.proofs.Common.{◌≡◌, ◌<◌, ◌-◌, ◌==◌, ◌&&◌, ◌||◌, ℕ, ℤ, zero, suc, pos, Bool, true, false, not, List, []}
use Rattle.std.proofs.Common.{◌∷◌, map, length, None, Some, slice_index, refl, sym, ap, ◌∙◌, subst, arith}
use Rattle.std.specs.declared.option.Option.{Option}
use Rattle.std.specs.declared.cmp.Ordering.{Ordering}
use Rattle.std.specs.declared.cmp.Ordering.TheVariants.{Less, Equal, Greater}
use Rattle.std.specs.Cmp.Lexicographic.{slice_cmp}
use Rattle.std.specs.List.{AllByRecursion, list_any}
use Rattle.std.specs.Ordering.{is_eq, int_cmp, ordering_then}
use Rattle.std.proofs.lemmas.Bool.{and_parts, both_ways}
use Rattle.cip_rank.specs.Comparison.{sets, comparison}
use Rattle.cip_rank.specs.Ranking.{by_number}
use Rattle.cip_rank.specs.declared.rules.Rules.{Rules}
use Rattle.cip_rank.proofs.lemmas.RestOnTies.{both_tie}
use Rattle.cip_mol.specs.declared.site.Ligand.{Ligand}
use Rattle.cip_mol.specs.declared.site.Ligand.TheVariants.{Vertex, LonePair}
use Rattle.cip_mol.specs.declared.site.Unit as units
use Rattle.cip_digraph.specs.rules.Auxiliary.{stands_for, ligand_node, auxiliary}
use Rattle.cip_digraph.specs.outcome.Deciding.{is_empty, nodes_below, nodes_within}
use Rattle.cip_digraph.specs.digraph.Digraph.{Node, real_node, children, digraph}
use Rattle.cip_digraph.specs.rules.EarlyOrder.{seen_at, are_alike_within}
use Rattle.cip_digraph.specs.units.Ends.{end_at}
use Rattle.cip_digraph.specs.graph.Graph.{Graph}
use Rattle.cip_digraph.specs.rules.Keys.{mass_key, distance_key, sphere_in_digraph, lower_precedes}
use Rattle.cip_digraph.specs.rules.Orders.{rule_2}
use Rattle.cip_digraph.specs.outcome.Outcomes.{is_in_unit}
use Rattle.cip_digraph.specs.units.Ranked.{some_pair}
use Rattle.cip_digraph.specs.digraph.SameBranch.{EndsWithin}
use Rattle.cip_digraph.specs.graph.SoundGraphs.{IsSound}
use Rattle.cip_digraph.specs.digraph.Telling.{node_at}
use Rattle.cip_digraph.specs.digraph.View.{view_children}
use Rattle.cip_digraph.proofs.lemmas.tree.Branches.{at_root, further_out, ligands_end}
use Rattle.cip_digraph.proofs.lemmas.lists.Elements.{all_by, all_filtered}
use Rattle.cip_constitution.proofs.lemmas.seen.Distances.{EndsAt, below_ends}
use Rattle.cip_constitution.proofs.lemmas.seen.Rules.{IsFurther, below_further, IsEnded, by_atoms, by_distances, by_masses}
use Rattle.cip_constitution.proofs.lemmas.seen.Rules.{ended_2}
use Rattle.cip_digraph.proofs.lemmas.ties.Settled.{none_left}
use Rattle.cip_digraph.proofs.lemmas.lists.Elements.{all_both}
use Rattle.cip_arena.specs.Growth.{Growth, Holds}
use Rattle.cip_constitution.specs.Alike.{is_closed_ligand, alike_told}
use Rattle.cip_constitution.specs.Standing.{ligand_number, have_other_ranks, differ_told}
use Rattle.cip_constitution.proofs.lemmas.closed.Branches.{seen_below}
use Rattle.cip_constitution.proofs.lemmas.node_data.Differ.{eq_by_cmp, IsFirst, LigandAt, ligand_at, OrderFirst}
use Rattle.cip_constitution.proofs.lemmas.closed.Under.{none_ended}

-- nodes that tie at a depth tie in the order before
earlier_tie : {N : Type 0} (below : N → List N) (earlier : N → N → Ordering) (key : N → ℤ) (depth : ℕ) (a b : N)
    → comparison below earlier key depth a b ≡ Equal → earlier a b ≡ Equal
unfolding comparison
earlier_tie below earlier key zero a b tie = (both_tie (earlier a b) (int_cmp (key a) (key b)) tie).0
earlier_tie below earlier key (suc depth) a b tie =
    earlier_tie below earlier key depth a b
    (both_tie (comparison below earlier key depth a b) (sets below (comparison below earlier key depth) a b) tie).0

any_by : {X Y : Type 0} (f : X → Y) (p : Y → Bool) (q : X → Bool) → ((x : X) → q x ≡ p (f x)) → (xs : List X)
    → list_any q xs ≡ list_any p (map f xs)
any_by f p q same [] = refl
any_by f p q same (x ∷ xs) = ap (λ b. b || list_any q xs) (same x) ∙ ap (λ b. p (f x) || b) (any_by f p q same xs)

some_by : {X Y : Type 0} (f : X → Y) (p : Y → Y → Bool) (q : X → X → Bool) → ((x y : X) → q x y ≡ p (f x) (f y))
    → (xs : List X) → some_pair q xs ≡ some_pair p (map f xs)
some_by f p q same [] = refl
some_by f p q same (x ∷ xs) =
    ap (λ b. b || some_pair q xs) (any_by f (p (f x)) (q x) (same x) xs) ∙ ap (λ b. list_any (p (f x)) (map f xs) || b)
    (some_by f p q same xs)

-- the test of two ligands: both ended, no atom of a unit, a tie
abbrev pub test_of : Bool → Bool → Bool
test_of ended alike = elim ended as (λ _. Bool) [ true ↦ alike | false ↦ false ]

closed_test : (e f u v t d : Bool) → ((e && not u) ≡ true → (f && not v) ≡ true → t ≡ not d)
    → ((e && not u) && ((f && not v) && not d)) ≡ test_of (e && f) (t && not (u || v))
closed_test true true false false t d h = sym (and_true t ∙ h refl refl)
  where
    and_true : (b : Bool) → (b && true) ≡ b
    and_true true = refl
    and_true false = refl
closed_test true true false true t d h = sym (and_false t)
  where
    and_false : (b : Bool) → (b && false) ≡ false
    and_false true = refl
    and_false false = refl
closed_test true true true v t d h = sym (and_false t)
  where
    and_false : (b : Bool) → (b && false) ≡ false
    and_false true = refl
    and_false false = refl
closed_test true false false v t d h = refl
closed_test true false true v t d h = refl
closed_test false f u v t d h = refl

module _ (rules : Rules) (g : Graph) (positions : List (List ℕ)) (all : List units.Unit) (a : Growth)
    (h : Holds g positions a) (some : 0 < a.sphere) (sound : IsSound g)
    (inside : a.root < length g.vertices) where
  abbrev nodes : List Node
  nodes = digraph g positions a.root a.sphere

  abbrev d : ℕ
  d = a.sphere - 1

  abbrev view : Node → List Node
  view = view_children g positions (a.root ∷ [])

  abbrev high : ℕ
  high = (seen_at rules g positions all a.root).height

  ends_seen : (k : ℕ) (node : Node) → IsFurther g positions a.root node → EndsWithin view k node
      → EndsWithin (children g positions) k node
  ends_seen zero node p e = sym (further_out g positions a.root p.number node p.path) ∙ e
  ends_seen (suc k) node p e =
      let same = further_out g positions a.root p.number node p.path in
      all_by (λ child. IsFurther g positions a.root child × EndsWithin view k child) (EndsWithin (children g positions)
      k) (λ child q. ends_seen k child q.0 q.1) (children g positions node)
      (all_both (IsFurther g positions a.root) (EndsWithin view k) (children g positions node)
      (below_further g positions a.root node p) (subst (AllByRecursion (EndsWithin view k)) same e))

  -- alike ligands are closed and tie
  alike_parts : (e f u v t : Bool) → test_of (e && f) (t && not (u || v)) ≡ true
      → ((e && not u) ≡ true) × (((f && not v) ≡ true) × (t ≡ true))
  alike_parts true true false false t h = (refl, (refl, (and_parts t true h).0))
  alike_parts true true false true t h = absurd (both_ways false refl (and_parts t false h).1)
  alike_parts true true true v t h = absurd (both_ways false refl (and_parts t false h).1)
  alike_parts true false u v t h = let bad : false ≡ true = h in cc
  alike_parts false f u v t h = let bad : false ≡ true = h in cc

  abbrev stand : Ligand → List Node
  stand = ligand_node (view (real_node a.root []))

  abbrev closed_one : Ligand → Bool
  closed_one = is_closed_ligand rules g positions all a

  abbrev rule : Node → Node → Ordering
  rule = rule_2 (seen_at rules g positions all a.root) high

  closed_tie : (ligands : List Ligand) (x y : Ligand) → are_alike_within rules g positions all (end_at a.root ligands)
      a.sphere (stand x) (stand y) ≡ true
      → (closed_one x ≡ true) × ((closed_one y ≡ true) × (is_eq (slice_cmp rule (stand x) (stand y)) ≡ true))
  closed_tie ligands x y e =
      alike_parts (is_empty (nodes_below view a.sphere (stand x))) (is_empty (nodes_below view a.sphere (stand y)))
      (list_any (is_in_unit rules g positions all) (nodes_within view a.sphere (stand x)))
      (list_any (is_in_unit rules g positions all) (nodes_within view a.sphere (stand y)))
      (is_eq (slice_cmp rule (stand x) (stand y))) e

  abbrev First : ℕ → Type 0
  First = IsFirst g positions a h some sound

  abbrev no_further : List Node → Bool
  no_further stand = is_empty (nodes_below view a.sphere stand)

  -- a ligand's node that has ended
  ended_at : (n : ℕ) → First n → no_further (node_at nodes n ∷ []) ≡ true → EndsWithin (children g positions) d
      (node_at nodes n)
  ended_at n p e =
      let next : suc d ≡ a.sphere = omega (arith, some) in
      none_ended (children g positions) d (node_at nodes n)
      (ap (λ s. nodes_below (children g positions) s (node_at nodes n ∷ [])) next
      ∙ sym (seen_below rules g positions all a h some n p.behind p.low p.within p.further a.sphere)
      ∙ none_left (nodes_below view a.sphere (node_at nodes n ∷ [])) e)

  record HasEnd (node : Node) : Type 0 where
    path : EndsAt a.root node.path
    ends : EndsWithin view high node

  abbrev around : List Node
  around = view (real_node a.root [])

  around_has : AllByRecursion HasEnd around
  around_has =
      all_by (λ (node : Node). EndsAt a.root node.path × EndsWithin view high node) HasEnd
      (λ node q. record { path = q.0; ends = q.1 }) around
      (all_both (λ (node : Node). EndsAt a.root node.path) (EndsWithin view high) around
      (subst (AllByRecursion (λ (node : Node). EndsAt a.root node.path)) (sym (at_root g positions a.root))
      (below_ends g positions a.root (real_node a.root []) refl))
      (ligands_end g positions a.root sound inside rules (auxiliary rules g positions all)))

  ligand_has : (ligand : Ligand) → AllByRecursion HasEnd (ligand_node around ligand)
  ligand_has LonePair = tt
  ligand_has (Vertex vertex) = all_filtered HasEnd (stands_for vertex) around around_has

  ended_node : (n : ℕ) → First n → HasEnd (node_at nodes n) → no_further (node_at nodes n ∷ []) ≡ true
      → IsEnded g positions a.root d high (node_at nodes n)
  ended_node n p has e = record {
    further = p.further;
    at = has.path;
    within = ended_at n p e;
    high = ends_seen high
        (node_at nodes n) p.further has.ends;
  }

  then_equal : (r : Ordering) → is_eq (ordering_then r Equal) ≡ is_eq r
  then_equal Less = refl
  then_equal Equal = refl
  then_equal Greater = refl

  -- rank numbers by Rule 1a alone
  module _ (ranks : List ℕ) (ranked : OrderFirst g positions a h some sound ranks) where
    tied_1a : (n m : ℕ) → First n → First m → IsEnded g positions a.root d high (node_at nodes n)
        → IsEnded g positions a.root d high (node_at nodes m) → rule (node_at nodes n) (node_at nodes m) ≡ Equal
        → by_number ranks n m ≡ Equal
    tied_1a n m p q e f tie =
        let x = node_at nodes n in
        let y = node_at nodes m in
        let by_mass = sym (ended_2 g positions a.root d high rules (auxiliary rules g positions all) refl x y e f)
        ∙ tie in
        let by_distance = earlier_tie (children g positions) (by_distances g positions a.root d high rules)
        (λ node. pos (mass_key g node)) d x y by_mass in
        ranked.each n m p q
        ∙ earlier_tie (children g positions) (by_atoms g positions a.root d high)
        (λ node. lower_precedes (distance_key rules sphere_in_digraph node)) d x y by_distance

    equal_from : (r : Ordering) → is_eq r ≡ true → r ≡ Equal
    equal_from Less e = let bad : false ≡ true = e in cc
    equal_from Equal e = refl
    equal_from Greater e = let bad : false ≡ true = e in cc

    tied_by : (x y : Option ℕ) (xs ys : List Node) → LigandAt g positions a h some sound x xs
        → LigandAt g positions a h some sound y ys → AllByRecursion HasEnd xs → AllByRecursion HasEnd ys
        → no_further xs ≡ true → no_further ys ≡ true → is_eq (slice_cmp rule xs ys) ≡ true
        → have_other_ranks ranks x y ≡ false
    tied_by None None xs ys p q s t e f tie = refl
    tied_by None (Some m) xs ys p q s t e f tie =
        sym tie ∙ ap (λ l. is_eq (slice_cmp rule l ys)) p ∙ ap (λ l. is_eq (slice_cmp rule [] l)) q.0
    tied_by (Some n) None xs ys p q s t e f tie =
        sym tie ∙ ap (λ l. is_eq (slice_cmp rule l ys)) p.0
        ∙ ap (λ l. is_eq (slice_cmp rule (node_at nodes n ∷ []) l)) q
    tied_by (Some n) (Some m) xs ys p q s t e f tie =
        let nodes_tie = sym (then_equal (rule (node_at nodes n) (node_at nodes m)))
        ∙ sym (ap (λ l. is_eq (slice_cmp rule (node_at nodes n ∷ []) l)) q.0)
        ∙ sym (ap (λ l. is_eq (slice_cmp rule l ys)) p.0) ∙ tie in
        let numbers_tie = tied_1a n m p.1 q.1
        (ended_node n p.1 (subst (AllByRecursion HasEnd) p.0 s).0 (sym (ap no_further p.0) ∙ e))
        (ended_node m q.1 (subst (AllByRecursion HasEnd) q.0 t).0 (sym (ap no_further q.0) ∙ f))
        (equal_from (rule (node_at nodes n) (node_at nodes m)) nodes_tie) in
        ap not (sym (eq_by_cmp (slice_index ranks n) (slice_index ranks m)) ∙ ap is_eq numbers_tie)

    pub alike_tied : (ligands : List Ligand) (x y : Ligand)
        → are_alike_within rules g positions all (end_at a.root ligands)
        a.sphere (stand x) (stand y) ≡ true → alike_told rules g positions all a ranks x y ≡ true
    alike_tied ligands x y alike =
        let parts = closed_tie ligands x y alike in
        let ended = λ (ligand : Ligand) (closed : closed_one ligand ≡ true). (and_parts (no_further (stand ligand))
        (not (list_any (is_in_unit rules g positions all) (nodes_within view a.sphere (stand ligand)))) closed).0 in
        let differ = tied_by (ligand_number a.nodes x) (ligand_number a.nodes y) (stand x) (stand y)
        (ligand_at g positions a h some sound x) (ligand_at g positions a h some sound y) (ligand_has x) (ligand_has y)
        (ended x parts.0) (ended y parts.1.0) parts.1.1 in
        ap (λ b. b && (closed_one y && not (differ_told ranks a.nodes x y))) parts.0
        ∙ ap (λ b. b && not (differ_told ranks a.nodes x y)) parts.1.0 ∙ ap not differ

  -- numbers that compare ended branches by all three rules
  module _ (r3 : List ℕ) (node_data : (n m : ℕ) → First n → First m → IsEnded g positions a.root d high (node_at nodes n)
      → IsEnded g positions a.root d high (node_at nodes m)
      → by_number r3 n m ≡ by_masses g positions a.root d high rules (node_at nodes n) (node_at nodes m)) where
    rule_is : (n m : ℕ) → First n → First m → IsEnded g positions a.root d high (node_at nodes n) → IsEnded g positions
        a.root d high (node_at nodes m)
        → rule_2 (seen_at rules g positions all a.root) high (node_at nodes n) (node_at nodes m) ≡ by_number r3 n m
    rule_is n m p q e f =
        ended_2 g positions a.root d high rules (auxiliary rules g positions all) refl (node_at nodes n)
        (node_at nodes m) e f
        ∙ sym (node_data n m p q e f)

    not_not : (b : Bool) → b ≡ not (not b)
    not_not true = refl
    not_not false = refl

    tie_by : (x y : Option ℕ) (xs ys : List Node) → LigandAt g positions a h some sound x xs → LigandAt g positions a h
        some sound y ys → AllByRecursion HasEnd xs → AllByRecursion HasEnd ys
        → no_further xs ≡ true → no_further ys ≡ true → is_eq (slice_cmp rule xs ys) ≡ not (have_other_ranks r3 x y)
    tie_by None None xs ys p q s t e f = ap (λ l. is_eq (slice_cmp rule l ys)) p ∙ ap (λ l. is_eq (slice_cmp rule [] l))
        q
    tie_by None (Some m) xs ys p q s t e f = ap (λ l. is_eq (slice_cmp rule l ys)) p
        ∙ ap (λ l. is_eq (slice_cmp rule [] l)) q.0
    tie_by (Some n) None xs ys p q s t e f = ap (λ l. is_eq (slice_cmp rule l ys)) p.0
        ∙ ap (λ l. is_eq (slice_cmp rule (node_at nodes n ∷ []) l)) q
    tie_by (Some n) (Some m) xs ys p q s t e f =
        ap (λ l. is_eq (slice_cmp rule l ys)) p.0 ∙ ap (λ l. is_eq (slice_cmp rule (node_at nodes n ∷ []) l)) q.0
        ∙ then_equal (rule (node_at nodes n) (node_at nodes m))
        ∙ ap is_eq (rule_is n m p.1 q.1
        (ended_node n p.1 (subst (AllByRecursion HasEnd) p.0 s).0 (sym (ap no_further p.0) ∙ e))
        (ended_node m q.1 (subst (AllByRecursion HasEnd) q.0 t).0 (sym (ap no_further q.0) ∙ f)))
        ∙ eq_by_cmp (slice_index r3 n) (slice_index r3 m) ∙ not_not (slice_index r3 n == slice_index r3 m)

    pair_is : (ligands : List Ligand) (x y : Ligand) → alike_told rules g positions all a r3 x y
        ≡ are_alike_within rules g positions all (end_at a.root ligands) a.sphere (ligand_node around x)
        (ligand_node around y)
    pair_is ligands x y =
        let xs = ligand_node around x in
        let ys = ligand_node around y in
        closed_test (no_further xs) (no_further ys) (list_any (is_in_unit rules g positions all)
        (nodes_within view a.sphere xs)) (list_any (is_in_unit rules g positions all) (nodes_within view a.sphere
        ys))
        (is_eq (slice_cmp rule xs ys)) (differ_told r3 a.nodes x y)
        (λ c c2. tie_by (ligand_number a.nodes x) (ligand_number a.nodes y) xs ys (ligand_at g positions a h some sound
        x) (ligand_at g positions a h some sound y) (ligand_has x) (ligand_has y)
        (and_parts (no_further xs) (not (list_any (is_in_unit rules g positions all) (nodes_within view a.sphere xs)))
        c).0
        (and_parts (no_further ys) (not (list_any (is_in_unit rules g positions all) (nodes_within view a.sphere ys)))
        c2).0)

    -- the test by closed branches and rank numbers is the test of the definition
    pub alike_is : (ligands : List Ligand) → some_pair (alike_told rules g positions all a r3) ligands
        ≡ some_pair (are_alike_within rules g positions all (end_at a.root ligands) a.sphere)
        (map (ligand_node around) ligands)
    alike_is ligands =
        some_by (ligand_node around) (are_alike_within rules g positions all (end_at a.root ligands) a.sphere)
        (alike_told rules g positions all a r3) (pair_is ligands) ligands
