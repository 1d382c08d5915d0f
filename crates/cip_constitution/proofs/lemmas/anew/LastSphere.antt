-- Ligands that are alike within the last sphere were so before, but where a branch has its last nodes in it.
use Rattle.std.proofs.Common.{◌≡◌, ◌<◌, ◌≤◌, ◌+◌, ◌-◌, ◌&&◌, ◌||◌, ◌∷◌, ℕ, ℤ, suc, pos, Bool, true, false, not, List}
use Rattle.std.proofs.Common.{[], map, length, None, Some, slice_index, refl, sym, ap, ◌∙◌, subst, arith, inl, inr}
use Rattle.std.specs.declared.option.Option.{Option}
use Rattle.std.specs.declared.cmp.Ordering.{Ordering}
use Rattle.std.specs.List.{AllByRecursion, list_any}
use Rattle.std.specs.Ordering.{is_eq, nat_cmp}
use Rattle.std.specs.Cmp.Lexicographic.{slice_cmp}
use Rattle.std.proofs.lemmas.Bool.{or_cases, or_left, or_right, and_parts, false_from_ne_true, both_ways, cases_lt}
use Rattle.std.proofs.lemmas.List.Folds.{list_any-append}
use Rattle.cip_rank.specs.Comparison.{comparison}
use Rattle.cip_rank.specs.declared.rules.Rules.{Rules}
use Rattle.cip_mol.specs.declared.site.Ligand.{Ligand}
use Rattle.cip_mol.specs.declared.site.Unit as units
use Rattle.cip_branches.specs.Deciding.{Branched}
use Rattle.cip_partition.specs.Parting.{has_flag}
use Rattle.cip_branches.specs.Ruled.{IsWanted}
use Rattle.cip_digraph.specs.rules.Auxiliary.{ligand_node}
use Rattle.cip_digraph.specs.outcome.Deciding.{is_empty, nodes_below, nodes_within}
use Rattle.cip_digraph.specs.digraph.Digraph.{Node, real_node, children, digraph, sphere}
use Rattle.cip_digraph.specs.rules.EarlyOrder.{seen_at, are_alike_within}
use Rattle.cip_digraph.specs.units.Ends.{end_at}
use Rattle.cip_digraph.specs.graph.Graph.{Graph}
use Rattle.cip_digraph.specs.rules.Keys.{atomic_key}
use Rattle.cip_digraph.specs.rules.Orders.{all_tie, rule_2}
use Rattle.cip_digraph.specs.outcome.Outcomes.{is_in_unit}
use Rattle.cip_digraph.specs.units.Ranked.{some_pair}
use Rattle.cip_digraph.specs.graph.SoundGraphs.{IsSound}
use Rattle.cip_digraph.specs.digraph.SameBranch.{EndsWithin}
use Rattle.cip_digraph.specs.digraph.Telling.{node_at}
use Rattle.cip_digraph.specs.digraph.View.{view_children}
use Rattle.cip_digraph.proofs.lemmas.numbered.PlaceTrees.{count_is}
use Rattle.cip_digraph.proofs.lemmas.ties.Settled.{none_left}
use Rattle.cip_arena.specs.Growth.{Growth, Holds}
use Rattle.cip_constitution.specs.Alike.{is_closed_ligand}
use Rattle.cip_constitution.specs.Ending.{GoesOn, EndedBefore, ElsewhereBy, LigandEndsElsewhere, NotAnew, EachPair}
use Rattle.cip_constitution.specs.Following.{named, numbers_of, Follows}
use Rattle.cip_constitution.specs.Standing.{ligand_number, differ_told}
use Rattle.cip_constitution.proofs.lemmas.node_data.Alike.{test_of, alike_tied}
use Rattle.cip_constitution.proofs.lemmas.closed.Branches.{seen_below}
use Rattle.cip_constitution.proofs.lemmas.settled.DecidingSphere.{nothing_below}
use Rattle.cip_constitution.proofs.lemmas.node_data.Differ.{IsFirst, LigandAt, ligand_at, OrderFirst}
use Rattle.cip_constitution.proofs.lemmas.anew.Ended.{ends_before, ends_below}
use Rattle.cip_constitution.proofs.lemmas.followed.Names.{few_spheres, named_is}
use Rattle.cip_constitution.proofs.lemmas.closed.Under.{ended_none, none_ended}

-- the test of two ligands holds of less too
test_before : (e f u v t : Bool) (e2 f2 u2 v2 : Bool) → (e ≡ true → e2 ≡ true) → (f ≡ true → f2 ≡ true)
    → (u2 ≡ true → u ≡ true) → (v2 ≡ true → v ≡ true)
    → test_of (e && f) (t && not (u || v)) ≡ true → test_of (e2 && f2) (t && not (u2 || v2)) ≡ true
test_before true true false false t e2 f2 u2 v2 he hf hu hv h =
    ap (λ b. test_of (b && f2) (t && not (u2 || v2))) (he refl)
    ∙ ap (λ b. test_of b (t && not (u2 || v2))) (hf refl)
    ∙ ap (λ b. t && not (b || v2)) (false_from_ne_true u2 (λ on. both_ways false refl (hu on)))
    ∙ ap (λ b. t && not b) (false_from_ne_true v2 (λ on. both_ways false refl (hv on)))
    ∙ h
test_before true true true v t e2 f2 u2 v2 he hf hu hv h = absurd (both_ways (t && false) (never t) h)
  where
    never : (b : Bool) → (b && false) ≡ false
    never true = refl
    never false = refl
test_before true true false true t e2 f2 u2 v2 he hf hu hv h = absurd (both_ways (t && false) (never t) h)
  where
    never : (b : Bool) → (b && false) ≡ false
    never true = refl
    never false = refl
test_before true false u v t e2 f2 u2 v2 he hf hu hv h = let bad : false ≡ true = h in cc
test_before false f u v t e2 f2 u2 v2 he hf hu hv h = let bad : false ≡ true = h in cc

module _ {X Y : Type 0} (R : X → X → Type 0) (f : X → Y) (now before : Y → Y → Bool) (Q : Type 0)
    (less : (x y : X) → R x y → now (f x) (f y) ≡ true → Q × (before (f x) (f y) ≡ true)) where
  any_less : (x : X) (ys : List X) → AllByRecursion (R x) ys → list_any (now (f x)) (map f ys) ≡ true
      → Q × (list_any (before (f x)) (map f ys) ≡ true)
  any_less x [] all e = let bad : false ≡ true = e in cc
  any_less x (y ∷ ys) all e = elim (or_cases (now (f x) (f y)) (list_any (now (f x)) (map f ys)) e) [
    | inl here ↦
        let was = less x y all.0 here in
        (was.0, or_left (before (f x) (f y)) (list_any (before (f x)) (map f ys)) was.1)
    | inr later ↦
        let was = any_less x ys all.1 later in
        (was.0, or_right (before (f x) (f y)) (list_any (before (f x)) (map f ys)) was.1)
  ]

  pair_less : (xs : List X) → EachPair R xs → some_pair now (map f xs) ≡ true
      → Q × (some_pair before (map f xs) ≡ true)
  pair_less [] all e = let bad : false ≡ true = e in cc
  pair_less (x ∷ xs) all e = elim (or_cases (list_any (now (f x)) (map f xs)) (some_pair now (map f xs)) e) [
    | inl here ↦
        let was = any_less x xs all.0 here in
        (was.0, or_left (list_any (before (f x)) (map f xs)) (some_pair before (map f xs)) was.1)
    | inr later ↦
        let was = pair_less xs all.1 later in
        (was.0, or_right (list_any (before (f x)) (map f xs)) (some_pair before (map f xs)) was.1)
  ]

module _ (g : Graph) (positions : List (List ℕ)) (a : Growth) (h : Holds g positions a) (some : 0 < a.sphere)
    (sound : IsSound g) (fits : length a.nodes ≤ a.bound) (last : 0 < length (sphere g positions a.root a.sphere))
    (branched : Branched) (f : Follows g positions a.root a.bound a.sphere branched) where
  abbrev nodes : List Node
  nodes = digraph g positions a.root a.sphere

  abbrev First : ℕ → Type 0
  First = IsFirst g positions a h some sound

  abbrev key : Node → ℤ
  key node = pos (atomic_key g positions node)

  abbrev name : ℕ → Node
  name = named g positions a.root a.bound

  abbrev at : ℕ
  at = branched.last

  few : a.sphere ≤ a.bound
  few = let lt = few_spheres g positions a.root a.sphere last in let len = h.tells.len in omega (arith, lt, len, fits)

  name_is : (n : ℕ) → n < length nodes → name n ≡ node_at nodes n
  name_is n lt = named_is g positions a.root a.bound a.sphere n few lt

  -- the place of the root's child
  pub branch_in : (n : ℕ) → First n → n - 1 < length branched.unresolved
  branch_in n p =
      let count = f.count in
      let low = p.low in
      let behind = p.behind in
      omega (arith, count, low, behind, count_is g positions a.root 1)

  back : (n : ℕ) → First n → n ≡ suc (n - 1)
  back n p = let behind = p.behind in omega (arith, behind)

  top_is : (n : ℕ) → First n → name (slice_index branched.layers.place_tree.nodes (n - 1)) ≡ node_at nodes n
  top_is n p =
      ap name (f.top (n - 1) (branch_in n p) ∙ sym (back n p))
      ∙ name_is n (let lt = p.within in let len = h.tells.len in omega (arith, lt, len))

  pub number_is : (n : ℕ) → First n
      → slice_index (numbers_of branched) n ≡ slice_index branched.layers.ranked.numbers (n - 1)
  number_is n p = ap (slice_index (numbers_of branched)) (back n p)

  pub order_first : OrderFirst g positions a h some sound (numbers_of branched)
  order_first = record {
    each = λ n m p q.
        let rule : ℕ → Node → Node → Ordering = comparison (children g positions) all_tie key in
        let depth : at ≡ a.sphere - 1 = let e = f.last in omega (arith, e) in
        ap (λ k. nat_cmp k (slice_index (numbers_of branched) m)) (number_is n p)
        ∙ ap (nat_cmp (slice_index branched.layers.ranked.numbers (n - 1))) (number_is m q)
        ∙ f.decided.node_data (n - 1) (m - 1) (branch_in n p) (branch_in m q)
        ∙ ap (λ x. rule at x (name (slice_index branched.layers.place_tree.nodes (m - 1)))) (top_is n p)
        ∙ ap (rule at (node_at nodes n)) (top_is m q)
        ∙ ap (λ d. rule d (node_at nodes n) (node_at nodes m)) depth;
  }

  abbrev Wanted : ℕ → ℕ → Type 0
  Wanted = IsWanted branched.layers branched.unresolved

  top_wanted : (n : ℕ) → First n → has_flag branched.unresolved (n - 1) ≡ true → Wanted 0 (n - 1)
  top_wanted n p flag = record {
    at = f.decided.top (n - 1) (branch_in n p);
    chosen = ap (has_flag branched.unresolved) (f.decided.branch (n - 1) (branch_in n p)) ∙ flag;
  }

  only_top : (n : ℕ) → First n → (place : ℕ) → Wanted 0 place
      → slice_index branched.layers.place_tree.branches place ≡ n - 1 → place ≡ n - 1
  only_top n p place is here = sym (f.decided.branch place (f.decided.only place is.at)) ∙ here

  last_wanted : (place branch : ℕ) → branched.first ≤ place → place < length branched.layers.place_tree.place_parents
      → slice_index branched.layers.place_tree.branches place ≡ branch → has_flag branched.unresolved branch ≡ true
      → Wanted at place
  last_wanted place branch low high here flag =
      let chosen = ap (has_flag branched.unresolved) here ∙ flag in
      record { at = (f.followed.places branched.unresolved).back place low high chosen; chosen = chosen }

  module _ (rules : Rules) (all : List units.Unit) where
    abbrev view : Node → List Node
    view = view_children g positions (a.root ∷ [])

    abbrev ended : ℕ → List Node → Bool
    ended spheres stand = is_empty (nodes_below view spheres stand)

    seen : (n : ℕ) → First n → (k : ℕ)
        → nodes_below view k (node_at nodes n ∷ []) ≡ nodes_below (children g positions) k (node_at nodes n ∷ [])
    seen n p k = seen_below rules g positions all a h some n p.behind p.low p.within p.further k

    no_bool : true ≡ false → ⊥
    no_bool e = cc

    -- a branch that goes on has not ended
    goes_on : (n : ℕ) → First n → has_flag branched.unresolved (n - 1) ≡ true → GoesOn g positions a branched (n - 1)
        → ended a.sphere (node_at nodes n ∷ []) ≡ true → ⊥
    goes_on n p flag on e =
        let sphere_is : a.sphere ≡ suc at = sym f.last in
        let none : nodes_below (children g positions) (suc at) (node_at nodes n ∷ []) ≡ [] =
        ap (λ s. nodes_below (children g positions) s (node_at nodes n ∷ [])) (sym sphere_is) ∙ sym (seen n p a.sphere)
        ∙ none_left (nodes_below view a.sphere (node_at nodes n ∷ [])) e in
        let ends = subst (EndsWithin (children g positions) at) (sym (top_is n p))
        (none_ended (children g positions) at (node_at nodes n) none) in
        let whole : at + 0 ≡ at = omega arith in
        let bare : children g positions (name (slice_index branched.layers.place_tree.nodes on.at)) ≡ [] =
        ends_below (children g positions) all_tie key name branched.layers branched.unresolved at f.decided.ruled (n - 1)
        (n - 1) (only_top n p) ends at 0 on.at whole (last_wanted on.at (n - 1) on.low on.high on.below flag)
        on.below in
        let same = name_is (slice_index branched.layers.place_tree.nodes on.at) (f.keyed.each on.at on.high) in
        no_bool (sym (ap is_empty (ap (children g positions) (sym same) ∙ bare)) ∙ on.some)

    -- one without a place in the last sphere had ended before
    had_ended : (n : ℕ) → First n → has_flag branched.unresolved (n - 1) ≡ true → EndedBefore branched (n - 1)
        → ended (a.sphere - 1) (node_at nodes n ∷ []) ≡ true
    had_ended n p flag before =
        let places = f.followed.places branched.unresolved in
        let none : (place : ℕ) → Wanted at place → slice_index branched.layers.place_tree.branches place ≡ n - 1 → ⊥ =
        λ place is here. before.none place (places.low place is.at) (places.high place is.at) here in
        elim (cases_lt 0 at) [
          | inl further ↦
              let sum : suc 0 + (at - 1) ≡ at = omega (arith, further) in
              let depth : suc (at - 1) ≡ a.sphere - 1 = let e = f.last in omega (arith, e, further) in
              let ends = subst (EndsWithin (children g positions) (at - 1)) (top_is n p)
              (ends_before (children g positions) all_tie key name branched.layers branched.unresolved at f.decided.ruled
              (n - 1) none (at - 1) 0 (n - 1) sum (top_wanted n p flag) (f.decided.branch (n - 1) (branch_in n p))) in
              ap is_empty (seen n p (a.sphere - 1)
              ∙ ap (λ s. nodes_below (children g positions) s (node_at nodes n ∷ [])) (sym depth)
              ∙ ended_none (children g positions) (at - 1) (node_at nodes n) ends)
          | inr first ↦
              let zero_is : 0 ≡ at = omega (arith, first) in
              absurd (none (n - 1) (subst (λ t. Wanted t (n - 1)) zero_is (top_wanted n p flag))
              (f.decided.branch (n - 1) (branch_in n p)))
        ]

    abbrev stand : Ligand → List Node
    stand = ligand_node (view (real_node a.root []))

    ended_by : (o : Option ℕ) (ns : List Node) → LigandAt g positions a h some sound o ns
        → ElsewhereBy g positions a branched o → ended a.sphere ns ≡ true → ended (a.sphere - 1) ns ≡ true
    ended_by None ns none elsewhere e = ap (ended (a.sphere - 1)) none ∙ ap is_empty (nothing_below view (a.sphere - 1))
    ended_by (Some n) ns is elsewhere e =
        let now : ended a.sphere (node_at nodes n ∷ []) ≡ true = sym (ap (ended a.sphere) is.0) ∙ e in
        ap (ended (a.sphere - 1)) is.0 ∙ elim elsewhere.elsewhere [
          | inl on ↦ absurd (goes_on n is.1 elsewhere.unresolved on now)
          | inr before ↦ had_ended n is.1 elsewhere.unresolved before
        ]

    ended_before : (ligand : Ligand) → LigandEndsElsewhere g positions a branched ligand
        → ended a.sphere (stand ligand) ≡ true → ended (a.sphere - 1) (stand ligand) ≡ true
    ended_before ligand elsewhere = ended_by (ligand_number a.nodes ligand) (stand ligand)
        (ligand_at g positions a h some sound ligand) elsewhere

    abbrev holds : ℕ → List Node → Bool
    holds spheres ns = list_any (is_in_unit rules g positions all) (nodes_within view spheres ns)

    holds_more : (ns : List Node) → holds (a.sphere - 1) ns ≡ true → holds a.sphere ns ≡ true
    holds_more ns e =
        let next : suc (a.sphere - 1) ≡ a.sphere = omega (arith, some) in
        subst (λ s. holds s ns ≡ true) next
        (list_any-append (is_in_unit rules g positions all) (nodes_within view (a.sphere - 1) ns)
        (nodes_below view (a.sphere - 1) ns)
        ∙ or_left (holds (a.sphere - 1) ns)
        (list_any (is_in_unit rules g positions all) (nodes_below view (a.sphere - 1) ns)) e)

    module _ (inside : a.root < length g.vertices) (ligands : List Ligand) where
      abbrev alike : ℕ → List Node → List Node → Bool
      alike = are_alike_within rules g positions all (end_at a.root ligands)

      not_both : (b : Bool) → not b ≡ true → b ≡ true → ⊥
      not_both true e t = let bad : false ≡ true = e in cc
      not_both false e t = let bad : false ≡ true = t in cc

      pair_before : (x y : Ligand) → NotAnew rules g positions all a branched x y
          → alike a.sphere (stand x) (stand y) ≡ true
          → (1 < a.sphere) × (alike (a.sphere - 1) (stand x) (stand y) ≡ true)
      pair_before x y anew now =
          let node_data = alike_tied rules g positions all a h some sound inside (numbers_of branched) order_first ligands x
          y now in
          let differ = differ_told (numbers_of branched) a.nodes x y in
          let closed_y = is_closed_ligand rules g positions all a y in
          let one = and_parts (is_closed_ligand rules g positions all a x) (closed_y && not differ) node_data in
          let two = and_parts closed_y (not differ) one.1 in
          elim anew [
            | inl apart ↦ absurd (not_both differ two.1 apart)
            | inr (inl elsewhere) ↦ (
              elsewhere.0,
              test_before (ended a.sphere (stand x)) (ended a.sphere (stand y)) (holds a.sphere (stand x))
                  (holds a.sphere (stand y))
                  (is_eq (slice_cmp (rule_2 (seen_at rules g positions all a.root)
                  (seen_at rules g positions all a.root).height) (stand x) (stand y)))
                  (ended (a.sphere - 1) (stand x)) (ended (a.sphere - 1) (stand y)) (holds (a.sphere - 1) (stand x))
                  (holds (a.sphere - 1) (stand y))
                  (ended_before x elsewhere.1) (ended_before y elsewhere.2) (holds_more (stand x))
                  (holds_more (stand y)) now,
            )
            | inr (inr (inl next_unresolved)) ↦ absurd (both_ways (is_closed_ligand rules g positions all a x) next_unresolved one.0)
            | inr (inr (inr next_unresolved)) ↦ absurd (both_ways closed_y next_unresolved two.0)
          ]

      pub none_anew : EachPair (NotAnew rules g positions all a branched) ligands
          → (1 < a.sphere → some_pair (alike (a.sphere - 1)) (map stand ligands) ≡ false)
          → some_pair (alike a.sphere) (map stand ligands) ≡ false
      none_anew pairs none =
          false_from_ne_true (some_pair (alike a.sphere) (map stand ligands)) (λ now.
          let was = pair_less (NotAnew rules g positions all a branched) stand (alike a.sphere) (alike (a.sphere - 1))
          (1 < a.sphere) pair_before ligands pairs now in
          both_ways (some_pair (alike (a.sphere - 1)) (map stand ligands)) (none was.0) was.1)
