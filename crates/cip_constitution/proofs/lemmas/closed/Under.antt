-- The nodes below one, by the parents of all.
use Rattle.std.proofs.Common.{◌≡◌, ◌<◌, ◌≤◌, ◌+◌, ◌==◌, ◌&&◌, ◌||◌, ℕ, zero, suc, Bool, true, false, cond, not, List}
use Rattle.std.proofs.Common.{[], ◌∷◌, ◌++◌, length, slice_index, refl, sym, ap, ◌∙◌, subst, arith, inl, inr}
use Rattle.std.specs.Prelude.{flat_map}
use Rattle.std.specs.List.{AllByRecursion}
use Rattle.std.proofs.lemmas.Bool.{or_cases, or_left, or_right, eqb-true, eq-eqb, ne_eqb}
use Rattle.std.proofs.lemmas.List.Folds.{list_any-append}
use Rattle.cip_rank.specs.Tree.{IsTree, children_from, children_of}
use Rattle.cip_rank.proofs.lemmas.Children.{IsChild, children_are}
use Rattle.cip_digraph.specs.rings.Alternating.{is_in}
use Rattle.cip_digraph.specs.outcome.Deciding.{nodes_below}
use Rattle.cip_digraph.specs.digraph.SameBranch.{EndsWithin}
use Rattle.cip_digraph.proofs.lemmas.tree.Branches.{one_further, none_below, each_ends}
use Rattle.cip_digraph.proofs.lemmas.lists.Elements.{all_by, all_flat}
use Rattle.cip_constitution.specs.Closing.{is_under_on, is_under}

module _ {N : Type 0} (below : N → List N) where
  all_ended : (d : ℕ) (ns : List N) → AllByRecursion (EndsWithin below d) ns → nodes_below below (suc d) ns ≡ []
  all_ended zero [] all = refl
  all_ended zero (n ∷ ns) all = ap (λ xs. xs ++ flat_map below ns) all.0 ∙ all_ended zero ns all.1
  all_ended (suc d) ns all =
      one_further below (suc d) ns ∙ all_ended d (flat_map below ns) (all_flat (EndsWithin below (suc d))
      (EndsWithin below d) below (λ n h. h) ns all)

  -- n spheres below a node there is none where it ends within one less
  pub ended_none : (d : ℕ) (n : N) → EndsWithin below d n → nodes_below below (suc d) (n ∷ []) ≡ []
  ended_none d n h = all_ended d (n ∷ []) (h, tt)

  none_ended_all : (d : ℕ) (ns : List N) → nodes_below below (suc d) ns ≡ [] → AllByRecursion (EndsWithin below d) ns
  none_ended_all zero ns e = none_below below ns e
  none_ended_all (suc d) ns e = each_ends below d ns (none_ended_all d (flat_map below ns)
      (sym (one_further below (suc d) ns) ∙ e))

  pub none_ended : (d : ℕ) (n : N) → nodes_below below (suc d) (n ∷ []) ≡ [] → EndsWithin below d n
  none_ended d n e = (none_ended_all d (n ∷ []) e).0

-- what holds of all holds of each
pub member : (P : ℕ → Type 0) (xs : List ℕ) (m : ℕ) → AllByRecursion P xs → is_in m xs ≡ true → P m
member P [] m all e = let bad : false ≡ true = e in cc
member P (x ∷ xs) m all e = elim (or_cases (x == m) (is_in m xs) e) [
  | inl here ↦ subst P (eqb-true x m here) all.0
  | inr later ↦ member P xs m all.1 later
]

flat_member : (f : ℕ → List ℕ) (xs : List ℕ) (p m : ℕ) → is_in p xs ≡ true → is_in m (f p) ≡ true
    → is_in m (flat_map f xs) ≡ true
flat_member f [] p m e h = let bad : false ≡ true = e in cc
flat_member f (x ∷ xs) p m e h =
    list_any-append (λ other. other == m) (f x) (flat_map f xs)
    ∙ elim (or_cases (x == p) (is_in p xs) e) [
      | inl here ↦ or_left (is_in m (f x)) (is_in m (flat_map f xs)) (subst (λ q. is_in m (f q) ≡ true)
          (sym (eqb-true x p here)) h)
      | inr later ↦ or_right (is_in m (f x)) (is_in m (flat_map f xs)) (flat_member f xs p m later h)
    ]

in_by : (b : Bool) (i m : ℕ) (xs : List ℕ) → is_in m xs ≡ true → is_in m (cond b (i ∷ xs) xs) ≡ true
in_by true i m xs e = or_right (i == m) (is_in m xs) e
in_by false i m xs e = e

child_from : (i : ℕ) (parents : List ℕ) (k node : ℕ) → k < length parents → slice_index parents k ≡ node
    → is_in (i + k) (children_from i parents node) ≡ true
child_from i [] k node lt e = absurd (omega (arith, lt))
child_from i (p ∷ parents) zero node lt e =
    let same : i ≡ i + 0 = omega arith in
    ap (λ b. is_in (i + 0) (cond b (i ∷ children_from (i + 1) parents node) (children_from (i + 1) parents node)))
    (eq-eqb p node e)
    ∙ or_left (i == i + 0) (is_in (i + 0) (children_from (i + 1) parents node)) (eq-eqb i (i + 0) same)
child_from i (p ∷ parents) (suc k) node lt e =
    let next : i + 1 + k ≡ i + suc k = omega arith in
    in_by (p == node) i (i + suc k) (children_from (i + 1) parents node)
    (subst (λ n. is_in n (children_from (i + 1) parents node) ≡ true) next (child_from (i + 1) parents k node
    (omega (arith, lt)) e))

-- a node is among the children of its parent
pub is_child : (parents : List ℕ) (m : ℕ) → 0 < m → m < length parents
    → is_in m (children_of parents (slice_index parents m)) ≡ true
is_child [] m some lt = absurd (omega (arith, lt))
is_child (root ∷ parents) zero some lt = absurd (omega arith)
is_child (root ∷ parents) (suc m) some lt =
    let at : 1 + m ≡ suc m = omega arith in
    subst (λ n. is_in n (children_from 1 parents (slice_index parents m)) ≡ true) at
    (child_from 1 parents m (slice_index parents m) (omega (arith, lt)) refl)

module _ (parents : List ℕ) (tree : IsTree parents) (node : ℕ) where
  not_zero : (at : ℕ) → not (at == 0) ≡ true → 0 < at
  not_zero zero e = let bad : false ≡ true = e in cc
  not_zero (suc at) e = omega arith

  enough_by : (b : Bool) (at : ℕ) (x y : Bool) → b ≡ not (at == 0) → (0 < at → x ≡ y) → (b && x) ≡ (b && y)
  enough_by true at x y e h = h (not_zero at (sym e))
  enough_by false at x y e h = refl

  enough : (k m at : ℕ) → at < length parents → at ≤ k → at ≤ m → is_under_on parents node k at ≡ is_under_on parents
      node m at
  enough zero zero at lt a b = refl
  enough zero (suc m) at lt a b = let none : at ≡ 0 = omega arith in
      subst (λ i. is_under_on parents node zero i ≡ is_under_on parents node (suc m) i) (sym none) (at_root (0 == node))
    where
      at_root : (b : Bool) → b ≡ (b || false)
      at_root true = refl
      at_root false = refl
  enough (suc k) zero at lt a b = let none : at ≡ 0 = omega arith in
      subst (λ i. is_under_on parents node (suc k) i ≡ is_under_on parents node zero i) (sym none) (at_root (0 == node))
    where
      at_root : (b : Bool) → (b || false) ≡ b
      at_root true = refl
      at_root false = refl
  enough (suc k) (suc m) at lt a b =
      ap (λ x. (at == node) || x) (enough_by (not (at == 0)) at (is_under_on parents node k (slice_index parents at))
      (is_under_on parents node m (slice_index parents at)) refl (λ some.
      let parent_place = tree.behind at some lt in
      enough k m (slice_index parents at) (omega (arith, parent_place, lt)) (omega (arith, parent_place, a)) (omega (arith, parent_place, b))))

  pub under_step : (at : ℕ) → 0 < at → at < length parents → is_under parents node at ≡ ((at == node) || is_under
      parents node (slice_index parents at))
  under_step zero some lt = absurd (omega arith)
  under_step (suc at) some lt =
      let parent_place = tree.behind (suc at) some lt in
      ap (λ b. (suc at == node) || (not b && is_under_on parents node at (slice_index parents (suc at))))
      (ne_eqb (suc at) 0 (λ e. absurd (omega (arith, e))))
      ∙ ap (λ x. (suc at == node) || x) (enough at (slice_index parents (suc at)) (slice_index parents (suc at))
      (omega (arith, parent_place, lt)) (omega (arith, parent_place)) (omega arith))

  under_itself : is_under parents node node ≡ true
  under_itself = by node
    where
      by : (more : ℕ) → is_under_on parents node more node ≡ true
      by zero = eq-eqb node node refl
      by (suc more) = or_left (node == node) (not (node == 0) && is_under_on parents node more
          (slice_index parents node)) (eq-eqb node node refl)

  abbrev pub IsBelow : ℕ → Type 0
  IsBelow at = (is_under parents node at ≡ true) × (at < length parents)

  pub below_under : node < length parents → (k : ℕ) → AllByRecursion IsBelow (nodes_below (children_of parents) k
      (node ∷ []))
  below_under lt zero = ((under_itself, lt), tt)
  below_under lt (suc k) =
      all_flat IsBelow IsBelow (children_of parents)
      (λ at h. all_by (IsChild parents at) IsBelow
      (λ c is. (
        under_step c is.behind is.below ∙ or_right (c == node) (is_under parents node (slice_index parents c))
            (subst (λ p. is_under parents node p ≡ true) (sym is.parent) h.0),
        is.below,
      ))
      (children_of parents at) (children_are parents at))
      (nodes_below (children_of parents) k (node ∷ [])) (below_under lt k)

  -- and each node that is under is n spheres below
  reach : (most at : ℕ) → at ≤ most → at < length parents → is_under parents node at ≡ true
      → (k : ℕ) × (is_in at (nodes_below (children_of parents) k (node ∷ [])) ≡ true)
  reach most zero le lt e = (0, or_left (node == 0) false (eq-eqb node 0 (sym (eqb-true 0 node e))))
  reach zero (suc at) le lt e = absurd (omega arith)
  reach (suc most) (suc at) le lt e =
      elim (or_cases (suc at == node) (is_under parents node (slice_index parents (suc at)))
      (sym (under_step (suc at) (omega arith) lt) ∙ e)) [
        | inl here ↦ (0, or_left (node == suc at) false (eq-eqb node (suc at) (sym (eqb-true (suc at) node here))))
        | inr parent_place ↦
            let above = tree.behind (suc at) (omega arith) lt in
            let found = reach most (slice_index parents (suc at)) (omega (arith, above, le)) (omega (arith, above, lt))
            parent_place in (
              suc found.0,
              flat_member (children_of parents) (nodes_below (children_of parents) found.0 (node ∷ []))
                  (slice_index parents (suc at)) (suc at) found.1 (is_child parents (suc at) (omega arith) lt),
            )
      ]

  pub under_reached : (at : ℕ) → at < length parents → is_under parents node at ≡ true
      → (k : ℕ) × (is_in at (nodes_below (children_of parents) k (node ∷ [])) ≡ true)
  under_reached at lt e = reach at at (omega arith) lt e
