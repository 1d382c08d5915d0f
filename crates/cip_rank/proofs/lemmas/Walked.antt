-- What a walk in order of spheres has come to.
use Rattle.std.proofs.Common.{◌≡◌, ℕ, zero, suc, ◌+◌, ◌<◌, ◌≤◌, ◌==◌, Bool, true, false, not, cond, List, ◌∷◌, ◌++◌, filter, length, slice_index, refl, sym, ap, ◌∙◌, arith, subst, inl, inr}
use Rattle.std.specs.List.{flat_map, AllByRecursion}
use Rattle.std.proofs.lemmas.Bool.{both_ways, cases_order, cases_eq, cases_Bool}
use Rattle.cip_rank.specs.Tree.{IsTree, children_of}
use Rattle.cip_rank.proofs.lemmas.Descending.{all_by}
use Rattle.cip_rank.specs.View.{on_way, parent_list, children_seen}
use Rattle.cip_rank.proofs.lemmas.Way.{Above, to_above, from_above, start, above_le, closed, once}
use Rattle.cip_rank.proofs.lemmas.Times.{one_if, times, off, on, times_append, times_flat, times_flat_none, times_children, times_children_zero, times_kept, times_gone, times_root, times_parent, times_parent_none}

pub root_above : (ps : List ℕ) → IsTree ps → (k n : ℕ) → n ≤ k → n < length ps → Above ps k n 0
root_above ps tree zero n le h = omega arith
root_above ps tree (suc k) n le h = elim (cases_order 0 n) [
  | inl z ↦ inl (sym z)
  | inr (inl some) ↦ let earlier : slice_index ps n < n = tree.behind n some h in inr (some, root_above ps tree k (slice_index ps n) (omega arith) (omega arith))
  | inr (inr less) ↦ absurd (omega arith)
]

module _ (ps : List ℕ) (tree : IsTree ps) (from : ℕ) (inside : from < length ps) where
  way : ℕ → Bool
  way = on_way ps from

  to : (x : ℕ) → way x ≡ true → Above ps from from x
  unfolding way on_way
  to x h = to_above ps from from x h

  back : (x : ℕ) → Above ps from from x → way x ≡ true
  unfolding way on_way
  back x h = from_above ps from from x h

  at_from : way from ≡ true
  at_from = back from (start ps from from from refl)

  at_root : way 0 ≡ true
  at_root = back 0 (root_above ps tree from from (omega arith) inside)

  low : (x : ℕ) → way x ≡ true → x ≤ from
  low x h = above_le ps tree from from x inside (to x h)

  up : (x : ℕ) → way x ≡ true → 0 < x → way (slice_index ps x) ≡ true
  up x h some = back (slice_index ps x) (closed ps tree from from x inside (omega arith) (to x h) some)

  one : (a b : ℕ) → way a ≡ true → way b ≡ true → 0 < a → 0 < b → slice_index ps a ≡ slice_index ps b → a ≡ b
  one a b ha hb some more same = once ps tree from from a b inside (to a ha) (to b hb) some more same

  -- a node off the way is among the children of its parent alone
  off_by : (x n : ℕ) → x < length ps → way x ≡ false → (b : Bool) → way n ≡ b → times x (cond b (filter (λ c. not (way c)) (children_of ps n) ++ parent_list ps n) (children_of ps n)) ≡ one_if (slice_index ps x == n)
  off_by x n h no_ b e = elim (cases_order 0 x) [
    | inl z ↦ absurd (both_ways (way x) no_ (ap way (sym z) ∙ at_root))
    | inr (inl some) ↦ by b e some
    | inr (inr less) ↦ absurd (omega arith)
  ]
    where
      by : (b : Bool) → way n ≡ b → 0 < x → times x (cond b (filter (λ c. not (way c)) (children_of ps n) ++ parent_list ps n) (children_of ps n)) ≡ one_if (slice_index ps x == n)
      by true e some = omega (
        arith,
        times_append x (filter (λ c. not (way c)) (children_of ps n)) (parent_list ps n),
        times_kept way x no_ (children_of ps n),
        times_children ps n x some h,
        times_parent_none ps n x (λ more same. both_ways (way x) no_ (ap way same ∙ up n e more)),
      )
      by false e some = times_children ps n x some h

  -- the new root is among no children
  root_by : (n : ℕ) → n < length ps → (b : Bool) → way n ≡ b → times from (cond b (filter (λ c. not (way c)) (children_of ps n) ++ parent_list ps n) (children_of ps n)) ≡ 0
  root_by n h true e = omega (
    arith,
    times_append from (filter (λ c. not (way c)) (children_of ps n)) (parent_list ps n),
    times_gone way from at_from (children_of ps n),
    times_parent_none ps n from (λ more same. absurd (omega (arith, tree.behind n more h, low n e, same))),
  )
  root_by n h false e = elim (cases_order 0 from) [
    | inl z ↦ subst (λ k. times k (children_of ps n) ≡ 0) z (times_children_zero ps n)
    | inr (inl some) ↦ times_children ps n from some inside ∙ off (slice_index ps from) n (λ same. both_ways (way n) e (ap way (sym same) ∙ up from at_from some))
    | inr (inr less) ↦ absurd (omega arith)
  ]

  -- the parent of one on the way is among the children of that one alone
  up_by : (w n : ℕ) → way w ≡ true → 0 < w → n < length ps → (b : Bool) → way n ≡ b → times (slice_index ps w) (cond b (filter (λ c. not (way c)) (children_of ps n) ++ parent_list ps n) (children_of ps n)) ≡ one_if (w == n)
  up_by w n hw some h true e =
      let x = slice_index ps w in
      let gone : times x (filter (λ c. not (way c)) (children_of ps n)) ≡ 0 = times_gone way x (up w hw some) (children_of ps n) in
      let both = times_append x (filter (λ c. not (way c)) (children_of ps n)) (parent_list ps n) in
      elim (cases_order 0 n) [
        | inl z ↦ let none : one_if (w == n) ≡ 0 = off w n (λ same. absurd (omega (arith, same, z, some))) in let top = times_root ps n x (sym z) in omega (arith, gone, both, none, top)
        | inr (inl more) ↦
            let parent : times x (parent_list ps n) ≡ one_if (x == slice_index ps n) = times_parent ps n x more in
            elim (cases_eq w n) [
              | inl same ↦ omega (arith, gone, both, parent, on w n same, on x (slice_index ps n) (ap (slice_index ps) same))
              | inr ne ↦ omega (arith, gone, both, parent, off w n ne, off x (slice_index ps n) (λ same. ne (one w n hw e some more same)))
            ]
        | inr (inr less) ↦ absurd (omega arith)
      ]
  up_by w n hw some h false e =
      let x = slice_index ps w in
      let none : one_if (w == n) ≡ 0 = off w n (λ same. both_ways (way n) e (ap way (sym same) ∙ hw)) in
      let small : x < w = tree.behind w some (let le = low w hw in omega arith) in
      let le : w ≤ from = low w hw in
      elim (cases_order 0 x) [
        | inl z ↦ subst (λ k. times k (children_of ps n) ≡ 0) z (times_children_zero ps n) ∙ sym none
        | inr (inl more) ↦ times_children ps n x more (omega arith) ∙ off (slice_index ps x) n (λ same. both_ways (way n) e (ap way (sym same) ∙ up x (up w hw some) more)) ∙ sym none
        | inr (inr less) ↦ absurd (omega arith)
      ]

  module _ (walked done : List ℕ) (is : walked ≡ from ∷ flat_map (children_seen ps from) done) (below : AllByRecursion (λ n. n < length ps) done)
      (P : ℕ → Type 0) (start_ : P 1) (go : (n : ℕ) → P (times n walked) → P (times n done)) where
    at_start : times from walked ≡ 1
    unfolding children_seen way
    at_start =
        let none : times from (flat_map (children_seen ps from) done) ≡ 0 = times_flat_none from (children_seen ps from) done (all_by (λ n h. root_by n h (way n) refl) done below) in
        ap (times from) is ∙ omega (arith, none, on from from refl)

    at_off : (x : ℕ) → x < length ps → way x ≡ false → times x walked ≡ times (slice_index ps x) done
    unfolding children_seen way
    at_off x h no_ =
        let rest : times x (flat_map (children_seen ps from) done) ≡ times (slice_index ps x) done = times_flat x (slice_index ps x) (children_seen ps from) done (all_by (λ n hn. off_by x n h no_ (way n) refl) done below) in
        let none : one_if (x == from) ≡ 0 = off x from (λ same. both_ways (way x) no_ (ap way same ∙ at_from)) in
        ap (times x) is ∙ omega (arith, none, rest)

    at_up : (w : ℕ) → way w ≡ true → 0 < w → times (slice_index ps w) walked ≡ times w done
    unfolding children_seen way
    at_up w hw some =
        let le : w ≤ from = low w hw in
        let small : slice_index ps w < w = tree.behind w some (omega arith) in
        let rest : times (slice_index ps w) (flat_map (children_seen ps from) done) ≡ times w done = times_flat (slice_index ps w) w (children_seen ps from) done (all_by (λ n hn. up_by w n hw some hn (way n) refl) done below) in
        let none : one_if (slice_index ps w == from) ≡ 0 = off (slice_index ps w) from (λ same. absurd (omega (arith, same, small, le))) in
        ap (times (slice_index ps w)) is ∙ omega (arith, none, rest)

    on_each : (k n x : ℕ) → n < length ps → way n ≡ true → Above ps k n x → P (times n walked) → P (times x walked)
    on_each zero n x h hn e p = subst (λ y. P (times y walked)) e p
    on_each (suc k) n x h hn (inl e) p = subst (λ y. P (times y walked)) e p
    on_each (suc k) n x h hn (inr more) p =
        let small : slice_index ps n < n = tree.behind n more.0 h in
        on_each k (slice_index ps n) x (omega arith) (up n hn more.0) more.1 (subst P (sym (at_up n hn more.0)) (go n p))

    each_below : (k x : ℕ) → x < k → x < length ps → P (times x walked)
    each_below zero x short h = absurd (omega arith)
    each_below (suc k) x short h = elim (cases_Bool (way x)) [
      | inl yes_ ↦ on_each from from x inside at_from (to x yes_) (subst P (sym at_start) start_)
      | inr no_ ↦ elim (cases_order 0 x) [
        | inl z ↦ absurd (both_ways (way x) no_ (ap way (sym z) ∙ at_root))
        | inr (inl some) ↦
            let small : slice_index ps x < x = tree.behind x some h in
            subst P (sym (at_off x h no_)) (go (slice_index ps x) (each_below k (slice_index ps x) (omega arith) (omega arith)))
        | inr (inr less) ↦ absurd (omega arith)
      ]
    ]

    pub each_node : (x : ℕ) → x < length ps → P (times x walked)
    each_node x h = each_below (x + 1) x (omega arith) h
