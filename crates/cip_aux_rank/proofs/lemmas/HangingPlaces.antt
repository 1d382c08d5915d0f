-- Below a child of the node that a tree is seen from, a branch has the nodes that hang below that child.
use Rattle.std.proofs.Common.{◌≡◌, ◌<◌, ◌≤◌, ◌++◌, ◌==◌, ◌&&◌, ◌||◌, ℕ, ℤ, zero, suc, Bool, true, false, not, cond, List, filter, map, length, slice_index, refl, sym, ap, ◌∙◌, subst, arith, ne_eqb, inl, inr}
use Rattle.std.specs.List.{AllByRecursion}
use Rattle.std.proofs.lemmas.Bool.{cases_Bool}
use Rattle.std.proofs.lemmas.List.{get_or-map}
use Rattle.std.proofs.lemmas.List.Elements.{All-from_recursion}
use Rattle.std.proofs.lemmas.List.Sorted.{All-permutation, IsPermutation-sym}
use Rattle.std.proofs.lemmas.List.{length-map}
use Rattle.cip_rank.specs.Tree.{IsTree, children_of}
use Rattle.cip_rank.proofs.lemmas.Children.{IsChild, children_are}
use Rattle.cip_rank.specs.View.{is_above, on_way, parent_list}
use Rattle.cip_rank.proofs.lemmas.Way.{start, to_above, from_above, above_le, closed, fuel_free}
use Rattle.cip_branches.specs.ViewedTree.{kids_around}
use Rattle.cip_branches.specs.Deciding.{Branched, AreDecided}
use Rattle.cip_partition.specs.Kids.{IsAmong, kids_of}
use Rattle.cip_partition.specs.Parting.{has_flag}
use Rattle.cip_branches.specs.Standing.{WantedIn}
use Rattle.cip_partition.proofs.lemmas.Cases.{holds_among}
use Rattle.cip_digraph.specs.rules.Orders.{all_tie}
use Rattle.cip_aux_rank.specs.LigandBranches.{HangBelow}

module _ (ps : List ℕ) (tree : IsTree ps) where
  pub way_itself : (n : ℕ) → on_way ps n n ≡ true
  unfolding on_way
  way_itself n = from_above ps n n n (start ps n n n refl)

  pub way_low : (n x : ℕ) → n < length ps → on_way ps n x ≡ true → x ≤ n
  unfolding on_way
  way_low n x h on = above_le ps tree n n x h (to_above ps n n x on)

  -- what is above a node has its parent above that one too
  pub way_parent : (n x : ℕ) → n < length ps → 0 < x → on_way ps n x ≡ true → on_way ps n (slice_index ps x) ≡ true
  unfolding on_way
  way_parent n x h some on =
      from_above ps n n (slice_index ps x) (closed ps tree n n x h (omega arith) (to_above ps n n x on) some)

  -- what is above the parent of a node is above the node
  pub way_up : (n x : ℕ) → 0 < n → n < length ps → on_way ps (slice_index ps n) x ≡ true → on_way ps n x ≡ true
  unfolding on_way
  way_up zero x some h on = absurd (omega (arith, some))
  way_up (suc k) x some h on =
      let p = slice_index ps (suc k) in
      let behind : p < suc k = tree.behind (suc k) some h in
      from_above ps (suc k) (suc k) x (inr (
        some,
        to_above ps k p x
            (fuel_free ps tree k p p x (omega (arith, behind)) (omega arith) (omega (arith, behind, h)) ∙ on),
      ))

  -- and another one that is above a node is above its parent
  pub way_same : (n x : ℕ) → 0 < n → n < length ps → (n ≡ x → ⊥) → on_way ps n x ≡ on_way ps (slice_index ps n) x
  unfolding on_way
  way_same zero x some h differ = absurd (omega (arith, some))
  way_same (suc k) x some h differ =
      let p = slice_index ps (suc k) in
      let behind : p < suc k = tree.behind (suc k) some h in
      ap (λ b. b || (not (suc k == 0) && is_above ps k p x)) (ne_eqb (suc k) x differ)
      ∙ ap (λ b. not b && is_above ps k p x) (ne_eqb (suc k) 0 (λ e. absurd (omega (arith, e))))
      ∙ fuel_free ps tree k p p x (omega (arith, behind)) (omega arith) (omega (arith, behind, h))

  module _ (from : ℕ) (inside : from < length ps) (way : List Bool)
      (on : (x : ℕ) → x < length ps → has_flag way x ≡ on_way ps from x) (tops : List ℕ) (key : ℕ → ℤ) (now : Branched)
      (are : AreDecided (kids_around ps way) all_tie key (λ n. n) now) (count : length now.unresolved ≡ length tops)
      (top : (k : ℕ) → k < length tops → slice_index now.layers.place_tree.nodes k ≡ slice_index tops k)
      (low : (t place : ℕ) → WantedIn now t place → slice_index now.layers.place_tree.nodes place < length ps) where
    abbrev node : ℕ → ℕ
    node place = slice_index now.layers.place_tree.nodes place

    abbrev top_of : ℕ → ℕ
    top_of place = slice_index tops (slice_index now.layers.place_tree.branches place)

    -- below a child of the node the neighbours that lead away are the children
    kids_below : (n x : ℕ) → n < length ps → on_way ps n x ≡ true → from < x → kids_around ps way n ≡ children_of ps n
    kids_below n x h above behind =
        let off : has_flag way n ≡ false = elim (cases_Bool (has_flag way n)) [
          | inl flag ↦
              let parent_place = way_low from n inside (sym (on n h) ∙ flag) in
              let down = way_low n x h above in
              absurd (omega (arith, parent_place, down, behind))
          | inr none ↦ none
        ] in
        ap (λ b. cond b (filter (λ c. not (has_flag way c)) (children_of ps n) ++ parent_list ps n) (children_of ps n))
        off

    kid_is : (t parent_place place : ℕ) → t < now.last → WantedIn now t parent_place → IsAmong (kids_of now.layers.place_tree parent_place) place
        → (x : ℕ) → on_way ps (node parent_place) x ≡ true → from < x → IsChild ps (node parent_place) (node place)
    kid_is t parent_place place lt at kid x above behind =
        let kids = kids_of now.layers.place_tree parent_place in
        let n = node parent_place in
        let list = map node kids in
        let same = are.ruled.view.node_data t parent_place lt at in
        let kids_are = All-permutation (IsChild ps n) (kids_around ps way n) list
        (IsPermutation-sym list (kids_around ps way n) same)
        (All-from_recursion (IsChild ps n) (kids_around ps way n)
        (subst (AllByRecursion (IsChild ps n)) (sym (kids_below n x (low t parent_place at) above behind))
        (children_are ps n))) in
        let within : kid.at < length list = let few = kid.within in omega (arith, few, length-map kids node) in
        let here : slice_index list kid.at ≡ node place =
        get_or-map node kids kid.at 0 0 kid.within ∙ ap node kid.here in
        subst (IsChild ps n) here (kids_are kid.at 0 within)

    hang_by : (t place : ℕ) → WantedIn now t place → 0 < top_of place → slice_index ps (top_of place) ≡ from
        → on_way ps (node place) (top_of place) ≡ true
    hang_by zero place p some is =
        let lt = are.only place p.at in
        let branch = are.branch place lt in
        let at : node place ≡ top_of place = top place (omega (arith, lt, count))
        ∙ ap (slice_index tops) (sym branch) in
        ap (λ n. on_way ps n (top_of place)) at ∙ way_itself (top_of place)
    hang_by (suc t) place p some is =
        let most = are.ruled.view.within (suc t) place p in
        let lt : t < now.last = omega (arith, most) in
        let above = are.ruled.above t place lt p in
        let parent_place = slice_index now.layers.place_tree.place_parents place in
        let same = holds_among (λ kid. slice_index now.layers.place_tree.branches kid
        ≡ slice_index now.layers.place_tree.branches parent_place) (kids_of now.layers.place_tree parent_place) place
        (are.ruled.inherits t parent_place lt above.parent_place) above.kid in
        let tops_same : top_of place ≡ top_of parent_place = ap (slice_index tops) same in
        let before = hang_by t parent_place above.parent_place (omega (arith, some, tops_same)) (ap (slice_index ps) (sym tops_same)
        ∙ is) in
        let before_is : on_way ps (node parent_place) (top_of place) ≡ true = ap (on_way ps (node parent_place)) tops_same ∙ before in
        let high = way_low (node parent_place) (top_of place) (low t parent_place above.parent_place) before_is in
        let top_low : top_of place < length ps = let up_low = low t parent_place above.parent_place in omega (arith, high, up_low) in
        let behind : from < top_of place = let less = tree.behind (top_of place) some top_low in omega
        (arith, less, is) in
        let child = kid_is t parent_place place lt above.parent_place above.kid (top_of place) before_is behind in
        way_up (node place) (top_of place) child.behind child.below
        (ap (λ n. on_way ps n (top_of place)) child.parent ∙ before_is)

    pub hanging : HangBelow ps from tops now
    hanging = record { each = hang_by }
