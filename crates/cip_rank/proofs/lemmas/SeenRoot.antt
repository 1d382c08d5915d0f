-- Of the node that a tree is seen from all children lead away, and its parent.
use Rattle.std.proofs.Common.{◌≡◌, ◌<◌, ◌++◌, ◌∷◌, ℕ, Bool, true, false, not, cond, List, [], filter, length, refl, ap, ◌∙◌, arith, inl, inr}
use Rattle.std.specs.List.{AllByRecursion}
use Rattle.std.proofs.lemmas.Bool.{cases_Bool}
use Rattle.cip_rank.specs.Tree.{IsTree, children_of}
use Rattle.cip_rank.proofs.lemmas.Children.{IsChild, children_are}
use Rattle.cip_rank.proofs.lemmas.Descending.{all_by}
use Rattle.cip_rank.specs.View.{on_way, parent_list, children_seen}
use Rattle.cip_rank.proofs.lemmas.Way.{above_le, from_above, start, to_above}

kept_all : (way : ℕ → Bool) (ns : List ℕ) → AllByRecursion (λ n. way n ≡ false) ns
    → filter (λ n. not (way n)) ns ≡ ns
kept_all way [] all = refl
kept_all way (n ∷ ns) all =
    let rest = filter (λ n. not (way n)) ns in
    ap (λ b. cond (not b) (n ∷ rest) rest) all.0 ∙ ap (λ (ms : List ℕ). n ∷ ms) (kept_all way ns all.1)

module _ (ps : List ℕ) (tree : IsTree ps) (from : ℕ) (inside : from < length ps) where
  child_off : (c : ℕ) → IsChild ps from c → on_way ps from c ≡ false
  unfolding on_way
  child_off c is = elim (cases_Bool (on_way ps from c)) [
    | inl on ↦
        let le = above_le ps tree from from c inside (to_above ps from from c on) in
        let behind = tree.behind c is.behind is.below in
        let parent = is.parent in
        absurd (omega (arith, le, behind, parent))
    | inr off ↦ off
  ]

  root_on : on_way ps from from ≡ true
  unfolding on_way
  root_on = from_above ps from from from (start ps from from from refl)

  pub seen_root : children_seen ps from from ≡ children_of ps from ++ parent_list ps from
  unfolding children_seen
  seen_root =
      let way = on_way ps from in
      let kids = children_of ps from in
      ap (λ b. cond b (filter (λ c. not (way c)) kids ++ parent_list ps from) kids) root_on
      ∙ ap (λ (ns : List ℕ). ns ++ parent_list ps from) (kept_all way kids (all_by child_off kids
      (children_are ps from)))
