use Rattle.std.proofs.Common.{
  ◌≡◌,
  ◌<◌,
  ◌≤◌,
  ◌+◌,
  ℕ,
  List,
  [],
  ◌∷◌,
  ◌++◌,
  length,
  slice_index,
  ap,
  sym,
  ◌∙◌,
  subst,
  arith,
  length-append,
}
use Rattle.std.proofs.lemmas.Grind.{common_steps}
use Rattle.std.specs.Prelude.{IfSome, Some}
use Rattle.std.specs.declared.option.Option.{Option}
use Rattle.cip_rank.specs.Tree.{IsTree, spheres_of, last_parent}
use Rattle.cip_rank.specs.Ranges.{TellChildren, firsts_with}
use Rattle.cip_rank.proofs.lemmas.Pushed.{spheres_pushed, each_pushed, tree_pushed, still_tell_children}
use Rattle.cip_rank.proofs.table.Table.push.Goals as goal

parent_known : (parent : Option ℕ) (p : ℕ) (parents : List ℕ) → parent ≡ Some p → IfSome parent (λ q. q < length parents)
    → IfSome parent (λ q. last_parent parents ≤ q) → (p < length parents) × (last_parent parents ≤ p)
parent_known parent p parents is below ordered = (
  subst (λ o. IfSome o (λ q. q < length parents)) is below,
  subst (λ o. IfSome o (λ q. last_parent parents ≤ q)) is ordered,
)

pub invariant_of-self-in-Some : goal.invariant_of-self-in-Some
invariant_of-self-in-Some c =
    let held = c.self.invariant in
    let known = parent_known c.args.parent c.in-Some.parent c.args.self.now.parents c.in-Some.is c.requires.below
    c.requires.ordered in
    let parents = c.self.inside.parents.items in
    let spheres = c.self.inside.spheres.items in
    let p = c.in-Some.parent in
    let below : p < length parents = omega (arith, known.0, ap (λ tree. length tree.parents) c.self.view_is) in
    let ordered : last_parent parents ≤ p = subst (λ tree. last_parent tree.parents ≤ p) (sym c.self.view_is)
    known.1 in
    let number : c.len-number.result ≡ length parents = omega (arith, c.len-number.ensures, c.self.inside.parents.ok) in
    let pushed = c.push_reserved-in-Some.ensures.items in
    let more : length c.push_reserved-in-Some.new.self.items ≡ length parents + 1 = ap length pushed ∙ length-append parents
    (p ∷ []) in
    let sphere : c.sphere-sphere.result ≡ slice_index spheres p =
    c.sphere-sphere.ensures.sphere ∙ ap (λ tree. slice_index (spheres_of tree.parents) p) (sym c.self.view_is)
    ∙ ap (λ (xs : List ℕ). slice_index xs p) (sym held.spheres) in
    let firsts = c.push_reserved-in-Some-3.ensures.items
    ∙ ap (λ xs. xs ++ 0 ∷ []) (c.count_child.ensures.firsts
    ∙ ap (firsts_with c.self.inside.firsts.items c.self.inside.counts.items p) number) in
    let counts = c.push_reserved-in-Some-4.ensures.items ∙ ap (λ xs. xs ++ 0 ∷ []) c.count_child.ensures.counts in
    record {
      bound = omega arith;
      fits = grind (arith, common_steps);
      parents_room = omega arith;
      spheres_room = omega arith;
      firsts_room = omega arith;
      counts_room = omega arith;
      tree = subst IsTree (sym pushed) (tree_pushed parents p below held.tree);
      spheres = c.push_reserved-in-Some-2.ensures.items ∙ ap (λ s. spheres ++ (s + 1) ∷ []) sphere
          ∙ ap (λ xs. xs ++ (slice_index xs p + 1) ∷ []) held.spheres ∙ sym (spheres_pushed parents p (omega arith))
          ∙ ap spheres_of (sym pushed);
      spheres_len = grind (arith, common_steps);
      low = λ n h. subst (λ (xs : List ℕ). slice_index xs n ≤ n) (sym c.push_reserved-in-Some-2.ensures.items)
          (each_pushed (λ n s. s ≤ n) spheres _ (length parents) held.spheres_len held.low
          (omega (arith, sphere, held.low p below)) n (omega (arith, h, more)));
      ranges = subst (λ (xs : List ℕ). TellChildren xs c.push_reserved-in-Some-3.new.self.items
          c.push_reserved-in-Some-4.new.self.items) (sym pushed)
          (subst (λ (xs : List ℕ). TellChildren (parents ++ p ∷ []) xs c.push_reserved-in-Some-4.new.self.items) (sym firsts)
          (subst (λ (xs : List ℕ). TellChildren (parents ++ p ∷ []) (firsts_with c.self.inside.firsts.items
          c.self.inside.counts.items p (length parents) ++ 0 ∷ []) xs) (sym counts)
          (still_tell_children parents c.self.inside.firsts.items c.self.inside.counts.items p below ordered held.tree
          held.ranges)));
    }

pub returns-in-Some-clause-number : goal.returns-in-Some-clause-number
returns-in-Some-clause-number c =
    omega (arith, c.len-number.ensures, c.self.inside.parents.ok, ap (λ tree. length tree.parents) c.self.view_is)

pub push_reserved-requires-in-Some-3 : goal.push_reserved-requires-in-Some-3
push_reserved-requires-in-Some-3 c =
    let held = c.self.invariant in
    let kept = c.count_child.ensures in
    omega (
      arith,
      held.ranges.firsts_len,
      held.firsts_room,
      kept.firsts_len,
      kept.firsts_room,
      c.count_child.new.firsts.ok,
      c.requires.room,
      ap (λ tree. length tree.parents) c.self.view_is,
      ap (λ tree. tree.bound) c.self.view_is,
    )

pub push_reserved-requires-in-Some-4 : goal.push_reserved-requires-in-Some-4
push_reserved-requires-in-Some-4 c =
    let held = c.self.invariant in
    let kept = c.count_child.ensures in
    omega (
      arith,
      held.ranges.counts_len,
      held.counts_room,
      kept.counts_len,
      kept.counts_room,
      c.count_child.new.counts.ok,
      c.requires.room,
      ap (λ tree. length tree.parents) c.self.view_is,
      ap (λ tree. tree.bound) c.self.view_is,
    )

pub invariant_of-self : goal.invariant_of-self
invariant_of-self c = grind (arith, common_steps)
