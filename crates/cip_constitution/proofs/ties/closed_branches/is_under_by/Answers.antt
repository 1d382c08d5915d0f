use Rattle.std.proofs.Common.{◌≡◌, ◌<◌, ◌||◌, ℕ, true, false, slice_index, sym, ap, ◌∙◌, arith, inl, inr}
use Rattle.std.proofs.lemmas.Bool.{ne_eqb, cases_order}
use Rattle.cip_constitution.specs.Closing.{is_under}
use Rattle.cip_constitution.proofs.lemmas.closed.Under.{under_step}
use Rattle.cip_constitution.proofs.ties.closed_branches.is_under_by.Goals as goal

true_false : true ≡ false → ⊥
true_false e = cc

positive : (node : ℕ) → (node ≡ 0 → true ≡ false) → 0 < node
positive node h = elim (cases_order node 0) [
  | inl none ↦ absurd (true_false (h none))
  | inr (inl less) ↦ absurd
      (omega arith)
  | inr (inr more) ↦ more
]

pub bounds-under-parent : goal.bounds-under-parent
bounds-under-parent c =
    let some = positive c.args.node c.in-Some.ensures.root.1 in
    let is = c.in-Some.ensures.parent in
    let parent_place = c.len-count.ensures.tree.behind c.args.node some c.requires.within in
    omega (arith, is, parent_place, c.requires.len)

pub returns-else-node-top : goal.returns-else-node-top
returns-else-node-top c =
    let some = positive c.args.node c.in-Some.ensures.root.1 in
    let is : c.in-Some.parent ≡ slice_index c.args.table.now.parents c.args.node = c.in-Some.ensures.parent in
    let parent_place = c.len-count.ensures.tree.behind c.args.node some c.requires.within in
    c.requires.under c.in-Some.parent (omega (arith, is, parent_place))
    ∙ ap (is_under c.args.table.now.parents c.args.top) is
    ∙ sym (under_step c.args.table.now.parents c.len-count.ensures.tree c.args.top c.args.node some c.requires.within
    ∙ ap (λ b. b || is_under c.args.table.now.parents c.args.top (slice_index c.args.table.now.parents c.args.node))
    (ne_eqb c.args.node c.args.top c.if-node-top.false))
