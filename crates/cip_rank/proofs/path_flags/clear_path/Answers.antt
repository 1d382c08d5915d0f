use Rattle.std.proofs.Common.{false, length, ap, sym, ◌∙◌, arith, refl, inl, inr}
use Rattle.std.proofs.lemmas.Bool.{cases_lt}
use Rattle.std.proofs.lemmas.Grind.{common_steps}
use Rattle.cip_rank.specs.View.{is_above, on_way}
use Rattle.cip_rank.proofs.lemmas.Way.{clear_step, clear_last, others_stay}
use Rattle.cip_rank.proofs.path_flags.clear_path.Goals as goal

pub loop-node-init : goal.loop-node-init
unfolding on_way
loop-node-init c = record { node = c.requires.node; len = refl; room = refl; others = c.requires.others; each = c.requires.way }

pub loop-node-preserved : goal.loop-node-preserved
loop-node-preserved c = record {
  node = omega (arith, c.parent_of-node.ensures.earlier, c.loop-node.invariant.node);
  len = grind (arith, common_steps);
  room = grind (arith, common_steps);
  others = λ x h. others_stay c.loop-node.flags.items c.loop-node.node x (length c.args.table.now.parents) false c.loop-node.invariant.node h ∙ c.loop-node.invariant.others x h;
  each = λ x h.
      clear_step c.args.table.now.parents c.len-count.ensures.tree c.loop-node.flags.items c.loop-node.node x (omega arith) c.loop-node.invariant.node (omega (arith, c.loop-node.invariant.len, c.requires.len)) (c.loop-node.invariant.each x h)
      ∙ ap (λ n. is_above c.args.table.now.parents n n x) (sym c.parent_of-node.ensures.parent);
}

pub returns-clause-off : goal.returns-clause-off
returns-clause-off c = λ x. elim (cases_lt x (length c.args.table.now.parents)) [
  | inl low ↦ clear_last c.args.table.now.parents c.loop-node.flags.items c.loop-node.node x (omega arith) (omega (arith, c.loop-node.invariant.len, c.requires.len, c.requires.node)) (c.loop-node.invariant.each x low)
  | inr high ↦ others_stay c.loop-node.flags.items 0 x (length c.args.table.now.parents) false (omega (arith, c.requires.node)) high ∙ c.loop-node.invariant.others x high
]
