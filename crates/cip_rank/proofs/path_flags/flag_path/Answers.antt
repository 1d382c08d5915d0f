use Rattle.std.proofs.Common.{true, arith, length, ◌∙◌, ap, ◌||◌}
use Rattle.std.proofs.lemmas.Grind.{common_steps}
use Rattle.cip_rank.specs.View.{is_above, on_way}
use Rattle.cip_rank.proofs.lemmas.Way.{flag_step, flag_last, others_stay}
use Rattle.cip_rank.proofs.path_flags.flag_path.Goals as goal

pub loop-node-preserved : goal.loop-node-preserved
loop-node-preserved c = record {
  node = omega (arith, c.parent_of-node.ensures.earlier, c.loop-node.invariant.node);
  len = grind (arith, common_steps);
  room = grind (arith, common_steps);
  others = λ x h. others_stay c.loop-node.flags.items c.loop-node.node x (length c.args.table.now.parents) true c.loop-node.invariant.node h ∙ c.loop-node.invariant.others x h;
  each = λ x h.
      ap (λ n. Rattle.std.specs.List.slice_index_or (Rattle.std.specs.List.slice_set c.loop-node.flags.items c.loop-node.node Rattle.std.specs.Prelude.true) x Rattle.std.specs.Prelude.false || is_above c.args.table.now.parents n n x) c.parent_of-node.ensures.parent
      ∙ flag_step c.args.table.now.parents c.len-count.ensures.tree c.loop-node.flags.items c.loop-node.node x (omega arith) c.loop-node.invariant.node (omega (arith, c.loop-node.invariant.len, c.requires.len)) ∙ c.loop-node.invariant.each x h;
}

pub returns-clause-flags : goal.returns-clause-flags
unfolding on_way
returns-clause-flags c = λ x h. flag_last c.args.table.now.parents c.loop-node.flags.items c.loop-node.node x (omega arith) (omega (arith, c.loop-node.invariant.len, c.requires.len, c.requires.node)) ∙ c.loop-node.invariant.each x h ∙ ap (λ b. b || on_way c.args.table.now.parents c.args.from x) (c.requires.off x)

pub returns-clause-others : goal.returns-clause-others
returns-clause-others c = λ x h. others_stay c.loop-node.flags.items 0 x (length c.args.table.now.parents) true (omega (arith, c.requires.node)) h ∙ c.loop-node.invariant.others x h ∙ c.requires.off x
