use Rattle.std.proofs.Common.{◌++◌, ◌∷◌, [], arith, ap, sym, ◌∙◌}
use Rattle.gate_branches.proofs.lemmas.SeenBranches.{range_one}
use Rattle.gate_branches.proofs.trees.children.Goals as goal

pub loop-child-preserved : goal.loop-child-preserved
loop-child-preserved c = record {
  all = c.in_ok-push.ensures.items ∙ ap (λ xs. xs ++ c.loop-child.child ∷ []) c.loop-child.invariant.all
      ∙ sym (range_one c.children-first.result.0 c.loop-child.child (omega arith));
}
