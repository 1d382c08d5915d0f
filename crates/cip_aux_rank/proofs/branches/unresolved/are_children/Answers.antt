use Rattle.std.proofs.Common.{rules}
use Rattle.cip_aux_rank.proofs.branches.unresolved.are_children.Goals as goal

pub returns-then-is_unresolved-clause-elsewhere : goal.returns-then-is_unresolved-clause-elsewhere
returns-then-is_unresolved-clause-elsewhere c = λ no. record {
  branch = c.loop-branch.branch;
  within = c.loop-branch-test.true;
  flagged = search rules;
  low = c.if-tops-branch.true;
}
