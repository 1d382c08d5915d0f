use Rattle.std.proofs.Common.{◌≡◌, true}
use Rattle.cip_mol.specs.declared.labels.outcome.Rule.TheVariants.{R1b}
use Rattle.cip_branches.specs.Deciding.{AreFollowed}
use Rattle.cip_branches.specs.Standing.{IsTaken}
use Rattle.cip_rules.specs.Orders.{key_by, order_before}
use Rattle.gate_branches.specs.Digraphs.{itself, seen_of}
use Rattle.gate_branches.proofs.by_nodes.take_by_spheres.Given as goal

abbrev pub invariant-loop-far : goal.invariant-loop-far
invariant-loop-far l = record {
  followed : AreFollowed l.branches;
  last : l.branches.last ≡ l.last;
  taken : IsTaken (seen_of l.digraph).children itself (order_before (seen_of l.digraph) true R1b)
      (key_by (seen_of l.digraph) true R1b) l.far l.branches;
}
