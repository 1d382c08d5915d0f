use Rattle.std.proofs.Common.{◌≡◌, ◌++◌, replicate}
use Rattle.cip_tree.specs.Along.{duplicate_for as duplicate_of}
use Rattle.cip_tree.specs.Boxed.{bare}
use Rattle.cip_tree.proofs.growing.add_duplicates.Given as goal

abbrev pub invariant-loop : goal.invariant-loop
invariant-loop l = l.children.items
    ≡ l.fn.children.items ++ replicate l.counter
    (bare l.bonding.graph.now l.bonding.positions.now (duplicate_of l.bonding.positions.now l.path l.edge))
