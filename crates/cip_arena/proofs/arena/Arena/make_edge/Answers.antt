use Rattle.std.proofs.Common.{arith, ap}
use Rattle.std.proofs.lemmas.Grind.{common_steps}
use Rattle.cip_arena.proofs.lemmas.Added.{keeps_more, keeps_twice}
use Rattle.cip_arena.proofs.arena.Arena.make_edge.Goals as goal

pub returns-then-edge-clause-kept : goal.returns-then-edge-clause-kept
returns-then-edge-clause-kept g c =
    keeps_twice _ _ _ _ _ (ap (λ a. a.nodes) c.make_neighbour-stands.ensures.made)
    (ap (λ a. a.nodes) c.add_copies.ensures.added)

pub returns-else-edge-clause-kept : goal.returns-else-edge-clause-kept
returns-else-edge-clause-kept g c = keeps_more _ _ _ (ap (λ a. a.nodes) c.make_neighbour-stands.ensures.made)

pub returns-then-edge-clause-size : goal.returns-then-edge-clause-size
returns-then-edge-clause-size g c = grind (arith, common_steps)

pub returns-then-edge-clause-cost : goal.returns-then-edge-clause-cost
returns-then-edge-clause-cost g c = grind (arith, common_steps)

pub add_copies-requires-clause-room : goal.add_copies-requires-clause-room
add_copies-requires-clause-room g c = grind (arith, common_steps)

pub duplicate_node_data-node_data-requires-clause-within : goal.duplicate_node_data-node_data-requires-clause-within
duplicate_node_data-node_data-requires-clause-within g c = grind (arith, common_steps)

pub duplicate_node_data-node_data-requires-clause-stands : goal.duplicate_node_data-node_data-requires-clause-stands
duplicate_node_data-node_data-requires-clause-stands g c = grind (arith, common_steps)

pub returns-else-edge-clause-size : goal.returns-else-edge-clause-size
returns-else-edge-clause-size g c = grind (arith, common_steps)

pub add_copies-requires-clause-below : goal.add_copies-requires-clause-below
add_copies-requires-clause-below g c = grind (arith, common_steps)

pub returns-then-edge-clause-last : goal.returns-then-edge-clause-last
returns-then-edge-clause-last g c = grind (arith, common_steps)

pub add_copies-requires-clause-in_order : goal.add_copies-requires-clause-in_order
add_copies-requires-clause-in_order g c = grind (arith, common_steps)
