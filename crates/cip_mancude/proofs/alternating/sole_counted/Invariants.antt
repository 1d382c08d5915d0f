use Rattle.std.proofs.Common.{◌≡◌, ◌++◌, drop}
use Rattle.std.specs.Prelude.{filter}
use Rattle.std.specs.Option.{option_to_list}
use Rattle.cip_mancude.proofs.alternating.sole_counted.Given as goal

abbrev pub invariant-loop-edge : goal.invariant-loop-edge
invariant-loop-edge l =
    option_to_list l.found ++ filter (λ edge. edge.counted) (drop l.edge-index l.edges)
    ≡ filter (λ edge. edge.counted) l.edges
