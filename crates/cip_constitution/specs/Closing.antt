-- Branches that end with the last sphere and hold no atom of a unit, by the numbers of their nodes. Own.
use Rattle.std.specs.Prelude.{◌==◌, ◌&&◌, ◌||◌, ℕ, zero, suc, Bool, not, List, slice_index, nat_le}
use Rattle.cip_rank.specs.declared.rules.Rules.{Rules}
use Rattle.cip_mol.specs.declared.site.Unit as units
use Rattle.cip_digraph.specs.outcome.Deciding.{is_empty}
use Rattle.cip_digraph.specs.digraph.Digraph.{children, digraph}
use Rattle.cip_digraph.specs.graph.Graph.{Graph}
use Rattle.cip_digraph.specs.outcome.Outcomes.{is_in_unit}
use Rattle.cip_digraph.specs.digraph.Telling.{node_at}
use Rattle.cip_arena.specs.Growth.{Growth}

abbrev pub is_under_on : List ℕ → ℕ → ℕ → ℕ → Bool
is_under_on parents node zero at = at == node
is_under_on parents node (suc more) at =
    (at == node) || (not (at == 0) && is_under_on parents node more (slice_index parents at))

-- a node is another one, or is below it
abbrev pub is_under : List ℕ → ℕ → ℕ → Bool
is_under parents node at = is_under_on parents node at at

-- an atom of a unit, or a node of the last sphere that has children
abbrev pub keeps_open : Rules → Graph → List (List ℕ) → List units.Unit → Growth → ℕ → Bool
keeps_open rules graph positions all growth at =
    let node = node_at (digraph graph positions growth.root growth.sphere) at in
    is_in_unit rules graph positions all node
    || (nat_le growth.first at && not (is_empty (children graph positions node)))
