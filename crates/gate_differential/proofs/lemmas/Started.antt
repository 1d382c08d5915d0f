-- A digraph that was just started has one node.
use Rattle.std.proofs.Common.{◌≡◌, ℕ, List, length, ap, ◌∙◌}
use Rattle.cip_arena.specs.Growth.{Growth, Holds}
use Rattle.cip_digraph.specs.digraph.Digraph.{digraph}
use Rattle.cip_digraph.specs.graph.Graph.{Graph}

pub started_one : (g : Graph) (positions : List (List ℕ)) (a : Growth) → Holds g positions a → a.sphere ≡ 0
    → length a.nodes ≡ 1
started_one g positions a h none = h.tells.len ∙ ap (λ s. length (digraph g positions a.root s)) none
