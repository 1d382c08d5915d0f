-- No more edges meet at a vertex than a graph has.
use Rattle.std.proofs.Common.{◌≤◌, ℕ, Bool, true, false, cond, List, [], ◌∷◌, length, arith}
use Rattle.std.specs.Prelude.{filter}
use Rattle.cip_digraph.specs.declared.drawing.graph.Edge.{Edge}
use Rattle.cip_digraph.specs.graph.Graph.{Graph, touches, edges_at}
use Rattle.cip_digraph.proofs.lemmas.rows.Rooms.{sorted_long}

fewer_by : (b : Bool) (edge : Edge) (edges others : List Edge) → length others ≤ length edges
    → length (cond b (edge ∷ others) others) ≤ length (edge ∷ edges)
fewer_by true edge edges others h = omega (arith, h)
fewer_by false edge edges others h = omega (arith, h)

fewer : (test : Edge → Bool) (edges : List Edge) → length (filter test edges) ≤ length edges
fewer test [] = omega arith
fewer test (edge ∷ edges) = fewer_by (test edge) edge edges (filter test edges) (fewer test edges)

pub few_at : (graph : Graph) (vertex : ℕ) → length (edges_at graph vertex) ≤ length graph.edges
few_at graph vertex = let long = sorted_long vertex (filter (touches vertex) graph.edges) in let few =
    fewer (touches vertex) graph.edges in omega (arith, long, few)
