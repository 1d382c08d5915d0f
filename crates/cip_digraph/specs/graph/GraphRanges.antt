-- What the vertices of a graph may hold, and how many vertices and edges there may be. Own.
use Rattle.std.specs.Prelude.{◌<◌, ◌≤◌, ◌^◌, All, length}
use Rattle.cip_digraph.specs.declared.drawing.graph.Vertex.{Vertex}
use Rattle.cip_digraph.specs.graph.Graph.{Graph}

pub record IsElement (vertex : Vertex) : Type 0 where
  pub element : 1 ≤ vertex.z
  pub known : vertex.z ≤ 118

pub record IsInRange (graph : Graph) : Type 0 where
  pub few_vertices : length graph.vertices < 2 ^ 32
  pub few_edges : length graph.edges < 2 ^ 32
  pub vertices : All IsElement graph.vertices
