-- The table of edges at each vertex: a table without edges, and rows of numbers that are no vertices.
use Rattle.std.proofs.Common.{◌≡◌, ◌≢◌, ◌≤◌, ℕ, zero, suc, false, List, [], ◌∷◌, length, refl, arith, replicate, rules}
use Rattle.std.proofs.Common.{inl, inr, filter}
use Rattle.std.specs.List.{AllByRecursion}
use Rattle.std.proofs.lemmas.Bool.{cases_lt}
use Rattle.std.proofs.lemmas.Bool.Decides.{nat_tests}
use Rattle.std.proofs.lemmas.Grind.{common_steps}
use Rattle.cip_digraph.specs.declared.drawing.graph.Edge.{Edge}
use Rattle.cip_digraph.specs.graph.Graph.{Graph, edges_at, touches}
use Rattle.cip_digraph.specs.graph.Incidence.{IsIncidence, row}
use Rattle.cip_digraph.specs.graph.SoundGraphs.{JoinsBelow, IsSound}
use Rattle.cip_digraph.proofs.lemmas.lists.Elements.{by_recursion}

pub touches_none : (vertex : ℕ) (edge : Edge) → vertex ≢ edge.a → vertex ≢ edge.b → touches vertex edge ≡ false
touches_none vertex edge not_a not_b = grind (arith, nat_tests)

row-replicate : (vertices vertex : ℕ) → row (replicate vertices []) vertex ≡ []
row-replicate zero vertex = refl
row-replicate (suc vertices) zero = refl
row-replicate (suc vertices) (suc vertex) = row-replicate vertices vertex

pub rows_none : (vertices : ℕ) → IsIncidence vertices [] (replicate vertices [])
rows_none vertices =
    record { len = search (rules, common_steps); each = λ vertex within. row-replicate vertices vertex }

-- no edge of a sound graph leads to a number beyond its vertices
pub none_touch : (vertices vertex : ℕ) (edges : List Edge) → vertices ≤ vertex
    → AllByRecursion (JoinsBelow vertices) edges → filter (touches vertex) edges ≡ []
none_touch vertices vertex [] far all = refl
none_touch vertices vertex (edge ∷ edges) far all =
    let a = all.0.a in
    let b = all.0.b in
    let none : touches vertex edge ≡ false = touches_none vertex edge (λ e. omega (arith, e)) (λ e. omega (arith, e)) in
    rw none (none_touch vertices vertex edges far all.1)

row-beyond : (table : List (List Edge)) (vertex : ℕ) → length table ≤ vertex → row table vertex ≡ []
row-beyond [] vertex far = refl
row-beyond (edges ∷ table) zero far = absurd (omega (arith, far))
row-beyond (edges ∷ table) (suc vertex) far = row-beyond table vertex (omega (arith, far))

-- the row of any number has the edges there
pub row_is : (graph : Graph) (table : List (List Edge)) (vertex : ℕ) → IsSound graph
    → IsIncidence (length graph.vertices) graph.edges table
    → row table vertex ≡ edges_at graph vertex
row_is graph table vertex sound is =
    elim (cases_lt vertex (length graph.vertices)) [
      | inl within ↦ is.each vertex within
      | inr far ↦ rw
          (none_touch (length graph.vertices) vertex graph.edges far (by_recursion _ graph.edges sound.edges))
          (row-beyond table vertex (rw is.len far))
    ]
