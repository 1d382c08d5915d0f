-- Atoms of chains and of biaryl axes are drawn.
use Rattle.std.proofs.Common.{◌≡◌, ◌<◌, ◌≤◌, ◌+◌, ℕ, zero, suc, Bool, true, false, cond, not, ◌==◌, List, [], ◌∷◌}
use Rattle.std.proofs.Common.{length, arith, eqb-true}
use Rattle.std.specs.Prelude.{filter, slice_index_or}
use Rattle.std.specs.List.{AllByRecursion}
use Rattle.cip_digraph.specs.declared.drawing.graph.Edge.{Edge}
use Rattle.cip_digraph.specs.graph.Graph.{Graph, edges_at, other_end, touches}
use Rattle.cip_digraph.specs.units.Allenes.{doubles}
use Rattle.cip_digraph.proofs.lemmas.lists.Elements.{all_by, all_filtered, all_mapped, by_recursion, all_passed}
use Rattle.cip_digraph.proofs.lemmas.bonds.Neighbours.{sorted_all}
use Rattle.cip_unit.specs.Sites.{LeadsToAtom, LeadsToAtoms}
use Rattle.cip_axis.specs.Cumulenes.{onward, continues_chain, next_atom, chain_from, chain_over}

other_by : (drawn : ℕ) (edge : Edge) → LeadsToAtom drawn edge → edge.order ≡ 2 → (b : Bool)
    → cond b edge.b edge.a < drawn
other_by drawn edge leads e true = leads.b e
other_by drawn edge leads e false = leads.a e

first_below : (n d : ℕ) (ns : List ℕ) → d < n → AllByRecursion (λ m. m < n) ns → slice_index_or ns 0 d < n
first_below n d [] lt all = lt
first_below n d (m ∷ ns) lt all = all.0

pub if_short : (b : Bool) (ns : List ℕ) (n : ℕ) → length ns ≤ n → length (cond b ns []) ≤ n
if_short true ns n le = le
if_short false ns n le = omega arith

module _ (graph : Graph) (leads : LeadsToAtoms graph) where
  abbrev AtVertex : ℕ → Edge → Type 0
  AtVertex vertex edge = (touches vertex edge ≡ true) × LeadsToAtom graph.drawn edge

  edges_lead : (vertex : ℕ) → AllByRecursion (AtVertex vertex) (edges_at graph vertex)
  edges_lead vertex =
      sorted_all (AtVertex vertex) vertex (filter (touches vertex) graph.edges)
      (all_passed (LeadsToAtom graph.drawn) (touches vertex) graph.edges
      (by_recursion (LeadsToAtom graph.drawn) graph.edges leads.each))

  pub doubles_below : (vertex : ℕ) → AllByRecursion (λ other. other < graph.drawn) (doubles graph vertex)
  doubles_below vertex =
      all_mapped (λ other. other < graph.drawn) (other_end vertex)
      (filter (λ edge. edge.order == 2) (edges_at graph vertex))
      (all_by (λ (edge : Edge). ((edge.order == 2) ≡ true) × AtVertex vertex edge)
      (λ edge. other_end vertex edge < graph.drawn)
      (λ edge h. other_by graph.drawn edge h.1.1 (eqb-true edge.order 2 h.0) (edge.a == vertex))
      (filter (λ edge. edge.order == 2) (edges_at graph vertex))
      (all_passed (AtVertex vertex) (λ (edge : Edge). edge.order == 2) (edges_at graph vertex) (edges_lead vertex)))

  if_below : (b : Bool) (ns : List ℕ) → AllByRecursion (λ m. m < graph.drawn) ns
      → AllByRecursion (λ m. m < graph.drawn) (cond b ns [])
  if_below true ns all = all
  if_below false ns all = tt

  pub next_below : (before at : ℕ) → at < graph.drawn → next_atom graph before at < graph.drawn
  next_below before at lt =
      first_below graph.drawn at (onward graph before at) lt
      (all_filtered (λ m. m < graph.drawn) (λ other. not (other == before)) (doubles graph at) (doubles_below at))

  from_below : (more before at : ℕ) → at < graph.drawn
      → AllByRecursion (λ m. m < graph.drawn) (chain_from graph more before at)
  from_below zero before at lt = tt
  from_below (suc more) before at lt = (
    lt,
    if_below (continues_chain graph before at) (chain_from graph more at (next_atom graph before at))
        (from_below more at (next_atom graph before at) (next_below before at lt)),
  )

  pub chain_below : (a next : ℕ) → a < graph.drawn → next < graph.drawn
      → AllByRecursion (λ m. m < graph.drawn) (chain_over graph a next)
  chain_below a next lt on = (lt, from_below (length graph.vertices) a next on)

  from_short : (more before at : ℕ) → length (chain_from graph more before at) ≤ more
  from_short zero before at = omega arith
  from_short (suc more) before at =
      let le = if_short (continues_chain graph before at) (chain_from graph more at (next_atom graph before at)) more
      (from_short more at (next_atom graph before at)) in
      omega (arith, le)

  pub chain_short : (a next : ℕ) → length (chain_over graph a next) ≤ length graph.vertices + 1
  chain_short a next = let le = from_short (length graph.vertices) a next in omega (arith, le)
