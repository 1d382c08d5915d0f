-- Double bonds of a drawing's graph join atoms, also those that are read at a vertex.
use Rattle.std.proofs.Common.{◌≡◌, ◌<◌, ◌+◌, ℕ, Bool, true, false, cond, ◌==◌, List, [], ◌∷◌, length, get_or, map, refl, arith}
use Rattle.std.specs.Prelude.{filter}
use Rattle.std.specs.List.{AllByRecursion}
use Rattle.std.proofs.lemmas.List.Elements.{All-from_recursion}
use Rattle.cip_mol.specs.Bonds.{IsSound}
use Rattle.cip_mol.specs.Drawing.{Drawing}
use Rattle.cip_digraph.specs.graph.DrawnGraph.{bond_edge, carriers, graph_of, hydrogen_edges}
use Rattle.cip_digraph.specs.graph.Graph.{Graph, edges_at, other_end, touches}
use Rattle.cip_digraph.specs.declared.drawing.graph.Edge.{Edge}
use Rattle.cip_digraph.proofs.lemmas.lists.Elements.{all_append, all_filtered, all_mapped, by_recursion}
use Rattle.cip_digraph.proofs.lemmas.bonds.Neighbours.{sorted_all}
use Rattle.cip_hydro.proofs.lemmas.Drawn.{bonds_join}
use Rattle.cip_unit.specs.Sites.{LeadsToAtom, LeadsToAtoms}

hydrogens_lead : (drawn number : ℕ) (atoms : List ℕ) → AllByRecursion (LeadsToAtom drawn) (hydrogen_edges number atoms)
hydrogens_lead drawn number [] = tt
hydrogens_lead drawn number (atom ∷ atoms) = (
  record { a = λ e. absurd (omega (arith, e)); b = λ e. absurd (omega (arith, e)) },
  hydrogens_lead drawn (number + 1) atoms,
)

pub drawn_is : (drawing : Drawing) → (graph_of drawing).drawn ≡ length drawing.atoms
unfolding graph_of
drawn_is drawing = refl

pub drawn_leads : (drawing : Drawing) → IsSound (length drawing.atoms) drawing.bonds → LeadsToAtoms (graph_of drawing)
unfolding graph_of
drawn_leads drawing sound =
    let atoms = length drawing.atoms in
    record {
      each = All-from_recursion (LeadsToAtom atoms) (graph_of drawing).edges
          (all_append (LeadsToAtom atoms) (map (bond_edge drawing) drawing.bonds)
          (hydrogen_edges atoms (carriers drawing))
          (all_mapped (LeadsToAtom atoms) (bond_edge drawing) drawing.bonds
          (by_recursion (λ bond. LeadsToAtom atoms (bond_edge drawing bond)) drawing.bonds
          (λ k d lt. let joins = bonds_join atoms drawing.bonds sound k d lt in
          record { a = λ e. joins.a; b = λ e. joins.b })))
          (hydrogens_lead atoms atoms (carriers drawing)));
    }

pub other_by : (drawn vertex : ℕ) (edge : Edge) → LeadsToAtom drawn edge → edge.order ≡ 2 → (b : Bool)
    → cond b edge.b edge.a < drawn
other_by drawn vertex edge leads e true = leads.b e
other_by drawn vertex edge leads e false = leads.a e

pub all_lead : (graph : Graph) → LeadsToAtoms graph → (vertex : ℕ)
    → AllByRecursion (LeadsToAtom graph.drawn) (edges_at graph vertex)
all_lead graph leads vertex =
    let P = LeadsToAtom graph.drawn in
    sorted_all P vertex (filter (touches vertex) graph.edges)
    (all_filtered P (touches vertex) graph.edges (by_recursion P graph.edges leads.each))

pub leads_on : (graph : Graph) → LeadsToAtoms graph → (vertex : ℕ) (items : List Edge) (k : ℕ) (d : Edge)
    → items ≡ edges_at graph vertex → k < length items
    → (get_or items k d).order ≡ 2 → other_end vertex (get_or items k d) < graph.drawn
leads_on graph leads vertex items k d same lt order =
    let P = LeadsToAtom graph.drawn in
    let here : P (get_or (edges_at graph vertex) k d) =
    All-from_recursion P (edges_at graph vertex) (all_lead graph leads vertex) k d (rw (← same) lt) in
    let there : P (get_or items k d) = rw same here in
    other_by graph.drawn vertex (get_or items k d) there order ((get_or items k d).a == vertex)
