-- What a drawing in its ranges gives: small sums of orders, bonds that join two atoms, and a graph in its ranges.
use Rattle.std.proofs.Common.{◌≡◌, ◌<◌, ◌≤◌, ◌+◌, ◌*◌, ℕ, suc, List, [], ◌∷◌, ◌++◌, map, length, length-append, get_or, take, replicate, None, false, refl, sym, ap, ◌∙◌, arith}
use Rattle.std.specs.Prelude.{slice_index_or, nat_le, not, ◌&&◌, ◌||◌}
use Rattle.std.specs.List.{All, range_with_len}
use Rattle.std.proofs.lemmas.Bool.Decides.{nat_tests}
use Rattle.std.proofs.lemmas.List.{length-map, length-replicate, map_more}
use Rattle.std.proofs.lemmas.List.Elements.{All-append, All-replicate}
use Rattle.std.proofs.lemmas.List.FromFn.{length-map-range_with_len, get_or-map-range_with_len, map-range_with_len_more}
use Rattle.cip_mol.specs.Bonds.{cause_of, IsSound}
use Rattle.cip_mol.specs.Drawing.{Drawing}
use Rattle.cip_mol.specs.Neighbours.{bonds_at, neighbours}
use Rattle.cip_mol.specs.Points.{no_atom}
use Rattle.cip_mol.specs.Ranges.{IsInRange, IsAtom}
use Rattle.cip_mol.specs.declared.graph.molecule.Atom.{Atom}
use Rattle.cip_mol.specs.declared.graph.molecule.Bond.{Bond}
use Rattle.cip_mol.proofs.lemmas.OtherEnds.{length-neighbours}
use Rattle.cip_digraph.specs.graph.DrawnGraph.{atom_vertex, bond_edge, carriers, graph_of, hydrogen, hydrogen_edges}
use Rattle.cip_digraph.specs.declared.drawing.graph.Edge.{Edge}
use Rattle.cip_digraph.specs.declared.drawing.graph.Vertex.{Vertex}
use Rattle.cip_digraph.specs.graph.Graph.{Graph}
use Rattle.cip_digraph.specs.graph.GraphRanges.{IsElement}
use Rattle.cip_digraph.specs.graph.GraphRanges as graphs
use Rattle.cip_digraph.specs.graph.Hydrogens.{atom_at, bond_orders, hydrogens}
use Rattle.cip_digraph.specs.graph.LonePairs.{lone_pair}
use Rattle.cip_digraph.specs.graph.Neglected.{neglects, neglects_at}
use Rattle.cip_hydro.specs.Carriers.{carriers_from}
use Rattle.cip_hydro.specs.ValenceState.{JoinsAtoms, surroundings_at, surroundings_of, counted_by, neglected_in}
use Rattle.cip_hydro.specs.declared.valence_state.ValenceState.{ValenceState}
use Rattle.cip_hydro.proofs.lemmas.Around.{carriers_are, surroundings_count, surroundings_read}
use Rattle.cip_hydro.proofs.lemmas.Sums.{fewer_at, orders_few}

pub orders_small : (drawing : Drawing) → IsInRange drawing → (atom : ℕ) → bond_orders atom drawing.bonds ≤ 98304
orders_small drawing range atom = let few = orders_few atom drawing.bonds range.bonds in
    omega (arith, few, range.few_bonds)

pub bonds_few : (drawing : Drawing) → IsInRange drawing → (atom : ℕ) → length (bonds_at atom drawing.bonds) ≤ 32768
bonds_few drawing range atom = let fewer = fewer_at atom drawing.bonds in
    omega (arith, fewer, range.few_bonds)

faultless : (atoms : ℕ) (before : List Bond) (bond : Bond) → cause_of atoms before bond ≡ None → JoinsAtoms atoms bond
unfolding cause_of
faultless atoms before bond none = record {
  a = grind (arith, nat_tests);
  b = grind (arith, nat_tests);
  differ = λ same. grind (arith, nat_tests);
}

pub bonds_join : (atoms : ℕ) (bonds : List Bond) → IsSound atoms bonds → All (JoinsAtoms atoms) bonds
bonds_join atoms bonds sound k d lt = faultless atoms (take k bonds) (slice_index_or bonds k d) (sound.each k lt d)

pub around_is : (drawing : Drawing) (number orders : ℕ) (atom : Atom) → atom ≡ atom_at drawing number
    → orders ≡ bond_orders number drawing.bonds
    → ◌≡◌ {A = ValenceState} (record {
      hydrogens = hydrogens atom orders;
      lone = lone_pair atom orders (hydrogens atom orders);
      is_neglected = neglects atom.z (length (neighbours number drawing.bonds) + hydrogens atom orders)
          (lone_pair atom orders (hydrogens atom orders));
    })
    (surroundings_at drawing number)
around_is drawing number orders atom e f = rw (e, f, length-neighbours number drawing.bonds) refl

neglected_read : (drawing : Drawing) (atom : ℕ) → atom < length drawing.atoms
    → neglected_in (surroundings_of drawing) atom ≡ neglects_at drawing atom
neglected_read drawing atom within =
    ap (λ around. around.is_neglected)
    (surroundings_read drawing atom (record { hydrogens = 0; lone = false; is_neglected = false }) within)

pub counted_is : (drawing : Drawing) (bond : Bond) → JoinsAtoms (length drawing.atoms) bond
    → ◌≡◌ {A = Edge}
    (record { a = bond.a; b = bond.b; order = bond.order; counted = counted_by (surroundings_of drawing) bond })
    (bond_edge drawing bond)
counted_is drawing bond joins =
    let all = surroundings_of drawing in
    ap (λ neglected. record {
      a = bond.a;
      b = bond.b;
      order = bond.order;
      counted = nat_le 2 bond.order && not (neglected || neglected_in all bond.b);
    }) (neglected_read drawing bond.a joins.a)
    ∙ ap (λ neglected. record {
      a = bond.a;
      b = bond.b;
      order = bond.order;
      counted = nat_le 2 bond.order && not (neglects_at drawing bond.a || neglected);
    }) (neglected_read drawing bond.b joins.b)

-- the loops over bonds, atoms and numbers
pub edges_next : (drawing : Drawing) (bonds : List Bond) (around : List ValenceState) (edges : List Edge) (k : ℕ)
    (d : Bond) (edge : Edge)
    → bonds ≡ drawing.bonds → around ≡ surroundings_of drawing → All (JoinsAtoms (length drawing.atoms)) drawing.bonds
    → k < length bonds
    → edges ≡ map (bond_edge drawing) (take k drawing.bonds)
    → edge ≡ record {
      a = (get_or bonds k d).a;
      b = (get_or bonds k d).b;
      order = (get_or bonds k d).order;
      counted = counted_by around (get_or bonds k d);
    }
    → edges ++ edge ∷ [] ≡ map (bond_edge drawing) (take (k + 1) drawing.bonds)
edges_next drawing bonds around edges k d edge same all joins lt before is =
    let within : k < length drawing.bonds = rw (← same) lt in
    rw (is, before, same, all, counted_is drawing (get_or drawing.bonds k d) (joins k d within))
    (sym (map_more (bond_edge drawing) drawing.bonds k d within))

pub vertices_next : (drawing : Drawing) (atoms : List Atom) (around : List ValenceState) (vertices : List Vertex)
    (k : ℕ) (d : ValenceState) (vertex : Vertex)
    → atoms ≡ drawing.atoms → around ≡ surroundings_of drawing → k < length atoms
    → vertices ≡ map (atom_vertex drawing) (range_with_len 0 k)
    → vertex ≡ record {
      z = (get_or atoms k no_atom).z;
      isotope = (get_or atoms k no_atom).isotope;
      charge = (get_or atoms k no_atom).charge;
      lone = (get_or around k d).lone;
    }
    → vertices ++ vertex ∷ [] ≡ map (atom_vertex drawing) (range_with_len 0 (k + 1))
vertices_next drawing atoms around vertices k d vertex same all lt before is =
    let within : k < length drawing.atoms = rw (← same) lt in
    rw (is, before, same, all, surroundings_read drawing k d within)
    (sym (map-range_with_len_more (atom_vertex drawing) 0 k k (omega arith)))

pub around_next : (drawing : Drawing) (all : List ValenceState) (k : ℕ) (around : ValenceState)
    → all ≡ map (surroundings_at drawing) (range_with_len 0 k) → around ≡ surroundings_at drawing k
    → all ++ around ∷ [] ≡ map (surroundings_at drawing) (range_with_len 0 (k + 1))
around_next drawing all k around before is =
    rw (is, before) (sym (map-range_with_len_more (surroundings_at drawing) 0 k k (omega arith)))

all_hydrogens : (xs : List ℕ) → map (λ _. hydrogen) xs ≡ replicate (length xs) hydrogen
all_hydrogens [] = refl
all_hydrogens (x ∷ xs) = ap (λ more. hydrogen ∷ more) (all_hydrogens xs)

pub graph_is : (drawing : Drawing) → graph_of drawing
    ≡ record {
      vertices = map (atom_vertex drawing) (range_with_len 0 (length drawing.atoms))
          ++ replicate (length (carriers drawing)) hydrogen;
      edges = map (bond_edge drawing) drawing.bonds ++ hydrogen_edges (length drawing.atoms) (carriers drawing);
      drawn = length drawing.atoms;
    }
unfolding graph_of
graph_is drawing = rw (all_hydrogens (carriers drawing)) refl

edges_counted : (first : ℕ) (atoms : List ℕ) → length (hydrogen_edges first atoms) ≡ length atoms
edges_counted first [] = refl
edges_counted first (atom ∷ atoms) = ap (λ n. suc n) (edges_counted (first + 1) atoms)

atom_is_element : (drawing : Drawing) → IsInRange drawing → (number : ℕ) → number < length drawing.atoms
    → IsElement (atom_vertex drawing number)
atom_is_element drawing range number lt =
    let is : IsAtom (atom_at drawing number) = range.atoms number _ lt in
    record { element = is.element; known = is.known }

atoms_are_elements : (drawing : Drawing) → IsInRange drawing
    → All IsElement (map (atom_vertex drawing) (range_with_len 0 (length drawing.atoms)))
atoms_are_elements drawing range k d lt =
    let within : k < length drawing.atoms =
    omega (arith, lt, length-map-range_with_len (atom_vertex drawing) 0 (length drawing.atoms)) in
    rw (get_or-map-range_with_len (atom_vertex drawing) 0 (length drawing.atoms) k k d within (omega arith))
    (atom_is_element drawing range k within)

pub graph_in_range : (drawing : Drawing) → IsInRange drawing → length (carriers drawing) ≤ 255 * length drawing.atoms
    → graphs.IsInRange (graph_of drawing)
graph_in_range drawing range few =
    let atoms = map (atom_vertex drawing) (range_with_len 0 (length drawing.atoms)) in
    let bonds = map (bond_edge drawing) drawing.bonds in
    rw (graph_is drawing) (record {
      few_vertices =
          omega (
            arith,
            few,
            range.few_atoms,
            length-append atoms (replicate (length (carriers drawing)) hydrogen),
            length-replicate (length (carriers drawing)) hydrogen,
            length-map-range_with_len (atom_vertex drawing) 0 (length drawing.atoms),
          );
      few_edges = omega (
        arith,
        few,
        range.few_atoms,
        range.few_bonds,
        length-append bonds (hydrogen_edges (length drawing.atoms) (carriers drawing)),
        edges_counted (length drawing.atoms) (carriers drawing),
        length-map drawing.bonds (bond_edge drawing),
      );
      vertices = All-append IsElement atoms (replicate (length (carriers drawing)) hydrogen)
          (atoms_are_elements drawing range)
          (All-replicate IsElement (length (carriers drawing)) hydrogen
          (record { element = omega arith; known = omega arith }));
    })

-- vertices and edges that are made of surroundings and carriers are those of the graph
module _ (drawing : Drawing) (around : List ValenceState) (carried : List ℕ) (all : around ≡ surroundings_of drawing)
    (are : carried ≡ carriers_from 0 around) where
  carried_are : carried ≡ carriers drawing
  carried_are = are ∙ ap (carriers_from 0) all ∙ carriers_are drawing

  pub around_counted : length around ≡ length drawing.atoms
  around_counted = ap length all ∙ surroundings_count drawing

  pub made_is : (vertices : List Vertex) (edges : List Edge) (drawn : ℕ)
      → vertices ≡ map (atom_vertex drawing) (range_with_len 0 (length drawing.atoms))
      ++ replicate (length carried) hydrogen
      → edges ≡ map (bond_edge drawing) drawing.bonds ++ hydrogen_edges (length drawing.atoms) carried
      → drawn ≡ length drawing.atoms
      → ◌≡◌ {A = Graph} (record { vertices = vertices; edges = edges; drawn = drawn }) (graph_of drawing)
  made_is vertices edges drawn e f g = rw (e, f, g, carried_are) (sym (graph_is drawing))

  pub made_in_range : IsInRange drawing → length carried ≤ 255 * length around → graphs.IsInRange (graph_of drawing)
  made_in_range range few =
      graph_in_range drawing range
      (let at = around_counted in let le = few in rw (← carried_are) (omega (arith, le, at)))
