-- Which end of a bond comes first, and its mark, play no part in the graph of a drawing but for the direction of edges.
use Rattle.std.proofs.Common.{◌≡◌, ◌⊎◌, inl, inr, ℕ, ◌+◌, List, [], ◌∷◌, ◌++◌, map, length, filter, sum, refl, sym, ap, ◌∙◌, Bool, true, false, not, cond, ◌==◌, ◌||◌, ◌&&◌, nat_le, nat_lt, flat_map, replicate, eqb-true, slice_index_or, subst}
use Rattle.std.specs.List.{range_with_len}
use Rattle.std.proofs.lemmas.List.Sums.{sum_by-cons}
use Rattle.cip_rank.specs.Matching.{InPairs}
use Rattle.cip_mol.specs.Bonds.{touches}
use Rattle.cip_mol.specs.Drawing.{Drawing}
use Rattle.cip_mol.specs.declared.graph.molecule.Atom.{Atom}
use Rattle.cip_mol.specs.declared.graph.molecule.Bond.{Bond}
use Rattle.cip_mol.specs.declared.site.Ligand.TheVariants.{LonePair}
use Rattle.cip_mol.specs.declared.site.Ligand.TheVariants as ligands
use Rattle.cip_digraph.specs.declared.drawing.graph.Edge.{Edge}
use Rattle.cip_digraph.specs.declared.drawing.graph.Vertex.{Vertex}
use Rattle.cip_digraph.specs.graph.DrawnGraph.{atom_vertex, hydrogen, bond_edge, carriers, hydrogen_edges, graph_of}
use Rattle.cip_digraph.specs.graph.Graph.{vertex_at, other_end, insert_up, sorted_up, neighbours}
use Rattle.cip_digraph.specs.graph.Graph as graphs
use Rattle.cip_digraph.specs.graph.Hydrogens.{atom_at, bond_orders, hydrogens, hydrogens_of}
use Rattle.cip_digraph.specs.graph.LonePairs.{lone_pair, lone_pair_of}
use Rattle.cip_digraph.specs.graph.Neglected.{neglects, neglects_at, is_counted}
use Rattle.cip_digraph.specs.units.Centres.{is_centre_by, is_centre, centre_ligands}
use Rattle.cip_mol.proofs.lemmas.Redrawn.{degree_same, or_turned, touches_same}
use Rattle.cip_mol.specs.Joins.{JoinsAlike, JoinAlike}
use Rattle.cip_edit.specs.Remarked.{AreRemarked}

abbrev orders_of : List Bond → List ℕ
orders_of bonds = map (λ (b : Bond). b.order) bonds

orders_same : (k : ℕ) (bonds others : List Bond) → JoinAlike bonds others
    → bond_orders k others ≡ bond_orders k bonds
orders_same k [] [] h = refl
orders_same k [] (c ∷ others) h = absurd h
orders_same k (b ∷ bonds) [] h = absurd h
orders_same k (b ∷ bonds) (c ∷ others) h =
    by (touches k b) (touches k c) (touches_same k b c h.0.ends) (orders_same k bonds others h.1)
  where
    by : (t u : Bool) → u ≡ t → bond_orders k others ≡ bond_orders k bonds
        → sum (orders_of (cond u (c ∷ filter (touches k) others) (filter (touches k) others)))
        ≡ sum (orders_of (cond t (b ∷ filter (touches k) bonds) (filter (touches k) bonds)))
    by true true e rest =
        sum_by-cons (λ o. o) c.order (orders_of (filter (touches k) others))
        ∙ (λ i. h.0.order i + rest i)
        ∙ sym (sum_by-cons (λ o. o) b.order (orders_of (filter (touches k) bonds)))
    by false false e rest = rest
    by true false e rest = let bad : false ≡ true = e in cc
    by false true e rest = let bad : true ≡ false = e in cc

-- an edge between the same vertices, in either direction
record EdgesAlike (one other : Edge) : Type 0 where
  ends : ((other.a ≡ one.a) × (other.b ≡ one.b)) ⊎ ((other.a ≡ one.b) × (other.b ≡ one.a))

edge_touches : (v : ℕ) (e f : Edge) → EdgesAlike e f → graphs.touches v f ≡ graphs.touches v e
edge_touches v e f h = by h.ends
  where
    by : ((f.a ≡ e.a) × (f.b ≡ e.b)) ⊎ ((f.a ≡ e.b) × (f.b ≡ e.a)) → graphs.touches v f ≡ graphs.touches v e
    by (inl s) = λ i. (s.0 i == v) || (s.1 i == v)
    by (inr s) = (λ i. (s.0 i == v) || (s.1 i == v)) ∙ or_turned (e.b == v) (e.a == v)

turned_end : (v a b : ℕ) (s t : Bool) → (a == v) ≡ s → (b == v) ≡ t → (s || t) ≡ true → cond t a b ≡ cond s b a
turned_end v a b true true e f h = let same : a ≡ v = eqb-true a v e in let also : b ≡ v = eqb-true b v f in cc
turned_end v a b true false e f h = refl
turned_end v a b false true e f h = refl
turned_end v a b false false e f h = let bad : false ≡ true = h in cc

edge_end : (v : ℕ) (e f : Edge) → EdgesAlike e f → graphs.touches v e ≡ true → other_end v f ≡ other_end v e
edge_end v e f h at = by h.ends
  where
    by : ((f.a ≡ e.a) × (f.b ≡ e.b)) ⊎ ((f.a ≡ e.b) × (f.b ≡ e.a)) → other_end v f ≡ other_end v e
    by (inl s) = λ i. cond (s.0 i == v) (s.1 i) (s.0 i)
    by (inr s) =
        (λ i. cond (s.0 i == v) (s.1 i) (s.0 i))
        ∙ turned_end v e.a e.b (e.a == v) (e.b == v) refl refl at

-- numbers in ascending order, as edges are sorted by their ends
abbrev insert_number : ℕ → List ℕ → List ℕ
insert_number n [] = n ∷ []
insert_number n (m ∷ ms) = cond (nat_lt m n) (m ∷ insert_number n ms) (n ∷ m ∷ ms)

abbrev sorted_numbers : List ℕ → List ℕ
sorted_numbers [] = []
sorted_numbers (n ∷ ns) = insert_number n (sorted_numbers ns)

inserted : (v : ℕ) (e : Edge) (edges : List Edge)
    → map (other_end v) (insert_up v e edges) ≡ insert_number (other_end v e) (map (other_end v) edges)
inserted v e [] = refl
inserted v e (f ∷ edges) = by (nat_lt (other_end v f) (other_end v e)) (inserted v e edges)
  where
    by : (b : Bool)
        → map (other_end v) (insert_up v e edges) ≡ insert_number (other_end v e) (map (other_end v) edges)
        → map (other_end v) (cond b (f ∷ insert_up v e edges) (e ∷ f ∷ edges))
        ≡ cond b (other_end v f ∷ insert_number (other_end v e) (map (other_end v) edges))
        (other_end v e ∷ other_end v f ∷ map (other_end v) edges)
    by true rest = ap (λ ns. other_end v f ∷ ns) rest
    by false rest = refl

sorted_ends : (v : ℕ) (edges : List Edge)
    → map (other_end v) (sorted_up v edges) ≡ sorted_numbers (map (other_end v) edges)
sorted_ends v [] = refl
sorted_ends v (e ∷ edges) =
    inserted v e (sorted_up v edges) ∙ ap (insert_number (other_end v e)) (sorted_ends v edges)

far_ends : (v : ℕ) (edges others : List Edge) → InPairs EdgesAlike edges others
    → map (other_end v) (filter (graphs.touches v) others) ≡ map (other_end v) (filter (graphs.touches v) edges)
far_ends v [] [] h = refl
far_ends v [] (f ∷ others) h = absurd h
far_ends v (e ∷ edges) [] h = absurd h
far_ends v (e ∷ edges) (f ∷ others) h =
    by (graphs.touches v e) (graphs.touches v f) refl (edge_touches v e f h.0) (far_ends v edges others h.1)
  where
    by : (t u : Bool) → graphs.touches v e ≡ t → u ≡ t
        → map (other_end v) (filter (graphs.touches v) others) ≡ map (other_end v) (filter (graphs.touches v) edges)
        → map (other_end v) (cond u (f ∷ filter (graphs.touches v) others) (filter (graphs.touches v) others))
        ≡ map (other_end v) (cond t (e ∷ filter (graphs.touches v) edges) (filter (graphs.touches v) edges))
    by true true is s rest = λ i. edge_end v e f h.0 is i ∷ rest i
    by false false is s rest = rest
    by true false is s rest = let bad : false ≡ true = s in cc
    by false true is s rest = let bad : true ≡ false = s in cc

pairs_append : {X : Type 0} (R : X → X → Type 0) (xs ys zs ws : List X) → InPairs R xs ys → InPairs R zs ws
    → InPairs R (xs ++ zs) (ys ++ ws)
pairs_append R [] [] zs ws h g = g
pairs_append R [] (y ∷ ys) zs ws h g = absurd h
pairs_append R (x ∷ xs) [] zs ws h g = absurd h
pairs_append R (x ∷ xs) (y ∷ ys) zs ws h g = (h.0, pairs_append R xs ys zs ws h.1 g)

edges_alike_self : (edges : List Edge) → InPairs EdgesAlike edges edges
edges_alike_self [] = tt
edges_alike_self (e ∷ edges) = (record { ends = inl (refl, refl) }, edges_alike_self edges)

module _ (atoms : List Atom) (bonds others : List Bond) (pairs : JoinAlike bonds others) where
  abbrev one : Drawing
  one = record { atoms = atoms; bonds = bonds }

  abbrev other : Drawing
  other = record { atoms = atoms; bonds = others }

  hydrogens_same : (k : ℕ) → hydrogens_of other k ≡ hydrogens_of one k
  hydrogens_same k = ap (hydrogens (atom_at one k)) (orders_same k bonds others pairs)

  lone_same : (k : ℕ) → lone_pair_of other k ≡ lone_pair_of one k
  lone_same k =
      let orders = orders_same k bonds others pairs in
      let held = hydrogens_same k in
      λ i. lone_pair (atom_at one k) (orders i) (held i)

  neglects_same : (k : ℕ) → neglects_at other k ≡ neglects_at one k
  neglects_same k =
      let degrees = degree_same k bonds others pairs in
      let held = hydrogens_same k in
      let lone = lone_same k in
      λ i. neglects (atom_at one k).z (degrees i + held i) (lone i)

  counted_same : (b c : Bond) → JoinsAlike b c → is_counted other c ≡ is_counted one b
  counted_same b c h =
      (λ i. nat_le 2 (h.order i) && not (neglects_same c.a i || neglects_same c.b i)) ∙ by h.ends
    where
      by : ((c.a ≡ b.a) × (c.b ≡ b.b)) ⊎ ((c.a ≡ b.b) × (c.b ≡ b.a))
          → (nat_le 2 b.order && not (neglects_at one c.a || neglects_at one c.b)) ≡ is_counted one b
      by (inl e) = λ i. nat_le 2 b.order && not (neglects_at one (e.0 i) || neglects_at one (e.1 i))
      by (inr e) =
          (λ i. nat_le 2 b.order && not (neglects_at one (e.0 i) || neglects_at one (e.1 i)))
          ∙ ap (λ t. nat_le 2 b.order && not t) (or_turned (neglects_at one b.b) (neglects_at one b.a))

  vertex_same : (k : ℕ) → atom_vertex other k ≡ atom_vertex one k
  vertex_same k =
      ap {B = Vertex} (λ l. record {
        z = (atom_at one k).z;
        isotope = (atom_at one k).isotope;
        charge = (atom_at one k).charge;
        lone = l;
      }) (lone_same k)

  carriers_same : carriers other ≡ carriers one
  carriers_same =
      ap (λ (h : ℕ → ℕ). flat_map (λ atom. replicate (h atom) atom) (range_with_len 0 (length atoms)))
      (λ i k. hydrogens_same k i)

  pub vertices_same : (graph_of other).vertices ≡ (graph_of one).vertices
  unfolding graph_of
  vertices_same =
      let here : (k : ℕ) → atom_vertex other k ≡ atom_vertex one k = vertex_same in
      let carried = carriers_same in
      λ i. map (λ k. here k i) (range_with_len 0 (length atoms)) ++ map (λ _. hydrogen) (carried i)

  edges_by : (some theirs : List Bond) → JoinAlike some theirs
      → InPairs EdgesAlike (map (bond_edge one) some) (map (bond_edge other) theirs)
  edges_by [] [] h = tt
  edges_by [] (c ∷ theirs) h = absurd h
  edges_by (b ∷ some) [] h = absurd h
  edges_by (b ∷ some) (c ∷ theirs) h = (record { ends = h.0.ends }, edges_by some theirs h.1)

  hydrogens_alike : InPairs EdgesAlike (hydrogen_edges (length atoms) (carriers one))
      (hydrogen_edges (length atoms) (carriers other))
  hydrogens_alike =
      subst (λ cs. InPairs EdgesAlike (hydrogen_edges (length atoms) (carriers one))
      (hydrogen_edges (length atoms) cs))
      (sym carriers_same) (edges_alike_self (hydrogen_edges (length atoms) (carriers one)))

  -- at each vertex the neighbours stay
  pub neighbours_same : (v : ℕ) → neighbours (graph_of other) v ≡ neighbours (graph_of one) v
  unfolding graph_of
  neighbours_same v =
      sorted_ends v (filter (graphs.touches v) (graph_of other).edges)
      ∙ ap sorted_numbers
      (far_ends v (graph_of one).edges (graph_of other).edges
      (pairs_append EdgesAlike (map (bond_edge one) bonds) (map (bond_edge other) others)
      (hydrogen_edges (length atoms) (carriers one)) (hydrogen_edges (length atoms) (carriers other))
      (edges_by bonds others pairs) hydrogens_alike))
      ∙ sym (sorted_ends v (filter (graphs.touches v) (graph_of one).edges))

  -- so a centre stays one, with its ligands
  pub centre_same : (v : ℕ) → is_centre (graph_of other) v ≡ is_centre (graph_of one) v
  unfolding graph_of
  centre_same v =
      let vertex : vertex_at (graph_of other) v ≡ vertex_at (graph_of one) v =
      λ i. slice_index_or (vertices_same i) v graphs.no_vertex in
      let nearer = neighbours_same v in
      λ i. is_centre_by (vertex i).z (vertex i).charge (length (nearer i))
      (length (filter (λ n. nat_lt n (length atoms)) (nearer i))) (vertex i).lone

  pub ligands_same : (v : ℕ) → centre_ligands (graph_of other) v ≡ centre_ligands (graph_of one) v
  ligands_same v =
      ap (λ nearer. map ligands.Vertex nearer ++ cond (length nearer == 3) (LonePair ∷ []) []) (neighbours_same v)

-- with other marks alone the graph stays
module _ (atom : ℕ) (atoms : List Atom) where
  joins_by : (bonds others : List Bond) → AreRemarked atom bonds others → JoinAlike bonds others
  joins_by [] [] h = tt
  joins_by [] (c ∷ others) h = absurd h
  joins_by (b ∷ bonds) [] h = absurd h
  joins_by (b ∷ bonds) (c ∷ others) h =
      (record { order = h.0.order; ends = inl (h.0.a, h.0.b) }, joins_by bonds others h.1)

  module _ (bonds others : List Bond) (pairs : AreRemarked atom bonds others) where
    edges_same : (some theirs : List Bond) → AreRemarked atom some theirs
        → map (bond_edge (record { atoms = atoms; bonds = others })) theirs
        ≡ map (bond_edge (record { atoms = atoms; bonds = bonds })) some
    edges_same [] [] h = refl
    edges_same [] (c ∷ theirs) h = absurd h
    edges_same (b ∷ some) [] h = absurd h
    edges_same (b ∷ some) (c ∷ theirs) h =
        let counted = counted_same atoms bonds others (joins_by bonds others pairs) b c
        (record { order = h.0.order; ends = inl (h.0.a, h.0.b) }) in
        let rest = edges_same some theirs h.1 in
        λ i. record { a = h.0.a i; b = h.0.b i; order = h.0.order i; counted = counted i } ∷ rest i

    pub graph_same : graph_of (record { atoms = atoms; bonds = others })
        ≡ graph_of (record { atoms = atoms; bonds = bonds })
    unfolding graph_of
    graph_same =
        let joined = joins_by bonds others pairs in
        let vertices = vertices_same atoms bonds others joined in
        let edges = edges_same bonds others pairs in
        let carried = carriers_same atoms bonds others joined in
        λ i. record {
          vertices = vertices i;
          edges = edges i ++ hydrogen_edges (length atoms) (carried i);
          drawn = length atoms;
        }
