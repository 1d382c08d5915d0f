-- The graph of a renumbered drawing is a renamed graph: atoms and bonds go to their images, and hydrogens follow.
use Rattle.std.proofs.Common.{◌≡◌, ◌⊎◌, inl, inr, ◌<◌, ◌≤◌, ◌+◌, ◌-◌, ℕ, zero, suc, List, [], ◌∷◌, ◌++◌, map, length, filter, sum, refl, sym, ap, subst, ◌∙◌, Bool, true, false, cond, ◌==◌, ◌||◌, nat_lt, eqb-true, ltb-true, ltb-false, lt-ltb, le-ltb, arith}
use Rattle.std.specs.List.{AllByRecursion, range_with_len}
use Rattle.std.specs.List.Sorted.{IsPermutation}
use Rattle.std.proofs.lemmas.Bool.{cases_lt, ne_eqb}
use Rattle.std.proofs.lemmas.List.{length-map, length-append, get_or_append_left, get_or-append_right, get_or-map, get_or_past, map-append}
use Rattle.std.proofs.lemmas.List.FromFn.{length-range_with_len, get_or-map-range_with_len}
use Rattle.std.proofs.lemmas.List.Sorted.{IsPermutation-refl, IsPermutation-sym, IsPermutation-trans, IsPermutation-cons, IsPermutation-map, IsPermutation-append_left, IsPermutation-append_comm, sum_by-IsPermutation}
use Rattle.cip_rank.specs.Matching.{InPairs}
use Rattle.cip_mol.specs.Bonds as bonds
use Rattle.cip_mol.specs.Drawing.{Drawing}
use Rattle.cip_mol.specs.declared.graph.molecule.Bond.{Bond}
use Rattle.cip_mol.proofs.lemmas.SimpleBonds.{IsJoin}
use Rattle.cip_digraph.specs.graph.DrawnGraph.{atom_vertex, hydrogen, bond_edge, carriers, hydrogen_edges, graph_of}
use Rattle.cip_digraph.specs.declared.drawing.graph.Edge.{Edge}
use Rattle.cip_digraph.specs.graph.Graph.{Graph, no_vertex, vertex_at, other_end, insert_up, sorted_up, edges_at}
use Rattle.cip_digraph.specs.graph.Graph as graphs
use Rattle.cip_digraph.specs.graph.Hydrogens.{hydrogens_of}
use Rattle.cip_digraph.specs.graph.Renumbering.{IsForward, IsTurned, hydrogen_number, IsRenumbering}
use Rattle.cip_digraph.proofs.lemmas.lists.Elements.{all_by, all_arranged}
use Rattle.cip_symmetry.proofs.lemmas.lists.Arranged.{filter_arranged}
use Rattle.cip_symmetry.proofs.lemmas.lists.CarriedLists.{mapped_twice, mapped_below}
use Rattle.cip_symmetry.specs.Renamed.{IsInjective}
use Rattle.cip_symmetry.specs.Renamed.{Way, way, ways, way_image, IsRenamed}
use Rattle.cip_laws.proofs.lemmas.graph.Inverses.{IsOnto}
use Rattle.cip_laws.proofs.lemmas.graph.HydrogenPlaces.{before, locate, below_later, one_place, single_way, ways_from, ways_in, ways_append, carried_long, atom_ways, hydrogen_ways, beyond_ways}
use Rattle.cip_laws.proofs.lemmas.drawings.RenumberedAtoms.{IsImageBond, image_below, image_injective, image_onto, image_eq, bond_pairs, touches_carried, hydrogens_same, atom_same, lone_same, counted_same, bonds_join}

insert_permutes : (vertex : ℕ) (edge : Edge) (edges : List Edge)
    → IsPermutation (edge ∷ edges) (insert_up vertex edge edges)
insert_permutes vertex edge [] = IsPermutation-refl (edge ∷ [])
insert_permutes vertex edge (next ∷ edges) =
    by (nat_lt (other_end vertex next) (other_end vertex edge)) (insert_permutes vertex edge edges)
  where
    by : (b : Bool) → IsPermutation (edge ∷ edges) (insert_up vertex edge edges)
        → IsPermutation (edge ∷ next ∷ edges) (cond b (next ∷ insert_up vertex edge edges) (edge ∷ next ∷ edges))
    by false p = IsPermutation-refl (edge ∷ next ∷ edges)
    by true p =
        IsPermutation-trans (edge ∷ next ∷ edges) (next ∷ edge ∷ edges) (next ∷ insert_up vertex edge edges)
        (IsPermutation-append_left edges (edge ∷ next ∷ []) (next ∷ edge ∷ [])
        (IsPermutation-append_comm (edge ∷ []) (next ∷ [])))
        (IsPermutation-cons next (edge ∷ edges) (insert_up vertex edge edges) p)

pub sorted_permutes : (vertex : ℕ) (edges : List Edge) → IsPermutation edges (sorted_up vertex edges)
sorted_permutes vertex [] = IsPermutation-refl []
sorted_permutes vertex (edge ∷ edges) =
    IsPermutation-trans (edge ∷ edges) (edge ∷ sorted_up vertex edges) (insert_up vertex edge (sorted_up vertex edges))
    (IsPermutation-cons edge edges (sorted_up vertex edges) (sorted_permutes vertex edges))
    (insert_permutes vertex edge (sorted_up vertex edges))

pub ways_unsorted : (graph : Graph) (vertex : ℕ) → IsPermutation (ways_in vertex graph.edges) (ways graph vertex)
ways_unsorted graph vertex =
    IsPermutation-map (way vertex) (filter (graphs.touches vertex) graph.edges) (edges_at graph vertex)
    (sorted_permutes vertex (filter (graphs.touches vertex) graph.edges))

module _ (drawing : Drawing) where
  abbrev pub count : ℕ
  count = length drawing.atoms

  abbrev pub total : ℕ
  total = length drawing.atoms + before (hydrogens_of drawing) 0 (length drawing.atoms)

  atoms_long : length (map (atom_vertex drawing) (range_with_len 0 count)) ≡ count
  atoms_long = length-map (range_with_len 0 count) (atom_vertex drawing) ∙ length-range_with_len 0 count

  hydrogens_long : length (map (λ _. hydrogen) (carriers drawing)) ≡ before (hydrogens_of drawing) 0 count
  hydrogens_long = length-map (carriers drawing) (λ _. hydrogen) ∙ carried_long (hydrogens_of drawing) 0 count

  pub vertices_long : length (graph_of drawing).vertices ≡ total
  unfolding graph_of
  vertices_long =
      length-append (map (atom_vertex drawing) (range_with_len 0 count)) (map (λ _. hydrogen) (carriers drawing))
      ∙ ap (λ n. n + length (map (λ _. hydrogen) (carriers drawing))) atoms_long ∙ ap (λ n. count + n) hydrogens_long

  vertex_of_atom : (v : ℕ) → v < count → vertex_at (graph_of drawing) v ≡ atom_vertex drawing v
  unfolding graph_of
  vertex_of_atom v lt =
      get_or_append_left (map (atom_vertex drawing) (range_with_len 0 count)) (map (λ _. hydrogen) (carriers drawing))
      no_vertex v (let e = atoms_long in omega (arith, e, lt))
      ∙ get_or-map-range_with_len (atom_vertex drawing) 0 count v v no_vertex lt (omega arith)

  -- one of an atom's implicit hydrogens
  pub record IsHydrogen (v : ℕ) : Type 0 where
    pub atom : ℕ
    pub index : ℕ
    pub below : atom < count
    pub within : index < hydrogens_of drawing atom
    pub is : v ≡ hydrogen_number drawing atom index

  -- each of them comes after the atoms
  pub hydrogen_range : (v : ℕ) → IsHydrogen v → (count ≤ v) × (v < total)
  hydrogen_range v p =
      let e = p.is in
      let few = p.within in
      let most = below_later (hydrogens_of drawing) 0 p.atom count p.below in
      let same : hydrogens_of drawing (0 + p.atom) ≡ hydrogens_of drawing p.atom =
      ap (hydrogens_of drawing) (let zero_more : 0 + p.atom ≡ p.atom = omega arith in zero_more) in
      (omega (arith, e), omega (arith, e, few, most, same))

  hydrogen_at : (v : ℕ) → count ≤ v → v < total → IsHydrogen v
  hydrogen_at v le lt =
      let p = locate (hydrogens_of drawing) 0 count (v - count) (omega (arith, lt, le)) in
      record {
        atom = p.place;
        index = p.index;
        below = p.below;
        within =
            subst (λ k. p.index < hydrogens_of drawing k)
            (let zero_more : 0 + p.place ≡ p.place = omega arith in zero_more) p.within;
        is = (let e = p.is in omega (arith, e, le));
      }

  -- what is at a number
  pub data Kind (v : ℕ) : Type 0 where
    Drawn : v < count → Kind v
    Implicit : IsHydrogen v → Kind v
    Beyond : total ≤ v → Kind v

  pub kind_of : (v : ℕ) → Kind v
  kind_of v = elim (cases_lt v count) [
    | inl lt ↦ Drawn lt
    | inr le ↦ elim (cases_lt v total) [ inl lt ↦ Implicit (hydrogen_at v le lt) | inr beyond ↦ Beyond beyond ]
  ]

  pub vertex_of_hydrogen : (v : ℕ) → IsHydrogen v → vertex_at (graph_of drawing) v ≡ hydrogen
  unfolding graph_of
  vertex_of_hydrogen v p =
      let range = hydrogen_range v p in
      get_or-append_right (map (atom_vertex drawing) (range_with_len 0 count)) (map (λ _. hydrogen) (carriers drawing))
      count v no_vertex atoms_long range.0
      ∙ get_or-map (λ _. hydrogen) (carriers drawing) (v - count) 0 no_vertex
      (let e = carried_long (hydrogens_of drawing) 0 count in omega (arith, e, range))

  pub vertex_of_none : (v : ℕ) → total ≤ v → vertex_at (graph_of drawing) v ≡ no_vertex
  vertex_of_none v le =
      get_or_past (graph_of drawing).vertices v no_vertex (let e = vertices_long in omega (arith, e, le))

  abbrev pub bond_ways : ℕ → List Bond → List Way
  bond_ways v some = ways_in v (map (bond_edge drawing) some)

  abbrev pub hydrogen_part : ℕ → List Way
  hydrogen_part v = ways_in v (hydrogen_edges count (carriers drawing))

  pub parts : (v : ℕ) → IsPermutation (bond_ways v drawing.bonds ++ hydrogen_part v) (ways (graph_of drawing) v)
  unfolding graph_of
  parts v =
      subst (λ ws. IsPermutation ws (ways (graph_of drawing) v))
      (ways_append v (map (bond_edge drawing) drawing.bonds) (hydrogen_edges count (carriers drawing)))
      (ways_unsorted (graph_of drawing) v)

  pub record Below (bond : Bond) : Type 0 where
    pub a : bond.a < count
    pub b : bond.b < count

  pub no_bonds : (v : ℕ) → count ≤ v → (some : List Bond) → AllByRecursion Below some → bond_ways v some ≡ []
  no_bonds v le [] all = refl
  no_bonds v le (bond ∷ some) all =
      let lt_a = all.0.a in
      let lt_b = all.0.b in
      rw (
        ne_eqb bond.a v (λ e. absurd (omega (arith, e, lt_a, le))),
        ne_eqb bond.b v (λ e. absurd (omega (arith, e, lt_b, le))),
      )
      (no_bonds v le some all.1)

  pub bonds_arranged : (v : ℕ) (xs ys : List Bond) → IsPermutation xs ys
      → IsPermutation (bond_ways v xs) (bond_ways v ys)
  bonds_arranged v xs ys p =
      IsPermutation-map (way v) (filter (graphs.touches v) (map (bond_edge drawing) xs))
      (filter (graphs.touches v) (map (bond_edge drawing) ys))
      (filter_arranged (graphs.touches v) (map (bond_edge drawing) xs) (map (bond_edge drawing) ys)
      (IsPermutation-map (bond_edge drawing) xs ys p))

  -- the ways to an atom's hydrogens, and from each of them
  hydrogens_from : (v : ℕ) → v < count
      → hydrogen_part v ≡ ways_from (count + before (hydrogens_of drawing) 0 v) (hydrogens_of drawing v)
  hydrogens_from v lt =
      subst
      (λ w. hydrogen_part w ≡ ways_from (count + before (hydrogens_of drawing) 0 v) (hydrogens_of drawing w))
      (let zero_more : 0 + v ≡ v = omega arith in zero_more)
      (atom_ways (hydrogens_of drawing) v 0 count count lt (omega (arith, lt)))

  hydrogen_from : (v : ℕ) (p : IsHydrogen v) → hydrogen_part v ≡ single_way p.atom ∷ []
  hydrogen_from v p =
      let zero_more : 0 + p.atom ≡ p.atom = omega arith in
      ap hydrogen_part p.is
      ∙ hydrogen_ways (hydrogens_of drawing) p.atom 0 count count p.index p.below
      (subst (λ k. p.index < hydrogens_of drawing k) (sym zero_more) p.within) (omega arith)
      ∙ ap (λ k. single_way k ∷ []) zero_more

  hydrogens_beyond : (v : ℕ) → total ≤ v → hydrogen_part v ≡ []
  hydrogens_beyond v le = beyond_ways (hydrogens_of drawing) v 0 count count le (omega arith)

-- image on the vertices, and the identity elsewhere
abbrev pub carry : Drawing → (ℕ → ℕ) → ℕ → ℕ
carry drawing image v =
    cond (nat_lt v (length drawing.atoms + before (hydrogens_of drawing) 0 (length drawing.atoms))) (image v) v

module _ (drawing other : Drawing) (image : ℕ → ℕ) (r : IsRenumbering drawing other image)
    (sound : bonds.IsSound (length drawing.atoms) drawing.bonds) where
  abbrev n : ℕ
  n = length drawing.atoms

  abbrev h : ℕ → ℕ
  h = hydrogens_of drawing

  abbrev g : ℕ → ℕ
  g = hydrogens_of other

  hydrogens_together : before g 0 n ≡ before h 0 n
  hydrogens_together =
      sum_by-IsPermutation (λ x. x) (map g (map image (range_with_len 0 n))) (map g (range_with_len 0 n))
      (IsPermutation-map g (map image (range_with_len 0 n)) (range_with_len 0 n) r.permutation)
      ∙ ap sum
      (mapped_twice image g (range_with_len 0 n)
      ∙ mapped_below (λ k. g (image k)) h 0 n
      (λ v le lt. hydrogens_same drawing other image r sound v (omega (arith, lt))))

  pub total_same : total other ≡ total drawing
  total_same = ap (λ m. m + before g 0 m) r.len ∙ ap (λ s. n + s) hydrogens_together

  abbrev c : ℕ → ℕ
  c = carry drawing image

  of_vertex : (v : ℕ) → v < total drawing → c v ≡ image v
  of_vertex v lt = ap (λ b. cond b (image v) v) (lt-ltb v (total drawing) lt)

  pub of_atom : (v : ℕ) → v < n → c v ≡ image v
  of_atom v lt = of_vertex v (omega (arith, lt))

  pub of_none : (v : ℕ) → total drawing ≤ v → c v ≡ v
  of_none v le = ap (λ b. cond b (image v) v) (le-ltb v (total drawing) le)

  their_atom : (v : ℕ) → v < n → image v < length other.atoms
  their_atom v lt = let low = image_below drawing other image r sound v lt in let same = r.len in
      omega (arith, low, same)

  pub goes : (k i : ℕ) → k < n → i < h k → c (hydrogen_number drawing k i) ≡ hydrogen_number other (image k) i
  goes k i lt few =
      of_vertex (hydrogen_number drawing k i)
      (hydrogen_range drawing (hydrogen_number drawing k i)
      (record { atom = k; index = i; below = lt; within = few; is = refl })).1
      ∙ r.hydrogens k i lt few

  abbrev image_hydrogen : (v : ℕ) → IsHydrogen drawing v → IsHydrogen other (c v)
  image_hydrogen v p = record {
    atom = image p.atom;
    index = p.index;
    below = their_atom p.atom p.below;
    within = subst (λ m. p.index < m) (sym (hydrogens_same drawing other image r sound p.atom p.below)) p.within;
    is = ap c p.is ∙ goes p.atom p.index p.below p.within;
  }

  -- each kind goes to its own
  below : (v : ℕ) → v < n → c v < length other.atoms
  below v lt = let e = of_atom v lt in let low = their_atom v lt in omega (arith, e, low)

  above : (v : ℕ) → n ≤ v → length other.atoms ≤ c v
  above v le = elim (cases_lt v (total drawing)) [
    | inl lt ↦ (hydrogen_range other (c v) (image_hydrogen v (hydrogen_at drawing v le lt))).0
    | inr beyond ↦ let e = of_none v beyond in let same = r.len in omega (arith, e, le, same)
  ]

  inside : (v : ℕ) → v < total drawing → c v < total other
  inside v lt = elim (cases_lt v n) [
    | inl low ↦ let there = below v low in omega (arith, there)
    | inr le ↦ (hydrogen_range other (c v) (image_hydrogen v (hydrogen_at drawing v le lt))).1
  ]

  outside : (v : ℕ) → total drawing ≤ v → total other ≤ c v
  outside v le = let e = of_none v le in let same = total_same in omega (arith, e, same, le)

  same_side : (a b m k : ℕ) → (a < m → b < k) → (m ≤ a → k ≤ b) → nat_lt b k ≡ nat_lt a m
  same_side a b m k f g = elim (cases_lt a m) [
    | inl lt ↦ lt-ltb b k (f lt) ∙ sym (lt-ltb a m lt)
    | inr le ↦ le-ltb b k (g le) ∙ sym (le-ltb a m le)
  ]

  pub drawn_same : (v : ℕ) → nat_lt (c v) (length other.atoms) ≡ nat_lt v n
  drawn_same v = same_side v (c v) n (length other.atoms) (below v) (above v)

  within_same : (v : ℕ) → nat_lt (c v) (total other) ≡ nat_lt v (total drawing)
  within_same v = same_side v (c v) (total drawing) (total other) (inside v) (outside v)

  injective : IsInjective c
  injective a b e = by (kind_of drawing a)
    where
      low : nat_lt b n ≡ nat_lt a n
      low = sym (drawn_same b) ∙ ap (λ v. nat_lt v (length other.atoms)) (sym e) ∙ drawn_same a

      inner : nat_lt b (total drawing) ≡ nat_lt a (total drawing)
      inner = sym (within_same b) ∙ ap (λ v. nat_lt v (total other)) (sym e) ∙ within_same a

      two_hydrogens : IsHydrogen drawing a → IsHydrogen drawing b → a ≡ b
      two_hydrogens p q =
          let one = image_hydrogen a p in
          let two = image_hydrogen b q in
          let same : before g 0 one.atom + one.index ≡ before g 0 two.atom + two.index =
          (let e1 = one.is in let e2 = two.is in omega (arith, e, e1, e2)) in
          let places = one_place g one.atom two.atom one.index two.index one.within two.within same in
          let atoms = image_injective drawing other image r sound p.atom q.atom p.below q.below places.0 in
          p.is ∙ ap (λ k. hydrogen_number drawing k p.index) atoms ∙ ap (hydrogen_number drawing q.atom) places.1
          ∙ sym q.is

      by : Kind drawing a → a ≡ b
      by (Drawn lt) =
          let lt_b = ltb-true b n (low ∙ lt-ltb a n lt) in
          image_injective drawing other image r sound a b lt lt_b (sym (of_atom a lt) ∙ e ∙ of_atom b lt_b)
      by (Implicit p) =
          let range = hydrogen_range drawing a p in
          two_hydrogens p
          (hydrogen_at drawing b (ltb-false b n (low ∙ le-ltb a n range.0))
          (ltb-true b (total drawing) (inner ∙ lt-ltb a (total drawing) range.1)))
      by (Beyond le) =
          sym (of_none a le) ∙ e ∙ of_none b (ltb-false b (total drawing) (inner ∙ le-ltb a (total drawing) le))

  pub carry_onto : IsOnto c
  carry_onto w = by (kind_of other w)
    where
      by : Kind other w → (v : ℕ) × (w ≡ c v)
      by (Drawn lt) =
          let found = image_onto drawing other image r sound w (let same = r.len in omega (arith, lt, same)) in
          (found.0, found.2 ∙ sym (of_atom found.0 found.1))
      by (Implicit p) =
          let low = p.below in
          let found = image_onto drawing other image r sound p.atom (let same = r.len in omega (arith, low, same)) in
          let few : p.index < h found.0 =
          subst (λ k. p.index < k) (ap g found.2 ∙ hydrogens_same drawing other image r sound found.0 found.1)
          p.within in (
            hydrogen_number drawing found.0 p.index,
            p.is ∙ ap (λ k. hydrogen_number other k p.index) found.2 ∙ sym (goes found.0 p.index found.1 few),
          )
      by (Beyond le) = (w, sym (of_none w (let same = total_same in omega (arith, same, le))))

  vertex_same : (v : ℕ) → vertex_at (graph_of other) (c v) ≡ vertex_at (graph_of drawing) v
  vertex_same v = by (kind_of drawing v)
    where
      by : Kind drawing v → vertex_at (graph_of other) (c v) ≡ vertex_at (graph_of drawing) v
      by (Drawn lt) =
          ap (vertex_at (graph_of other)) (of_atom v lt) ∙ vertex_of_atom other (image v) (their_atom v lt)
          ∙ rw (lone_same drawing other image r sound v lt, atom_same drawing other image r sound v lt)
          (sym (vertex_of_atom drawing v lt))
      by (Implicit p) = vertex_of_hydrogen other (c v) (image_hydrogen v p) ∙ sym (vertex_of_hydrogen drawing v p)
      by (Beyond le) = vertex_of_none other (c v) (outside v le) ∙ sym (vertex_of_none drawing v le)

  -- the ways over bonds
  other_same : (v : ℕ) → v < n → (bond two : Bond) → IsImageBond image n bond two
      → graphs.touches v (bond_edge drawing bond) ≡ true
      → cond (two.a == image v) two.b two.a ≡ c (cond (bond.a == v) bond.b bond.a)
  other_same v lt bond two b touched = by b.is.ends (bond.a == v) refl
    where
      image_of_a : c bond.a ≡ image bond.a
      image_of_a = of_atom bond.a b.joins.a

      image_of_b : c bond.b ≡ image bond.b
      image_of_b = of_atom bond.b b.joins.b

      by : IsForward image bond two ⊎ IsTurned image bond two → (x : Bool) → (bond.a == v) ≡ x
          → cond (two.a == image v) two.b two.a ≡ c (cond (bond.a == v) bond.b bond.a)
      by (inl f) true e =
          rw (f.a, f.b, image_eq drawing other image r sound bond.a v b.joins.a lt, e) (sym image_of_b)
      by (inl f) false e =
          rw (f.a, f.b, image_eq drawing other image r sound bond.a v b.joins.a lt, e) (sym image_of_a)
      by (inr t) true e =
          let not_b : (bond.b == v) ≡ false =
          ne_eqb bond.b v (λ same. b.joins.differ (eqb-true bond.a v e ∙ sym same)) in
          rw (t.a, t.b, image_eq drawing other image r sound bond.b v b.joins.b lt, not_b, e) (sym image_of_b)
      by (inr t) false e =
          let is_b : (bond.b == v) ≡ true = sym (ap (λ y. y || (bond.b == v)) e) ∙ touched in
          rw (t.a, t.b, image_eq drawing other image r sound bond.b v b.joins.b lt, is_b, e) (sym image_of_a)

  way_same : (v : ℕ) → v < n → (bond two : Bond) → IsImageBond image n bond two
      → graphs.touches v (bond_edge drawing bond) ≡ true
      → way (image v) (bond_edge other two) ≡ way_image c (way v (bond_edge drawing bond))
  way_same v lt bond two b touched =
      rw (counted_same drawing other image r sound bond two b, other_same v lt bond two b touched, b.is.order)

  pairs_ways : (v : ℕ) → v < n → (some theirs : List Bond) → InPairs (IsImageBond image n) some theirs
      → bond_ways other (image v) theirs ≡ map (way_image c) (bond_ways drawing v some)
  pairs_ways v lt [] [] p = refl
  pairs_ways v lt [] (two ∷ theirs) p = absurd p
  pairs_ways v lt (bond ∷ some) [] p = absurd p
  pairs_ways v lt (bond ∷ some) (two ∷ theirs) p =
      by (graphs.touches v (bond_edge drawing bond)) refl (pairs_ways v lt some theirs p.1)
    where
      by : (b : Bool) → graphs.touches v (bond_edge drawing bond) ≡ b
          → bond_ways other (image v) theirs ≡ map (way_image c) (bond_ways drawing v some)
          → bond_ways other (image v) (two ∷ theirs) ≡ map (way_image c) (bond_ways drawing v (bond ∷ some))
      by true e rest =
          let f = touches_carried drawing other image r sound v lt bond two p.0 ∙ e in
          rw (f, e) (ap (λ w. w ∷ bond_ways other (image v) theirs) (way_same v lt bond two p.0 e)
          ∙ ap (λ ws. way_image c (way v (bond_edge drawing bond)) ∷ ws) rest)
      by false e rest =
          let f = touches_carried drawing other image r sound v lt bond two p.0 ∙ e in rw (f, e) rest

  bonds_atom : (v : ℕ) → v < n
      → IsPermutation (map (way_image c) (bond_ways drawing v drawing.bonds)) (bond_ways other (c v) other.bonds)
  bonds_atom v lt =
      rw (of_atom v lt)
      (IsPermutation-trans (map (way_image c) (bond_ways drawing v drawing.bonds))
      (map (way_image c) (bond_ways drawing v r.bonds.one)) (bond_ways other (image v) other.bonds)
      (IsPermutation-map (way_image c) (bond_ways drawing v drawing.bonds) (bond_ways drawing v r.bonds.one)
      (bonds_arranged drawing v drawing.bonds r.bonds.one r.bonds.of_one))
      (subst (λ ws. IsPermutation ws (bond_ways other (image v) other.bonds))
      (pairs_ways v lt r.bonds.one r.bonds.other (bond_pairs drawing other image r sound))
      (IsPermutation-sym (bond_ways other (image v) other.bonds) (bond_ways other (image v) r.bonds.other)
      (bonds_arranged other (image v) other.bonds r.bonds.other r.bonds.of_other))))

  our_below : AllByRecursion (Below drawing) drawing.bonds
  our_below =
      all_by (IsJoin n) (Below drawing) (λ b j. record { a = j.a; b = j.b }) drawing.bonds
      (bonds_join drawing other image r sound)

  their_below : AllByRecursion (Below other) other.bonds
  their_below =
      all_arranged (Below other) r.bonds.other other.bonds
      (IsPermutation-sym other.bonds r.bonds.other r.bonds.of_other)
      (each r.bonds.one r.bonds.other (bond_pairs drawing other image r sound))
    where
      one : (bond two : Bond) → IsImageBond image n bond two → Below other two
      one bond two b =
          let low_a = their_atom bond.a b.joins.a in
          let low_b = their_atom bond.b b.joins.b in
          elim b.is.ends [
            | inl f ↦ let a = f.a in let b = f.b in record { a = omega (arith, a, low_a); b = omega (arith, b, low_b) }
            | inr t ↦ let a = t.a in let b = t.b in record { a = omega (arith, a, low_b); b = omega (arith, b, low_a) }
          ]

      each : (some theirs : List Bond) → InPairs (IsImageBond image n) some theirs → AllByRecursion (Below other) theirs
      each [] [] p = tt
      each [] (two ∷ theirs) p = absurd p
      each (bond ∷ some) [] p = absurd p
      each (bond ∷ some) (two ∷ theirs) p = (one bond two p.0, each some theirs p.1)

  bonds_beyond : (v : ℕ) → n ≤ v
      → IsPermutation (map (way_image c) (bond_ways drawing v drawing.bonds)) (bond_ways other (c v) other.bonds)
  bonds_beyond v le =
      rw (no_bonds drawing v le drawing.bonds our_below, no_bonds other (c v) (above v le) other.bonds their_below)
      (IsPermutation-refl [])

  -- the ways to and from hydrogens
  from_carried : (many a b : ℕ) → ((i : ℕ) → i < many → c (a + i) ≡ b + i)
      → map (way_image c) (ways_from a many) ≡ ways_from b many
  from_carried zero a b same = refl
  from_carried (suc many) a b same =
      ap (λ to. single_way to ∷ map (way_image c) (ways_from (a + 1) many))
      (ap c (let e : a ≡ a + 0 = omega arith in e) ∙ same 0 (omega arith) ∙ (let e : b + 0 ≡ b = omega arith in e))
      ∙ ap (λ ws. single_way b ∷ ws)
      (from_carried many (a + 1) (b + 1)
      (λ i lt. ap c (let e : a + 1 + i ≡ a + suc i = omega arith in e) ∙ same (suc i) (omega (arith, lt))
      ∙ (let e : b + suc i ≡ b + 1 + i = omega arith in e)))

  hydrogens_atom : (v : ℕ) → v < n → map (way_image c) (hydrogen_part drawing v) ≡ hydrogen_part other (c v)
  hydrogens_atom v lt =
      ap (map (way_image c)) (hydrogens_from drawing v lt)
      ∙ from_carried (h v) (n + before h 0 v) (length other.atoms + before g 0 (image v)) (λ i few. goes v i lt few)
      ∙ ap (ways_from (length other.atoms + before g 0 (image v)))
      (sym (hydrogens_same drawing other image r sound v lt))
      ∙ sym (hydrogens_from other (image v) (their_atom v lt)) ∙ ap (hydrogen_part other) (sym (of_atom v lt))

  hydrogens_hydrogen : (v : ℕ) → IsHydrogen drawing v
      → map (way_image c) (hydrogen_part drawing v) ≡ hydrogen_part other (c v)
  hydrogens_hydrogen v p =
      ap (map (way_image c)) (hydrogen_from drawing v p) ∙ ap (λ k. single_way k ∷ []) (of_atom p.atom p.below)
      ∙ sym (hydrogen_from other (c v) (image_hydrogen v p))

  both_parts : (v : ℕ)
      → IsPermutation (map (way_image c) (bond_ways drawing v drawing.bonds)) (bond_ways other (c v) other.bonds)
      → map (way_image c) (hydrogen_part drawing v) ≡ hydrogen_part other (c v)
      → IsPermutation (map (way_image c) (ways (graph_of drawing) v)) (ways (graph_of other) (c v))
  both_parts v p e =
      let here = bond_ways drawing v drawing.bonds in
      let there = bond_ways other (c v) other.bonds in
      IsPermutation-trans (map (way_image c) (ways (graph_of drawing) v))
      (map (way_image c) (here ++ hydrogen_part drawing v)) (ways (graph_of other) (c v))
      (IsPermutation-map (way_image c) (ways (graph_of drawing) v) (here ++ hydrogen_part drawing v)
      (IsPermutation-sym (here ++ hydrogen_part drawing v) (ways (graph_of drawing) v) (parts drawing v)))
      (IsPermutation-trans (map (way_image c) (here ++ hydrogen_part drawing v)) (there ++ hydrogen_part other (c v))
      (ways (graph_of other) (c v))
      (rw (map-append (way_image c) here (hydrogen_part drawing v), e)
      (IsPermutation-append_left (hydrogen_part other (c v)) (map (way_image c) here) there p))
      (parts other (c v)))

  ways_same : (v : ℕ) → IsPermutation (map (way_image c) (ways (graph_of drawing) v)) (ways (graph_of other) (c v))
  ways_same v = by (kind_of drawing v)
    where
      by : Kind drawing v → IsPermutation (map (way_image c) (ways (graph_of drawing) v)) (ways (graph_of other) (c v))
      by (Drawn lt) = both_parts v (bonds_atom v lt) (hydrogens_atom v lt)
      by (Implicit p) = both_parts v (bonds_beyond v (hydrogen_range drawing v p).0) (hydrogens_hydrogen v p)
      by (Beyond le) =
          both_parts v (bonds_beyond v (omega (arith, le)))
          (ap (map (way_image c)) (hydrogens_beyond drawing v le) ∙ sym (hydrogens_beyond other (c v) (outside v le)))

  drawn_renamed : (v : ℕ) → nat_lt (c v) (graph_of other).drawn ≡ nat_lt v (graph_of drawing).drawn
  unfolding graph_of
  drawn_renamed v = drawn_same v

  -- the graph of a renumbered drawing is renamed
  pub graph_renamed : IsRenamed (graph_of drawing) (graph_of other) (carry drawing image)
  graph_renamed = record {
    injective = injective;
    count = vertices_long other ∙ total_same ∙ sym (vertices_long drawing);
    vertices = vertex_same;
    ways = ways_same;
    within = λ v. ap (nat_lt (c v)) (vertices_long other) ∙ within_same v ∙ ap (nat_lt v) (sym (vertices_long drawing));
    drawn = drawn_renamed;
  }
