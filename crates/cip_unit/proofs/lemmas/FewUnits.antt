-- A graph has few units: at most ten by an atom, as a centre, as the first end of a bond and as that of an axis.
use Rattle.std.proofs.Common.{◌≡◌, ◌<◌, ◌≤◌, ◌^◌, ◌-◌, ◌*◌, ◌==◌, ◌&&◌, ◌||◌, ◌++◌, ◌∷◌, ◌∙◌, [], ℕ, ℤ, pos, int_eq, Bool, true, false, cond, List, refl, sym, ap, arith, inl, inr, length, length-append, flat_map, map}
use Rattle.std.specs.Prelude.{filter}
use Rattle.std.specs.List.{range_with_len}
use Rattle.std.proofs.lemmas.Bool.{eqb-true, or_cases, true≢false, and_parts}
use Rattle.std.proofs.lemmas.List.{length-map}
use Rattle.std.proofs.lemmas.List.FromFn.{length-range_with_len}
use Rattle.std.proofs.lemmas.List.Sums.{length-filter, count_by-le-length}
use Rattle.cip_mol.specs.Drawing.{Drawing}
use Rattle.cip_mol.specs.declared.site.Site.{Site}
use Rattle.cip_mol.specs.declared.site.Unit as units
use Rattle.cip_digraph.specs.graph.DrawnGraph.{graph_of}
use Rattle.cip_digraph.specs.declared.drawing.graph.Edge.{Edge}
use Rattle.cip_digraph.specs.graph.Graph.{Graph, edges_at, other_end, vertex_at}
use Rattle.cip_digraph.specs.units.Allenes.{axis_site, axis_sites, doubles, is_allene_middle, is_axis_end, is_axis_unit}
use Rattle.cip_digraph.specs.units.Centres.{is_centre}
use Rattle.cip_digraph.specs.units.DoubleBonds.{bond_site, bond_sites, has_end_bonds, is_bond_end, is_bond_unit, is_double_end}
use Rattle.cip_digraph.specs.units.Units.{centre_site, sites_of}

pub passed_few : {X : Type 0} (test : X → Bool) (xs : List X) → length (filter test xs) ≤ length xs
passed_few test xs = rw (length-filter test xs) (count_by-le-length test xs)

-- where an entry that passes a test says that a list is short, few entries pass it
few_by : {X : Type 0} (test : X → Bool) (most : ℕ) (x : X) (xs : List X) (b : Bool) → test x ≡ b →
    (test x ≡ true → length (x ∷ xs) ≤ most) → length (filter test xs) ≤ most →
    length (cond b (x ∷ filter test xs) (filter test xs)) ≤ most
few_by test most x xs true e node_data few =
    let all : length (filter test xs) ≤ length xs = passed_few test xs in
    let within : length (x ∷ xs) ≤ most = node_data e in
    omega (arith, all, within)
few_by test most x xs false e node_data few = few

pub few_passed : {X : Type 0} (test : X → Bool) (most count : ℕ) (xs : List X) → length xs ≤ count →
    ((x : X) → test x ≡ true → count ≤ most) → length (filter test xs) ≤ most
few_passed test most count [] few node_data = omega arith
few_passed test most count (x ∷ xs) few node_data =
    few_by test most x xs (test x) refl (λ e. let within : count ≤ most = node_data x e in omega (arith, few, within))
    (few_passed test most count xs (omega (arith, few)) node_data)

pub few_each : {X Y : Type 0} (f : X → List Y) (most : ℕ) (xs : List X) → ((x : X) → length (f x) ≤ most) →
    length (flat_map f xs) ≤ length xs * most
few_each f most [] few = omega arith
few_each f most (x ∷ xs) few =
    let here : length (f x) ≤ most = few x in
    let rest : length (flat_map f xs) ≤ length xs * most = few_each f most xs few in
    rw (length-append (f x) (flat_map f xs)) (omega (arith, here, rest))

is_few : (number most other : ℕ) → (number == most) ≡ true → most ≤ other → number ≤ other
is_few number most other e few =
    let same : number ≡ most = eqb-true number most e in
    omega (arith, same, few)

edges_few : (edges : ℕ) (p q r : Bool) → (((edges == 3) && p) || (((edges == 2) && q) && r)) ≡ true → edges ≤ 3
edges_few edges p q r e = elim (or_cases ((edges == 3) && p) (((edges == 2) && q) && r) e) [
  | inl three ↦ is_few edges 3 3 (and_parts (edges == 3) p three).0 (omega arith)
  | inr two ↦ is_few edges 2 3 (and_parts (edges == 2) q (and_parts ((edges == 2) && q) r two).0).0 (omega arith)
]

double_end_few : (z : ℕ) (charge : ℤ) (edges : ℕ) → is_double_end z charge edges ≡ true → edges ≤ 3
double_end_few z charge edges e =
    edges_few edges ((z == 6) || (z == 14) || (z == 32) || ((z == 7) && int_eq charge (pos 1)))
    (z == 7) (int_eq charge (pos 0)) e

pub bond_end_few : (graph : Graph) (unit : List ℕ) (atom : ℕ) → is_bond_end graph unit atom ≡ true
    → length (edges_at graph atom) ≤ 3
bond_end_few graph unit atom is =
    let vertex = vertex_at graph atom in
    double_end_few vertex.z vertex.charge (length (edges_at graph atom))
    (and_parts (is_double_end vertex.z vertex.charge (length (edges_at graph atom))) (has_end_bonds graph unit atom) is).0

module _ (graph : Graph) where
  abbrev degree : ℕ → ℕ
  degree vertex = length (edges_at graph vertex)

  first_end : (positions : List (List ℕ)) (a : ℕ) (edge : Edge) → is_bond_unit graph positions a edge ≡ true
      → degree a ≤ 3
  first_end positions a edge is =
      let unit = a ∷ other_end a edge ∷ [] in
      let both = (and_parts _ _ (and_parts _ _ is).0).0 in
      let first = (and_parts _ (is_bond_end graph unit a) (and_parts _ _ both).0).1 in
      let vertex = vertex_at graph a in
      double_end_few vertex.z vertex.charge (degree a)
      (and_parts (is_double_end vertex.z vertex.charge (degree a)) (has_end_bonds graph unit a) first).0

  few_bonds : (positions : List (List ℕ)) (a : ℕ) → length (bond_sites graph positions a) ≤ 3
  few_bonds positions a =
      rw (length-map (filter (is_bond_unit graph positions a) (edges_at graph a)) (bond_site graph a))
      (few_passed (is_bond_unit graph positions a) 3 (degree a) (edges_at graph a) (omega arith)
      (first_end positions a))

  allene_middle : (a middle b : ℕ) → is_axis_unit graph a middle b ≡ true → (length (doubles graph middle) == 2) ≡ true
  allene_middle a middle b is =
      let here = (and_parts _ (is_allene_middle graph middle) (and_parts _ _ (and_parts _ _ is).0).0).1 in
      (and_parts _ (length (doubles graph middle) == 2) here).1

  axis_end : (a middle b : ℕ) → is_axis_unit graph a middle b ≡ true → (degree a == 3) ≡ true
  axis_end a middle b is =
      let unit = a ∷ middle ∷ b ∷ [] in
      let here = (and_parts _ (is_axis_end graph unit a) (and_parts _ _ is).0).1 in
      (and_parts _ (degree a == 3) (and_parts _ _ (and_parts _ _ here).0).0).1

  abbrev axes_over : ℕ → ℕ → List Site
  axes_over a middle = map (axis_site graph a middle) (filter (is_axis_unit graph a middle) (doubles graph middle))

  axes_over_few : (a middle most : ℕ)
      → ((b : ℕ) → is_axis_unit graph a middle b ≡ true → length (doubles graph middle) ≤ most) →
      length (axes_over a middle) ≤ most
  axes_over_few a middle most node_data =
      rw (length-map (filter (is_axis_unit graph a middle) (doubles graph middle)) (axis_site graph a middle))
      (few_passed (is_axis_unit graph a middle) most (length (doubles graph middle)) (doubles graph middle)
      (omega arith) node_data)

  axes_by : (a : ℕ) (b : Bool) → (degree a == 3) ≡ b → length (axis_sites graph a) ≤ 6
  axes_by a true e =
      let middles : length (doubles graph a) ≤ degree a =
      rw (length-map (filter (λ (edge : Edge). edge.order == 2) (edges_at graph a)) (other_end a))
      (passed_few (λ (edge : Edge). edge.order == 2) (edges_at graph a)) in
      let three : degree a ≡ 3 = eqb-true (degree a) 3 e in
      let all : length (axis_sites graph a) ≤ length (doubles graph a) * 2 =
      few_each (axes_over a) 2 (doubles graph a) (λ middle. axes_over_few a middle 2
      (λ b is. is_few (length (doubles graph middle)) 2 2 (allene_middle a middle b is) (omega arith))) in
      omega (arith, middles, three, all)
  axes_by a false e =
      let all : length (axis_sites graph a) ≤ length (doubles graph a) * 0 =
      few_each (axes_over a) 0 (doubles graph a) (λ middle. axes_over_few a middle 0
      (λ b is. let bad : true ≡ false = sym (axis_end a middle b is) ∙ e in absurd (true≢false bad))) in
      omega (arith, all)

  pub few_sites : (positions : List (List ℕ)) → length (sites_of graph positions) ≤ graph.drawn * 10
  unfolding sites_of
  few_sites positions =
      let atoms = range_with_len 0 graph.drawn in
      let counted : length atoms ≡ graph.drawn = length-range_with_len 0 graph.drawn in
      let centres : length (map (centre_site graph) (filter (is_centre graph) atoms)) ≤ length atoms =
      rw (length-map (filter (is_centre graph) atoms) (centre_site graph)) (passed_few (is_centre graph) atoms) in
      let bonds : length (flat_map (bond_sites graph positions) atoms) ≤ length atoms * 3 =
      few_each (bond_sites graph positions) 3 atoms (few_bonds positions) in
      let axes : length (flat_map (axis_sites graph) atoms) ≤ length atoms * 6 =
      few_each (axis_sites graph) 6 atoms (λ a. axes_by a (degree a == 3) refl) in
      rw (
        length-append (map (centre_site graph) (filter (is_centre graph) atoms)
            ++ flat_map (bond_sites graph positions) atoms)
            (flat_map (axis_sites graph) atoms),
        length-append (map (centre_site graph) (filter (is_centre graph) atoms))
            (flat_map (bond_sites graph positions) atoms),
      )
      (omega (arith, counted, centres, bonds, axes))

-- the units of a molecule are fewer than a list can hold, and a line more
pub few_units : (drawing : Drawing) (graph : Graph) (positions : List (List ℕ)) (all : List units.Unit) →
    length drawing.atoms ≤ 16384 → graph ≡ graph_of drawing
    → map (λ (unit : units.Unit). unit.site) all ≡ sites_of graph positions →
    length all < 2 ^ 32 - 1
unfolding graph_of
few_units drawing graph positions all few is at =
    let drawn : graph.drawn ≡ length drawing.atoms = ap (λ (g : Graph). g.drawn) is in
    let sites : length (sites_of graph positions) ≤ graph.drawn * 10 = few_sites graph positions in
    let same : length all ≡ length (sites_of graph positions) =
    sym (length-map all (λ (unit : units.Unit). unit.site)) ∙ ap length at in
    omega (arith, few, drawn, sites, same)
