-- Marks with their narrow end at a centre show nothing of other units.
use Rattle.std.proofs.Common.{◌≡◌, ◌≢◌, ◌⊎◌, inl, inr, ℕ, ℤ, List, [], ◌∷◌, ◌++◌, map, length, filter, flat_map, refl, sym, ap, ◌∙◌, Bool, true, false, cond, ◌==◌, ◌||◌, ◌&&◌, eqb-true, arith}
use Rattle.std.specs.Prelude.{if◌then◌else◌}
use Rattle.std.specs.List.{AllByRecursion, range_with_len}
use Rattle.std.proofs.lemmas.Bool.{and_parts, cases_eq, ne_eqb}
use Rattle.std.proofs.lemmas.List.{length-map}
use Rattle.cip_mol.specs.Drawing.{Drawing}
use Rattle.cip_mol.specs.DrawnLigands.{drawn}
use Rattle.cip_mol.specs.FlatAxes.{by_marks}
use Rattle.cip_mol.specs.FlatCentres.{in_plane}
use Rattle.cip_mol.specs.Geometry.{of_centre, of_bond, of_axis, sides, axis_in_space, geometry_of}
use Rattle.cip_mol.specs.Marks.{is_narrow_at, is_either, has_either, joins, is_crossed, mark_sign, mark_to}
use Rattle.cip_mol.specs.Pairs.{by_pairs}
use Rattle.cip_mol.specs.Points.{point, step, steps, flat_steps, is_spatial}
use Rattle.cip_mol.specs.SpatialCentres.{in_space}
use Rattle.cip_mol.specs.declared.graph.molecule.Atom.{Atom}
use Rattle.cip_mol.specs.declared.graph.molecule.Bond as molecules
use Rattle.cip_mol.specs.declared.site.Cause.TheVariants.{Either}
use Rattle.cip_mol.specs.declared.site.Geometry.TheVariants.{Unknown}
use Rattle.cip_mol.specs.declared.site.Site.{Site}
use Rattle.cip_mol.specs.declared.site.Site.TheVariants.{Centre, Bond, Axis}
use Rattle.cip_mol.specs.declared.site.Unit as units
use Rattle.cip_digraph.specs.declared.drawing.graph.Edge.{Edge}
use Rattle.cip_digraph.specs.graph.Graph.{Graph, vertex_at, edges_at, neighbours, other_end}
use Rattle.cip_digraph.specs.units.Allenes.{doubles, is_axis_end, is_axis_unit, axis_site, axis_sites}
use Rattle.cip_digraph.specs.units.Centres.{is_centre_by, drawn_neighbours, is_centre}
use Rattle.cip_digraph.specs.units.DoubleBonds.{is_double_end, is_bond_end, is_bond_unit, bond_site, bond_sites}
use Rattle.cip_digraph.specs.units.Units.{centre_site, sites_of}
use Rattle.cip_digraph.proofs.lemmas.lists.Elements.{all_append, all_flat, all_mapped}
use Rattle.cip_digraph.proofs.lemmas.bonds.Centres.{centre_parts, double_parts}
use Rattle.cip_edit.specs.Remarked.{IsRemarked, AreRemarked}
use Rattle.cip_edit.specs.UnitsBeside.{IsCentreAt, AreSameBeside}

-- a site that is a centre there, or has no end there
abbrev pub IsBeside : ℕ → Site → Type 0
IsBeside atom (Centre at ligands) = Unit {0}
IsBeside atom (Bond a b first second) = (a ≢ atom) × (b ≢ atom)
IsBeside atom (Axis a middle b first second) = (a ≢ atom) × (b ≢ atom)

no_double : (z : ℕ) (charge : ℤ) (edges shown : ℕ) (lone : Bool) → is_centre_by z charge edges shown lone ≡ true
    → is_double_end z charge edges ≡ true → ⊥
no_double z charge edges shown lone e f =
    elim (centre_parts z charge edges shown lone e) [
      | inl four ↦ elim (double_parts z charge edges f) [
        | inl three ↦ (let n = three.0 in absurd (omega (arith, four, n)))
        | inr two ↦ (let n = two.0 in absurd (omega (arith, four, n)))
      ]
      | inr three ↦ elim (double_parts z charge edges f) [
        | inl also ↦ (let bad : false ≡ true = sym also.1 ∙ three.1 in cc)
        | inr two ↦ (let n = three.0 in let m = two.0 in absurd (omega (arith, n, m)))
      ]
    ]

kept : {X : Type 0} (test : X → Bool) (P : X → Type 0) → ((x : X) → test x ≡ true → P x) → (xs : List X)
    → AllByRecursion P (filter test xs)
kept test P f [] = tt
kept {X} test P f (x ∷ xs) = by (test x) refl (kept test P f xs)
  where
    by : (b : Bool) → test x ≡ b → AllByRecursion P (filter test xs)
        → AllByRecursion P (cond b (x ∷ filter test xs) (filter test xs))
    by true e all = (f x e, all)
    by false e all = all

abbrev Any : {X : Type 0} → X → Type 0
Any x = Unit {0}

all_any : {X : Type 0} (xs : List X) → AllByRecursion Any xs
all_any [] = tt
all_any (x ∷ xs) = (tt, all_any xs)

-- the bonds and the element of a centre are those of no end
module _ (graph : Graph) (positions : List (List ℕ)) (atom : ℕ) (centre : is_centre graph atom ≡ true) where
  edges_counted : length (neighbours graph atom) ≡ length (edges_at graph atom)
  edges_counted = length-map (edges_at graph atom) (other_end atom)

  not_double : is_double_end (vertex_at graph atom).z (vertex_at graph atom).charge (length (edges_at graph atom))
      ≡ true → ⊥
  not_double e =
      no_double (vertex_at graph atom).z (vertex_at graph atom).charge (length (edges_at graph atom))
      (length (drawn_neighbours graph atom)) (vertex_at graph atom).lone
      (ap
      (λ n. is_centre_by (vertex_at graph atom).z (vertex_at graph atom).charge n
      (length (drawn_neighbours graph atom)) (vertex_at graph atom).lone) (sym edges_counted)
      ∙ centre) e

  no_bond_end : (unit : List ℕ) (v : ℕ) → is_bond_end graph unit v ≡ true → v ≢ atom
  no_bond_end unit v e same =
      not_double
      (ap (λ u. is_double_end (vertex_at graph u).z (vertex_at graph u).charge (length (edges_at graph u))) (sym same)
      ∙ (and_parts _ _ e).0)

  -- an end of an allene is a carbon atom with three bonds, as an end of a double bond can be
  axis_double : (z : ℕ) (charge : ℤ) (edges : ℕ) → z ≡ 6 → edges ≡ 3 → is_double_end z charge edges ≡ true
  axis_double z charge edges e f = λ i. is_double_end (e i) charge (f i)

  no_axis_end : (unit : List ℕ) (v : ℕ) → is_axis_end graph unit v ≡ true → v ≢ atom
  no_axis_end unit v e same =
      let one = and_parts _ _ e in
      let two = and_parts _ _ one.0 in
      let three = and_parts ((vertex_at graph v).z == 6) (length (edges_at graph v) == 3) two.0 in
      not_double
      (ap (λ u. is_double_end (vertex_at graph u).z (vertex_at graph u).charge (length (edges_at graph u))) (sym same)
      ∙ axis_double (vertex_at graph v).z (vertex_at graph v).charge (length (edges_at graph v))
      (eqb-true (vertex_at graph v).z 6 three.0) (eqb-true (length (edges_at graph v)) 3 three.1))

  bond_beside : (a : ℕ) (edge : Edge) → is_bond_unit graph positions a edge ≡ true
      → IsBeside atom (bond_site graph a edge)
  bond_beside a edge e =
      let one = and_parts _ _ e in
      let two = and_parts _ _ one.0 in
      let three = and_parts _ _ two.0 in
      let four = and_parts _ _ three.0 in
      let unit = a ∷ other_end a edge ∷ [] in
      (no_bond_end unit a four.1, no_bond_end unit (other_end a edge) three.1)

  axis_beside : (a middle b : ℕ) → is_axis_unit graph a middle b ≡ true → IsBeside atom (axis_site graph a middle b)
  axis_beside a middle b e =
      let one = and_parts _ _ e in
      let two = and_parts _ _ one.0 in
      let unit = a ∷ middle ∷ b ∷ [] in
      (no_axis_end unit a two.1, no_axis_end unit b one.1)

  bonds_beside : (a : ℕ) → AllByRecursion (IsBeside atom) (bond_sites graph positions a)
  bonds_beside a =
      all_mapped (IsBeside atom) (bond_site graph a) (filter (is_bond_unit graph positions a) (edges_at graph a))
      (kept (is_bond_unit graph positions a) (λ edge. IsBeside atom (bond_site graph a edge)) (bond_beside a)
      (edges_at graph a))

  axes_beside : (a : ℕ) → AllByRecursion (IsBeside atom) (axis_sites graph a)
  axes_beside a =
      all_flat Any (IsBeside atom)
      (λ middle. map (axis_site graph a middle) (filter (is_axis_unit graph a middle) (doubles graph middle)))
      (λ middle _. all_mapped (IsBeside atom) (axis_site graph a middle)
      (filter (is_axis_unit graph a middle) (doubles graph middle))
      (kept (is_axis_unit graph a middle) (λ b. IsBeside atom (axis_site graph a middle b)) (axis_beside a middle)
      (doubles graph middle)))
      (doubles graph a) (all_any (doubles graph a))

  centres_beside : (vertices : List ℕ) → AllByRecursion (IsBeside atom) (map (centre_site graph) vertices)
  centres_beside [] = tt
  centres_beside (v ∷ vertices) = (tt, centres_beside vertices)

  pub sites_beside : AllByRecursion (IsBeside atom) (sites_of graph positions)
  unfolding sites_of
  sites_beside =
      let atoms = range_with_len 0 graph.drawn in
      let centres = map (centre_site graph) (filter (is_centre graph) atoms) in
      let bonds = flat_map (bond_sites graph positions) atoms in
      all_append (IsBeside atom) (centres ++ bonds) (flat_map (axis_sites graph) atoms)
      (all_append (IsBeside atom) centres bonds (centres_beside (filter (is_centre graph) atoms))
      (all_flat Any (IsBeside atom) (bond_sites graph positions) (λ a _. bonds_beside a) atoms (all_any atoms)))
      (all_flat Any (IsBeside atom) (axis_sites graph) (λ a _. axes_beside a) atoms (all_any atoms))

-- what bonds show at other atoms
module _ (atom : ℕ) where
  narrow_same : (y : ℕ) (b c : molecules.Bond) → IsRemarked atom b c → is_narrow_at y c ≡ is_narrow_at y b
  narrow_same y b c s = λ i. (s.a i == y) && (s.order i == 1)

  off_other : (y : ℕ) (b : molecules.Bond) → y ≢ atom → is_narrow_at atom b ≡ true → is_narrow_at y b ≡ false
  off_other y b other narrow =
      let here : b.a ≡ atom = eqb-true b.a atom (and_parts (b.a == atom) (b.order == 1) narrow).0 in
      ap (λ t. t && (b.order == 1)) (ne_eqb b.a y (λ e. other (sym e ∙ here)))

  pub either_same : (y : ℕ) → y ≢ atom → (bonds others : List molecules.Bond) → AreRemarked atom bonds others
      → has_either y others ≡ has_either y bonds
  either_same y other [] [] s = refl
  either_same y other [] (c ∷ others) s = absurd s
  either_same y other (b ∷ bonds) [] s = absurd s
  either_same y other (b ∷ bonds) (c ∷ others) s =
      let rest = either_same y other bonds others s.1 in
      let here = by s.0.mark in
      λ i. here i || rest i
    where
      by : (c.mark ≡ b.mark) ⊎ (is_narrow_at atom b ≡ true)
          → (is_narrow_at y c && is_either c.mark) ≡ (is_narrow_at y b && is_either b.mark)
      by (inl e) = λ i. narrow_same y b c s.0 i && is_either (e i)
      by (inr narrow) =
          ap (λ t. t && is_either c.mark) (narrow_same y b c s.0 ∙ off_other y b other narrow)
          ∙ sym (ap (λ t. t && is_either b.mark) (off_other y b other narrow))

  pub marks_same : (y : ℕ) → y ≢ atom → (bonds others : List molecules.Bond) → AreRemarked atom bonds others
      → (n : ℕ) → mark_to y others n ≡ mark_to y bonds n
  marks_same y other [] [] s n = refl
  marks_same y other [] (c ∷ others) s n = absurd s
  marks_same y other (b ∷ bonds) [] s n = absurd s
  marks_same y other (b ∷ bonds) (c ∷ others) s n = by s.0.mark (marks_same y other bonds others s.1 n)
    where
      by : (c.mark ≡ b.mark) ⊎ (is_narrow_at atom b ≡ true) → mark_to y others n ≡ mark_to y bonds n
          → mark_to y (c ∷ others) n ≡ mark_to y (b ∷ bonds) n
      by (inl e) rest =
          λ i. if narrow_same y b c s.0 i && (s.0.b i == n) then mark_sign (e i) else rest i
      by (inr narrow) rest =
          ap (λ t. if t && (c.b == n) then mark_sign c.mark else mark_to y others n)
          (narrow_same y b c s.0 ∙ off_other y b other narrow)
          ∙ rest
          ∙ sym
          (ap (λ t. if t && (b.b == n) then mark_sign b.mark else mark_to y bonds n) (off_other y b other narrow))

  off_join : (x y a b : ℕ) → x ≢ y → (s t : Bool) → ((x == y) && s || (t && (x == b))) ≡ (t && (x == b))
  off_join x y a b other s t = ap (λ u. u && s || (t && (x == b))) (ne_eqb x y other)

  pub crossed_same : (y z : ℕ) → y ≢ atom → z ≢ atom → (bonds others : List molecules.Bond)
      → AreRemarked atom bonds others → is_crossed y z others ≡ is_crossed y z bonds
  crossed_same y z other off [] [] s = refl
  crossed_same y z other off [] (c ∷ others) s = absurd s
  crossed_same y z other off (b ∷ bonds) [] s = absurd s
  crossed_same y z other off (b ∷ bonds) (c ∷ others) s =
      let rest = crossed_same y z other off bonds others s.1 in
      let here = by s.0.mark in
      λ i. here i || rest i
    where
      joined : joins y z c ≡ joins y z b
      joined = λ i. ((s.0.a i == y) && (s.0.b i == z)) || ((s.0.a i == z) && (s.0.b i == y))

      none : is_narrow_at atom b ≡ true → joins y z b ≡ false
      none narrow =
          let here : b.a ≡ atom = eqb-true b.a atom (and_parts (b.a == atom) (b.order == 1) narrow).0 in
          ap (λ t. (t && (b.b == z)) || ((b.a == z) && (b.b == y))) (ne_eqb b.a y (λ e. other (sym e ∙ here)))
          ∙ ap (λ t. t && (b.b == y)) (ne_eqb b.a z (λ e. off (sym e ∙ here)))

      by : (c.mark ≡ b.mark) ⊎ (is_narrow_at atom b ≡ true)
          → (joins y z c && is_either c.mark) ≡ (joins y z b && is_either b.mark)
      by (inl e) = λ i. joined i && is_either (e i)
      by (inr narrow) =
          ap (λ t. t && is_either c.mark) (joined ∙ none narrow)
          ∙ sym (ap (λ t. t && is_either b.mark) (none narrow))

module _ (atom : ℕ) (atoms : List Atom) (bonds others : List molecules.Bond)
    (same : AreRemarked atom bonds others) where
  abbrev one : Drawing
  one = record { atoms = atoms; bonds = bonds }

  abbrev other : Drawing
  other = record { atoms = atoms; bonds = others }

  centre_shown : (at : ℕ) (numbers : List ℕ) → at ≢ atom
      → of_centre atoms others at numbers ≡ of_centre atoms bonds at numbers
  centre_shown at numbers off =
      let either = either_same atom at off bonds others same in
      let marks = marks_same atom at off bonds others same in
      λ i. if either i then Unknown Either
      else if is_spatial atoms then in_space (point atoms at) (map (point atoms) numbers)
      else in_plane (flat_steps atoms at numbers) (map (λ n. marks n i) numbers)

  bond_shown : (a b : ℕ) (firsts seconds : List ℕ) → a ≢ atom → b ≢ atom
      → of_bond atoms others a b firsts seconds ≡ of_bond atoms bonds a b firsts seconds
  bond_shown a b firsts seconds off away =
      let first = either_same atom a off bonds others same in
      let second = either_same atom b away bonds others same in
      let crossed = crossed_same atom a b off away bonds others same in
      λ i. if first i || (second i || crossed i) then Unknown Either
      else by_pairs (sides (step (point atoms a) (point atoms b))) (steps atoms a firsts) (steps atoms b seconds)

  axis_shown : (a b : ℕ) (firsts seconds : List ℕ) → a ≢ atom → b ≢ atom
      → of_axis atoms others a b firsts seconds ≡ of_axis atoms bonds a b firsts seconds
  axis_shown a b firsts seconds off away =
      let first = either_same atom a off bonds others same in
      let second = either_same atom b away bonds others same in
      let marks = marks_same atom a off bonds others same in
      let theirs = marks_same atom b away bonds others same in
      λ i. if first i || second i then Unknown Either
      else if is_spatial atoms then axis_in_space atoms a b firsts seconds
      else by_marks (step (point atoms a) (point atoms b)) (map (λ n. marks n i) firsts)
      (map (λ n. theirs n i) seconds) (steps atoms a firsts) (steps atoms b seconds)

  shown_beside : (site : Site) → IsBeside atom site
      → (geometry_of other site ≡ geometry_of one site) ⊎ IsCentreAt atom site
  shown_beside (Centre at ligands) h =
      elim (cases_eq at atom) [
        | inl here ↦ inr (record { ligands = ligands; is = ap (λ v. Centre v ligands) here })
        | inr off ↦ inl (centre_shown at (drawn (length atoms) ligands) off)
      ]
  shown_beside (Bond a b first second) h =
      inl (bond_shown a b (drawn (length atoms) first) (drawn (length atoms) second) h.0 h.1)
  shown_beside (Axis a middle b first second) h =
      inl (axis_shown a b (drawn (length atoms) first) (drawn (length atoms) second) h.0 h.1)

  abbrev shown_in : Drawing → Site → units.Unit
  shown_in drawing site = record { site = site; geometry = geometry_of drawing site }

  pub units_beside : (sites : List Site) → AllByRecursion (IsBeside atom) sites
      → AreSameBeside atom (map (shown_in one) sites) (map (shown_in other) sites)
  units_beside [] all = tt
  units_beside (site ∷ sites) all =
      (record { site = refl; shown = shown_beside site all.0 }, units_beside sites all.1)
