-- No vertex is an end of two units.
use Rattle.std.proofs.Common.{◌≡◌, ◌≢◌, ◌⊎◌, inl, inr, ℕ, List, [], ◌∷◌, map, length, filter, refl, sym, ap, subst, ◌∙◌}
use Rattle.std.proofs.Common.{true, false, cond, ◌==◌, ◌||◌, nat_lt, nat_le, is_some, eqb-true, le-ltb, ltb-true, arith}
use Rattle.std.proofs.Common.{eq-eqb}
use Rattle.std.specs.List.{list_any}
use Rattle.std.proofs.lemmas.List.{length-map}
use Rattle.std.proofs.lemmas.Bool.{and_parts, or_cases, or_right, true≢false}
use Rattle.cip_elem.specs.Electrons.{outer_of}
use Rattle.cip_mol.specs.declared.site.Site.{Site}
use Rattle.cip_mol.specs.declared.site.Geometry.{Geometry}
use Rattle.cip_mol.specs.declared.site.Unit as units
use Rattle.cip_mol.specs.Geometry.{geometry_of}
use Rattle.cip_digraph.specs.units.Allenes.{doubles, is_allene_middle, is_axis_end}
use Rattle.cip_digraph.specs.units.Centres.{drawn_neighbours, is_centre}
use Rattle.cip_digraph.specs.units.DoubleBonds.{is_double_end, multiples, is_bond_end}
use Rattle.cip_digraph.specs.graph.Graph.{Graph, vertex_at, edges_at, neighbours, other_end}
use Rattle.cip_digraph.specs.rings.Positions.{positions_of}
use Rattle.cip_digraph.specs.graph.SoundGraphs.{IsSound}
use Rattle.cip_digraph.specs.units.Units.{centre_site, sites_of, units_of}
use Rattle.cip_digraph.specs.units.Ends.{End, ends_of}
use Rattle.cip_digraph.specs.graph.DrawnGraph.{graph_of}
use Rattle.cip_digraph.proofs.lemmas.bonds.Sound.{drawn_sound}
use Rattle.cip_digraph.proofs.lemmas.bonds.Centres.{centre_parts, double_parts, no_outer}
use Rattle.cip_symmetry.specs.Images.{Among}
use Rattle.cip_laws.specs.RenumberingLaw.{UnitsShareNoEnd}
use Rattle.cip_symmetry.proofs.lemmas.lists.Among.{among_map, from_map, among_filter, from_filter}
use Rattle.cip_laws.proofs.lemmas.units.CarriedAxes.{found_site, IsAxisCore, axis_of, FoundAxis, axis_back}
use Rattle.cip_symmetry.proofs.lemmas.lists.CarriedLists.{filter_carried}
use Rattle.cip_symmetry.specs.Renamed.{Way, way, ways}
use Rattle.cip_laws.proofs.lemmas.units.CarriedSites.{bond_of, FoundBond}
use Rattle.cip_symmetry.specs.CarriedUnits.{stands_at, AreAlone}
use Rattle.cip_laws.proofs.lemmas.graph.WaySymmetry.{back_way, leads_back}

-- of one element, and of two
one_element : {X : Type 0} (xs : List X) → length xs ≡ 1 → (x y : X) → Among x xs → Among y xs → x ≡ y
one_element [] e x y h k = absurd h
one_element (z ∷ []) e x y (inl p) (inl q) = p ∙ sym q
one_element (z ∷ []) e x y (inr bad) k = absurd bad
one_element (z ∷ []) e x y (inl p) (inr bad) = absurd bad
one_element (z ∷ w ∷ zs) e x y h k = absurd (omega (arith, e))

other_of_two : (xs : List ℕ) → length xs ≡ 2 → (v x y : ℕ) → Among v xs → Among x xs → Among y xs → v ≢ x → v ≢ y
    → x ≡ y
other_of_two [] e v x y g h k p q = absurd g
other_of_two (a ∷ []) e v x y g h k p q = absurd (omega (arith, e))
other_of_two (a ∷ b ∷ c ∷ zs) e v x y g h k p q = absurd (omega (arith, e))
other_of_two (a ∷ b ∷ []) e v x y (inl f) (inl h) k p q = absurd (p (f ∙ sym h))
other_of_two (a ∷ b ∷ []) e v x y (inl f) (inr (inl h)) (inl k) p q = absurd (q (f ∙ sym k))
other_of_two (a ∷ b ∷ []) e v x y (inl f) (inr (inl h)) (inr (inl k)) p q = h ∙ sym k
other_of_two (a ∷ b ∷ []) e v x y (inr (inl f)) (inl h) (inl k) p q = h ∙ sym k
other_of_two (a ∷ b ∷ []) e v x y (inr (inl f)) (inl h) (inr (inl k)) p q = absurd (q (f ∙ sym k))
other_of_two (a ∷ b ∷ []) e v x y (inr (inl f)) (inr (inl h)) k p q = absurd (p (f ∙ sym h))
other_of_two (a ∷ b ∷ []) e v x y (inl f) (inr (inr h)) k p q = absurd h
other_of_two (a ∷ b ∷ []) e v x y (inl f) (inr (inl h)) (inr (inr k)) p q = absurd k
other_of_two (a ∷ b ∷ []) e v x y (inr (inr f)) h k p q = absurd f
other_of_two (a ∷ b ∷ []) e v x y (inr (inl f)) (inl h) (inr (inr k)) p q = absurd k
other_of_two (a ∷ b ∷ []) e v x y (inr (inl f)) (inr (inr h)) k p q = absurd h

module _ (graph : Graph) (sound : IsSound graph) where
  abbrev bond_by : ℕ → ℕ → Site
  bond_by v to = cond (nat_lt v to) (bond_of graph v to) (bond_of graph to v)

  abbrev axis_by : ℕ → ℕ → ℕ → Site
  axis_by v m to = cond (nat_lt v to) (axis_of graph v m to) (axis_of graph to m v)

  -- a bond seen from one of its ends, and an axis
  record BondAt (v : ℕ) (site : Site) : Type 0 where
    w : Way
    among : Among w (ways graph v)
    order : (w.order == 2) ≡ true
    nearer : (vertex_at graph v).z ≡ (vertex_at graph v).z
    here : is_double_end (vertex_at graph v).z (vertex_at graph v).charge (length (edges_at graph v)) ≡ true
    there : is_double_end (vertex_at graph w.to).z (vertex_at graph w.to).charge (length (edges_at graph w.to)) ≡ true
    one : (length (multiples graph v) == 1) ≡ true
    is : site ≡ bond_by v w.to

  record AxisAt (v : ℕ) (site : Site) : Type 0 where
    middle : ℕ
    to : ℕ
    core : IsAxisCore graph v middle to
    back : IsAxisCore graph to middle v
    differ : v ≢ to
    is : site ≡ axis_by v middle to

  pub bond_end_parts : (unit : List ℕ) (v : ℕ) → is_bond_end graph unit v ≡ true
      → (is_double_end (vertex_at graph v).z (vertex_at graph v).charge (length (edges_at graph v)) ≡ true)
      × ((length (multiples graph v) == 1) ≡ true)
  bond_end_parts unit v e = let both = and_parts _ _ e in (both.0, (and_parts _ _ both.1).0)

  lower_by : {X : Type 0} (a b : ℕ) (x y : X) → nat_lt a b ≡ true → cond (nat_lt a b) x y ≡ x
  lower_by a b x y e = ap (λ t. cond t x y) e

  higher_by : {X : Type 0} (a b : ℕ) (x y : X) → nat_lt b a ≡ true → cond (nat_lt a b) x y ≡ y
  higher_by a b x y e = ap (λ t. cond t x y) (le-ltb a b (let lt = ltb-true b a e in omega (arith, lt)))

  bond_first : (site : Site) (f : FoundBond graph site) → BondAt f.a site
  bond_first site f =
      let one = bond_end_parts (f.a ∷ f.w.to ∷ []) f.a f.core.first in
      let two = bond_end_parts (f.a ∷ f.w.to ∷ []) f.w.to f.core.second in
      record {
        w = f.w;
        among = f.core.among;
        order = f.core.order;
        nearer = refl;
        here = one.0;
        there = two.0;
        one =
            one.1;
        is = f.is ∙ sym (lower_by f.a f.w.to _ _ f.lower);
      }

  bond_second : (site : Site) (f : FoundBond graph site) → BondAt f.w.to site
  bond_second site f =
      let one = bond_end_parts (f.a ∷ f.w.to ∷ []) f.a f.core.first in
      let two = bond_end_parts (f.a ∷ f.w.to ∷ []) f.w.to f.core.second in
      record {
        w = back_way graph f.a f.w;
        among = (leads_back graph sound f.a f.w f.core.among).back;
        order = f.core.order;
        nearer = refl;
        here = two.0;
        there = one.0;
        one = two.1;
        is = f.is ∙ sym (higher_by f.w.to f.a _ _ f.lower);
      }

  axis_first : (site : Site) (f : FoundAxis graph site) → AxisAt f.a site
  axis_first site f = record {
    middle = f.middle;
    to = f.b;
    core = f.core;
    back = axis_back graph sound f.a f.middle f.b f.core;
    differ = λ e. let lt = ltb-true f.a f.b f.lower in absurd (omega (arith, lt, e));
    is = f.is ∙ sym (lower_by f.a f.b _ _ f.lower);
  }

  axis_second : (site : Site) (f : FoundAxis graph site) → AxisAt f.b site
  axis_second site f = record {
    middle = f.middle;
    to = f.a;
    core = axis_back graph sound f.a f.middle f.b f.core;
    back = f.core;
    differ = λ e. let lt = ltb-true f.a f.b f.lower in absurd (omega (arith, lt, e));
    is = f.is ∙ sym (higher_by f.b f.a _ _ f.lower);
  }

  -- what is at a vertex
  data Standing (v : ℕ) (site : Site) : Type 0 where
    as_centre : is_centre graph v ≡ true → site ≡ centre_site graph v → Standing v site
    as_bond : BondAt v site → Standing v site
    as_axis : AxisAt v site → Standing v site

  ends_two : (a b v : ℕ) → ((a == v) || ((b == v) || false)) ≡ true → (a ≡ v) ⊎ (b ≡ v)
  ends_two a b v e = elim (or_cases (a == v) ((b == v) || false) e) [
    | inl f ↦ inl (eqb-true a v f)
    | inr f ↦
        elim (or_cases (b == v) false f) [ inl g ↦ inr (eqb-true b v g) | inr g ↦ absurd (true≢false (sym g)) ]
  ]

  standing : (v : ℕ) (site : Site) → Among site (sites_of graph (positions_of graph)) → stands_at v site ≡ true
      → Standing v site
  standing v site h e = elim (found_site graph site h) [
    | inl f ↦
        let same : f.a ≡ v = centre_at f.a (sym (ap (stands_at v) f.is) ∙ e) in
        as_centre (subst (λ w. is_centre graph w ≡ true) same f.stands) (f.is ∙ ap (centre_site graph) same)
    | inr found ↦ elim found [
      | inl f ↦
          elim (ends_two f.a f.w.to v (sym (ap (stands_at v) f.is) ∙ e)) [
            | inl same ↦ as_bond (subst (λ w. BondAt w site) same (bond_first site f))
            | inr same ↦ as_bond (subst (λ w. BondAt w site) same (bond_second site f))
          ]
      | inr f ↦
          elim (ends_two f.a f.b v (sym (ap (stands_at v) f.is) ∙ e)) [
            | inl same ↦ as_axis (subst (λ w. AxisAt w site) same (axis_first site f))
            | inr same ↦ as_axis (subst (λ w. AxisAt w site) same (axis_second site f))
          ]
    ]
  ]
    where
      centre_at : (a : ℕ) → ((a == v) || false) ≡ true → a ≡ v
      centre_at a e =
          elim (or_cases (a == v) false e) [ inl f ↦ eqb-true a v f | inr f ↦ absurd (true≢false (sym f)) ]

  -- the one multiple bond
  multiple_ways : (v : ℕ) → (length (multiples graph v) == 1) ≡ true
      → length (filter (λ w. nat_le 2 w.order) (ways graph v)) ≡ 1
  multiple_ways v e =
      ap length
      (filter_carried (way v) (λ edge. nat_le 2 edge.order) (λ w. nat_le 2 w.order) (λ edge. refl) (edges_at graph v))
      ∙ length-map (multiples graph v) (way v) ∙ eqb-true (length (multiples graph v)) 1 e

  is_multiple : (w : Way) → (w.order == 2) ≡ true → nat_le 2 w.order ≡ true
  is_multiple w e = ap (nat_le 2) (eqb-true w.order 2 e)

  one_multiple : (v : ℕ) → (length (multiples graph v) == 1) ≡ true → (w u : Way) → Among w (ways graph v)
      → Among u (ways graph v) → (w.order == 2) ≡ true → (u.order == 2) ≡ true → w ≡ u
  one_multiple v e w u h k f g =
      one_element (filter (λ w. nat_le 2 w.order) (ways graph v)) (multiple_ways v e) w u
      (among_filter (λ w. nat_le 2 w.order) w (ways graph v) h (is_multiple w f))
      (among_filter (λ w. nat_le 2 w.order) u (ways graph v) k (is_multiple u g))

  record DoubleTo (v to : ℕ) : Type 0 where
    w : Way
    among : Among w (ways graph v)
    order : (w.order == 2) ≡ true
    is : to ≡ w.to

  double_way : (v to : ℕ) → Among to (doubles graph v) → DoubleTo v to
  double_way v to h =
      let found = from_map (other_end v) to (filter (λ edge. edge.order == 2) (edges_at graph v)) h in
      let kept = from_filter (λ edge. edge.order == 2) found.0 (edges_at graph v) found.1 in
      record {
        w = way v found.0;
        among = among_map (way v) found.0 (edges_at graph v) kept.0;
        order = kept.1;
        is =
            found.2;
      }

  pub axis_end_parts : (unit : List ℕ) (v : ℕ) → is_axis_end graph unit v ≡ true
      → ((vertex_at graph v).z ≡ 6) × ((length (edges_at graph v) ≡ 3) × ((length (multiples graph v) == 1) ≡ true))
  axis_end_parts unit v e =
      let three = and_parts _ _ e in
      let two = and_parts _ _ three.0 in
      let one = and_parts _ _ two.0 in
      (eqb-true (vertex_at graph v).z 6 one.0, (eqb-true (length (edges_at graph v)) 3 one.1, (and_parts _ _ two.1).0))

  middle_parts : (m : ℕ) → is_allene_middle graph m ≡ true
      → ((vertex_at graph m).z ≡ 6) × ((length (edges_at graph m) ≡ 2) × (length (doubles graph m) ≡ 2))
  middle_parts m e =
      let two = and_parts _ _ e in
      let one = and_parts _ _ two.0 in (
        eqb-true (vertex_at graph m).z 6 one.0,
        (eqb-true (length (edges_at graph m)) 2 one.1, eqb-true (length (doubles graph m)) 2 two.1),
      )

  degree_is : (v : ℕ) → length (neighbours graph v) ≡ length (edges_at graph v)
  degree_is v = length-map (edges_at graph v) (other_end v)

  pub centre_is : (v : ℕ) → is_centre graph v ≡ true
      → (length (edges_at graph v) ≡ 4) ⊎
      ((length (edges_at graph v) ≡ 3) × (is_some (outer_of (vertex_at graph v).z) ≡ true))
  centre_is v e =
      elim (centre_parts (vertex_at graph v).z (vertex_at graph v).charge (length (neighbours graph v))
      (length (drawn_neighbours graph v)) (vertex_at graph v).lone e) [
        | inl four ↦ inl (sym (degree_is v) ∙ four)
        | inr three ↦ inr (sym (degree_is v) ∙ three.0, three.1)
      ]

  no_centre_bond : (v : ℕ) (site : Site) → is_centre graph v ≡ true → BondAt v site → ⊥
  no_centre_bond v site e b =
      by (centre_is v e)
      (double_parts (vertex_at graph v).z (vertex_at graph v).charge (length (edges_at graph v)) b.here)
    where
      by : (length (edges_at graph v) ≡ 4) ⊎
          ((length (edges_at graph v) ≡ 3) × (is_some (outer_of (vertex_at graph v).z) ≡ true))
          → ((length (edges_at graph v) ≡ 3) × (is_some (outer_of (vertex_at graph v).z) ≡ false)) ⊎
          ((length (edges_at graph v) ≡ 2) × ((vertex_at graph v).z ≡ 7)) → ⊥
      by (inl f) (inl g) = let d = g.0 in absurd (omega (arith, f, d))
      by (inl f) (inr g) = let d = g.0 in absurd (omega (arith, f, d))
      by (inr f) (inl g) = true≢false (sym f.1 ∙ g.1)
      by (inr f) (inr g) = let c = f.0 in let d = g.0 in absurd (omega (arith, c, d))

  no_centre_axis : (v : ℕ) (site : Site) → is_centre graph v ≡ true → AxisAt v site → ⊥
  no_centre_axis v site e b = by (centre_is v e)
    where
      parts : ((vertex_at graph v).z ≡ 6)
          × ((length (edges_at graph v) ≡ 3) × ((length (multiples graph v) == 1) ≡ true))
      parts = axis_end_parts (v ∷ b.middle ∷ b.to ∷ []) v b.core.first

      by : (length (edges_at graph v) ≡ 4) ⊎
          ((length (edges_at graph v) ≡ 3) × (is_some (outer_of (vertex_at graph v).z) ≡ true)) → ⊥
      by (inl f) = let d = parts.1.0 in absurd (omega (arith, f, d))
      by (inr f) = true≢false (sym f.1 ∙ no_outer (vertex_at graph v).z (inl (inl parts.0)))

  no_bond_axis : (v : ℕ) (one two : Site) → BondAt v one → AxisAt v two → ⊥
  no_bond_axis v one two b x =
      let t = double_way v x.middle x.core.toward in
      let same : b.w ≡ t.w = one_multiple v b.one b.w t.w b.among t.among b.order t.order in
      let to : b.w.to ≡ x.middle = ap (λ (w : Way). w.to) same ∙ sym t.is in
      let m = middle_parts x.middle x.core.is_middle in
      by to m
      (double_parts (vertex_at graph b.w.to).z (vertex_at graph b.w.to).charge (length (edges_at graph b.w.to)) b.there)
    where
      by : b.w.to ≡ x.middle
          → ((vertex_at graph x.middle).z ≡ 6)
          × ((length (edges_at graph x.middle) ≡ 2) × (length (doubles graph x.middle) ≡ 2))
          → ((length (edges_at graph b.w.to) ≡ 3) × (is_some (outer_of (vertex_at graph b.w.to).z) ≡ false)) ⊎
          ((length (edges_at graph b.w.to) ≡ 2) × ((vertex_at graph b.w.to).z ≡ 7)) → ⊥
      by to m (inl f) = let c = f.0 in let d = m.1.0 in
          let same : length (edges_at graph b.w.to) ≡ length (edges_at graph x.middle) =
          ap (λ v. length (edges_at graph v)) to in absurd (omega (arith, c, d, same))
      by to m (inr f) = let c = f.1 in let d = m.0 in
          let same : (vertex_at graph b.w.to).z ≡ (vertex_at graph x.middle).z = ap (λ v. (vertex_at graph v).z) to in
          absurd (omega (arith, c, d, same))

  two_bonds : (v : ℕ) (one two : Site) → BondAt v one → BondAt v two → one ≡ two
  two_bonds v one two b c =
      b.is ∙ ap (λ (w : Way). bond_by v w.to) (one_multiple v b.one b.w c.w b.among c.among b.order c.order) ∙ sym c.is

  two_axes : (v : ℕ) (one two : Site) → AxisAt v one → AxisAt v two → one ≡ two
  two_axes v one two x y =
      let t = double_way v x.middle x.core.toward in
      let u = double_way v y.middle y.core.toward in
      let parts = axis_end_parts (v ∷ x.middle ∷ x.to ∷ []) v x.core.first in
      let mid : x.middle ≡ y.middle =
      t.is ∙ ap (λ (w : Way). w.to) (one_multiple v parts.1.1 t.w u.w t.among u.among t.order u.order) ∙ sym u.is in
      let m = middle_parts x.middle x.core.is_middle in
      let to : x.to ≡ y.to =
      other_of_two (doubles graph x.middle) m.1.1 v x.to y.to x.back.onward x.core.onward
      (subst (λ w. Among y.to (doubles graph w)) (sym mid) y.core.onward) x.differ y.differ in
      x.is ∙ ap (λ w. axis_by v w x.to) mid ∙ ap (axis_by v y.middle) to ∙ sym y.is

  pub sites_alone : (one two : Site) → Among one (sites_of graph (positions_of graph))
      → Among two (sites_of graph (positions_of graph)) → (v : ℕ) → stands_at v one ≡ true → stands_at v two ≡ true
      → one ≡ two
  sites_alone one two h k v e f = by (standing v one h e) (standing v two k f)
    where
      by : Standing v one → Standing v two → one ≡ two
      by (as_centre c is) (as_centre d was) = is ∙ sym was
      by (as_bond b) (as_bond c) = two_bonds v one two b c
      by (as_axis x) (as_axis y) = two_axes v one two x y
      by (as_centre c is) (as_bond b) = absurd (no_centre_bond v two c b)
      by (as_centre c is) (as_axis x) = absurd (no_centre_axis v two c x)
      by (as_bond b) (as_centre c is) = absurd (no_centre_bond v one c b)
      by (as_bond b) (as_axis x) = absurd (no_bond_axis v one two b x)
      by (as_axis x) (as_centre c is) = absurd (no_centre_axis v one c x)
      by (as_axis x) (as_bond b) = absurd (no_bond_axis v two one b x)

abbrev pub shown : (Site → Geometry) → Site → units.Unit
shown of site = record { site = site; geometry = of site }

pub units_alone : (graph : Graph) → IsSound graph → (of : Site → Geometry)
    → AreAlone (units_of of graph (positions_of graph))
units_alone graph sound of one two h k vertex e f =
    let at = from_map (shown of) one (sites_of graph (positions_of graph)) h in
    let by = from_map (shown of) two (sites_of graph (positions_of graph)) k in
    let same : at.0 ≡ by.0 =
    sites_alone graph sound at.0 by.0 at.1 by.1 vertex (sym (ap (λ (u : units.Unit). stands_at vertex u.site) at.2) ∙ e)
    (sym (ap (λ (u : units.Unit). stands_at vertex u.site) by.2) ∙ f) in
    at.2 ∙ ap (shown of) same ∙ sym by.2

at_end : (vertex : ℕ) (ends : List End) → Among vertex (map (λ end. end.at) ends)
    → list_any (λ end. end.at == vertex) ends ≡ true
at_end vertex [] h = absurd h
at_end vertex (end ∷ ends) (inl e) =
    ap (λ b. b || list_any (λ other. other.at == vertex) ends) (eq-eqb end.at vertex (sym e))
at_end vertex (end ∷ ends) (inr h) =
    or_right (end.at == vertex) (list_any (λ other. other.at == vertex) ends) (at_end vertex ends h)

pub units_share_no_end : UnitsShareNoEnd
units_share_no_end drawing sound one two h k vertex e f =
    units_alone (graph_of drawing) (drawn_sound drawing sound) (geometry_of drawing) one two h k vertex
    (at_end vertex (ends_of one.site) e) (at_end vertex (ends_of two.site) f)
