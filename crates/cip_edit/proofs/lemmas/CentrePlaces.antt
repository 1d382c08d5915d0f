-- The place of the centre at an atom among the units of a drawing.
use Rattle.std.proofs.Common.{◌≡◌, ◌<◌, inl, inr, ℕ, zero, suc, List, [], ◌∷◌, ◌++◌, map, length, filter, flat_map, refl, sym, ap, subst, ◌∙◌, Bool, true, false, cond, ◌==◌, ◌||◌, ◌&&◌, nat_lt, ◌+◌, ◌≤◌, eqb-true, eq-eqb, ltb-true, get_or, slice_get, arith}
use Rattle.std.specs.Prelude.{Some, None, position}
use Rattle.std.specs.declared.option.Option.{Option}
use Rattle.std.specs.List.{AllByRecursion, list_any, position_or_len, range_with_len}
use Rattle.std.proofs.lemmas.Bool.Decides.{nat_tests}
use Rattle.std.proofs.lemmas.List.Folds.{list_any-append}
use Rattle.std.proofs.lemmas.List.Quantifiers.{position-Some}
use Rattle.std.proofs.lemmas.List.Recursion.{is_position_or_len}
use Rattle.std.proofs.lemmas.Option.{get_or_from_slice_get, slice_get-get_or, slice_get_within}
use Rattle.std.proofs.lemmas.Bool.{and_parts, cases_eq, lt-ltb}
use Rattle.cip_mol.specs.Drawing.{Drawing}
use Rattle.cip_mol.specs.Geometry.{geometry_of}
use Rattle.cip_mol.specs.declared.labels.outcome.Outcome.{Outcome}
use Rattle.cip_mol.specs.declared.site.Site.{Site}
use Rattle.cip_mol.specs.declared.site.Unit as units
use Rattle.cip_mol.proofs.lemmas.ReflectedDrawing.{list_any-map}
use Rattle.cip_digraph.specs.graph.DrawnGraph.{graph_of}
use Rattle.cip_digraph.specs.graph.Graph.{Graph}
use Rattle.cip_digraph.specs.rings.Positions.{positions_of}
use Rattle.cip_digraph.specs.declared.drawing.graph.Edge.{Edge}
use Rattle.cip_digraph.specs.graph.Graph.{edges_at}
use Rattle.cip_digraph.specs.units.Allenes.{axis_site, axis_sites, doubles, is_axis_unit}
use Rattle.cip_digraph.specs.units.Centres.{is_centre}
use Rattle.cip_digraph.specs.units.DoubleBonds.{bond_site, bond_sites, is_bond_unit}
use Rattle.cip_digraph.specs.units.Units.{centre_site, sites_of}
use Rattle.cip_label.specs.Settings.{outcome_in, setting_in}
use Rattle.cip_rank.specs.declared.rules.Rules.{Rules}
use Rattle.cip_digraph.proofs.lemmas.lists.Elements.{all_append, all_mapped, all_flat_each}
use Rattle.cip_digraph.specs.units.DrawnUnits.{units_in}
use Rattle.cip_edit.specs.FoundCentres.{shown_at, found_at, is_centre_at, is_centre_site}
use Rattle.cip_edit.specs.Marking.{has_centre}
use Rattle.cip_edit.proofs.lemmas.RootPaths.{or_right}

-- the first place at which a test passes, and the length where it passes nowhere
abbrev first_place : {X : Type 0} → (X → Bool) → List X → ℕ
first_place test [] = 0
first_place test (x ∷ xs) = cond (test x) 0 (1 + first_place test xs)

place_within : {X : Type 0} (test : X → Bool) (xs : List X) → list_any test xs ≡ true
    → first_place test xs < length xs
place_within test [] some = let bad : false ≡ true = some in cc
place_within {X} test (x ∷ xs) some = by (test x) some (λ e. place_within test xs e)
  where
    by : (b : Bool) → (b || list_any test xs) ≡ true
        → (list_any test xs ≡ true → first_place test xs < length xs)
        → cond b 0 (1 + first_place test xs) < suc (length xs)
    by true e rest = omega arith
    by false e rest = let lt = rest e in omega (arith, lt)

any_within : {X : Type 0} (test : X → Bool) (xs : List X) → list_any test xs ≡ true
    → position_or_len test xs < length xs
any_within test xs some =
    subst (λ n. n < length xs)
    (is_position_or_len (first_place test) test refl (λ x rest. refl) xs) (place_within test xs some)

in_kept : (atom : ℕ) (test : ℕ → Bool) → test atom ≡ true → (numbers : List ℕ)
    → list_any (λ n. n == atom) numbers ≡ true → list_any (λ n. n == atom) (filter test numbers) ≡ true
in_kept atom test passes [] some = some
in_kept atom test passes (n ∷ numbers) some =
    by (n == atom) refl (test n) refl some (λ e. in_kept atom test passes numbers e)
  where
    by : (b : Bool) → (n == atom) ≡ b → (c : Bool) → test n ≡ c
        → (b || list_any (λ n. n == atom) numbers) ≡ true
        → (list_any (λ n. n == atom) numbers ≡ true → list_any (λ n. n == atom) (filter test numbers) ≡ true)
        → list_any (λ n. n == atom) (cond c (n ∷ filter test numbers) (filter test numbers)) ≡ true
    by true e true f h rest = ap (λ b. b || list_any (λ n. n == atom) (filter test numbers)) e
    by true e false f h rest =
        let bad : true ≡ false = sym passes ∙ ap test (sym (eqb-true n atom e)) ∙ f in cc
    by false e true f h rest = or_right (n == atom) (list_any (λ n. n == atom) (filter test numbers)) (rest h)
    by false e false f h rest = rest h

in_range : (atom first count : ℕ) → first ≤ atom → atom < first + count
    → list_any (λ n. n == atom) (range_with_len first count) ≡ true
in_range atom first zero low high = absurd (omega (arith, low, high))
in_range atom first (suc count) low high =
    elim (cases_eq first atom) [
      | inl here ↦ ap (λ b. b || list_any (λ n. n == atom) (range_with_len (first + 1) count)) (eq-eqb first atom here)
      | inr other ↦
          or_right (first == atom) (list_any (λ n. n == atom) (range_with_len (first + 1) count))
          (in_range atom (first + 1) count (omega (arith, low, other)) (omega (arith, high)))
    ]

range_below : (most first count : ℕ) → first + count ≤ most
    → AllByRecursion (λ n. nat_lt n most ≡ true) (range_with_len first count)
range_below most first zero le = tt
range_below most first (suc count) le =
    (grind (arith, nat_tests), range_below most (first + 1) count (omega (arith, le)))

kept_all : {X : Type 0} (test : X → Bool) (Q P : X → Type 0) → ((x : X) → Q x → test x ≡ true → P x) → (xs : List X)
    → AllByRecursion Q xs → AllByRecursion P (filter test xs)
kept_all test Q P f [] all = tt
kept_all {X} test Q P f (x ∷ xs) all = by (test x) refl (kept_all test Q P f xs all.1)
  where
    by : (b : Bool) → test x ≡ b → AllByRecursion P (filter test xs)
        → AllByRecursion P (cond b (x ∷ filter test xs) (filter test xs))
    by true e rest = (f x all.0 e, rest)
    by false e rest = rest

module _ (graph : Graph) (positions : List (List ℕ)) (atom : ℕ) where
  abbrev stands : Bool
  stands = nat_lt atom graph.drawn && is_centre graph atom

  -- where a site is the centre there, a centre is there
  record IsTold (site : Site) : Type 0 where
    stated : is_centre_site atom site ≡ true → (site ≡ centre_site graph atom) × (stands ≡ true)

  centre_told : (v : ℕ) → nat_lt v graph.drawn ≡ true → is_centre graph v ≡ true → IsTold (centre_site graph v)
  centre_told v low is = record {
    stated = λ e.
        let here : v ≡ atom = eqb-true v atom e in (
          ap (centre_site graph) here,
          ap (λ n. nat_lt n graph.drawn && is_centre graph n) (sym here)
              ∙ (λ i. low i && is i),
        );
  }

  bonds_told : (a : ℕ) → AllByRecursion IsTold (bond_sites graph positions a)
  bonds_told a = by (filter (is_bond_unit graph positions a) (edges_at graph a))
    where
      by : (edges : List Edge) → AllByRecursion IsTold (map (bond_site graph a) edges)
      by [] = tt
      by (edge ∷ edges) = (record { stated = λ e. let bad : false ≡ true = e in cc }, by edges)

  axes_told : (a : ℕ) → AllByRecursion IsTold (axis_sites graph a)
  axes_told a =
      all_flat_each IsTold
      (λ middle. map (axis_site graph a middle) (filter (is_axis_unit graph a middle) (doubles graph middle)))
      (λ middle. by middle (filter (is_axis_unit graph a middle) (doubles graph middle))) (doubles graph a)
    where
      by : (middle : ℕ) (others : List ℕ) → AllByRecursion IsTold (map (axis_site graph a middle) others)
      by middle [] = tt
      by middle (b ∷ others) = (record { stated = λ e. let bad : false ≡ true = e in cc }, by middle others)

  sites_told : AllByRecursion IsTold (sites_of graph positions)
  unfolding sites_of
  sites_told =
      let atoms = range_with_len 0 graph.drawn in
      let centres = map (centre_site graph) (filter (is_centre graph) atoms) in
      let bonds = flat_map (bond_sites graph positions) atoms in
      all_append IsTold (centres ++ bonds) (flat_map (axis_sites graph) atoms)
      (all_append IsTold centres bonds
      (all_mapped IsTold (centre_site graph) (filter (is_centre graph) atoms)
      (kept_all (is_centre graph) (λ n. nat_lt n graph.drawn ≡ true) (λ v. IsTold (centre_site graph v)) centre_told
      atoms (range_below graph.drawn 0 graph.drawn (omega arith))))
      (all_flat_each IsTold (bond_sites graph positions) bonds_told atoms))
      (all_flat_each IsTold (axis_sites graph) axes_told atoms)

  or_left : (a b : Bool) → a ≡ true → (a || b) ≡ true
  or_left a b e = ap (λ c. c || b) e

  site_found : stands ≡ true → list_any (is_centre_site atom) (sites_of graph positions) ≡ true
  unfolding sites_of
  site_found there =
      let atoms = range_with_len 0 graph.drawn in
      let centres = map (centre_site graph) (filter (is_centre graph) atoms) in
      let bonds = flat_map (bond_sites graph positions) atoms in
      let axes = flat_map (axis_sites graph) atoms in
      let both = and_parts (nat_lt atom graph.drawn) (is_centre graph atom) there in
      let low : atom < graph.drawn = ltb-true atom graph.drawn both.0 in
      list_any-append (is_centre_site atom) (centres ++ bonds) axes
      ∙ or_left (list_any (is_centre_site atom) (centres ++ bonds)) (list_any (is_centre_site atom) axes)
      (list_any-append (is_centre_site atom) centres bonds
      ∙ or_left (list_any (is_centre_site atom) centres) (list_any (is_centre_site atom) bonds)
      (list_any-map (is_centre_site atom) (centre_site graph) (filter (is_centre graph) atoms)
      ∙ in_kept atom (is_centre graph) both.1 atoms (in_range atom 0 graph.drawn (omega arith) (omega (arith, low)))))

module _ (drawing : Drawing) (atom : ℕ) where
  abbrev pub centre_unit : units.Unit
  centre_unit = record { site = centre_site (graph_of drawing) atom; geometry = shown_at drawing atom }

  abbrev shown : Site → units.Unit
  shown site = record { site = site; geometry = geometry_of drawing site }

  record IsThere (unit : units.Unit) : Type 0 where
    stated : is_centre_at atom unit ≡ true → (unit ≡ centre_unit) × (has_centre drawing atom ≡ true)

  all_there : (sites : List Site) → AllByRecursion
      (IsTold (graph_of drawing) (positions_of (graph_of drawing)) atom) sites
      → AllByRecursion IsThere (map shown sites)
  unfolding graph_of
  all_there [] all = tt
  all_there (site ∷ sites) all =
      (record { stated = λ e. let t = all.0.stated e in (ap shown t.0, t.1) }, all_there sites all.1)

  units_there : AllByRecursion IsThere (units_in drawing)
  units_there =
      all_there (sites_of (graph_of drawing) (positions_of (graph_of drawing)))
      (sites_told (graph_of drawing) (positions_of (graph_of drawing)) atom)

  at_place : (all : List units.Unit) → AllByRecursion IsThere all → (i : ℕ) → i < length all → (d : units.Unit)
      → IsThere (get_or all i d)
  at_place [] all i lt d = absurd (omega (arith, lt))
  at_place (unit ∷ others) all zero lt d = all.0
  at_place (unit ∷ others) all (suc i) lt d = at_place others all.1 i (omega (arith, lt)) d

  -- the place that is found is that of the centre
  pub place_found : (i : ℕ) → position (is_centre_at atom) (units_in drawing) ≡ Some i
      → (slice_get (units_in drawing) i ≡ Some centre_unit) × (has_centre drawing atom ≡ true)
  place_found i e =
      let parts = position-Some (is_centre_at atom) (units_in drawing) i centre_unit e in
      let lt : i < length (units_in drawing) = parts.0 in
      let there = (at_place (units_in drawing) units_there i lt centre_unit).stated parts.1 in
      (slice_get-get_or (units_in drawing) i centre_unit lt ∙ ap Some there.0, there.1)

  -- and where none is found, no centre is there
  pub no_place : position (is_centre_at atom) (units_in drawing) ≡ None → has_centre drawing atom ≡ false
  unfolding graph_of
  no_place e = by (has_centre drawing atom) refl
    where
      by : (b : Bool) → has_centre drawing atom ≡ b → b ≡ false
      by false f = refl
      by true f =
          let sites = sites_of (graph_of drawing) (positions_of (graph_of drawing)) in
          let some : list_any (is_centre_at atom) (units_in drawing) ≡ true =
          list_any-map (is_centre_at atom) shown sites
          ∙ site_found (graph_of drawing) (positions_of (graph_of drawing)) atom f in
          let lt = any_within (is_centre_at atom) (units_in drawing) some in
          let is : nat_lt (position_or_len (is_centre_at atom) (units_in drawing)) (length (units_in drawing)) ≡ true =
          lt-ltb _ _ lt in
          let bad : ◌≡◌ {A = Option ℕ} (Some (position_or_len (is_centre_at atom) (units_in drawing))) None =
          sym (ap (λ c. cond c (Some (position_or_len (is_centre_at atom) (units_in drawing))) None) is) ∙ e in cc

  -- where a centre is there, it has a place among the units
  pub has_place : has_centre drawing atom ≡ true
      → (place : ℕ) × (slice_get (units_in drawing) place ≡ Some centre_unit)
  unfolding graph_of
  has_place there =
      let sites = sites_of (graph_of drawing) (positions_of (graph_of drawing)) in
      let some : list_any (is_centre_at atom) (units_in drawing) ≡ true =
      list_any-map (is_centre_at atom) shown sites
      ∙ site_found (graph_of drawing) (positions_of (graph_of drawing)) atom there in
      let lt = any_within (is_centre_at atom) (units_in drawing) some in
      let place = position_or_len (is_centre_at atom) (units_in drawing) in
      let found : position (is_centre_at atom) (units_in drawing) ≡ Some place =
      ap (λ c. cond c (Some place) None) (lt-ltb _ _ lt) in
      (place, (place_found place found).0)

  -- and the other way round
  pub place_has : (place : ℕ) → slice_get (units_in drawing) place ≡ Some centre_unit → has_centre drawing atom ≡ true
  place_has place e =
      let lt = slice_get_within (units_in drawing) place centre_unit e in
      let is = get_or_from_slice_get (units_in drawing) place centre_unit centre_unit e in
      ((at_place (units_in drawing) units_there place lt centre_unit).stated
      (ap (is_centre_at atom) is ∙ eq-eqb atom atom refl)).1

-- the units of what is drawn, as they are listed
module _ (drawing : Drawing) (listed : List units.Unit) (same : listed ≡ units_in drawing) where
  module _ (atom place : ℕ) (found : position (is_centre_at atom) listed ≡ Some place) where
    there : position (is_centre_at atom) (units_in drawing) ≡ Some place
    there = ap (position (is_centre_at atom)) (sym same) ∙ found

    pub centre_listed : slice_get listed place ≡ Some (centre_unit drawing atom)
    centre_listed = ap (λ us. slice_get us place) same ∙ (place_found drawing atom place there).0

    pub centre_stands : has_centre drawing atom ≡ true
    centre_stands = (place_found drawing atom place there).1

    pub within_list : place < length (units_in drawing)
    within_list =
        subst (λ us. place < length us) same (slice_get_within listed place (centre_unit drawing atom) centre_listed)

    pub outcome_found : (rules : Rules) (bound : ℕ) (outcome : Outcome)
        → ((u : units.Unit) → slice_get (units_in drawing) place ≡ Some u
        → outcome ≡ outcome_in (setting_in rules drawing) bound u)
        → outcome ≡ found_at rules bound drawing atom
    outcome_found rules bound outcome stated = stated (centre_unit drawing atom) (place_found drawing atom place there).0

  pub none_listed : (atom : ℕ) → position (is_centre_at atom) listed ≡ None → has_centre drawing atom ≡ false
  none_listed atom none = no_place drawing atom (ap (position (is_centre_at atom)) (sym same) ∙ none)
