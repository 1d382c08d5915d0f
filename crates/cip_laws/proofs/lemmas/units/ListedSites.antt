-- The ligands of units as they are listed: ascending, so the drawn ones first, and at most one that isn't drawn.
use Rattle.std.proofs.Common.{◌≡◌, ◌≢◌, ◌⊎◌, inl, inr, ◌<◌, ◌≤◌, ◌+◌, ℕ, suc, ℤ, pos, List, [], ◌∷◌, ◌++◌, map, length, filter, refl, sym, ap, subst, ◌∙◌, Bool, true, false, not, cond, ◌==◌, ◌&&◌, ◌||◌, nat_lt, eqb-true, le-ltb, ltb-true, ltb-false, leb-true, arith, if◌then◌else◌}
use Rattle.std.specs.Prelude.{None, Some}
use Rattle.std.specs.List.{AllByRecursion, list_any, cons_option}
use Rattle.std.specs.Ordering.{int_eq}
use Rattle.std.proofs.lemmas.Bool.{ne_eqb, true≢false, and_parts, and_right}
use Rattle.std.proofs.lemmas.List.{length-map}
use Rattle.std.proofs.Math.Bool.{or-false}
use Rattle.cip_mol.specs.Drawing.{Drawing}
use Rattle.cip_mol.specs.DrawnLigands.{drawn}
use Rattle.cip_mol.specs.declared.site.Ligand.{Ligand}
use Rattle.cip_mol.specs.declared.site.Ligand.TheVariants.{LonePair}
use Rattle.cip_mol.specs.declared.site.Ligand.TheVariants as ligands
use Rattle.cip_mol.specs.declared.site.Site.{Site}
use Rattle.cip_digraph.specs.units.Allenes.{is_axis_end}
use Rattle.cip_digraph.specs.rings.Alternating.{is_in}
use Rattle.cip_digraph.specs.units.Centres.{drawn_neighbours, is_centre}
use Rattle.cip_digraph.specs.units.DoubleBonds.{is_double_end, outer_neighbours, has_end_bonds, is_bond_end, end_ligands}
use Rattle.cip_digraph.specs.graph.DrawnGraph.{graph_of}
use Rattle.cip_digraph.specs.units.Ends.{end_at}
use Rattle.cip_digraph.specs.declared.drawing.graph.Vertex.{Vertex}
use Rattle.cip_digraph.specs.graph.Graph.{Graph, vertex_at, edges_at, neighbours, other_end}
use Rattle.cip_digraph.specs.rings.Positions.{positions_of}
use Rattle.cip_digraph.specs.graph.SoundGraphs.{IsSound}
use Rattle.cip_digraph.specs.units.Units.{centre_site, sites_of}
use Rattle.cip_digraph.proofs.lemmas.lists.Elements.{Pairwise, pairwise_by, pairwise_filtered, all_by}
use Rattle.cip_digraph.proofs.lemmas.bonds.Neighbours.{neighbours_ascend, neighbours_differ}
use Rattle.cip_symmetry.specs.Images.{Among}
use Rattle.cip_digraph.proofs.lemmas.bonds.Centres.{double_parts}
use Rattle.cip_laws.proofs.lemmas.units.AloneSites.{centre_is, axis_end_parts}
use Rattle.cip_symmetry.proofs.lemmas.lists.Among.{from_map, among_map, among_filter, found_any}
use Rattle.cip_laws.proofs.lemmas.units.CarriedAxes.{FoundAxis, found_site}
use Rattle.cip_symmetry.proofs.lemmas.lists.CarriedLists.{mapped_twice}
use Rattle.cip_symmetry.specs.Renamed.{Way, way, ways}
use Rattle.cip_laws.proofs.lemmas.units.CarriedSites.{FoundBond}
use Rattle.cip_laws.proofs.lemmas.further.AllButOne.{all_but_one, some_member}
use Rattle.cip_laws.proofs.lemmas.graph.RenumberedGraph.{Drawn, Implicit, Beyond, kind_of, vertex_of_hydrogen, vertex_of_none}
use Rattle.cip_laws.proofs.lemmas.units.RenumberedSenses.{IsListed, IsEndListed, IsSiteListed}
use Rattle.cip_laws.proofs.lemmas.units.TurnedSenses.{undrawn, behind}
use Rattle.cip_laws.proofs.lemmas.graph.WaySymmetry.{back_way, leads_back}
use Rattle.cip_symmetry.proofs.lemmas.lists.Truths.{eq_back}

pub neighbours_rise : (graph : Graph) → IsSound graph → (v : ℕ) → Pairwise ◌≤◌ (neighbours graph v)
neighbours_rise graph sound v =
    pairwise_by ◌<◌ ◌≤◌ (λ v w lt. omega (arith, lt)) (neighbours graph v) (neighbours_ascend graph sound v)

-- lists of ligands as units have them
module _ (n : ℕ) (lone : Bool) where
  abbrev ligands_of : List ℕ → List Ligand
  ligands_of vs = map ligands.Vertex vs ++ cond lone (LonePair ∷ []) []

  abbrev lone_count : ℕ
  lone_count = cond lone 1 0

  drawn_are : (vs : List ℕ) → drawn n (ligands_of vs) ≡ filter (λ v. nat_lt v n) vs
  drawn_are [] = by lone
    where
      by : (b : Bool) → drawn n (cond b (LonePair ∷ []) []) ≡ []
      by true = refl
      by false = refl
  drawn_are (v ∷ vs) = by (nat_lt v n) (drawn_are vs)
    where
      by : (b : Bool) → drawn n (ligands_of vs) ≡ filter (λ v. nat_lt v n) vs
          → cons_option (if b then Some v else None) (drawn n (ligands_of vs))
          ≡ cond b (v ∷ filter (λ v. nat_lt v n) vs) (filter (λ v. nat_lt v n) vs)
      by true e = ap (λ ws. v ∷ ws) e
      by false e = e

  all_counted : (vs : List ℕ) → length (drawn n (ligands_of vs)) + undrawn n (ligands_of vs) ≡ length vs + lone_count
  all_counted [] = by lone
    where
      by : (b : Bool)
          → length (drawn n (cond b (LonePair ∷ []) [])) + undrawn n (cond b (LonePair ∷ []) []) ≡ 0 + cond b 1 0
      by true = refl
      by false = refl
  all_counted (v ∷ vs) = by (nat_lt v n) (all_counted vs)
    where
      by : (b : Bool) → length (drawn n (ligands_of vs)) + undrawn n (ligands_of vs) ≡ length vs + lone_count
          → length (cons_option (if b then Some v else None) (drawn n (ligands_of vs)))
          + (cond b 0 1 + undrawn n (ligands_of vs)) ≡ suc (length vs) + lone_count
      by true e = omega (arith, e)
      by false e = omega (arith, e)

  none_drawn : (vs : List ℕ) → AllByRecursion (λ v. n ≤ v) vs → length (drawn n (ligands_of vs)) ≡ 0
  none_drawn [] all = ap length (drawn_are [])
  none_drawn (v ∷ vs) all =
      ap (λ b. length (cons_option (if b then Some v else None) (drawn n (ligands_of vs)))) (le-ltb v n all.0)
      ∙ none_drawn vs all.1

  nothing_behind : (vs : List ℕ) → Pairwise ◌≤◌ vs → behind n (ligands_of vs) ≡ 0
  nothing_behind [] up = by lone
    where
      by : (b : Bool) → behind n (cond b (LonePair ∷ []) []) ≡ 0
      by true = refl
      by false = refl
  nothing_behind (v ∷ vs) up = by (nat_lt v n) refl (nothing_behind vs up.1)
    where
      by : (b : Bool) → nat_lt v n ≡ b → behind n (ligands_of vs) ≡ 0
          → cond (nat_lt v n) 0 (length (drawn n (ligands_of vs))) + behind n (ligands_of vs) ≡ 0
      by true e rest = rw e (omega (arith, rest))
      by false e rest =
          let le = ltb-false v n e in
          let none = none_drawn vs (all_by (λ w. v ≤ w) (λ w. n ≤ w) (λ w h. omega (arith, le, h)) vs up.0) in
          rw e (omega (arith, none, rest))

  pub listed : (least most : ℕ) (vs : List ℕ) → Pairwise ◌≤◌ vs → least ≤ length (filter (λ v. nat_lt v n) vs)
      → length vs + lone_count ≡ most → most ≤ least + 1 → IsListed n least most (ligands_of vs)
  listed least most vs up some count few =
      let drawn_count : length (drawn n (ligands_of vs)) ≡ length (filter (λ v. nat_lt v n) vs) =
      ap length (drawn_are vs) in
      let counted = all_counted vs in
      record {
        few = omega (arith, drawn_count, counted, some, count, few);
        last = nothing_behind vs up;
        some = omega (arith, drawn_count, some);
        less = omega (arith, counted, count);
      }

some_kept : (test : ℕ → Bool) (xs : List ℕ) → list_any test xs ≡ true → 1 ≤ length (filter test xs)
some_kept test xs e = let found = found_any test xs e in
    some_member (filter test xs) found.0 (among_filter test found.0 xs found.1 found.2)

not_double : (z : ℕ) (charge : ℤ) (edges : ℕ) → (z ≡ 1) ⊎ (z ≡ 0) → is_double_end z charge edges ≡ false
not_double z charge edges e =
    elim e [ inl one ↦ rw one (by (edges == 3) (edges == 2)) | inr none ↦ rw none (by (edges == 3) (edges == 2)) ]
  where
    by : (a b : Bool) → ((a && false) || ((b && false) && int_eq charge (pos 0))) ≡ false
    by true true = refl
    by true false = refl
    by false true = refl
    by false false = refl

module _ (drawing : Drawing) (sound : IsSound (graph_of drawing)) where
  abbrev g : Graph
  g = graph_of drawing

  abbrev n : ℕ
  n = length drawing.atoms

  pub drawn_is : g.drawn ≡ n
  unfolding graph_of
  drawn_is = refl

  -- what isn't hydrogen is an atom
  atom_if : (v : ℕ) → ((vertex_at g v).z ≡ 1 → ⊥) → ((vertex_at g v).z ≡ 0 → ⊥) → v < n
  atom_if v one none = elim (kind_of drawing v) [
    | Drawn lt ↦ lt
    | Implicit p ↦ absurd (one (ap (λ (x : Vertex). x.z) (vertex_of_hydrogen drawing v p)))
    | Beyond le ↦ absurd (none (ap (λ (x : Vertex). x.z) (vertex_of_none drawing v le)))
  ]

  centre_listed : (v : ℕ) → v < n → is_centre g v ≡ true → IsSiteListed drawing (centre_site g v)
  centre_listed v lt e =
      let others = neighbours g v in
      let most : 3 ≤ length (drawn_neighbours g v) = leb-true 3 (length (drawn_neighbours g v)) (and_parts _ _ e).0 in
      let drawn_most : 3 ≤ length (filter (λ w. nat_lt w n) others) =
      subst (λ d. 3 ≤ length (filter (λ w. nat_lt w d) others)) drawn_is most in
      let degree : length others ≡ length (edges_at g v) = length-map (edges_at g v) (other_end v) in
      let four : length others + cond (length others == 3) 1 0 ≡ 4 = elim (centre_is g sound v e) [
        | inl f ↦ let all : length others ≡ 4 = degree ∙ f in ap (λ k. k + cond (k == 3) 1 0) all
        | inr f ↦ let all : length others ≡ 3 = degree ∙ f.0 in ap (λ k. k + cond (k == 3) 1 0) all
      ] in
      (lt, listed n (length others == 3) 3 4 others (neighbours_rise g sound v) drawn_most four (omega arith))

  -- an end of a bond
  outer_ligand_count : (unit : List ℕ) (v to : ℕ) → Among to (neighbours g v)
      → ((x : ℕ) → Among x (neighbours g v) → is_in x unit ≡ (x == to))
      → length (outer_neighbours g unit v) + 1 ≡ length (edges_at g v)
  outer_ligand_count unit v to h same =
      all_but_one (λ x. not (is_in x unit)) to (neighbours g v) (λ x k. ap not (same x k))
      (neighbours_differ g sound v) h ∙ length-map (edges_at g v) (other_end v)

  nearer : (v : ℕ) (w : Way) → Among w (ways g v) → Among w.to (neighbours g v)
  nearer v w h =
      subst (Among w.to) (mapped_twice (way v) (λ (u : Way). u.to) (edges_at g v))
      (among_map (λ (u : Way). u.to) w (ways g v) h)

  apart_from : (v x : ℕ) → Among x (neighbours g v) → v ≢ x
  apart_from v x h same =
      let found =
      from_map (λ (u : Way). u.to) x (ways g v)
      (subst (Among x) (sym (mapped_twice (way v) (λ (u : Way). u.to) (edges_at g v))) h) in
      (leads_back g sound v found.0 found.1).differ (same ∙ found.2)

  in_first : (a b x : ℕ) → Among x (neighbours g a) → is_in x (a ∷ b ∷ []) ≡ (x == b)
  in_first a b x h = rw (ne_eqb a x (apart_from a x h), eq_back x b) (or-false (b == x))

  in_second : (a b x : ℕ) → Among x (neighbours g b) → is_in x (a ∷ b ∷ []) ≡ (x == a)
  in_second a b x h = rw (ne_eqb b x (apart_from b x h), eq_back x a) (or-false (a == x))

  pub some_drawn : (unit : List ℕ) (v : ℕ) → has_end_bonds g unit v ≡ true
      → 1 ≤ length (filter (λ w. nat_lt w n) (outer_neighbours g unit v))
  some_drawn unit v e =
      subst (λ d. 1 ≤ length (filter (λ w. nat_lt w d) (outer_neighbours g unit v))) drawn_is
      (some_kept (λ w. nat_lt w g.drawn) (outer_neighbours g unit v) (and_parts _ _ e).1)

  -- an end whose two ligands are drawn, or a drawn one and a lone pair
  pub end_listed : (unit : List ℕ) (v : ℕ) → v < n → has_end_bonds g unit v ≡ true
      → length (outer_neighbours g unit v) + cond (((vertex_at g v).z == 7) && (length (edges_at g v) == 2)) 1 0 ≡ 2
      → IsEndListed drawing (end_at v (end_ligands g unit v))
  end_listed unit v lt bonds two = record {
    at = lt;
    ligands =
        listed n (((vertex_at g v).z == 7) && (length (edges_at g v) == 2)) 1 2 (outer_neighbours g unit v)
        (pairwise_filtered ◌≤◌ (λ x. not (is_in x unit)) (neighbours g v) (neighbours_rise g sound v))
        (some_drawn unit v bonds) two (omega arith);
  }

  bond_end_listed : (unit : List ℕ) (v to : ℕ) → is_bond_end g unit v ≡ true
      → length (outer_neighbours g unit v) + 1 ≡ length (edges_at g v)
      → IsEndListed drawing (end_at v (end_ligands g unit v))
  bond_end_listed unit v to e count =
      let both =
      and_parts (is_double_end (vertex_at g v).z (vertex_at g v).charge (length (edges_at g v)))
      (has_end_bonds g unit v) e in
      end_listed unit v
      (atom_if v
      (λ z. true≢false
      (sym both.0 ∙ not_double (vertex_at g v).z (vertex_at g v).charge (length (edges_at g v)) (inl z)))
      (λ z. true≢false
      (sym both.0 ∙ not_double (vertex_at g v).z (vertex_at g v).charge (length (edges_at g v)) (inr z))))
      both.1
      (elim (double_parts (vertex_at g v).z (vertex_at g v).charge (length (edges_at g v)) both.0) [
        | inl three ↦
            let d = three.0 in
            let long : length (outer_neighbours g unit v) ≡ 2 = omega (arith, count, d) in
            rw (d, long) (ap (λ b. 2 + cond b 1 0) (and_right ((vertex_at g v).z == 7) false refl))
        | inr pair ↦
            let d = pair.0 in
            let long : length (outer_neighbours g unit v) ≡ 1 = omega (arith, count, d) in
            rw (d, pair.1, long)
      ])

  bond_listed : (site : Site) → FoundBond g site → IsSiteListed drawing site
  bond_listed site f =
      let b = f.w.to in
      subst (IsSiteListed drawing) (sym f.is) (
        bond_end_listed (f.a ∷ b ∷ []) f.a b f.core.first
            (outer_ligand_count (f.a ∷ b ∷ []) f.a b (nearer f.a f.w f.core.among) (in_first f.a b)),
        bond_end_listed (f.a ∷ b ∷ []) b f.a f.core.second
            (outer_ligand_count (f.a ∷ b ∷ []) b f.a
            (nearer b (back_way g f.a f.w) (leads_back g sound f.a f.w f.core.among).back) (in_second f.a b)),
      )

  pub axis_end_listed : (unit : List ℕ) (v : ℕ) → is_axis_end g unit v ≡ true
      → IsEndListed drawing (end_at v (end_ligands g unit v))
  axis_end_listed unit v e =
      let four = and_parts _ _ e in
      let six = (axis_end_parts g sound unit v e).0 in
      end_listed unit v (atom_if v (λ z. absurd (omega (arith, z, six))) (λ z. absurd (omega (arith, z, six))))
      (and_parts _ _ four.0).1 (rw (six, eqb-true (length (outer_neighbours g unit v)) 2 four.1))

  axis_listed : (site : Site) → FoundAxis g site → IsSiteListed drawing site
  axis_listed site f =
      subst (IsSiteListed drawing) (sym f.is) (
        axis_end_listed (f.a ∷ f.middle ∷ f.b ∷ []) f.a f.core.first,
        axis_end_listed (f.a ∷ f.middle ∷ f.b ∷ []) f.b
            f.core.second,
      )

  pub sites_listed : (site : Site) → Among site (sites_of g (positions_of g)) → IsSiteListed drawing site
  sites_listed site h = elim (found_site g site h) [
    | inl f ↦
        let low = ltb-true f.a g.drawn f.drawn in
        let same = drawn_is in
        subst (IsSiteListed drawing) (sym f.is) (centre_listed f.a (omega (arith, low, same)) f.stands)
    | inr found ↦ elim found [ inl f ↦ bond_listed site f | inr f ↦ axis_listed site f ]
  ]
