-- The axis units of a renamed graph, and then all its units.
use Rattle.std.proofs.Common.{◌≡◌, ◌⊎◌, ◌≢◌, inl, inr, ℕ, List, [], ◌∷◌, ◌++◌, map, length, filter, flat_map, refl, sym, ap, subst, ◌∙◌, Bool, true, false, not, ◌<◌, ◌==◌, ◌&&◌, nat_lt, lt-ltb, ltb-true, ltb-false, arith}
use Rattle.std.specs.List.{list_any, range_with_len}
use Rattle.std.specs.List.Sorted.{IsPermutation}
use Rattle.cip_mol.specs.declared.site.Site.{Site}
use Rattle.cip_mol.specs.declared.site.Site.TheVariants.{Axis}
use Rattle.cip_digraph.specs.units.Allenes.{doubles, is_allene_middle, is_axis_end, is_axis_unit, axis_site, axis_sites}
use Rattle.cip_digraph.specs.units.Centres.{is_centre}
use Rattle.cip_digraph.specs.units.DoubleBonds.{multiples, outer_neighbours, end_ligands, bond_sites}
use Rattle.cip_digraph.specs.graph.Graph.{Graph, vertex_at, edges_at, neighbours}
use Rattle.cip_digraph.specs.rings.Positions.{positions_of}
use Rattle.cip_digraph.specs.graph.SoundGraphs.{IsSound}
use Rattle.cip_digraph.specs.units.Units.{centre_site, sites_of}
use Rattle.cip_symmetry.specs.Images.{Among}
use Rattle.cip_symmetry.proofs.lemmas.lists.Among.{among_map, from_map, among_filter, from_filter, among_left, among_right, from_append, among_flat, from_flat, among_arranged, among_range, from_range}
use Rattle.cip_symmetry.proofs.lemmas.lists.CarriedLists.{filter_carried, mapped_twice}
use Rattle.cip_symmetry.specs.Renamed.{Way, way, ways, way_image, IsRenamed}
use Rattle.cip_symmetry.proofs.lemmas.graph.CarriedPositions.{degree_carried, passed_moved}
use Rattle.cip_laws.proofs.lemmas.units.CarriedSites.{SiteImage, pair_image, centre_image, centre_carried, z_same, SameUnit, end_bonds_carried, outer_moved, three_same, three_crossed, two_same, two_crossed, pair_forward, pair_crossed, moved_long, or_turn, bond_of, bond_among, FoundBond, found_bond, core_back, core_there}
use Rattle.cip_laws.proofs.lemmas.graph.WaySymmetry.{back_way, leads_back}
use Rattle.std.proofs.lemmas.Bool.{and_parts, and_from}

pub record IsAxisCore (graph : Graph) (a middle b : ℕ) : Type 0 where
  pub toward : Among middle (doubles graph a)
  pub onward : Among b (doubles graph middle)
  pub is_middle : is_allene_middle graph middle ≡ true
  pub first : is_axis_end graph (a ∷ middle ∷ b ∷ []) a ≡ true
  pub second : is_axis_end graph (a ∷ middle ∷ b ∷ []) b ≡ true

abbrev pub axis_of : Graph → ℕ → ℕ → ℕ → Site
axis_of graph a middle b =
    Axis a middle b (end_ligands graph (a ∷ middle ∷ b ∷ []) a) (end_ligands graph (a ∷ middle ∷ b ∷ []) b)

module _ (graph : Graph) where
  pub axis_among : (a middle b : ℕ) → IsAxisCore graph a middle b → nat_lt a graph.drawn ≡ true → nat_lt a b ≡ true
      → Among (axis_of graph a middle b) (flat_map (axis_sites graph) (range_with_len 0 graph.drawn))
  axis_among a middle b k drawn lower =
      let test : is_axis_unit graph a middle b ≡ true =
      and_from _ _ (and_from _ _ (and_from _ _ lower k.is_middle) k.first) k.second in
      among_flat (axis_sites graph) a (axis_of graph a middle b) (range_with_len 0 graph.drawn)
      (among_range 0 graph.drawn a (omega arith) (let lt = ltb-true a graph.drawn drawn in omega (arith, lt)))
      (among_flat (λ m. map (axis_site graph a m) (filter (is_axis_unit graph a m) (doubles graph m))) middle
      (axis_of graph a middle b) (doubles graph a) k.toward
      (among_map (axis_site graph a middle) b (filter (is_axis_unit graph a middle) (doubles graph middle))
      (among_filter (is_axis_unit graph a middle) b (doubles graph middle) k.onward test)))

  pub record FoundAxis (site : Site) : Type 0 where
    pub a : ℕ
    pub middle : ℕ
    pub b : ℕ
    pub core : IsAxisCore graph a middle b
    pub drawn : nat_lt a graph.drawn ≡ true
    pub lower : nat_lt a b ≡ true
    pub is : site ≡ axis_of graph a middle b

  pub found_axis : (site : Site) → Among site (flat_map (axis_sites graph) (range_with_len 0 graph.drawn))
      → FoundAxis site
  found_axis site h =
      let at = from_flat (axis_sites graph) site (range_with_len 0 graph.drawn) h in
      let a = at.0 in
      let mid =
      from_flat (λ m. map (axis_site graph a m) (filter (is_axis_unit graph a m) (doubles graph m))) site
      (doubles graph a) at.2 in
      let by =
      from_map (axis_site graph a mid.0) site (filter (is_axis_unit graph a mid.0) (doubles graph mid.0)) mid.2 in
      let kept = from_filter (is_axis_unit graph a mid.0) by.0 (doubles graph mid.0) by.1 in
      let all3 = and_parts _ _ kept.1 in
      let all2 = and_parts _ _ all3.0 in
      let all1 = and_parts _ _ all2.0 in
      record {
        a = a;
        middle = mid.0;
        b = by.0;
        core = record { toward = mid.1; onward = kept.0; is_middle = all1.1; first = all2.1; second = all3.1 };
        drawn = (let lt = (from_range 0 graph.drawn a at.1).1 in lt-ltb a graph.drawn (omega (arith, lt)));
        lower = all1.0;
        is = by.2;
      }

  doubles_are : (v : ℕ)
      → map (λ (w : Way). w.to) (filter (λ (w : Way). w.order == 2) (ways graph v)) ≡ doubles graph v
  doubles_are v =
      ap (map (λ (w : Way). w.to))
      (filter_carried (way v) (λ edge. edge.order == 2) (λ (w : Way). w.order == 2) (λ edge. refl) (edges_at graph v))
      ∙ mapped_twice (way v) (λ (w : Way). w.to) (filter (λ edge. edge.order == 2) (edges_at graph v))

  pub double_back : IsSound graph → (x y : ℕ) → Among y (doubles graph x) → Among x (doubles graph y)
  double_back sound x y h =
      let test = λ (w : Way). w.order == 2 in
      let found =
      from_map (λ (w : Way). w.to) y (filter test (ways graph x)) (subst (Among y) (sym (doubles_are x)) h) in
      let kept = from_filter test found.0 (ways graph x) found.1 in
      let back = (leads_back graph sound x found.0 kept.0).back in
      subst (Among x) (doubles_are y)
      (subst (λ v. Among x (map (λ (w : Way). w.to) (filter test (ways graph v)))) (sym found.2)
      (among_map (λ (w : Way). w.to) (back_way graph x found.0) (filter test (ways graph found.0.to))
      (among_filter test (back_way graph x found.0) (ways graph found.0.to) back kept.1)))

  end_turned : (a m b v : ℕ) → is_axis_end graph (b ∷ m ∷ a ∷ []) v ≡ is_axis_end graph (a ∷ m ∷ b ∷ []) v
  end_turned a m b v =
      ap (λ test. ((vertex_at graph v).z == 6) && (length (edges_at graph v) == 3)
      && ((length (multiples graph v) == 1)
      && list_any (λ to. nat_lt to graph.drawn) (filter test (neighbours graph v)))
      && (length (filter test (neighbours graph v)) == 2)) (λ i to. not (or_turn (a == to) (m == to) (b == to) i))

  pub axis_back : IsSound graph → (a middle b : ℕ) → IsAxisCore graph a middle b → IsAxisCore graph b middle a
  axis_back sound a middle b k = record {
    toward = double_back sound middle b k.onward;
    onward = double_back sound a middle k.toward;
    is_middle = k.is_middle;
    first = end_turned a middle b b ∙ k.second;
    second = end_turned a middle b a ∙ k.first;
  }

module _ (graph other : Graph) (image : ℕ → ℕ) (r : IsRenamed graph other image) where
  pub doubles_moved : (v : ℕ) → IsPermutation (map image (doubles graph v)) (doubles other (image v))
  doubles_moved v = passed_moved graph other image r (λ w. w.order == 2) (λ w. refl) v

  doubles_long : (v : ℕ) → length (doubles other (image v)) ≡ length (doubles graph v)
  doubles_long v = moved_long image (doubles graph v) _ (doubles_moved v)

  pub middle_carried : (v : ℕ) → is_allene_middle other (image v) ≡ is_allene_middle graph v
  middle_carried v = rw (z_same graph other image r v, degree_carried graph other image r v, doubles_long v)

  pub axis_end_carried : (unit theirs : List ℕ) → SameUnit graph other image r unit theirs → (v : ℕ)
      → is_axis_end other theirs (image v) ≡ is_axis_end graph unit v
  axis_end_carried unit theirs same v =
      let outer =
      moved_long image (outer_neighbours graph unit v) _ (outer_moved graph other image r unit theirs same v) in
      rw (
        z_same graph other image r v,
        degree_carried graph other image r v,
        end_bonds_carried graph other image r unit theirs same v,
        outer,
      )

  axis_there : (a m b : ℕ) → IsAxisCore graph a m b → IsAxisCore other (image a) (image m) (image b)
  axis_there a m b k = record {
    toward =
        among_arranged (image m) (map image (doubles graph a)) (doubles other (image a)) (doubles_moved a)
        (among_map image m (doubles graph a) k.toward);
    onward =
        among_arranged (image b) (map image (doubles graph m)) (doubles other (image m)) (doubles_moved m)
        (among_map image b (doubles graph m) k.onward);
    is_middle = middle_carried m ∙ k.is_middle;
    first =
        axis_end_carried (a ∷ m ∷ b ∷ []) (image a ∷ image m ∷ image b ∷ []) (three_same graph other image r a m b) a
        ∙ k.first;
    second =
        axis_end_carried (a ∷ m ∷ b ∷ []) (image a ∷ image m ∷ image b ∷ []) (three_same graph other image r a m b) b
        ∙ k.second;
  }

-- a centre that is a unit
pub record FoundCentre (graph : Graph) (site : Site) : Type 0 where
  pub a : ℕ
  pub drawn : nat_lt a graph.drawn ≡ true
  pub stands : is_centre graph a ≡ true
  pub is : site ≡ centre_site graph a

centre_among : (graph : Graph) (a : ℕ) → nat_lt a graph.drawn ≡ true → is_centre graph a ≡ true
    → Among (centre_site graph a) (map (centre_site graph) (filter (is_centre graph) (range_with_len 0 graph.drawn)))
centre_among graph a drawn stands =
    let low = ltb-true a graph.drawn drawn in
    among_map (centre_site graph) a (filter (is_centre graph) (range_with_len 0 graph.drawn))
    (among_filter (is_centre graph) a (range_with_len 0 graph.drawn)
    (among_range 0 graph.drawn a (omega arith) (omega (arith, low))) stands)

-- which kind of unit a site is
pub found_site : (graph : Graph) (site : Site) → Among site (sites_of graph (positions_of graph))
    → FoundCentre graph site ⊎ (FoundBond graph site ⊎ FoundAxis graph site)
unfolding sites_of
found_site graph site h =
    let centres = map (centre_site graph) (filter (is_centre graph) (range_with_len 0 graph.drawn)) in
    let bonds = flat_map (bond_sites graph (positions_of graph)) (range_with_len 0 graph.drawn) in
    elim (from_append site (centres ++ bonds) _ h) [
      | inl g ↦ elim (from_append site centres _ g) [
        | inl k ↦
            let at = from_map (centre_site graph) site (filter (is_centre graph) (range_with_len 0 graph.drawn)) k in
            let kept = from_filter (is_centre graph) at.0 (range_with_len 0 graph.drawn) at.1 in
            let low = (from_range 0 graph.drawn at.0 kept.0).1 in
            inl (record {
              a = at.0;
              drawn = lt-ltb at.0 graph.drawn (omega (arith, low));
              stands = kept.1;
              is = at.2;
            })
        | inr k ↦ inr (inl (found_bond graph site k))
      ]
      | inr g ↦ inr (inr (found_axis graph site g))
    ]

-- the three kinds of sites
module _ (g : Graph) (site : Site) where
  in_centres : Among site (map (centre_site g) (filter (is_centre g) (range_with_len 0 g.drawn)))
      → Among site (sites_of g (positions_of g))
  unfolding sites_of
  in_centres h = among_left site _ _ (among_left site _ _ h)

  in_bonds : Among site (flat_map (bond_sites g (positions_of g)) (range_with_len 0 g.drawn))
      → Among site (sites_of g (positions_of g))
  unfolding sites_of
  in_bonds h =
      among_left site _ _ (among_right site (map (centre_site g) (filter (is_centre g) (range_with_len 0 g.drawn))) _ h)

  in_axes : Among site (flat_map (axis_sites g) (range_with_len 0 g.drawn)) → Among site (sites_of g (positions_of g))
  unfolding sites_of
  in_axes h =
      among_right site
      (map (centre_site g) (filter (is_centre g) (range_with_len 0 g.drawn))
      ++ flat_map (bond_sites g (positions_of g)) (range_with_len 0 g.drawn)) _ h

pub differs : (a b : ℕ) → nat_lt a b ≡ true → a ≢ b
differs a b e same = let lt = ltb-true a b e in absurd (omega (arith, lt, same))

module _ (graph other : Graph) (image : ℕ → ℕ) (r : IsRenamed graph other image) (sound : IsSound other) where
  abbrev There : Site → Type 0
  There site = (two : Site) × Among two (sites_of other (positions_of other)) × SiteImage image site two

  centre_there : (site : Site) → FoundCentre graph site → There site
  centre_there site f = (
    centre_site other (image f.a),
    in_centres other _
        (centre_among other (image f.a) (r.drawn f.a ∙ f.drawn) (centre_carried graph other image r f.a ∙ f.stands)),
    subst (λ s. SiteImage image s (centre_site other (image f.a))) (sym f.is) (centre_image graph other image r f.a),
  )

  -- of two images of a site, the one whose lower end comes first
  lower_first : (a b : ℕ) → nat_lt a b ≡ true → nat_lt a graph.drawn ≡ true → (site one two : Site)
      → (nat_lt (image a) (image b) ≡ true → Among one (sites_of other (positions_of other)))
      → (nat_lt (image b) (image a) ≡ true → nat_lt (image b) other.drawn ≡ true
      → Among two (sites_of other (positions_of other)))
      → SiteImage image site one → SiteImage image site two → There site
  lower_first a b lower drawn site one two first second forward turned = by (nat_lt (image a) (image b)) refl
    where
      by : (x : Bool) → nat_lt (image a) (image b) ≡ x → There site
      by true e = (one, first e, forward)
      by false e =
          let apart : image a ≢ image b = λ same. differs a b lower (r.injective a b same) in
          let le = ltb-false (image a) (image b) e in
          let lt : image b < image a = omega (arith, le, apart) in
          let high = ltb-true (image a) other.drawn (r.drawn a ∙ drawn) in
          (two, second (lt-ltb (image b) (image a) lt) (lt-ltb (image b) other.drawn (omega (arith, lt, high))), turned)

  bond_there : (site : Site) → FoundBond graph site → There site
  bond_there site f =
      let a = f.a in
      let b = f.w.to in
      let w = way_image image f.w in
      let core = core_there graph other image r a f.w f.core in
      let back = core_back other sound (image a) w core in
      let differ = differs a b f.lower in
      subst There (sym f.is)
      (lower_first a b f.lower f.drawn (bond_of graph a b) (bond_of other (image a) (image b))
      (bond_of other (image b) (image a))
      (λ e. in_bonds other _ (bond_among other (image a) w core (r.drawn a ∙ f.drawn) e))
      (λ e drawn. in_bonds other _ (bond_among other (image b) (back_way other (image a) w) back drawn e))
      (pair_image graph other image r _ _ _ _ _ _ refl refl refl refl
      (pair_forward graph other image r a b (a ∷ b ∷ []) (image a ∷ image b ∷ []) (two_same graph other image r a b)
      differ))
      (pair_image graph other image r _ _ _ _ _ _ refl refl refl refl
      (pair_crossed graph other image r a b (a ∷ b ∷ []) (image b ∷ image a ∷ [])
      (two_crossed graph other image r a b) differ)))

  axis_image_there : (site : Site) → FoundAxis graph site → There site
  axis_image_there site f =
      let a = f.a in
      let m = f.middle in
      let b = f.b in
      let core = axis_there graph other image r a m b f.core in
      let back = axis_back other sound (image a) (image m) (image b) core in
      let differ = differs a b f.lower in
      subst There (sym f.is)
      (lower_first a b f.lower f.drawn (axis_of graph a m b) (axis_of other (image a) (image m) (image b))
      (axis_of other (image b) (image m) (image a))
      (λ e. in_axes other _ (axis_among other (image a) (image m) (image b) core (r.drawn a ∙ f.drawn) e))
      (λ e drawn. in_axes other _ (axis_among other (image b) (image m) (image a) back drawn e))
      (pair_image graph other image r _ _ _ _ _ _ refl refl refl refl
      (pair_forward graph other image r a b (a ∷ m ∷ b ∷ []) (image a ∷ image m ∷ image b ∷ [])
      (three_same graph other image r a m b) differ))
      (pair_image graph other image r _ _ _ _ _ _ refl refl refl refl
      (pair_crossed graph other image r a b (a ∷ m ∷ b ∷ []) (image b ∷ image m ∷ image a ∷ [])
      (three_crossed graph other image r a m b) differ)))

  pub sites_there : (site : Site) → Among site (sites_of graph (positions_of graph)) → There site
  sites_there site h = elim (found_site graph site h) [
    | inl f ↦ centre_there site f
    | inr found ↦ elim found [ inl f ↦ bond_there site f | inr f ↦ axis_image_there site f ]
  ]
