-- The units of a renamed graph are the renamed units.
use Rattle.std.proofs.Common.{◌≡◌, ◌≢◌, inl, inr, ℕ, List, [], ◌∷◌, ◌++◌, map, length, filter, flat_map, refl, sym, ap, subst, ◌∙◌, Bool, true, false, not, cond, ◌==◌, ◌||◌, ◌&&◌, nat_lt, nat_le, lt-ltb, ltb-true, arith}
use Rattle.std.specs.List.{list_any, range_with_len}
use Rattle.std.specs.List.Sorted.{IsPermutation}
use Rattle.std.proofs.lemmas.List.{length-map, map-append}
use Rattle.std.proofs.lemmas.List.Sorted.{IsPermutation-refl, IsPermutation-map, IsPermutation-append, length_permutation, list_any-IsPermutation}
use Rattle.cip_mol.specs.declared.site.Ligand.{Ligand}
use Rattle.cip_mol.specs.declared.site.Ligand.TheVariants.{LonePair}
use Rattle.cip_mol.specs.declared.site.Ligand.TheVariants as ligands
use Rattle.cip_mol.specs.declared.site.Site.{Site}
use Rattle.cip_mol.specs.declared.site.Site.TheVariants.{Bond}
use Rattle.cip_digraph.specs.rings.Alternating.{is_in}
use Rattle.cip_digraph.specs.units.Centres.{drawn_neighbours, is_centre, centre_ligands}
use Rattle.cip_digraph.specs.units.Descriptors.{is_odd, shape_of}
use Rattle.cip_digraph.specs.units.DoubleBonds.{is_double_end, multiples, outer_neighbours, has_end_bonds, is_bond_end, end_ligands, is_bond_unit, bond_site, bond_sites}
use Rattle.cip_digraph.specs.units.Ends.{End, end_at, ends_of}
use Rattle.cip_mol.specs.Ends.{between_of}
use Rattle.cip_digraph.specs.declared.drawing.graph.Vertex.{Vertex}
use Rattle.cip_digraph.specs.graph.Graph.{Graph, vertex_at, edges_at, neighbours, other_end}
use Rattle.cip_digraph.specs.rings.Positions.{positions_of, is_delocalised}
use Rattle.cip_digraph.specs.rings.SmallRings.{is_in_small_ring}
use Rattle.cip_digraph.specs.graph.SoundGraphs.{IsSound}
use Rattle.cip_digraph.specs.units.Units.{centre_site}
use Rattle.cip_symmetry.specs.Images.{Among, ligand_image}
use Rattle.cip_symmetry.proofs.lemmas.lists.Among.{among_map, from_map, among_filter, from_filter, among_flat, from_flat, among_range, from_range}
use Rattle.cip_symmetry.proofs.lemmas.lists.Arranged.{filter_arranged}
use Rattle.cip_symmetry.proofs.lemmas.lists.CarriedLists.{filter_carried, any_carried, in_carried}
use Rattle.cip_symmetry.proofs.lemmas.digraph.CarriedEnds.{one_goes}
use Rattle.cip_symmetry.proofs.lemmas.digraph.CarriedNodes.{delocalised_carried}
use Rattle.cip_symmetry.specs.Renamed.{Way, way, ways, way_image, IsRenamed}
use Rattle.cip_symmetry.proofs.lemmas.graph.CarriedPositions.{degree_carried, neighbours_moved, passed_moved, positions_renamed}
use Rattle.cip_laws.proofs.lemmas.graph.CarriedSmallRings.{small_ring_back, small_ring_carried}
use Rattle.cip_laws.proofs.lemmas.graph.DelocalisedEnds.{delocalised_at_both}
use Rattle.cip_symmetry.specs.CarriedUnits.{AreCarriedEnds, IsCarriedEnd, IsCarriedPair, IsCarriedSite}
use Rattle.cip_symmetry.proofs.lemmas.lists.Exchanges.{exchanged_from}
use Rattle.cip_symmetry.specs.Exchanged.{turned_twice}
use Rattle.cip_laws.proofs.lemmas.graph.WaySymmetry.{back_way, leads_back, way_there}
use Rattle.cip_digraph.proofs.lemmas.bonds.Tests.{or_swap}
use Rattle.std.proofs.lemmas.Bool.{and_parts, and_from, not-true, not_from_false}

-- the first of three in the place of the last
pub or_turn : (p q s : Bool) → (s || (q || (p || false))) ≡ (p || (q || (s || false)))
or_turn p q s = or_swap s q (p || false) ∙ ap (λ b. q || b) (or_swap s p false) ∙ or_swap q p (s || false)

-- as many elements as images
pub moved_long : (image : ℕ → ℕ) (xs ys : List ℕ) → IsPermutation (map image xs) ys → length ys ≡ length xs
moved_long image xs ys p = length_permutation (map image xs) ys p ∙ length-map xs image

mapped_ligands : (image : ℕ → ℕ) (vs : List ℕ)
    → map (ligand_image image) (map ligands.Vertex vs) ≡ map ligands.Vertex (map image vs)
mapped_ligands image [] = refl
mapped_ligands image (v ∷ vs) = ap (λ ls. ligands.Vertex (image v) ∷ ls) (mapped_ligands image vs)

with_lone : (image : ℕ → ℕ) (vs theirs : List ℕ) (a b : Bool) → IsPermutation (map image vs) theirs → b ≡ a
    → IsPermutation (map (ligand_image image) (map ligands.Vertex vs ++ cond a (LonePair ∷ []) []))
    (map ligands.Vertex theirs ++ cond b (LonePair ∷ []) [])
with_lone image vs theirs a b p e =
    rw (
      e,
      map-append (ligand_image image) (map ligands.Vertex vs) (cond a (LonePair ∷ []) []),
      mapped_ligands image vs,
    )
    (IsPermutation-append (map ligands.Vertex (map image vs)) (map ligands.Vertex theirs)
    (map (ligand_image image) (cond a (LonePair ∷ []) [])) (cond a (LonePair ∷ []) [])
    (IsPermutation-map ligands.Vertex (map image vs) theirs p) (lone a))
  where
    lone : (a : Bool) → IsPermutation (map (ligand_image image) (cond a (LonePair ∷ []) [])) (cond a (LonePair ∷ []) [])
    lone true = IsPermutation-refl (LonePair ∷ [])
    lone false = IsPermutation-refl []

-- an end with arranged images of its ligands
pub carried_end : (image : ℕ → ℕ) (at : ℕ) (ls theirs : List Ligand)
    → IsPermutation (map (ligand_image image) ls) theirs
    → (odd : Bool) × IsCarriedEnd image odd (end_at at ls) (end_at (image at) theirs)
carried_end image at ls theirs p =
    let e = exchanged_from (map (ligand_image image) ls) theirs p in
    (is_odd (length e.places), record { at = refl; places = e.places; exchanged = e.exchanged; parity = refl })

pub record SiteImage (image : ℕ → ℕ) (one two : Site) : Type 0 where
  pub odd : Bool
  pub carried : IsCarriedSite image odd one two

module _ (graph other : Graph) (image : ℕ → ℕ) (r : IsRenamed graph other image) where
  pub z_same : (v : ℕ) → (vertex_at other (image v)).z ≡ (vertex_at graph v).z
  z_same v = ap (λ (x : Vertex). x.z) (r.vertices v)

  neighbours_long : (v : ℕ) → length (neighbours other (image v)) ≡ length (neighbours graph v)
  neighbours_long v = moved_long image (neighbours graph v) _ (neighbours_moved graph other image r v)

  drawn_moved : (v : ℕ) → IsPermutation (map image (drawn_neighbours graph v)) (drawn_neighbours other (image v))
  drawn_moved v =
      subst (λ vs. IsPermutation vs (drawn_neighbours other (image v)))
      (filter_carried image (λ to. nat_lt to graph.drawn) (λ to. nat_lt to other.drawn) r.drawn (neighbours graph v))
      (filter_arranged (λ to. nat_lt to other.drawn) (map image (neighbours graph v)) (neighbours other (image v))
      (neighbours_moved graph other image r v))

  pub centre_carried : (v : ℕ) → is_centre other (image v) ≡ is_centre graph v
  centre_carried v =
      rw (r.vertices v, neighbours_long v, moved_long image (drawn_neighbours graph v) _ (drawn_moved v))

  centre_ligands_moved : (v : ℕ)
      → IsPermutation (map (ligand_image image) (centre_ligands graph v)) (centre_ligands other (image v))
  centre_ligands_moved v =
      with_lone image (neighbours graph v) (neighbours other (image v)) (length (neighbours graph v) == 3)
      (length (neighbours other (image v)) == 3) (neighbours_moved graph other image r v)
      (ap (λ k. k == 3) (neighbours_long v))

  pub centre_image : (v : ℕ) → SiteImage image (centre_site graph v) (centre_site other (image v))
  centre_image v = let e =
      carried_end image v (centre_ligands graph v) (centre_ligands other (image v)) (centre_ligands_moved v) in
      record {
        odd = e.0;
        carried = record {
          shape = refl;
          between = refl;
          ends = one_goes image e.0 (end_at v (centre_ligands graph v))
              (end_at (image v) (centre_ligands other (image v))) e.1;
        };
      }

  -- a bond or an axis with its ends
  pub pair_image : (one two : Site) (nearer far first second : End) → shape_of two ≡ shape_of one
      → between_of two ≡ map image (between_of one) → ends_of one ≡ nearer ∷ far ∷ []
      → ends_of two ≡ first ∷ second ∷ [] → (odd : Bool) × IsCarriedPair image odd nearer far first second
      → SiteImage image one two
  pair_image one two nearer far first second shape between ones twos pair = record {
    odd = pair.0;
    carried = record {
      shape = shape;
      between = between;
      ends = inr (record {
        near_end = nearer;
        far = far;
        first = first;
        second = second;
        are_ones = ones;
        are_others = twos;
        carried = pair.1;
      });
    };
  }

  -- units of bonds and axes, whichever way their atoms are listed
  abbrev pub SameUnit : List ℕ → List ℕ → Type 0
  SameUnit unit theirs = (v : ℕ) → is_in (image v) theirs ≡ is_in v unit

  pub outer_moved : (unit theirs : List ℕ) → SameUnit unit theirs → (v : ℕ)
      → IsPermutation (map image (outer_neighbours graph unit v)) (outer_neighbours other theirs (image v))
  outer_moved unit theirs same v =
      subst (λ vs. IsPermutation vs (outer_neighbours other theirs (image v)))
      (filter_carried image (λ to. not (is_in to unit)) (λ to. not (is_in to theirs)) (λ to. ap not (same to))
      (neighbours graph v))
      (filter_arranged (λ to. not (is_in to theirs)) (map image (neighbours graph v)) (neighbours other (image v))
      (neighbours_moved graph other image r v))

  filtered_long : (test : Way → Bool) → ((w : Way) → test (way_image image w) ≡ test w) → (v : ℕ)
      → length (filter (λ edge. test (way (image v) edge)) (edges_at other (image v)))
      ≡ length (filter (λ edge. test (way v edge)) (edges_at graph v))
  filtered_long test same v =
      sym (length-map (filter (λ edge. test (way (image v) edge)) (edges_at other (image v))) (other_end (image v)))
      ∙ length_permutation (map image (map (other_end v) (filter (λ edge. test (way v edge)) (edges_at graph v))))
      (map (other_end (image v)) (filter (λ edge. test (way (image v) edge)) (edges_at other (image v))))
      (passed_moved graph other image r test same v)
      ∙ length-map (map (other_end v) (filter (λ edge. test (way v edge)) (edges_at graph v))) image
      ∙ length-map (filter (λ edge. test (way v edge)) (edges_at graph v)) (other_end v)

  pub end_bonds_carried : (unit theirs : List ℕ) → SameUnit unit theirs → (v : ℕ)
      → has_end_bonds other theirs (image v) ≡ has_end_bonds graph unit v
  end_bonds_carried unit theirs same v =
      ap (λ k. (k == 1) && list_any (λ to. nat_lt to other.drawn) (outer_neighbours other theirs (image v)))
      (filtered_long (λ w. nat_le 2 w.order) (λ w. refl) v)
      ∙ ap (λ b. (length (multiples graph v) == 1) && b)
      (sym
      (list_any-IsPermutation (λ to. nat_lt to other.drawn) (map image (outer_neighbours graph unit v))
      (outer_neighbours other theirs (image v)) (outer_moved unit theirs same v))
      ∙ any_carried image (λ to. nat_lt to graph.drawn) (λ to. nat_lt to other.drawn) r.drawn
      (outer_neighbours graph unit v))

  bond_end_carried : (unit theirs : List ℕ) → SameUnit unit theirs → (v : ℕ)
      → is_bond_end other theirs (image v) ≡ is_bond_end graph unit v
  bond_end_carried unit theirs same v =
      rw (r.vertices v, degree_carried graph other image r v, end_bonds_carried unit theirs same v)

  end_ligands_moved : (unit theirs : List ℕ) → SameUnit unit theirs → (v : ℕ)
      → IsPermutation (map (ligand_image image) (end_ligands graph unit v)) (end_ligands other theirs (image v))
  end_ligands_moved unit theirs same v =
      with_lone image (outer_neighbours graph unit v) (outer_neighbours other theirs (image v))
      (((vertex_at graph v).z == 7) && (length (edges_at graph v) == 2))
      (((vertex_at other (image v)).z == 7) && (length (edges_at other (image v)) == 2))
      (outer_moved unit theirs same v)
      (rw (z_same v, degree_carried graph other image r v))

  pub two_same : (a b : ℕ) → SameUnit (a ∷ b ∷ []) (image a ∷ image b ∷ [])
  two_same a b v = in_carried image r.injective v (a ∷ b ∷ [])

  pub two_crossed : (a b : ℕ) → SameUnit (a ∷ b ∷ []) (image b ∷ image a ∷ [])
  two_crossed a b v =
      or_swap (image b == image v) (image a == image v) false ∙ in_carried image r.injective v (a ∷ b ∷ [])

  pub three_same : (a m b : ℕ) → SameUnit (a ∷ m ∷ b ∷ []) (image a ∷ image m ∷ image b ∷ [])
  three_same a m b v = in_carried image r.injective v (a ∷ m ∷ b ∷ [])

  pub three_crossed : (a m b : ℕ) → SameUnit (a ∷ m ∷ b ∷ []) (image b ∷ image m ∷ image a ∷ [])
  three_crossed a m b v =
      or_turn (image a == image v) (image m == image v) (image b == image v)
      ∙ in_carried image r.injective v (a ∷ m ∷ b ∷ [])

  end_image : (unit theirs : List ℕ) → SameUnit unit theirs → (v : ℕ)
      → (odd : Bool)
      × IsCarriedEnd image odd (end_at v (end_ligands graph unit v)) (end_at (image v) (end_ligands other theirs (image v)))
  end_image unit theirs same v =
      carried_end image v (end_ligands graph unit v) (end_ligands other theirs (image v))
      (end_ligands_moved unit theirs same v)

  ends_image : (a b : ℕ) (unit theirs : List ℕ) → SameUnit unit theirs
      → (odd : Bool)
      × AreCarriedEnds image odd (end_at a (end_ligands graph unit a)) (end_at b (end_ligands graph unit b))
      (end_at (image a) (end_ligands other theirs (image a))) (end_at (image b) (end_ligands other theirs (image b)))
  ends_image a b unit theirs same =
      let one = end_image unit theirs same a in
      let two = end_image unit theirs same b in (
        turned_twice one.0 two.0,
        record { first = one.0; second = two.0; near_end = one.1; far = two.1; sum = refl },
      )

  -- two ends in their order, and crossed
  pub pair_forward : (a b : ℕ) (unit theirs : List ℕ) → SameUnit unit theirs → a ≢ b
      → (odd : Bool)
      × IsCarriedPair image odd (end_at a (end_ligands graph unit a)) (end_at b (end_ligands graph unit b))
      (end_at (image a) (end_ligands other theirs (image a))) (end_at (image b) (end_ligands other theirs (image b)))
  pair_forward a b unit theirs same differ =
      let ends = ends_image a b unit theirs same in (ends.0, record { differ = differ; ends = inl ends.1 })

  pub pair_crossed : (a b : ℕ) (unit theirs : List ℕ) → SameUnit unit theirs → a ≢ b
      → (odd : Bool)
      × IsCarriedPair image odd (end_at a (end_ligands graph unit a)) (end_at b (end_ligands graph unit b))
      (end_at (image b) (end_ligands other theirs (image b))) (end_at (image a) (end_ligands other theirs (image a)))
  pair_crossed a b unit theirs same differ =
      let ends = ends_image a b unit theirs same in (ends.0, record { differ = differ; ends = inr ends.1 })

-- a bond that is a unit, but for the order of its ends
pub record IsBondCore (graph : Graph) (a : ℕ) (w : Way) : Type 0 where
  pub among : Among w (ways graph a)
  pub counted : w.counted ≡ true
  pub order : (w.order == 2) ≡ true
  pub first : is_bond_end graph (a ∷ w.to ∷ []) a ≡ true
  pub second : is_bond_end graph (a ∷ w.to ∷ []) w.to ≡ true
  pub localised : is_delocalised (positions_of graph) a ≡ false
  pub large : is_in_small_ring graph a w.to ≡ false

abbrev pub bond_of : Graph → ℕ → ℕ → Site
bond_of graph a b = Bond a b (end_ligands graph (a ∷ b ∷ []) a) (end_ligands graph (a ∷ b ∷ []) b)

module _ (graph : Graph) where
  pub bond_among : (a : ℕ) (w : Way) → IsBondCore graph a w → nat_lt a graph.drawn ≡ true → nat_lt a w.to ≡ true
      → Among (bond_of graph a w.to) (flat_map (bond_sites graph (positions_of graph)) (range_with_len 0 graph.drawn))
  bond_among a w k drawn lower =
      let found = from_map (way a) w (edges_at graph a) k.among in
      let edge = found.0 in
      let to : other_end a edge ≡ w.to = sym (ap (λ (v : Way). v.to) found.2) in
      let test : is_bond_unit graph (positions_of graph) a edge ≡ true =
      rw to
      (and_from _ _
      (and_from _ _
      (and_from _ _
      (and_from _ _
      (and_from _ _ (and_from _ _ (sym (ap (λ (v : Way). v.counted) found.2) ∙ k.counted)
      (ap (λ o. o == 2) (sym (ap (λ (v : Way). v.order) found.2)) ∙ k.order)) lower) k.first) k.second)
      (not_from_false _ k.localised)) (not_from_false _ k.large)) in
      among_flat (bond_sites graph (positions_of graph)) a (bond_of graph a w.to) (range_with_len 0 graph.drawn)
      (among_range 0 graph.drawn a (omega arith) (let lt = ltb-true a graph.drawn drawn in omega (arith, lt)))
      (subst (λ b. Among (bond_of graph a b) (bond_sites graph (positions_of graph) a)) to
      (among_map (bond_site graph a) edge (filter (is_bond_unit graph (positions_of graph) a) (edges_at graph a))
      (among_filter (is_bond_unit graph (positions_of graph) a) edge (edges_at graph a) found.1 test)))

  pub record FoundBond (site : Site) : Type 0 where
    pub a : ℕ
    pub w : Way
    pub core : IsBondCore graph a w
    pub drawn : nat_lt a graph.drawn ≡ true
    pub lower : nat_lt a w.to ≡ true
    pub is : site ≡ bond_of graph a w.to

  pub found_bond : (site : Site)
      → Among site (flat_map (bond_sites graph (positions_of graph)) (range_with_len 0 graph.drawn)) → FoundBond site
  found_bond site h =
      let at = from_flat (bond_sites graph (positions_of graph)) site (range_with_len 0 graph.drawn) h in
      let a = at.0 in
      let by =
      from_map (bond_site graph a) site (filter (is_bond_unit graph (positions_of graph) a) (edges_at graph a)) at.2 in
      let kept = from_filter (is_bond_unit graph (positions_of graph) a) by.0 (edges_at graph a) by.1 in
      let all6 = and_parts _ _ kept.1 in
      let all5 = and_parts _ _ all6.0 in
      let all4 = and_parts _ _ all5.0 in
      let all3 = and_parts _ _ all4.0 in
      let all2 = and_parts _ _ all3.0 in
      let all1 = and_parts _ _ all2.0 in
      record {
        a = a;
        w = way a by.0;
        core = record {
          among = among_map (way a) by.0 (edges_at graph a) kept.0;
          counted = all1.0;
          order = all1.1;
          first = all3.1;
          second = all4.1;
          localised = not-true _ all5.1;
          large = not-true _ all6.1;
        };
        drawn = (let lt = (from_range 0 graph.drawn a at.1).1 in lt-ltb a graph.drawn (omega (arith, lt)));
        lower = all2.1;
        is = by.2;
      }

  -- from its other end
  end_crossed : (a b v : ℕ) → is_bond_end graph (b ∷ a ∷ []) v ≡ is_bond_end graph (a ∷ b ∷ []) v
  end_crossed a b v =
      ap (λ test. is_double_end (vertex_at graph v).z (vertex_at graph v).charge (length (edges_at graph v))
      && ((length (multiples graph v) == 1)
      && list_any (λ to. nat_lt to graph.drawn) (filter test (neighbours graph v))))
      (λ i to. not (or_swap (b == to) (a == to) false i))

  pub core_back : IsSound graph → (a : ℕ) (w : Way) → IsBondCore graph a w → IsBondCore graph w.to (back_way graph a w)
  core_back sound a w k = record {
    among = (leads_back graph sound a w k.among).back;
    counted = k.counted;
    order = k.order;
    first = end_crossed a w.to w.to ∙ k.second;
    second = end_crossed a w.to a ∙ k.first;
    localised = delocalised_at_both graph sound a w k.among k.counted k.order ∙ k.localised;
    large = small_ring_back graph sound w.to a ∙ k.large;
  }

module _ (graph other : Graph) (image : ℕ → ℕ) (r : IsRenamed graph other image) where
  pub core_there : (a : ℕ) (w : Way) → IsBondCore graph a w → IsBondCore other (image a) (way_image image w)
  core_there a w k = record {
    among = way_there graph other image r a w k.among;
    counted = k.counted;
    order = k.order;
    first =
        bond_end_carried graph other image r (a ∷ w.to ∷ []) (image a ∷ image w.to ∷ [])
        (two_same graph other image r a w.to) a ∙ k.first;
    second =
        bond_end_carried graph other image r (a ∷ w.to ∷ []) (image a ∷ image w.to ∷ [])
        (two_same graph other image r a w.to) w.to ∙ k.second;
    localised =
        delocalised_carried graph other (positions_of graph) (positions_of other) image r
        (positions_renamed graph other image r) a ∙ k.localised;
    large = small_ring_carried graph other image r a w.to ∙ k.large;
  }
