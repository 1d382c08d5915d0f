-- The further units of a renamed graph are the renamed further units, with what is known of each in both.
use Rattle.std.proofs.Common.{◌≡◌, ◌+◌, ℕ, List, [], ◌∷◌, map, length, filter, flat_map, sym, ap, subst, ◌∙◌, Bool, true, false, not, cond, ◌==◌, ◌||◌, nat_lt, nat_le, lt-ltb, ltb-true, leb-true, eqb-true, arith}
use Rattle.std.specs.List.{range_with_len}
use Rattle.std.proofs.lemmas.List.{length-map}
use Rattle.std.proofs.Math.Bool.{or-false}
use Rattle.cip_mol.specs.Drawing.{Drawing}
use Rattle.cip_digraph.specs.graph.Graph.{Graph, edges_at, neighbours, other_end}
use Rattle.cip_digraph.specs.graph.SoundGraphs.{IsSound}
use Rattle.cip_digraph.specs.rings.Alternating.{is_in}
use Rattle.cip_digraph.specs.rings.Positions.{positions_of}
use Rattle.cip_digraph.specs.units.Allenes.{doubles, is_axis_end}
use Rattle.cip_digraph.specs.units.DoubleBonds.{outer_neighbours, end_ligands}
use Rattle.cip_ring.specs.AnyRings.{is_in_ring}
use Rattle.cip_axis.specs.Biaryls.{hindered_at, is_hindered, is_biaryl, is_biaryl_end}
use Rattle.cip_axis.specs.Cumulenes.{any_bond, chain_from, chain_over, chains, first_atom, last_atom, is_cumulene}
use Rattle.cip_axis.specs.Further.{cumulene_unit, cumulenes_of, biaryl_unit, biaryls_of}
use Rattle.cip_axis.specs.declared.site.FurtherUnit.{FurtherUnit}
use Rattle.cip_symmetry.specs.Images.{Among}
use Rattle.cip_symmetry.proofs.lemmas.lists.Among.{among_map, from_map, among_filter, from_filter, among_flat, from_flat, among_arranged, among_range, from_range}
use Rattle.cip_laws.proofs.lemmas.units.CarriedAxes.{axis_end_carried, doubles_moved}
use Rattle.cip_symmetry.proofs.lemmas.lists.CarriedLists.{in_carried}
use Rattle.cip_symmetry.specs.Renamed.{Way, way, ways, way_image, IsRenamed}
use Rattle.cip_laws.proofs.lemmas.units.CarriedSites.{SameUnit, two_same}
use Rattle.cip_laws.proofs.lemmas.graph.WaySymmetry.{back_way, leads_back, way_there}
use Rattle.cip_digraph.proofs.lemmas.bonds.Tests.{or_swap}
use Rattle.std.proofs.lemmas.Bool.{and_parts, and_from, not-true, not_from_false}
use Rattle.cip_laws.proofs.lemmas.further.CarriedChains.{over_carried, over_turned, from_short, IsTurnedOver}
use Rattle.cip_laws.proofs.lemmas.further.CarriedHindrance.{biaryl_end_carried, hindered_long, ring_back, ring_carried}
use Rattle.cip_laws.proofs.lemmas.further.TurnedLists.{onto, last_is, first_onto, last_onto, long_onto, in_onto, any_onto, any_mapped, last_mapped}

-- the same atoms listed in another way
abbrev pub SameAtoms : List ℕ → List ℕ → Type 0
SameAtoms one two = (v : ℕ) → is_in v one ≡ is_in v two

module _ (graph : Graph) (one two : List ℕ) (same : SameAtoms one two) where
  pub outer_same : (v : ℕ) → outer_neighbours graph one v ≡ outer_neighbours graph two v
  outer_same v = ap (λ test. filter test (neighbours graph v)) (λ i to. not (same to i))

  pub axis_end_same : (v : ℕ) → is_axis_end graph one v ≡ is_axis_end graph two v
  axis_end_same v = rw (outer_same v)

  pub ligands_same : (v : ℕ) → end_ligands graph one v ≡ end_ligands graph two v
  ligands_same v = rw (outer_same v)

  pub hindered_same : (v : ℕ) → hindered_at graph one v ≡ hindered_at graph two v
  hindered_same v = ap (filter (is_hindered graph v)) (outer_same v)

  pub biaryl_end_same : (positions : List (List ℕ)) (v : ℕ)
      → is_biaryl_end graph positions one v ≡ is_biaryl_end graph positions two v
  biaryl_end_same positions v = rw (outer_same v)

pub pair_atoms : (a b : ℕ) → SameAtoms (b ∷ a ∷ []) (a ∷ b ∷ [])
pair_atoms a b v = or_swap (b == v) (a == v) false

-- a chain that is a unit, but for the order of its ends
pub record IsCumuleneCore (graph : Graph) (a next : ℕ) : Type 0 where
  pub nearer : Among next (doubles graph a)
  pub long : nat_le 4 (length (chain_over graph a next)) ≡ true
  pub first : is_axis_end graph (chain_over graph a next) a ≡ true
  pub last : is_axis_end graph (chain_over graph a next) (last_atom (chain_over graph a next)) ≡ true
  pub free : any_bond (is_in_ring graph) (chain_over graph a next) ≡ false

-- a single bond that is a unit, but for the order of its ends
pub record IsBiarylCore (graph : Graph) (a : ℕ) (w : Way) : Type 0 where
  pub among : Among w (ways graph a)
  pub order : (w.order == 1) ≡ true
  pub here : nat_lt a graph.drawn ≡ true
  pub there : nat_lt w.to graph.drawn ≡ true
  pub first : is_biaryl_end graph (positions_of graph) (a ∷ w.to ∷ []) a ≡ true
  pub second : is_biaryl_end graph (positions_of graph) (a ∷ w.to ∷ []) w.to ≡ true
  pub hindered : nat_le 3
      (length (hindered_at graph (a ∷ w.to ∷ []) a) + length (hindered_at graph (a ∷ w.to ∷ []) w.to)) ≡ true
  pub free : is_in_ring graph a w.to ≡ false

pub three_of : (graph : Graph) (unit : List ℕ) (v : ℕ) → is_axis_end graph unit v ≡ true
    → (length (edges_at graph v) == 3) ≡ true
three_of graph unit v e =
    (and_parts _ _ (and_parts _ _ (and_parts _ _ e).0).0).1

pub in_if : (b : Bool) (x : List ℕ) (xs : List (List ℕ)) → Among x (cond b xs []) → Among x xs
in_if true x xs h = h
in_if false x xs h = absurd h

module _ (drawing : Drawing) (graph : Graph) where
  pub cumulene_among : (a next : ℕ) → IsCumuleneCore graph a next → nat_lt a graph.drawn ≡ true
      → nat_lt a (last_atom (chain_over graph a next)) ≡ true
      → Among (cumulene_unit drawing graph (chain_over graph a next))
      (flat_map (cumulenes_of drawing graph) (range_with_len 0 graph.drawn))
  cumulene_among a next k drawn lower =
      let chain = chain_over graph a next in
      let test : is_cumulene graph chain ≡ true =
      and_from _ _ (and_from _ _ (and_from _ _ (and_from _ _ k.long lower) k.first) k.last) (not_from_false _ k.free) in
      let there : Among chain (chains graph a) =
      subst (λ b. Among chain (cond b (map (chain_over graph a) (doubles graph a)) []))
      (sym (three_of graph chain a k.first))
      (among_map (chain_over graph a) next (doubles graph a) k.nearer) in
      among_flat (cumulenes_of drawing graph) a (cumulene_unit drawing graph chain) (range_with_len 0 graph.drawn)
      (among_range 0 graph.drawn a (omega arith) (let lt = ltb-true a graph.drawn drawn in omega (arith, lt)))
      (among_map (cumulene_unit drawing graph) chain (filter (is_cumulene graph) (chains graph a))
      (among_filter (is_cumulene graph) chain (chains graph a) there test))

  pub record FoundCumulene (unit : FurtherUnit) : Type 0 where
    pub a : ℕ
    pub next : ℕ
    pub core : IsCumuleneCore graph a next
    pub drawn : nat_lt a graph.drawn ≡ true
    pub lower : nat_lt a (last_atom (chain_over graph a next)) ≡ true
    pub is : unit ≡ cumulene_unit drawing graph (chain_over graph a next)

  pub found_cumulene : (unit : FurtherUnit)
      → Among unit (flat_map (cumulenes_of drawing graph) (range_with_len 0 graph.drawn)) → FoundCumulene unit
  found_cumulene unit h =
      let at = from_flat (cumulenes_of drawing graph) unit (range_with_len 0 graph.drawn) h in
      let a = at.0 in
      let by = from_map (cumulene_unit drawing graph) unit (filter (is_cumulene graph) (chains graph a)) at.2 in
      let kept = from_filter (is_cumulene graph) by.0 (chains graph a) by.1 in
      let over = from_map (chain_over graph a) by.0 (doubles graph a)
      (in_if (length (edges_at graph a) == 3) by.0 (map (chain_over graph a) (doubles graph a)) kept.0) in
      let next = over.0 in
      let test : is_cumulene graph (chain_over graph a next) ≡ true =
      subst (λ c. is_cumulene graph c ≡ true) over.2 kept.1 in
      let all4 = and_parts _ _ test in
      let all3 = and_parts _ _ all4.0 in
      let all2 = and_parts _ _ all3.0 in
      let all1 = and_parts _ _ all2.0 in
      record {
        a = a;
        next = next;
        core = record { nearer = over.1; long = all1.0; first = all2.1; last = all3.1; free = not-true _ all4.1 };
        drawn = (let lt = (from_range 0 graph.drawn a at.1).1 in lt-ltb a graph.drawn (omega (arith, lt)));
        lower = all1.1;
        is = by.2 ∙ ap (cumulene_unit drawing graph) over.2;
      }

  pub biaryl_among : (a : ℕ) (w : Way) → IsBiarylCore graph a w → nat_lt a w.to ≡ true
      → Among (biaryl_unit drawing graph a w.to)
      (flat_map (biaryls_of drawing graph (positions_of graph)) (range_with_len 0 graph.drawn))
  unfolding is_biaryl
  biaryl_among a w k lower =
      let found = from_map (way a) w (edges_at graph a) k.among in
      let edge = found.0 in
      let to : other_end a edge ≡ w.to = sym (ap (λ (v : Way). v.to) found.2) in
      let test : is_biaryl graph (positions_of graph) a edge ≡ true =
      rw to
      (and_from _ _
      (and_from _ _
      (and_from _ _
      (and_from _ _
      (and_from _ _ (and_from _ _ (ap (λ o. o == 1) (sym (ap (λ (v : Way). v.order) found.2)) ∙ k.order) lower)
      k.there) k.first) k.second) k.hindered) (not_from_false _ k.free)) in
      among_flat (biaryls_of drawing graph (positions_of graph)) a (biaryl_unit drawing graph a w.to)
      (range_with_len 0 graph.drawn)
      (among_range 0 graph.drawn a (omega arith) (let lt = ltb-true a graph.drawn k.here in omega (arith, lt)))
      (subst
      (λ b. Among (biaryl_unit drawing graph a b) (biaryls_of drawing graph (positions_of graph) a)) to
      (among_map (λ e. biaryl_unit drawing graph a (other_end a e)) edge
      (filter (is_biaryl graph (positions_of graph) a) (edges_at graph a))
      (among_filter (is_biaryl graph (positions_of graph) a) edge (edges_at graph a) found.1 test)))

  pub record FoundBiaryl (unit : FurtherUnit) : Type 0 where
    pub a : ℕ
    pub w : Way
    pub core : IsBiarylCore graph a w
    pub lower : nat_lt a w.to ≡ true
    pub is : unit ≡ biaryl_unit drawing graph a w.to

  pub found_biaryl : (unit : FurtherUnit)
      → Among unit (flat_map (biaryls_of drawing graph (positions_of graph)) (range_with_len 0 graph.drawn))
      → FoundBiaryl unit
  unfolding is_biaryl
  found_biaryl unit h =
      let at = from_flat (biaryls_of drawing graph (positions_of graph)) unit (range_with_len 0 graph.drawn) h in
      let a = at.0 in
      let by =
      from_map (λ e. biaryl_unit drawing graph a (other_end a e)) unit
      (filter (is_biaryl graph (positions_of graph) a) (edges_at graph a)) at.2 in
      let kept = from_filter (is_biaryl graph (positions_of graph) a) by.0 (edges_at graph a) by.1 in
      let all5 = and_parts _ _ kept.1 in
      let all4 = and_parts _ _ all5.0 in
      let all3 = and_parts _ _ all4.0 in
      let all2 = and_parts _ _ all3.0 in
      let all1 = and_parts _ _ all2.0 in
      let all0 = and_parts _ _ all1.0 in
      record {
        a = a;
        w = way a by.0;
        core = record {
          among = among_map (way a) by.0 (edges_at graph a) kept.0;
          order = all0.0;
          here = (let lt = (from_range 0 graph.drawn a at.1).1 in lt-ltb a graph.drawn (omega (arith, lt)));
          there = all1.1;
          first = all2.1;
          second = all3.1;
          hindered = all4.1;
          free = not-true _ all5.1;
        };
        lower = all0.1;
        is = by.2;
      }

module _ (graph other : Graph) (image : ℕ → ℕ) (r : IsRenamed graph other image) where
  pub last_image : (a next : ℕ)
      → last_atom (map image (chain_over graph a next)) ≡ image (last_atom (chain_over graph a next))
  last_image a next =
      let tail = chain_from graph (length graph.vertices) a next in
      last_is (image a) (map image tail) ∙ last_mapped image a tail ∙ ap image (sym (last_is a tail))

  -- the atoms of a chain and their images
  pub chain_atoms : (a next : ℕ)
      → SameUnit graph other image r (chain_over graph a next) (chain_over other (image a) (image next))
  chain_atoms a next v =
      ap (is_in (image v)) (over_carried graph other image r a next)
      ∙ in_carried image r.injective v (chain_over graph a next)

  pub last_carried : (a next : ℕ)
      → last_atom (chain_over other (image a) (image next)) ≡ image (last_atom (chain_over graph a next))
  last_carried a next = ap last_atom (over_carried graph other image r a next) ∙ last_image a next

  pub cumulene_there : (a next : ℕ) → IsCumuleneCore graph a next → IsCumuleneCore other (image a) (image next)
  cumulene_there a next k =
      let chain = chain_over graph a next in
      let theirs = chain_over other (image a) (image next) in
      let e : theirs ≡ map image chain = over_carried graph other image r a next in
      record {
        nearer =
            among_arranged (image next) (map image (doubles graph a)) (doubles other (image a))
            (doubles_moved graph other image r a) (among_map image next (doubles graph a) k.nearer);
        long = ap (λ c. nat_le 4 (length c)) e ∙ ap (nat_le 4) (length-map chain image) ∙ k.long;
        first = axis_end_carried graph other image r chain theirs (chain_atoms a next) a ∙ k.first;
        last = ap (is_axis_end other theirs) (last_carried a next)
            ∙ axis_end_carried graph other image r chain theirs (chain_atoms a next) (last_atom chain) ∙ k.last;
        free = ap (any_bond (is_in_ring other)) e
            ∙ any_mapped image (is_in_ring graph) (is_in_ring other) (ring_carried graph other image r) chain ∙ k.free;
      }

  pub biaryl_there : (a : ℕ) (w : Way) → IsBiarylCore graph a w → IsBiarylCore other (image a) (way_image image w)
  biaryl_there a w k =
      let unit = a ∷ w.to ∷ [] in
      let theirs = image a ∷ image w.to ∷ [] in
      let same = two_same graph other image r a w.to in
      record {
        among = way_there graph other image r a w k.among;
        order = k.order;
        here = r.drawn a ∙ k.here;
        there = r.drawn w.to ∙ k.there;
        first = biaryl_end_carried graph other image r unit theirs same a ∙ k.first;
        second = biaryl_end_carried graph other image r unit theirs same w.to ∙ k.second;
        hindered =
            rw (
              hindered_long graph other image r unit theirs same a,
              hindered_long graph other image r unit theirs same w.to,
            ) k.hindered;
        free = ring_carried graph other image r a w.to ∙ k.free;
      }

-- from the other end
pub record CumuleneBack (graph : Graph) (a next : ℕ) : Type 0 where
  pub prev : ℕ
  pub core : IsCumuleneCore graph (last_atom (chain_over graph a next)) prev
  pub is : chain_over graph (last_atom (chain_over graph a next)) prev
      ≡ onto (chain_from graph (length graph.vertices) a next) (a ∷ [])
  pub last : last_atom (chain_over graph (last_atom (chain_over graph a next)) prev) ≡ a
  pub long : length (chain_over graph (last_atom (chain_over graph a next)) prev) ≡ length (chain_over graph a next)
  pub same : SameAtoms (chain_over graph (last_atom (chain_over graph a next)) prev) (chain_over graph a next)

module _ (graph : Graph) (sound : IsSound graph) where
  pub cumulene_back : (a next : ℕ) → IsCumuleneCore graph a next → CumuleneBack graph a next
  cumulene_back a next k =
      let tail = chain_from graph (length graph.vertices) a next in
      let chain = chain_over graph a next in
      let four = leb-true 4 (length chain) k.long in
      let short = from_short graph sound (length graph.vertices) a next in
      let t = over_turned graph sound a next (eqb-true (length (edges_at graph a)) 3 (three_of graph chain a k.first))
      k.nearer (omega (arith, four, short)) in
      turned t
    where
      turned : IsTurnedOver graph sound a next → CumuleneBack graph a next
      turned t =
          let tail = chain_from graph (length graph.vertices) a next in
          let chain = chain_over graph a next in
          let b : t.last ≡ last_atom chain =
          ap first_atom t.is ∙ first_onto tail a [] ∙ sym (last_is a tail) in
          let is : chain_over graph (last_atom chain) t.prev ≡ onto tail (a ∷ []) =
          ap (λ v. chain_over graph v t.prev) (sym b) ∙ t.is in
          let same : SameAtoms (chain_over graph (last_atom chain) t.prev) chain =
          (λ v. ap (is_in v) is ∙ in_onto v tail (a ∷ [])
          ∙ or_swap (is_in v tail) (a == v) false ∙ ap (λ b. (a == v) || b) (or-false (is_in v tail))) in
          let last : last_atom (chain_over graph (last_atom chain) t.prev) ≡ a =
          ap last_atom is ∙ last_onto tail a [] in
          let long : length (chain_over graph (last_atom chain) t.prev) ≡ length chain =
          ap length is ∙ (let sum = long_onto tail (a ∷ []) in omega (arith, sum)) in
          record {
            prev = t.prev;
            core = record {
              nearer = subst (λ v. Among t.prev (doubles graph v)) b t.nearer;
              long = ap (nat_le 4) long ∙ k.long;
              first = axis_end_same graph (chain_over graph (last_atom chain) t.prev) chain same (last_atom chain)
                  ∙ k.last;
              last = ap (is_axis_end graph (chain_over graph (last_atom chain) t.prev)) last
                  ∙ axis_end_same graph (chain_over graph (last_atom chain) t.prev) chain same a ∙ k.first;
              free = ap (any_bond (is_in_ring graph)) is
                  ∙ any_onto (is_in_ring graph) (ring_back graph sound) tail a []
                  ∙ or-false (any_bond (is_in_ring graph) chain) ∙ k.free;
            };
            is = is;
            last = last;
            long = long;
            same = same;
          }

  pub biaryl_back : (a : ℕ) (w : Way) → IsBiarylCore graph a w → IsBiarylCore graph w.to (back_way graph a w)
  biaryl_back a w k =
      let b = w.to in
      let turned = b ∷ a ∷ [] in
      let unit = a ∷ b ∷ [] in
      let same = pair_atoms a b in
      let sum : length (hindered_at graph unit b) + length (hindered_at graph unit a)
      ≡ length (hindered_at graph unit a) + length (hindered_at graph unit b) = omega arith in
      record {
        among = (leads_back graph sound a w k.among).back;
        order = k.order;
        here = k.there;
        there = k.here;
        first = biaryl_end_same graph turned unit same (positions_of graph) b ∙ k.second;
        second = biaryl_end_same graph turned unit same (positions_of graph) a ∙ k.first;
        hindered =
            rw (hindered_same graph turned unit same b, hindered_same graph turned unit same a, sum) k.hindered;
        free = ring_back graph sound b a ∙ k.free;
      }
