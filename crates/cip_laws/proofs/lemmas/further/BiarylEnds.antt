-- A delocalised atom beside a single bond in no ring is an end of a biaryl axis.
use Rattle.std.proofs.Common.{◌≡◌, ◌≢◌, ◌<◌, ◌+◌, ℕ, List, [], ◌∷◌, length, filter, refl, sym, ap, subst, ◌∙◌, Bool, true, false, not, cond, ◌==◌, ◌||◌, nat_lt, nat_le, eqb-true, eq-eqb, lt-ltb, ltb-true, arith}
use Rattle.std.specs.List.{AllByRecursion, list_any}
use Rattle.std.proofs.lemmas.Bool.{eqb-false, ne_eqb, leb-true, le-leb, or_from, and_parts, and_from, true≢false}
use Rattle.std.proofs.lemmas.List.{length-map}
use Rattle.cip_digraph.specs.declared.drawing.graph.Edge.{Edge}
use Rattle.cip_digraph.specs.graph.Graph.{Graph, edges_at, neighbours, other_end}
use Rattle.cip_digraph.specs.graph.SoundGraphs.{IsSound}
use Rattle.cip_digraph.specs.rings.Alternating.{is_in, counted_at, is_one_double, is_alternating, partner, singles, reaches, closes_ring}
use Rattle.cip_digraph.specs.rings.AlternatingRings.{Alternates, met, IsAlternatingRing}
use Rattle.cip_digraph.specs.rings.Positions.{positions_of, is_delocalised}
use Rattle.cip_digraph.specs.rings.RingsThrough.{IsRingThrough, Walks}
use Rattle.cip_digraph.specs.units.Allenes.{doubles}
use Rattle.cip_digraph.specs.units.DoubleBonds.{has_end_bonds, multiples, outer_neighbours}
use Rattle.cip_digraph.proofs.lemmas.ways.Alternating.{ring_found}
use Rattle.cip_digraph.proofs.lemmas.lists.Elements.{by_recursion}
use Rattle.cip_digraph.proofs.lemmas.bonds.Neighbours.{neighbours_differ}
use Rattle.cip_symmetry.specs.Images.{Among}
use Rattle.cip_laws.proofs.lemmas.graph.DelocalisedEnds.{Doubled, doubled, listed, partner_beside, single_beside, single_of}
use Rattle.cip_laws.proofs.lemmas.drawings.RenumberedAtoms.{one_of}
use Rattle.cip_symmetry.proofs.lemmas.lists.Among.{among_map, among_filter, in_from_among, among_all, any_from}
use Rattle.cip_unit.specs.Sites.{LeadsToAtoms}
use Rattle.cip_label.proofs.lemmas.FitUnits.{away}
use Rattle.cip_axis.specs.Biaryls.{is_biaryl_end}
use Rattle.cip_axis.proofs.lemmas.Drawn.{doubles_below}
use Rattle.cip_ring.specs.AnyRings.{is_in_ring}
use Rattle.cip_ring.proofs.lemmas.AnyRing.{rings_are_found}
use Rattle.cip_laws.specs.BiarylLaws.{DelocalisedAtomsAreEnds}
use Rattle.cip_laws.proofs.lemmas.further.AllButOne.{one_fails, others_pass, same_kept, kept_mapped, one_equal}

module _ (graph : Graph) where
  -- an alternating ring is a ring
  walks_of : (at : ℕ) (nexts : List ℕ) (target : ℕ) → Alternates graph at nexts target
      → AllByRecursion (λ v. is_alternating graph v ≡ true) (met graph nexts) → Walks graph at (met graph nexts) target
  walks_of at [] target way all = way
  walks_of at (next ∷ nexts) target way all = (
    in_from_among next (neighbours graph at) (single_beside graph at next way.0),
    (
      in_from_among (partner graph next) (neighbours graph next) (partner_beside graph next all.0),
      walks_of (partner graph next) nexts target way.1 all.1.1,
    ),
  )

  ring_of_ring : (v to : ℕ) (nexts : List ℕ) → IsAlternatingRing graph v to nexts
      → IsRingThrough graph v to (partner graph v ∷ met graph nexts)
  ring_of_ring v to nexts ring =
      let all = by_recursion (λ u. is_alternating graph u ≡ true) (v ∷ partner graph v ∷ met graph nexts)
      ring.alternating in
      let some = ring.some in
      record {
        way = (
          in_from_among (partner graph v) (neighbours graph v) (partner_beside graph v all.0),
          walks_of (partner graph v) nexts to ring.way all.1.1,
        );
        different = ring.different;
        some = omega (arith, some);
      }

abbrev is_position : Graph → ℕ → ℕ → Bool
is_position graph v other = (other == partner graph v) || closes_ring graph v other

module _ (graph : Graph) (sound : IsSound graph) (v : ℕ) (here : v < length graph.vertices) where
  same_edge : (one other : Edge) → Among one (edges_at graph v) → Among other (edges_at graph v)
      → other_end v one ≡ other_end v other → one ≡ other
  same_edge one other h k same =
      one_of (other_end v) (edges_at graph v) (neighbours_differ graph sound v) one other h k same

  record HasPositions : Type 0 where
    alternating : is_alternating graph v ≡ true
    many : 1 < length (filter (is_position graph v) (neighbours graph v))

  positions_by : (b : Bool) → is_alternating graph v ≡ b
      → nat_lt 1 (length (cond b (filter (is_position graph v) (neighbours graph v)) [])) ≡ true → HasPositions
  positions_by true e h = record { alternating = e; many = ltb-true 1 _ h }
  positions_by false e h = absurd (let lt = ltb-true 1 0 h in omega (arith, lt))

  has_positions : is_delocalised (positions_of graph) v ≡ true → HasPositions
  has_positions e = positions_by (is_alternating graph v) refl (sym (listed graph sound v here) ∙ e)

  closing_by : (to : ℕ) (b : Bool) → closes_ring graph v to ≡ b → v ≢ to → is_in_ring graph v to ≡ false → b ≡ false
  closing_by to false e differ free = refl
  closing_by to true e differ free =
      let ring = ring_found graph sound v to e in
      absurd
      (true≢false
      (sym
      ((rings_are_found graph sound v to here differ).finds (partner graph v ∷ met graph ring.0)
      (ring_of_ring graph v to ring.0 ring.1))
      ∙ free))

  -- the end of a single bond in no ring
  module _ (edge : Edge) (among : Among edge (edges_at graph v)) (order : edge.order ≡ 1)
      (free : is_in_ring graph v (other_end v edge) ≡ false) (p : HasPositions) where
    abbrev far : ℕ
    far = other_end v edge

    abbrev double : Doubled graph v
    double = doubled graph v p.alternating

    beside : Among far (neighbours graph v)
    beside = among_map (other_end v) edge (edges_at graph v) among

    apart : (to : ℕ) → Among to (neighbours graph v) → to ≢ v
    apart to h = among_all (λ u. u ≢ v) to (neighbours graph v) (away graph sound v) h

    not_partner : (far == partner graph v) ≡ false
    not_partner =
        ne_eqb far (partner graph v)
        (λ same.
        let one : edge ≡ double.edge = same_edge edge double.edge among double.among (same ∙ double.is) in
        let orders : edge.order ≡ double.edge.order = ap (λ edge. edge.order) one in
        let two = double.order in
        absurd (omega (arith, orders, order, two)))

    fails : is_position graph v far ≡ false
    fails =
        or_from (far == partner graph v) (closes_ring graph v far) not_partner
        (closing_by far (closes_ring graph v far) refl (λ same. apart far beside (sym same)) free)

    record Counted : Type 0 where
      three : length (edges_at graph v) ≡ 3
      two : length (filter (is_position graph v) (neighbours graph v)) ≡ 2
      all : length (filter (is_position graph v) (neighbours graph v)) + 1 ≡ length (neighbours graph v)

    counted : Counted
    counted =
        let most = leb-true (length (edges_at graph v)) 3
        (and_parts (is_one_double (counted_at graph v)) (nat_le (length (edges_at graph v)) 3) p.alternating).1 in
        let same = length-map (edges_at graph v) (other_end v) in
        let many = p.many in
        let less = one_fails (is_position graph v) (neighbours graph v) far beside fails in
        record {
          three = omega (arith, most, same, many, less);
          two = omega (arith, most, same, many, less);
          all = omega (arith, most, same, many, less);
        }

    passes : (to : ℕ) → Among to (neighbours graph v) → to ≢ far → is_position graph v to ≡ true
    passes to h differ =
        others_pass (is_position graph v) (neighbours graph v) far beside fails counted.all to h differ

    -- the neighbours beside the axis are the positions
    beside_by : (to : ℕ) (b : Bool) → (to == far) ≡ b → Among to (neighbours graph v)
        → not (is_in to (v ∷ far ∷ [])) ≡ is_position graph v to
    beside_by to true e h =
        let same : to ≡ far = eqb-true to far e in
        ap (λ b. not ((v == to) || (b || false))) (eq-eqb far to (sym same))
        ∙ or_behind (v == to)
        ∙ sym fails
        ∙ ap (is_position graph v) (sym same)
      where
        or_behind : (b : Bool) → not (b || true) ≡ false
        or_behind true = refl
        or_behind false = refl
    beside_by to false e h =
        ap (λ b. not (b || ((far == to) || false))) (ne_eqb v to (λ same. apart to h (sym same)))
        ∙ ap (λ b. not (b || false)) (ne_eqb far to (λ same. eqb-false to far e (sym same)))
        ∙ sym (passes to h (eqb-false to far e))

    outer_is : outer_neighbours graph (v ∷ far ∷ []) v ≡ filter (is_position graph v) (neighbours graph v)
    outer_is =
        same_kept (λ to. not (is_in to (v ∷ far ∷ []))) (is_position graph v) (neighbours graph v)
        (λ to h. beside_by to (to == far) refl h)

    -- all bonds but the double one are single
    single_by : (e : Edge) → Among e (edges_at graph v) → (other_end v e == partner graph v) ≡ false
        → (b : Bool) → (other_end v e == far) ≡ b → e.order ≡ 1
    single_by e h off true same =
        ap (λ edge. edge.order) (same_edge e edge h among (eqb-true (other_end v e) far same)) ∙ order
    single_by e h off false differ =
        let position = passes (other_end v e) (among_map (other_end v) e (edges_at graph v) h)
        (eqb-false (other_end v e) far differ) in
        let closes : closes_ring graph v (other_end v e) ≡ true =
        sym (ap (λ b. b || closes_ring graph v (other_end v e)) off) ∙ position in
        let s = single_of graph v (other_end v e) (in_singles (other_end v e) closes) in
        ap (λ edge. edge.order) (same_edge e s.edge h s.among s.is) ∙ s.order
      where
        in_singles : (to : ℕ) → closes_ring graph v to ≡ true → is_in to (singles graph v) ≡ true
        in_singles to c =
            let next = partner graph v in
            let p = and_parts _ (reaches graph to 11 (next ∷ v ∷ []) next) c in
            let o = and_parts _ (not (to == next)) p.0 in
            (and_parts _ (is_in to (singles graph v)) o.0).1

    multiple_by : (e : Edge) → Among e (edges_at graph v) → (b : Bool) → (other_end v e == partner graph v) ≡ b
        → nat_le 2 e.order ≡ b
    multiple_by e h true same =
        let one : e ≡ double.edge =
        same_edge e double.edge h double.among (eqb-true (other_end v e) (partner graph v) same ∙ double.is) in
        let orders : e.order ≡ double.edge.order = ap (λ edge. edge.order) one in
        let two = double.order in
        le-leb 2 e.order (omega (arith, orders, two))
    multiple_by e h false off = ap (nat_le 2) (single_by e h off (other_end v e == far) refl)

    one_multiple : length (multiples graph v) ≡ 1
    one_multiple =
        ap length
        (same_kept (λ e. nat_le 2 e.order) (λ e. other_end v e == partner graph v) (edges_at graph v)
        (λ e h. multiple_by e h (other_end v e == partner graph v) refl))
        ∙ kept_mapped (other_end v) (λ to. to == partner graph v) (edges_at graph v)
        ∙ one_equal (partner graph v) (neighbours graph v) (neighbours_differ graph sound v)
        (partner_beside graph v p.alternating)

    partner_drawn : LeadsToAtoms graph → nat_lt (partner graph v) graph.drawn ≡ true
    partner_drawn leads =
        let there : Among (partner graph v) (doubles graph v) =
        subst (λ u. Among u (doubles graph v)) (sym double.is)
        (among_map (other_end v) double.edge (filter (λ edge. edge.order == 2) (edges_at graph v))
        (among_filter (λ edge. edge.order == 2) double.edge (edges_at graph v) double.among
        (eq-eqb double.edge.order 2 double.order))) in
        lt-ltb (partner graph v) graph.drawn
        (among_all (λ u. u < graph.drawn) (partner graph v) (doubles graph v) (doubles_below graph leads v) there)

    is_end : LeadsToAtoms graph → is_delocalised (positions_of graph) v ≡ true
        → is_biaryl_end graph (positions_of graph) (v ∷ far ∷ []) v ≡ true
    is_end leads several =
        let outer : List ℕ = filter (is_position graph v) (neighbours graph v) in
        let at : Among (partner graph v) outer =
        among_filter (is_position graph v) (partner graph v) (neighbours graph v)
        (partner_beside graph v p.alternating)
        (ap (λ b. b || closes_ring graph v (partner graph v)) (eq-eqb (partner graph v) (partner graph v) refl)) in
        let drawn : list_any (λ to. nat_lt to graph.drawn) (outer_neighbours graph (v ∷ far ∷ []) v) ≡ true =
        ap (list_any (λ to. nat_lt to graph.drawn)) outer_is
        ∙ any_from (λ to. nat_lt to graph.drawn) (partner graph v) outer at (partner_drawn leads) in
        let ends : has_end_bonds graph (v ∷ far ∷ []) v ≡ true =
        and_from _ _ (eq-eqb (length (multiples graph v)) 1 one_multiple) drawn in
        and_from _ _
        (and_from _ _ (and_from _ _ several (eq-eqb (length (edges_at graph v)) 3 counted.three)) ends)
        (eq-eqb (length (outer_neighbours graph (v ∷ far ∷ []) v)) 2 (ap length outer_is ∙ counted.two))

pub delocalised_atoms_are_ends : DelocalisedAtomsAreEnds
delocalised_atoms_are_ends graph a edge sound leads drawn among order free several =
    let few = sound.drawn in
    let here : a < length graph.vertices = omega (arith, few, drawn) in
    is_end graph sound a here edge among order free (has_positions graph sound a here several) leads several
