-- The units of a sound graph are fit: their ligands are different, each a neighbour or a lone pair, four at a centre
-- and two at an end.
use Rattle.std.proofs.Common.{◌≡◌, ◌≢◌, ◌≤◌, ◌+◌, ◌==◌, ◌&&◌, ◌||◌, ◌++◌, ◌∷◌, ◌∙◌, [], ℕ, Bool, true, false, not, cond}
use Rattle.std.proofs.Common.{List, refl, sym, ap, subst, arith, length, length-append, flat_map, map, is_some, nat_le}
use Rattle.std.proofs.Common.{suc, ◌<◌, slice_index_or, filter, All, eqb-true, eq-eqb, append-nil}
use Rattle.std.specs.List.{AllByRecursion, list_any, range_with_len}
use Rattle.std.proofs.lemmas.Bool.{or_left, or_right, and_from, and_parts}
use Rattle.std.proofs.lemmas.List.{length-map}
use Rattle.std.proofs.lemmas.List.Elements.{All-from_recursion}
use Rattle.std.proofs.Math.Bool.{or-false}
use Rattle.cip_elem.specs.Electrons.{outer_of}
use Rattle.cip_mol.specs.declared.site.Ligand.{Ligand}
use Rattle.cip_mol.specs.declared.site.Ligand.TheVariants.{Vertex, LonePair}
use Rattle.cip_mol.specs.declared.site.Unit as units
use Rattle.cip_mol.specs.declared.site.Site.TheVariants.{Centre, Bond, Axis}
use Rattle.cip_mol.proofs.lemmas.ReflectedDrawing.{list_any-map}
use Rattle.cip_digraph.specs.units.Allenes.{axis_site, axis_sites, is_axis_end, is_axis_unit, doubles}
use Rattle.cip_digraph.specs.rings.Alternating.{is_in}
use Rattle.cip_digraph.specs.units.Centres.{centre_ligands, drawn_neighbours, is_centre, is_quadriligant}
use Rattle.cip_digraph.specs.units.DoubleBonds.{bond_site, bond_sites, end_ligands, has_end_bonds, is_bond_end}
use Rattle.cip_digraph.specs.units.DoubleBonds.{is_bond_unit, is_double_end, outer_neighbours}
use Rattle.cip_digraph.specs.units.Ends.{End, end_at}
use Rattle.cip_digraph.specs.declared.drawing.graph.Edge.{Edge}
use Rattle.cip_digraph.specs.graph.Graph.{Graph, edges_at, neighbours, other_end, touches, vertex_at}
use Rattle.cip_digraph.specs.graph.SoundGraphs.{IsSound, JoinsBelow}
use Rattle.cip_digraph.specs.units.Units.{centre_site, sites_of}
use Rattle.cip_digraph.proofs.lemmas.lists.Elements.{Pairwise, all_append, all_by, all_filtered, all_mapped, by_recursion}
use Rattle.cip_digraph.proofs.lemmas.lists.Elements.{pairs_from_pairwise, pairwise_append, pairwise_by, pairwise_filtered}
use Rattle.cip_digraph.proofs.lemmas.lists.Elements.{pairwise_mapped, all_passed, all_unmapped, all_told, all_flat_each}
use Rattle.cip_digraph.proofs.lemmas.bonds.Neighbours.{neighbours_differ, sorted_all}
use Rattle.cip_digraph.proofs.lemmas.bonds.Tests.{any_filtered, any_sorted}
use Rattle.cip_label.specs.Settings.{IsProper, LabelContext, StandAtSites}
use Rattle.cip_label.specs.Fitting.{AreFit, IsFit, IsFitSite, IsNeighbour}
use Rattle.cip_label.proofs.lemmas.LigandNodes.{edges_away, ne_eqb}

in_itself : (ns : List ℕ) → AllByRecursion (λ n. is_in n ns ≡ true) ns
in_itself [] = tt
in_itself (n ∷ ns) = (
  or_left (n == n) (is_in n ns) (eq-eqb n n refl),
  all_by (λ m. is_in m ns ≡ true) (λ m. is_in m (n ∷ ns) ≡ true) (λ m e. or_right (n == m) (is_in m ns) e) ns
      (in_itself ns),
)

-- a lone pair after vertices
abbrev lone : Bool → List Ligand
lone has = cond has (LonePair ∷ []) []

vertex_of : Ligand → ℕ
vertex_of (Vertex vertex) = vertex
vertex_of LonePair = 0

vertex_same : (m n : ℕ) → Vertex m ≡ Vertex n → m ≡ n
unfolding vertex_of
vertex_same m n e = ap vertex_of e

lone_pairwise : (has : Bool) → Pairwise ◌≢◌ (lone has)
lone_pairwise true = (tt, tt)
lone_pairwise false = tt

lone_apart : (n : ℕ) (has : Bool) → AllByRecursion (λ y. Vertex n ≢ y) (lone has)
lone_apart n true = ((λ e. let bad : Vertex n ≡ LonePair = e in cc), tt)
lone_apart n false = tt

each_apart : (ns : List ℕ) (has : Bool) → AllByRecursion (λ n. AllByRecursion (λ y. Vertex n ≢ y) (lone has)) ns
each_apart [] has = tt
each_apart (n ∷ ns) has = (lone_apart n has, each_apart ns has)

lone_beside : (graph : Graph) (root : ℕ) (has : Bool) → AllByRecursion (IsNeighbour graph root) (lone has)
lone_beside graph root true = (tt, tt)
lone_beside graph root false = tt

-- a list without the one element that a test leaves out
kept_all : (keep : ℕ → Bool) (v x : ℕ) (ns : List ℕ) → ((o : ℕ) → o ≢ v → keep o ≡ not (x == o)) →
    AllByRecursion (λ o. o ≢ v) ns → AllByRecursion (λ o. x ≢ o) ns →
    length (filter keep ns) ≡ length ns
kept_all keep v x [] same away apart = refl
kept_all keep v x (n ∷ ns) same away apart =
    ap (λ b. length (cond b (n ∷ filter keep ns) (filter keep ns))) (same n away.0 ∙ ap not (ne_eqb x n apart.0))
    ∙ ap suc (kept_all keep v x ns same away.1 apart.1)

out_by : (keep : ℕ → Bool) (v x : ℕ) (ns : List ℕ) → ((o : ℕ) → o ≢ v → keep o ≡ not (x == o)) → Pairwise ◌≢◌ ns →
    AllByRecursion (λ o. o ≢ v) ns → is_in x ns ≡ true →
    length (filter keep ns) + 1 ≡ length ns
out_by keep v x [] same differ away there = let bad : false ≡ true = there in cc
out_by keep v x (n ∷ ns) same differ away there =
    by (λ e. out_by keep v x ns same differ.1 away.1 e) (x == n) refl
  where
    by : (is_in x ns ≡ true → length (filter keep ns) + 1 ≡ length ns) → (b : Bool) → (x == n) ≡ b →
        length (filter keep (n ∷ ns)) + 1 ≡ suc (length ns)
    by rest true e =
        let here : x ≡ n = eqb-true x n e in
        let all : length (filter keep ns) ≡ length ns =
        kept_all keep v x ns same away.1 (subst (λ m. AllByRecursion (λ o. m ≢ o) ns) (sym here) differ.0) in
        ap (λ b. length (cond b (n ∷ filter keep ns) (filter keep ns)) + 1) (same n away.0 ∙ ap not e)
        ∙ omega (arith, all)
    by rest false e =
        let other : (n == x) ≡ false = ne_eqb n x (λ s. let bad : true ≡ false = sym (eq-eqb x n (sym s)) ∙ e in cc) in
        let more : length (filter keep ns) + 1 ≡ length ns = rest (sym (ap (λ b. b || is_in x ns) other) ∙ there) in
        ap (λ b. length (cond b (n ∷ filter keep ns) (filter keep ns)) + 1) (same n away.0 ∙ ap not e)
        ∙ omega (arith, more)

any_of_itself : (es : List Edge) → AllByRecursion (λ e. (test : Edge → Bool) → test e ≡ true →
    list_any test es ≡ true) es
any_of_itself [] = tt
any_of_itself (e ∷ es) = (
  (λ test here. or_left (test e) (list_any test es) here),
  all_by (λ x. (test : Edge → Bool) → test x ≡ true → list_any test es ≡ true) (λ x. (test : Edge → Bool) →
      test x ≡ true → list_any test (e ∷ es) ≡ true)
      (λ x h. λ test here. or_right (test e) (list_any test es) (h test here)) es (any_of_itself es),
)

module _ (graph : Graph) (sound : IsSound graph) where
  -- an edge leads to a neighbour from each vertex that it touches
  abbrev LeadsToNeighbour : Edge → Type 0
  LeadsToNeighbour e = (v n : ℕ) → touches v e ≡ true → other_end v e ≡ n → is_in n (neighbours graph v) ≡ true

  in_by_edges : (v n : ℕ) → is_in n (neighbours graph v) ≡ list_any (λ e. touches v e && (other_end v e == n))
      graph.edges
  in_by_edges v n =
      list_any-map (λ o. o == n) (other_end v) (edges_at graph v)
      ∙ any_sorted (λ e. other_end v e == n) v (filter (touches v) graph.edges)
      ∙ any_filtered (λ e. other_end v e == n) (touches v) graph.edges

  edges_lead : AllByRecursion LeadsToNeighbour graph.edges
  edges_lead =
      all_by (λ e. (test : Edge → Bool) → test e ≡ true → list_any test graph.edges ≡ true) LeadsToNeighbour
      (λ e h. λ v n touch lead.
      in_by_edges v n ∙ h (λ e. touches v e && (other_end v e == n))
      (and_from (touches v e) (other_end v e == n) touch (eq-eqb (other_end v e) n lead)))
      graph.edges (any_of_itself graph.edges)

  -- what is known of the edges at a vertex
  record IsEdgeAt (v : ℕ) (e : Edge) : Type 0 where
    differ : e.a ≢ e.b
    leads : LeadsToNeighbour e
    touch : touches v e ≡ true

  edges_known : (v : ℕ) → AllByRecursion (IsEdgeAt v) (edges_at graph v)
  edges_known v =
      sorted_all (IsEdgeAt v) v (filter (touches v) graph.edges)
      (all_by (λ e. (touches v e ≡ true) × ((e.a ≢ e.b) × LeadsToNeighbour e)) (IsEdgeAt v)
      (λ e h. record { differ = h.1.0; leads = h.1.1; touch = h.0 })
      (filter (touches v) graph.edges)
      (all_passed (λ e. (e.a ≢ e.b) × LeadsToNeighbour e) (touches v) graph.edges
      (joined graph.edges (by_recursion (JoinsBelow (length graph.vertices)) graph.edges sound.edges) edges_lead)))
    where
      joined : (es : List Edge) → AllByRecursion (JoinsBelow (length graph.vertices)) es →
          AllByRecursion LeadsToNeighbour es → AllByRecursion (λ e. (e.a ≢ e.b) × LeadsToNeighbour e) es
      joined [] p q = tt
      joined (e ∷ es) p q = ((p.0.differ, q.0), joined es p.1 q.1)

  -- the vertex is a neighbour of its neighbours
  back_by : (v : ℕ) (e : Edge) → IsEdgeAt v e → (b : Bool) → (e.a == v) ≡ b →
      is_in v (neighbours graph (cond b e.b e.a)) ≡ true
  back_by v e h true here =
      let off : (e.a == e.b) ≡ false = ne_eqb e.a e.b h.differ in
      h.leads e.b v (or_right (e.a == e.b) (e.b == e.b) (eq-eqb e.b e.b refl))
      (ap (λ b. cond b e.b e.a) off ∙ eqb-true e.a v here)
  back_by v e h false here =
      let far : e.b ≡ v = eqb-true e.b v (sym (ap (λ b. b || (e.b == v)) here) ∙ h.touch) in
      h.leads e.a v (or_left (e.a == e.a) (e.b == e.a) (eq-eqb e.a e.a refl))
      (ap (λ b. cond b e.b e.a) (eq-eqb e.a e.a refl) ∙ far)

  back : (v : ℕ) (e : Edge) → IsEdgeAt v e → is_in v (neighbours graph (other_end v e)) ≡ true
  back v e h = back_by v e h (e.a == v) refl

  there : (v : ℕ) (e : Edge) → IsEdgeAt v e → is_in (other_end v e) (neighbours graph v) ≡ true
  there v e h = h.leads v (other_end v e) h.touch refl

  pub away : (v : ℕ) → AllByRecursion (λ n. n ≢ v) (neighbours graph v)
  away v = all_mapped (λ n. n ≢ v) (other_end v) (edges_at graph v) (edges_away graph sound v)

  -- each neighbour has the vertex among its own
  pub beside_each : (v : ℕ) → AllByRecursion (λ n. is_in v (neighbours graph n) ≡ true) (neighbours graph v)
  beside_each v =
      all_mapped (λ n. is_in v (neighbours graph n) ≡ true) (other_end v) (edges_at graph v)
      (all_by (IsEdgeAt v) (λ e. is_in v (neighbours graph (other_end v e)) ≡ true) (back v) (edges_at graph v)
      (edges_known v))

  -- ligands from some of the neighbours
  fit_of : (v : ℕ) (ns : List ℕ) (has : Bool) → Pairwise ◌≢◌ ns →
      AllByRecursion (λ n. is_in n (neighbours graph v) ≡ true) ns →
      2 ≤ length ns + length (lone has) → length ns + length (lone has) ≤ 4 → IsFit graph v (map Vertex ns ++ lone has)
  fit_of v ns has differ all two few =
      let counted : length (map Vertex ns ++ lone has) ≡ length ns + length (lone has) =
      length-append (map Vertex ns) (lone has) ∙ ap (λ n. n + length (lone has)) (length-map ns Vertex) in
      record {
        two = omega (arith, counted, two);
        few = omega (arith, counted, few);
        beside = All-from_recursion (IsNeighbour graph v) (map Vertex ns ++ lone has)
            (all_append (IsNeighbour graph v) (map Vertex ns) (lone has)
            (all_mapped (IsNeighbour graph v) Vertex ns all) (lone_beside graph v has));
        different =
            pairs_from_pairwise ◌≢◌ (map Vertex ns ++ lone has)
            (pairwise_append ◌≢◌ (map Vertex ns) (lone has)
            (pairwise_mapped ◌≢◌ Vertex ns (pairwise_by ◌≢◌ (λ m n. Vertex m ≢ Vertex n)
            (λ m n d e. d (vertex_same m n e)) ns differ))
            (lone_pairwise has)
            (all_mapped (λ x. AllByRecursion (λ y. x ≢ y) (lone has)) Vertex ns (each_apart ns has)));
      }

  -- centres have four ligands
  four_by : (edges : ℕ) (four three one two other : Bool) → (edges == 4) ≡ four → (edges == 3) ≡ three →
      ((four && one) || (three && two && other)) ≡ true →
      edges + length (lone three) ≡ 4
  four_by edges true true one two other four three is = let e = eqb-true edges 4 four in let f =
      eqb-true edges 3 three in omega (arith, e, f)
  four_by edges true false one two other four three is = omega (arith, eqb-true edges 4 four)
  four_by edges false true one two other four three is = omega (arith, eqb-true edges 3 three)
  four_by edges false false one two other four three is = let bad : false ≡ true = is in cc

  centre_fit : (v : ℕ) → is_centre graph v ≡ true → IsFit graph v (centre_ligands graph v)
  centre_fit v is =
      let others = neighbours graph v in
      let atom = vertex_at graph v in
      let four : length others + length (lone (length others == 3)) ≡ 4 =
      four_by (length others) (length others == 4) (length others == 3) (is_quadriligant atom.z atom.charge)
      (is_some (outer_of atom.z)) atom.lone refl refl
      (and_parts (nat_le 3 (length (drawn_neighbours graph v))) _ is).1 in
      fit_of v others (length others == 3) (neighbours_differ graph sound v) (in_itself others) (omega (arith, four))
      (omega (arith, four))

  -- ends have two
  outer_fit : (unit : List ℕ) (v : ℕ) (has : Bool) → length (outer_neighbours graph unit v) + length (lone has) ≡ 2 →
      IsFit graph v (map Vertex (outer_neighbours graph unit v) ++ lone has)
  outer_fit unit v has two =
      fit_of v (outer_neighbours graph unit v) has (pairwise_filtered ◌≢◌ (λ o. not (is_in o unit))
      (neighbours graph v) (neighbours_differ graph sound v))
      (all_filtered (λ n. is_in n (neighbours graph v) ≡ true) (λ o. not (is_in o unit)) (neighbours graph v)
      (in_itself (neighbours graph v)))
      (omega (arith, two)) (omega (arith, two))

  end_counted : (z edges outer : ℕ) (charge : Bool) (three two seven : Bool) (rest : Bool) → (edges == 3) ≡ three →
      (edges == 2) ≡ two → (z == 7) ≡ seven →
      ((three && rest) || (two && seven && charge)) ≡ true → outer + 1 ≡ edges →
      outer + length (lone (seven && two)) ≡ 2
  end_counted z edges outer charge true true seven rest e f s is one = let p = eqb-true edges 3 e in let q =
      eqb-true edges 2 f in absurd (omega (arith, p, q))
  end_counted z edges outer charge true false true rest e f s is one = let p = eqb-true edges 3 e in
      omega (arith, p, one)
  end_counted z edges outer charge true false false rest e f s is one = let p = eqb-true edges 3 e in
      omega (arith, p, one)
  end_counted z edges outer charge false true true rest e f s is one = let q = eqb-true edges 2 f in
      omega (arith, q, one)
  end_counted z edges outer charge false true false rest e f s is one = let bad : false ≡ true = is in cc
  end_counted z edges outer charge false false seven rest e f s is one = let bad : false ≡ true = is in cc

  edges_counted : (v : ℕ) → length (neighbours graph v) ≡ length (edges_at graph v)
  edges_counted v = length-map (edges_at graph v) (other_end v)

  -- of a double bond, outside it there are all neighbours but one
  first_outer : (a b : ℕ) → is_in b (neighbours graph a) ≡ true →
      length (outer_neighbours graph (a ∷ b ∷ []) a) + 1 ≡ length (edges_at graph a)
  first_outer a b nearer =
      out_by (λ o. not (is_in o (a ∷ b ∷ []))) a b (neighbours graph a)
      (λ o far. ap (λ c. not (c || ((b == o) || false))) (ne_eqb a o (λ e. far (sym e))) ∙ ap not (or-false (b == o)))
      (neighbours_differ graph sound a) (away a) nearer
      ∙ edges_counted a

  second_outer : (a b : ℕ) → is_in a (neighbours graph b) ≡ true →
      length (outer_neighbours graph (a ∷ b ∷ []) b) + 1 ≡ length (edges_at graph b)
  second_outer a b nearer =
      out_by (λ o. not (is_in o (a ∷ b ∷ []))) b a (neighbours graph b)
      (λ o far. ap (λ c. not ((a == o) || (c || false))) (ne_eqb b o (λ e. far (sym e))) ∙ ap not (or-false (a == o)))
      (neighbours_differ graph sound b) (away b) nearer
      ∙ edges_counted b

  bond_end_fit : (unit : List ℕ) (v : ℕ) → is_bond_end graph unit v ≡ true →
      length (outer_neighbours graph unit v) + 1 ≡ length (edges_at graph v) →
      (length (outer_neighbours graph unit v) + length
      (lone (((vertex_at graph v).z == 7) && (length (edges_at graph v) == 2))) ≡ 2) × IsFit graph v
      (end_ligands graph unit v)
  bond_end_fit unit v is one =
      let atom = vertex_at graph v in
      let edges = length (edges_at graph v) in
      let two : length (outer_neighbours graph unit v) + length (lone ((atom.z == 7) && (edges == 2))) ≡ 2 =
      end_counted atom.z edges (length (outer_neighbours graph unit v)) _ (edges == 3) (edges == 2) (atom.z == 7) _
      refl refl refl
      (and_parts (is_double_end atom.z atom.charge edges) (has_end_bonds graph unit v) is).0 one in
      (two, outer_fit unit v ((atom.z == 7) && (edges == 2)) two)

  axis_counted : (z edges outer : ℕ) (two : Bool) → (edges == 2) ≡ two → edges ≡ 3 → outer ≡ 2 →
      outer + length (lone ((z == 7) && two)) ≡ 2
  axis_counted z edges outer true e f o = let q = eqb-true edges 2 e in absurd (omega (arith, q, f))
  axis_counted z edges outer false e f o = by (z == 7)
    where
      by : (seven : Bool) → outer + length (lone (seven && false)) ≡ 2
      by true = omega (arith, o)
      by false = omega (arith, o)

  length_of_end : (unit : List ℕ) (v : ℕ) (has : Bool) →
      length (outer_neighbours graph unit v) + length (lone has) ≡ 2 →
      length (map Vertex (outer_neighbours graph unit v) ++ lone has) ≤ 2
  length_of_end unit v has two =
      let counted : length (map Vertex (outer_neighbours graph unit v) ++ lone has) ≡ length
      (outer_neighbours graph unit v) + length (lone has) =
      length-append (map Vertex (outer_neighbours graph unit v)) (lone has)
      ∙ ap (λ n. n + length (lone has)) (length-map (outer_neighbours graph unit v) Vertex) in
      omega (arith, counted, two)

  abbrev FitEnds : List End → Type 0
  FitEnds ends = All (λ end. IsFit graph end.at end.ligands) ends

  few_in_two : (first second : List Ligand) → length first ≤ 2 → length second ≤ 2 →
      length (first ++ (second ++ [])) ≤ 4
  few_in_two first second p q =
      let counted : length (first ++ (second ++ [])) ≡ length first + length second =
      length-append first (second ++ []) ∙ ap (λ ls. length first + length ls) (append-nil second) in
      omega (arith, counted, p, q)

  ends_fit : (a b : ℕ) (first second : List Ligand) → IsFit graph a first → IsFit graph b second →
      FitEnds (end_at a first ∷ end_at b second ∷ [])
  ends_fit a b first second p q = All-from_recursion (λ end. IsFit graph end.at end.ligands)
      (end_at a first ∷ end_at b second ∷ []) (p, (q, tt))

  -- an end with three bonds, two of them to neighbours outside the unit
  pub three_end_fit : (unit : List ℕ) (v : ℕ) → length (edges_at graph v) ≡ 3 →
      length (outer_neighbours graph unit v) ≡ 2 →
      (length (end_ligands graph unit v) ≤ 2) × IsFit graph v (end_ligands graph unit v)
  three_end_fit unit v three out =
      let atom = vertex_at graph v in
      let edges = length (edges_at graph v) in
      let two : length (outer_neighbours graph unit v) + length (lone ((atom.z == 7) && (edges == 2))) ≡ 2 =
      axis_counted atom.z edges (length (outer_neighbours graph unit v)) (edges == 2) refl three out in
      (length_of_end unit v ((atom.z == 7) && (edges == 2)) two, outer_fit unit v ((atom.z == 7) && (edges == 2)) two)

  -- a bond or an axis between two such ends
  pub two_ended_fit : (flat : Bool) (a b : ℕ) (first second : List Ligand) →
      (length first ≤ 2) × IsFit graph a first →
      (length second ≤ 2) × IsFit graph b second →
      IsFitSite graph (cond flat (Bond a b first second) (Axis a a b first second))
  two_ended_fit true a b first second p q = record {
    ends = ends_fit a b first second p.1 q.1;
    four = few_in_two first second p.0 q.0;
  }
  two_ended_fit false a b first second p q = record {
    ends = ends_fit a b first second p.1 q.1;
    four = few_in_two first second p.0 q.0;
  }

  axis_end_fit : (unit : List ℕ) (v : ℕ) → is_axis_end graph unit v ≡ true →
      (length (outer_neighbours graph unit v) + length
      (lone (((vertex_at graph v).z == 7) && (length (edges_at graph v) == 2))) ≡ 2) × IsFit graph v
      (end_ligands graph unit v)
  axis_end_fit unit v is =
      let atom = vertex_at graph v in
      let edges = length (edges_at graph v) in
      let outer = length (outer_neighbours graph unit v) in
      let before = (and_parts (((atom.z == 6) && (edges == 3)) && has_end_bonds graph unit v) (outer == 2) is).0 in
      let three : edges ≡ 3 = eqb-true edges 3 (and_parts (atom.z == 6) (edges == 3)
      (and_parts ((atom.z == 6) && (edges == 3)) (has_end_bonds graph unit v) before).0).1 in
      let out : outer ≡ 2 = eqb-true outer 2
      (and_parts (((atom.z == 6) && (edges == 3)) && has_end_bonds graph unit v) (outer == 2) is).1 in
      let two : outer + length (lone ((atom.z == 7) && (edges == 2))) ≡ 2 =
      axis_counted atom.z edges outer (edges == 2) refl three out in
      (two, outer_fit unit v ((atom.z == 7) && (edges == 2)) two)

  -- sites
  one_fit : (v : ℕ) (ligands : List Ligand) → IsFit graph v ligands → IsFitSite graph (Centre v ligands)
  one_fit v ligands fit = record {
    ends = All-from_recursion (λ end. IsFit graph end.at end.ligands) (end_at v ligands ∷ []) (fit, tt);
    four = subst (λ ls. length ls ≤ 4) (sym (append-nil ligands)) fit.few;
  }

  abbrev has_lone : ℕ → Bool
  has_lone v = ((vertex_at graph v).z == 7) && (length (edges_at graph v) == 2)

  bond_fit : (positions : List (List ℕ)) (a : ℕ) (e : Edge) → is_bond_unit graph positions a e ≡ true → IsEdgeAt a e →
      IsFitSite graph (bond_site graph a e)
  bond_fit positions a e is known =
      let b = other_end a e in
      let unit = a ∷ b ∷ [] in
      let both = (and_parts _ _ (and_parts _ _ is).0).0 in
      let second = bond_end_fit unit b (and_parts _ (is_bond_end graph unit b) both).1
      (second_outer a b (back a e known)) in
      let first = bond_end_fit unit a (and_parts _ (is_bond_end graph unit a) (and_parts _ _ both).0).1
      (first_outer a b (there a e known)) in
      record {
        ends = ends_fit a b (end_ligands graph unit a) (end_ligands graph unit b) first.1 second.1;
        four = few_in_two (end_ligands graph unit a) (end_ligands graph unit b)
            (length_of_end unit a (has_lone a) first.0) (length_of_end unit b (has_lone b) second.0);
      }

  axis_fit : (a middle b : ℕ) → is_axis_unit graph a middle b ≡ true → IsFitSite graph (axis_site graph a middle b)
  axis_fit a middle b is =
      let unit = a ∷ middle ∷ b ∷ [] in
      let second = axis_end_fit unit b (and_parts _ (is_axis_end graph unit b) is).1 in
      let first = axis_end_fit unit a (and_parts _ (is_axis_end graph unit a) (and_parts _ _ is).0).1 in
      record {
        ends = ends_fit a b (end_ligands graph unit a) (end_ligands graph unit b) first.1 second.1;
        four = few_in_two (end_ligands graph unit a) (end_ligands graph unit b)
            (length_of_end unit a (has_lone a) first.0) (length_of_end unit b (has_lone b) second.0);
      }

  centres_fit : (atoms : List ℕ) → AllByRecursion (IsFitSite graph)
      (map (centre_site graph) (filter (is_centre graph) atoms))
  centres_fit atoms =
      all_mapped (IsFitSite graph) (centre_site graph) (filter (is_centre graph) atoms)
      (all_told (λ v. IsFitSite graph (centre_site graph v)) (is_centre graph)
      (λ v e. one_fit v (centre_ligands graph v) (centre_fit v e)) atoms)

  bonds_fit : (positions : List (List ℕ)) (a : ℕ) → AllByRecursion (IsFitSite graph) (bond_sites graph positions a)
  bonds_fit positions a =
      all_mapped (IsFitSite graph) (bond_site graph a) (filter (is_bond_unit graph positions a) (edges_at graph a))
      (all_by (λ e. (is_bond_unit graph positions a e ≡ true) × IsEdgeAt a e)
      (λ e. IsFitSite graph (bond_site graph a e)) (λ e h. bond_fit positions a e h.0 h.1)
      (filter (is_bond_unit graph positions a) (edges_at graph a))
      (all_passed (IsEdgeAt a) (is_bond_unit graph positions a) (edges_at graph a) (edges_known a)))

  axes_over : (a middle : ℕ) → AllByRecursion (IsFitSite graph)
      (map (axis_site graph a middle) (filter (is_axis_unit graph a middle) (doubles graph middle)))
  axes_over a middle =
      all_mapped (IsFitSite graph) (axis_site graph a middle)
      (filter (is_axis_unit graph a middle) (doubles graph middle))
      (all_told (λ b. IsFitSite graph (axis_site graph a middle b)) (is_axis_unit graph a middle) (axis_fit a middle)
      (doubles graph middle))

  axes_fit : (a : ℕ) → AllByRecursion (IsFitSite graph) (axis_sites graph a)
  axes_fit a =
      all_flat_each (IsFitSite graph) (λ middle. map (axis_site graph a middle)
      (filter (is_axis_unit graph a middle) (doubles graph middle))) (axes_over a) (doubles graph a)

  sites_fit : (positions : List (List ℕ)) → AllByRecursion (IsFitSite graph) (sites_of graph positions)
  unfolding sites_of
  sites_fit positions =
      let atoms = range_with_len 0 graph.drawn in
      all_append (IsFitSite graph) (map (centre_site graph) (filter (is_centre graph) atoms) ++ flat_map
      (bond_sites graph positions) atoms) (flat_map (axis_sites graph) atoms)
      (all_append (IsFitSite graph) (map (centre_site graph) (filter (is_centre graph) atoms))
      (flat_map (bond_sites graph positions) atoms)
      (centres_fit atoms)
      (all_flat_each (IsFitSite graph) (bond_sites graph positions) (bonds_fit positions) atoms))
      (all_flat_each (IsFitSite graph) (axis_sites graph) axes_fit atoms)

  pub units_fit : (positions : List (List ℕ)) (all : List units.Unit) → StandAtSites graph positions all →
      AreFit graph all
  units_fit positions all at =
      All-from_recursion (λ unit. IsFitSite graph unit.site) all
      (all_unmapped (IsFitSite graph) (λ unit. unit.site) all
      (subst (AllByRecursion (IsFitSite graph)) (sym at) (sites_fit positions)))

pub unit_fit : (setting : LabelContext) (listed : List units.Unit) (place : ℕ) (unit : units.Unit) → IsProper setting →
    listed ≡ setting.units → place < length setting.units → unit ≡ slice_index_or listed place unit →
    IsFitSite setting.graph unit.site
unit_fit setting listed place unit proper same within at =
    let all = units_fit setting.graph proper.sound setting.positions setting.units proper.sites in
    subst (λ u. IsFitSite setting.graph u.site) (sym (at ∙ ap (λ us. slice_index_or us place unit) same))
    (all place unit within)
