-- The ends of the units of a sound graph are joined.
use Rattle.std.proofs.Common.{◌≡◌, ◌≢◌, ◌==◌, ◌||◌, ℕ, Bool, true, false, cond, List, [], ◌∷◌, ◌++◌, map, length, subst, sym, ap, ◌∙◌, refl, inl, inr, eqb-true, filter, flat_map, nat_lt}
use Rattle.std.specs.List.{AllByRecursion, list_any, range_with_len}
use Rattle.std.proofs.lemmas.Bool.{or_cases, eq-eqb, ne_eqb, or_left, or_right}
use Rattle.std.proofs.lemmas.List.Elements.{All-from_recursion}
use Rattle.cip_mol.specs.declared.site.Site.{Site}
use Rattle.cip_mol.specs.declared.site.Unit as units
use Rattle.cip_digraph.specs.declared.drawing.graph.Edge.{Edge}
use Rattle.cip_digraph.specs.units.Allenes.{doubles, axis_site, is_axis_unit, axis_sites}
use Rattle.cip_digraph.specs.rings.Alternating.{is_in}
use Rattle.cip_digraph.specs.units.DoubleBonds.{bond_site, is_bond_unit, bond_sites}
use Rattle.cip_digraph.specs.graph.Graph.{Graph, touches, other_end, insert_up, sorted_up, edges_at, neighbours}
use Rattle.cip_digraph.specs.graph.SoundGraphs.{JoinsBelow, IsSound}
use Rattle.cip_digraph.specs.units.Units.{centre_site, sites_of}
use Rattle.cip_digraph.specs.units.Centres.{is_centre}
use Rattle.cip_digraph.proofs.lemmas.lists.Elements.{all_by, all_append, all_flat, all_filtered, all_mapped, by_recursion, all_both}
use Rattle.cip_digraph.proofs.lemmas.bonds.Neighbours.{sorted_all}
use Rattle.cip_aux.specs.DescriptorsInside.{UnitsJoin}
use Rattle.cip_aux.specs.Views.{DigraphView}
use Rattle.cip_aux.specs.Joining.{EndsJoin}

-- a test that an element passes is passed by one of the list
abbrev Shows : {X : Type 0} → List X → X → Type 0
Shows {X} xs x = (test : X → Bool) → test x ≡ true → list_any test xs ≡ true

all_show : {X : Type 0} (xs : List X) → AllByRecursion (Shows xs) xs
all_show [] = tt
all_show (x ∷ xs) = (
  λ test e. or_left (test x) (list_any test xs) e,
  all_by (Shows xs) (Shows (x ∷ xs)) (λ y h test e. or_right (test x) (list_any test xs) (h test e)) xs (all_show xs),
)

any_filtered : {X : Type 0} (test kept : X → Bool) (xs : List X) (x : X) → Shows xs x → kept x ≡ true → test x ≡ true
    → list_any test (filter kept xs) ≡ true
any_filtered {X} test kept xs x h k e = both xs (h (λ y. cond (kept y) (test y) false) (rw (k, e) refl))
  where
    both : (ys : List X) → list_any (λ y. cond (kept y) (test y) false) ys ≡ true
        → list_any test (filter kept ys) ≡ true
    both [] g = g
    both (y ∷ ys) g = by (kept y) (both ys) g
      where
        by : (b : Bool) → (list_any (λ y. cond (kept y) (test y) false) ys ≡ true
            → list_any test (filter kept ys) ≡ true)
            → (cond b (test y) false || list_any (λ y. cond (kept y) (test y) false) ys) ≡ true
            → list_any test (cond b (y ∷ filter kept ys) (filter kept ys)) ≡ true
        by true rest f = go (test y) rest f
          where
            go : (c : Bool) → (list_any (λ y. cond (kept y) (test y) false) ys ≡ true
                → list_any test (filter kept ys) ≡ true)
                → (c || list_any (λ y. cond (kept y) (test y) false) ys) ≡ true
                → (c || list_any test (filter kept ys)) ≡ true
            go true rest f = refl
            go false rest f = rest f
        by false rest f = rest f

any_inserted : (test : Edge → Bool) (vertex : ℕ) (edge : Edge) (edges : List Edge) → list_any test (edge ∷ edges) ≡ true
    → list_any test (insert_up vertex edge edges) ≡ true
any_inserted test vertex edge [] e = e
any_inserted test vertex edge (next ∷ edges) e =
    by (nat_lt (other_end vertex next) (other_end vertex edge)) (any_inserted test vertex edge edges)
  where
    by : (b : Bool) → (list_any test (edge ∷ edges) ≡ true → list_any test (insert_up vertex edge edges) ≡ true)
        → list_any test (cond b (next ∷ insert_up vertex edge edges) (edge ∷ next ∷ edges)) ≡ true
    by true rest = elim (or_cases (test edge) (test next || list_any test edges) e) [
      | inl here ↦
          or_right (test next) (list_any test (insert_up vertex edge edges))
          (rest (or_left (test edge) (list_any test edges) here))
      | inr later ↦ elim (or_cases (test next) (list_any test edges) later) [
        | inl here ↦ or_left (test next) (list_any test (insert_up vertex edge edges)) here
        | inr behind ↦
            or_right (test next) (list_any test (insert_up vertex edge edges))
            (rest (or_right (test edge) (list_any test edges) behind))
      ]
    ]
    by false rest = e

any_sorted : (test : Edge → Bool) (vertex : ℕ) (edges : List Edge) → list_any test edges ≡ true
    → list_any test (sorted_up vertex edges) ≡ true
any_sorted test vertex [] e = e
any_sorted test vertex (edge ∷ edges) e =
    any_inserted test vertex edge (sorted_up vertex edges) (elim (or_cases (test edge) (list_any test edges) e) [
      | inl here ↦ or_left (test edge) (list_any test (sorted_up vertex edges)) here
      | inr later ↦ or_right (test edge) (list_any test (sorted_up vertex edges)) (any_sorted test vertex edges later)
    ])

any_of_map : {X : Type 0} (f : X → ℕ) (n : ℕ) (xs : List X) → is_in n (map f xs) ≡ list_any (λ x. f x == n) xs
any_of_map f n [] = refl
any_of_map f n (x ∷ xs) = ap (λ b. (f x == n) || b) (any_of_map f n xs)

-- two vertices with an edge between them
record IsNear (graph : Graph) (vertex other : ℕ) : Type 0 where
  own : is_in other (neighbours graph vertex) ≡ true
  back : is_in vertex (neighbours graph other) ≡ true
  differ : other ≢ vertex

module _ (graph : Graph) (sound : IsSound graph) where
  at_edge : (vertex : ℕ) (edge : Edge) → Shows graph.edges edge → touches vertex edge ≡ true
      → is_in (other_end vertex edge) (neighbours graph vertex) ≡ true
  at_edge vertex edge h e =
      any_of_map (other_end vertex) (other_end vertex edge) (edges_at graph vertex)
      ∙ any_sorted (λ edge'. other_end vertex edge' == other_end vertex edge) vertex
      (filter (touches vertex) graph.edges)
      (any_filtered (λ edge'. other_end vertex edge' == other_end vertex edge) (touches vertex) graph.edges edge h e
      (eq-eqb (other_end vertex edge) (other_end vertex edge) refl))

  -- the other end of an edge touches it, and has this one as its other end
  record IsTurned (vertex : ℕ) (edge : Edge) : Type 0 where
    touched : touches (other_end vertex edge) edge ≡ true
    turned : other_end (other_end vertex edge) edge ≡ vertex
    apart : other_end vertex edge ≢ vertex

  turn : (vertex : ℕ) (edge : Edge) → JoinsBelow (length graph.vertices) edge → touches vertex edge ≡ true
      → IsTurned vertex edge
  turn vertex edge j e = by (edge.a == vertex) refl
    where
      by : (b : Bool) → (edge.a == vertex) ≡ b → IsTurned vertex edge
      by true here =
          let same : edge.a ≡ vertex = eqb-true edge.a vertex here in
          let other : other_end vertex edge ≡ edge.b = ap (λ b. cond b edge.b edge.a) here in
          record {
            touched =
                ap (λ v. touches v edge) other
                ∙ or_right (edge.a == edge.b) (edge.b == edge.b) (eq-eqb edge.b edge.b refl);
            turned =
                ap (λ v. other_end v edge) other ∙ ap (λ b. cond b edge.b edge.a) (ne_eqb edge.a edge.b j.differ)
                ∙ same;
            apart = λ h. j.differ (same ∙ sym h ∙ other);
          }
      by false off =
          let other : other_end vertex edge ≡ edge.a = ap (λ b. cond b edge.b edge.a) off in
          let end : edge.b ≡ vertex = eqb-true edge.b vertex (ap (λ b. b || (edge.b == vertex)) (sym off) ∙ e) in
          record {
            touched =
                ap (λ v. touches v edge) other
                ∙ or_left (edge.a == edge.a) (edge.b == edge.a) (eq-eqb edge.a edge.a refl);
            turned =
                ap (λ v. other_end v edge) other ∙ ap (λ b. cond b edge.b edge.a) (eq-eqb edge.a edge.a refl) ∙ end;
            apart = λ h. j.differ (sym other ∙ h ∙ sym end);
          }

  near_edge : (vertex : ℕ) (edge : Edge) → JoinsBelow (length graph.vertices) edge → Shows graph.edges edge
      → touches vertex edge ≡ true → IsNear graph vertex (other_end vertex edge)
  near_edge vertex edge j h e =
      let t = turn vertex edge j e in
      record {
        own = at_edge vertex edge h e;
        back =
            ap (λ v. is_in v (neighbours graph (other_end vertex edge))) (sym t.turned)
            ∙ at_edge (other_end vertex edge) edge h t.touched;
        differ = t.apart;
      }

  passed : {X : Type 0} (P : X → Type 0) (test : X → Bool) (xs : List X) → AllByRecursion (λ x. test x ≡ true → P x) xs
      → AllByRecursion P (filter test xs)
  passed P test [] all = tt
  passed {X} P test (x ∷ xs) all = by (test x) all.0 (passed P test xs all.1)
    where
      by : (b : Bool) → (b ≡ true → P x) → AllByRecursion P (filter test xs)
          → AllByRecursion P (cond b (x ∷ filter test xs) (filter test xs))
      by true p rest = (p refl, rest)
      by false p rest = rest

  near_all : (vertex : ℕ) → AllByRecursion (λ edge. IsNear graph vertex (other_end vertex edge)) (edges_at graph vertex)
  near_all vertex =
      let J = JoinsBelow (length graph.vertices) in
      let S = Shows graph.edges in
      sorted_all (λ edge. IsNear graph vertex (other_end vertex edge)) vertex (filter (touches vertex) graph.edges)
      (passed (λ edge. IsNear graph vertex (other_end vertex edge)) (touches vertex) graph.edges
      (all_by (λ edge. J edge × S edge)
      (λ edge. touches vertex edge ≡ true → IsNear graph vertex (other_end vertex edge))
      (λ edge h. near_edge vertex edge h.0 h.1) graph.edges
      (all_both J S graph.edges (by_recursion J graph.edges sound.edges) (all_show graph.edges))))

  doubles_near : (vertex : ℕ) → AllByRecursion (IsNear graph vertex) (doubles graph vertex)
  doubles_near vertex =
      all_mapped (IsNear graph vertex) (other_end vertex) (filter (λ edge. edge.order == 2) (edges_at graph vertex))
      (all_filtered (λ edge. IsNear graph vertex (other_end vertex edge)) (λ edge. edge.order == 2)
      (edges_at graph vertex) (near_all vertex))

  bonds_join : (positions : List (List ℕ)) (vertex : ℕ)
      → AllByRecursion (EndsJoin graph) (bond_sites graph positions vertex)
  bonds_join positions vertex =
      all_mapped (EndsJoin graph) (bond_site graph vertex)
      (filter (is_bond_unit graph positions vertex) (edges_at graph vertex))
      (all_by (λ edge. IsNear graph vertex (other_end vertex edge))
      (λ edge. EndsJoin graph (bond_site graph vertex edge)) (λ edge nearer. (nearer.own, nearer.back))
      (filter (is_bond_unit graph positions vertex) (edges_at graph vertex))
      (all_filtered (λ edge. IsNear graph vertex (other_end vertex edge)) (is_bond_unit graph positions vertex)
      (edges_at graph vertex) (near_all vertex)))

  axis_joins : (a middle b : ℕ) → IsNear graph a middle → IsNear graph middle b
      → EndsJoin graph (axis_site graph a middle b)
  axis_joins a middle b one other =
      ((one.own, other.own, λ h. other.differ (sym h)), (other.back, one.back, one.differ))

  axes_join : (a : ℕ) → AllByRecursion (EndsJoin graph) (axis_sites graph a)
  axes_join a =
      all_flat (IsNear graph a) (EndsJoin graph)
      (λ middle. map (axis_site graph a middle) (filter (is_axis_unit graph a middle) (doubles graph middle)))
      (λ middle nearer.
      all_mapped (EndsJoin graph) (axis_site graph a middle)
      (filter (is_axis_unit graph a middle) (doubles graph middle))
      (all_by (IsNear graph middle) (λ b. EndsJoin graph (axis_site graph a middle b))
      (λ b further. axis_joins a middle b nearer further) (filter (is_axis_unit graph a middle) (doubles graph middle))
      (all_filtered (IsNear graph middle) (is_axis_unit graph a middle) (doubles graph middle) (doubles_near middle))))
      (doubles graph a) (doubles_near a)

  any_vertex : (vertices : List ℕ) → AllByRecursion (λ vertex. Unit {0}) vertices
  any_vertex [] = tt
  any_vertex (vertex ∷ vertices) = (tt, any_vertex vertices)

  centres_join : (vertices : List ℕ) → AllByRecursion (EndsJoin graph) (map (centre_site graph) vertices)
  centres_join [] = tt
  centres_join (vertex ∷ vertices) = (tt, centres_join vertices)

  sites_join : (positions : List (List ℕ)) → AllByRecursion (EndsJoin graph) (sites_of graph positions)
  unfolding sites_of
  sites_join positions =
      let atoms = range_with_len 0 graph.drawn in
      all_append (EndsJoin graph)
      (map (centre_site graph) (filter (is_centre graph) atoms) ++ flat_map (bond_sites graph positions) atoms)
      (flat_map (axis_sites graph) atoms)
      (all_append (EndsJoin graph) (map (centre_site graph) (filter (is_centre graph) atoms))
      (flat_map (bond_sites graph positions) atoms)
      (centres_join (filter (is_centre graph) atoms))
      (all_flat (λ vertex. Unit {0}) (EndsJoin graph) (bond_sites graph positions)
      (λ vertex h. bonds_join positions vertex) atoms (any_vertex atoms)))
      (all_flat (λ vertex. Unit {0}) (EndsJoin graph) (axis_sites graph) (λ vertex h. axes_join vertex) atoms
      (any_vertex atoms))

sites_unmapped : (P : Site → Type 0) (all : List units.Unit)
    → AllByRecursion P (map (λ (unit : units.Unit). unit.site) all)
    → AllByRecursion (λ (unit : units.Unit). P unit.site) all
sites_unmapped P [] h = tt
sites_unmapped P (unit ∷ all) h = (h.0, sites_unmapped P all h.1)

-- units with the sites of the graph, whatever their geometry
pub units_join : (sight : DigraphView) (all : List units.Unit) → IsSound sight.graph
    → map (λ (unit : units.Unit). unit.site) all ≡ sites_of sight.graph sight.positions → UnitsJoin sight all
units_join sight all sound e =
    All-from_recursion (λ (unit : units.Unit). EndsJoin sight.graph unit.site) all
    (sites_unmapped (EndsJoin sight.graph) all
    (subst (AllByRecursion (EndsJoin sight.graph)) (sym e) (sites_join sight.graph sound sight.positions)))
