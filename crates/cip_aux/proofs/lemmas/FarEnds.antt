-- The other end of a unit is below a node exactly where the rest of the unit is new to its path.
use Rattle.std.proofs.Common.{◌≡◌, ℕ, ◌<◌, ◌≤◌, ◌==◌, ◌&&◌, ◌||◌, Bool, true, false, cond, not, List, [], ◌∷◌, ◌++◌, map, length, slice_index, refl, sym, ap, ◌∙◌, subst, arith, None, Some, inl, inr, eqb-true, flat_map}
use Rattle.std.specs.List.{AllByRecursion, list_any, list_all}
use Rattle.std.specs.declared.option.Option.{Option}
use Rattle.std.proofs.lemmas.Bool.{eq-eqb, or_cases, or_parts, and_parts, ne_eqb}
use Rattle.cip_rank.specs.Tree.{children_of}
use Rattle.cip_rank.proofs.lemmas.Children.{IsChild, children_are}
use Rattle.cip_digraph.specs.rings.Alternating.{is_in}
use Rattle.cip_digraph.specs.digraph.Digraph.{Node, is_real, real_node, begins_with, neighbour_child, bond_children, edge_children, real_children, children}
use Rattle.cip_digraph.specs.declared.drawing.graph.Edge.{Edge}
use Rattle.cip_digraph.specs.graph.Graph.{Graph, edges_at, other_end, neighbours}
use Rattle.cip_digraph.specs.digraph.NodeList.{told_at, parents_of}
use Rattle.cip_digraph.specs.digraph.Telling.{node_at}
use Rattle.cip_digraph.specs.digraph.View.{real_at}
use Rattle.cip_aux.specs.Neighbours.{first_where, is_real_of, real_child, shape_at}
use Rattle.std.specs.Prelude.{option_to_list}
use Rattle.cip_aux.specs.Joining.{Joins, next_child, far_number}
use Rattle.cip_aux.specs.Views.{DigraphView, Shows, path_at, IsReal}
use Rattle.cip_aux.proofs.lemmas.Paths.{hangs, path_is, real_is, some_path, within_parents}
use Rattle.cip_digraph.proofs.lemmas.PairTurns.{any_mapped}
use Rattle.cip_aux.proofs.lemmas.RootTurns.{first_same, children_within}

first_found : (test : ℕ → Bool) (P : ℕ → Type 0) (ns : List ℕ) (n : ℕ) → AllByRecursion P ns
    → first_where test ns ≡ Some n → P n × (test n ≡ true)
first_found test P [] n all e = let bad : None ≡ Some n = e in cc
first_found test P (k ∷ ks) n all e = by (test k) refl (λ h. first_found test P ks n all.1 h) e
  where
    by : (b : Bool) → test k ≡ b → (first_where test ks ≡ Some n → P n × (test n ≡ true))
        → cond b (Some k) (first_where test ks) ≡ Some n → P n × (test n ≡ true)
    by true passes rest h = let same : k ≡ n = cc in subst (λ m. P m × (test m ≡ true)) same (all.0, passes)
    by false fails rest h = rest h

first_none : (test : ℕ → Bool) (ns : List ℕ) → first_where test ns ≡ None → list_any test ns ≡ false
first_none test [] e = refl
first_none test (k ∷ ks) e = by (test k) (λ h. first_none test ks h) e
  where
    by : (b : Bool) → (first_where test ks ≡ None → list_any test ks ≡ false)
        → cond b (Some k) (first_where test ks) ≡ None → (b || list_any test ks) ≡ false
    by true rest h = let bad : Some k ≡ None = h in cc
    by false rest h = rest h

pub any_front : {X : Type 0} (test : X → Bool) (xs ys : List X) → list_any test xs ≡ true
    → list_any test (xs ++ ys) ≡ true
any_front test [] ys e = let bad : false ≡ true = e in cc
any_front test (x ∷ xs) ys e = by (test x) (λ h. any_front test xs ys h) e
  where
    by : (b : Bool) → (list_any test xs ≡ true → list_any test (xs ++ ys) ≡ true) → (b || list_any test xs) ≡ true
        → (b || list_any test (xs ++ ys)) ≡ true
    by true rest h = refl
    by false rest h = rest h

pub any_behind : {X : Type 0} (test : X → Bool) (xs ys : List X) → list_any test ys ≡ true
    → list_any test (xs ++ ys) ≡ true
any_behind test [] ys e = e
any_behind test (x ∷ xs) ys e = by (test x) (any_behind test xs ys e)
  where
    by : (b : Bool) → list_any test (xs ++ ys) ≡ true → (b || list_any test (xs ++ ys)) ≡ true
    by true rest = refl
    by false rest = rest

not_first : (other : ℕ) (up : List ℕ) → is_in other up ≡ false → begins_with other up ≡ false
not_first other [] e = refl
not_first other (first ∷ up) e = (or_parts (first == other) (is_in other up) e).0

-- a neighbour that is new to the path is a real child
module _ (positions : List (List ℕ)) (vertex : ℕ) (up : List ℕ) (other : ℕ) (new : is_in other (vertex ∷ up) ≡ false)
  where
    here : list_any (is_real_of other) (neighbour_child vertex up other) ≡ true
    here =
        rw (not_first other up (or_parts (vertex == other) (is_in other up) new).1, new, eq-eqb other other refl) refl

    pub edges_any : (edges : List Edge) → is_in other (map (other_end vertex) edges) ≡ true
        → list_any (is_real_of other) (flat_map (edge_children positions vertex up) edges) ≡ true
    edges_any [] e = let bad : false ≡ true = e in cc
    edges_any (edge ∷ edges) e =
        let rest = flat_map (edge_children positions vertex up) edges in
        elim (or_cases (other_end vertex edge == other) (is_in other (map (other_end vertex) edges)) e) [
          | inl same ↦
              any_front (is_real_of other) (edge_children positions vertex up edge) rest
              (any_front (is_real_of other) (neighbour_child vertex up (other_end vertex edge))
              (bond_children positions edge vertex up)
              (subst (λ v. list_any (is_real_of other) (neighbour_child vertex up v) ≡ true)
              (sym (eqb-true (other_end vertex edge) other same)) here))
          | inr later ↦
              any_behind (is_real_of other) (edge_children positions vertex up edge) rest (edges_any edges later)
        ]

child_any : (graph : Graph) (positions : List (List ℕ)) (node : Node) (vertex : ℕ) (up : List ℕ) (other : ℕ)
    → node ≡ real_node vertex up
    → is_in other (neighbours graph vertex) ≡ true → is_in other node.path ≡ false
    → list_any (is_real_of other) (children graph positions node) ≡ true
unfolding real_children
child_any graph positions node vertex up other e joined new =
    subst (λ (n : Node). is_in other n.path ≡ false → list_any (is_real_of other) (children graph positions n) ≡ true)
    (sym e)
    (λ h. edges_any positions vertex up other h (edges_at graph vertex) joined) new

module _ (sight : DigraphView) (s : Shows sight) where
  -- the real node of a path that goes on from that of another node
  pub record IsNext (n vertex c : ℕ) : Type 0 where
    pub real : IsReal sight.nodes c
    pub path : path_at sight.nodes c ≡ vertex ∷ path_at sight.nodes n
    pub vertex_is : (node_at sight.nodes c).vertex ≡ vertex
    pub new : is_in vertex (path_at sight.nodes n) ≡ false

  child_found : (n vertex c : ℕ) → real_child (node_at sight.nodes) (parents_of sight.node_data) n vertex ≡ Some c
      → IsNext n vertex c
  child_found n vertex c e =
      let found =
      first_found (λ k. is_real_of vertex (node_at sight.nodes k)) (IsChild (parents_of sight.node_data) n)
      (children_of (parents_of sight.node_data) n) c (children_are (parents_of sight.node_data) n) e in
      let child = found.0 in
      let len = s.node_data.len in
      let below = child.below in
      let test = and_parts (is_real (node_at sight.nodes c).kind) ((node_at sight.nodes c).vertex == vertex) found.1 in
      let same : (node_at sight.nodes c).vertex ≡ vertex = eqb-true (node_at sight.nodes c).vertex vertex test.1 in
      let real : IsReal sight.nodes c = record { within = omega arith; real = test.0 } in
      let hung = hangs sight s c child.behind (omega arith) in
      record {
        real = real;
        path =
            path_is sight s c child.behind real
            ∙ ap (λ v. v ∷ path_at sight.nodes (slice_index (parents_of sight.node_data) c)) same
            ∙ ap (λ m. vertex ∷ path_at sight.nodes m) child.parent;
        vertex_is = same;
        new =
            ap (λ v. is_in v (path_at sight.nodes n)) (sym same)
            ∙ ap (λ m. is_in (node_at sight.nodes c).vertex (path_at sight.nodes m)) (sym child.parent)
            ∙ hung.new test.0;
      }

  split_path : (path : List ℕ) → 1 ≤ length path → (first : ℕ) × ((up : List ℕ) × (real_at path ≡ real_node first up))
  split_path [] some = absurd (omega arith)
  split_path (first ∷ up) some = (first, (up, refl))

  child_none : (n vertex : ℕ) → IsReal sight.nodes n
      → is_in vertex (neighbours sight.graph (node_at sight.nodes n).vertex) ≡ true
      → real_child (node_at sight.nodes) (parents_of sight.node_data) n vertex ≡ None
      → is_in vertex (path_at sight.nodes n) ≡ true
  child_none n vertex r joined e =
      let split = split_path (path_at sight.nodes n) (some_path sight s n r) in
      let node_is : node_at sight.nodes n ≡ real_node (split.0) (split.1.0) = real_is sight s n r ∙ split.1.1 in
      let at : (node_at sight.nodes n).vertex ≡ split.0 = ap (λ (node : Node). node.vertex) node_is in
      by (is_in vertex (path_at sight.nodes n)) refl (λ new.
      sym (first_none (λ k. is_real_of vertex (node_at sight.nodes k)) (children_of (parents_of sight.node_data) n) e)
      ∙ sym (any_mapped (node_at sight.nodes) (is_real_of vertex) (children_of (parents_of sight.node_data) n))
      ∙ ap (list_any (is_real_of vertex)) (s.node_data.whole.children n (within_parents sight s n r.within))
      ∙ child_any sight.graph sight.positions (node_at sight.nodes n) (split.0) (split.1.0) vertex node_is
      (ap (λ v. is_in vertex (neighbours sight.graph v)) (sym at) ∙ joined) new)
    where
      by : (b : Bool) → is_in vertex (path_at sight.nodes n) ≡ b
          → (is_in vertex (path_at sight.nodes n) ≡ false → false ≡ true) → is_in vertex (path_at sight.nodes n) ≡ true
      by true h bad = h
      by false h bad = let no : false ≡ true = bad h in cc

  pub record IsFar (n : ℕ) (between : Option ℕ) (far c : ℕ) : Type 0 where
    pub real : IsReal sight.nodes c
    pub path : path_at sight.nodes c ≡ far ∷ option_to_list between ++ path_at sight.nodes n
    pub new : list_all (λ vertex. not (is_in vertex (path_at sight.nodes n))) (far ∷ option_to_list between) ≡ true

  pub far_found : (n : ℕ) (between : Option ℕ) (far c : ℕ)
      → far_number (node_at sight.nodes) (parents_of sight.node_data) n between far ≡ Some c → IsFar n between far c
  far_found n None far c e =
      let next = child_found n far c e in
      record { real = next.real; path = next.path; new = rw next.new refl }
  far_found n (Some middle) far c e = by (real_child (node_at sight.nodes) (parents_of sight.node_data) n middle) refl e
    where
      on : (m : ℕ) → IsNext n middle m → IsNext m far c → IsFar n (Some middle) far c
      on m first next =
          let off : is_in far (middle ∷ path_at sight.nodes n) ≡ false = ap (is_in far) (sym first.path) ∙ next.new in
          record {
            real = next.real;
            path = next.path ∙ ap (λ up. far ∷ up) first.path;
            new = rw ((or_parts (middle == far) (is_in far (path_at sight.nodes n)) off).1, first.new) refl;
          }

      by : (o : Option ℕ) → real_child (node_at sight.nodes) (parents_of sight.node_data) n middle ≡ o
          → next_child (node_at sight.nodes) (parents_of sight.node_data) far o ≡ Some c → IsFar n (Some middle) far c
      by None h k = let bad : None ≡ Some c = k in cc
      by (Some m) h k = on m (child_found n middle m h) (child_found m far c k)

  pub far_none : (n : ℕ) (between : Option ℕ) (far : ℕ) → IsReal sight.nodes n
      → Joins sight.graph (node_at sight.nodes n).vertex between far
      → far_number (node_at sight.nodes) (parents_of sight.node_data) n between far ≡ None
      → list_all (λ vertex. not (is_in vertex (path_at sight.nodes n))) (far ∷ option_to_list between) ≡ false
  far_none n None far r joined e = rw (child_none n far r joined e) refl
  far_none n (Some middle) far r joined e =
      by (real_child (node_at sight.nodes) (parents_of sight.node_data) n middle) refl e
    where
      off : (b : Bool) → (b && false) ≡ false
      off true = refl
      off false = refl

      by : (o : Option ℕ) → real_child (node_at sight.nodes) (parents_of sight.node_data) n middle ≡ o
          → next_child (node_at sight.nodes) (parents_of sight.node_data) far o ≡ None
          → (not (is_in far (path_at sight.nodes n)) && (not (is_in middle (path_at sight.nodes n)) && true)) ≡ false
      by None h k = rw (child_none n middle r joined.0 h) (off (not (is_in far (path_at sight.nodes n))))
      by (Some m) h k =
          let next = child_found n middle m h in
          let on_path : is_in far (path_at sight.nodes m) ≡ true =
          child_none m far next.real (ap (λ v. is_in far (neighbours sight.graph v)) next.vertex_is ∙ joined.1) k in
          let split : ((middle == far) || is_in far (path_at sight.nodes n)) ≡ true =
          ap (is_in far) (sym next.path) ∙ on_path in
          let here : is_in far (path_at sight.nodes n) ≡ true =
          ap (λ b. b || is_in far (path_at sight.nodes n)) (sym (ne_eqb middle far joined.2)) ∙ split in
          rw here refl

  shape_real : (vertex k : ℕ) → k < length sight.nodes
      → is_real_of vertex (shape_at sight.node_data k) ≡ is_real_of vertex (node_at sight.nodes k)
  shape_real vertex k lt =
      ap (λ kind. is_real_of vertex (record { kind = kind; path = []; vertex = (told_at sight.node_data k).vertex }))
      (s.node_data.each k lt).kind
      ∙ ap (λ v. is_real_of vertex (record { kind = (node_at sight.nodes k).kind; path = []; vertex = v }))
      (s.node_data.each k lt).vertex

  child_same : (n vertex : ℕ)
      → real_child (shape_at sight.node_data) (parents_of sight.node_data) n vertex
      ≡ real_child (node_at sight.nodes) (parents_of sight.node_data) n vertex
  child_same n vertex =
      first_same (λ k. is_real_of vertex (shape_at sight.node_data k)) (λ k. is_real_of vertex (node_at sight.nodes k))
      (λ k. k < length sight.nodes) (shape_real vertex) (children_of (parents_of sight.node_data) n)
      (children_within sight s n)

  pub far_same : (n : ℕ) (between : Option ℕ) (far : ℕ)
      → far_number (shape_at sight.node_data) (parents_of sight.node_data) n between far
      ≡ far_number (node_at sight.nodes) (parents_of sight.node_data) n between far
  far_same n None far = child_same n far
  far_same n (Some middle) far =
      by (real_child (node_at sight.nodes) (parents_of sight.node_data) n middle) (child_same n middle)
    where
      by : (o : Option ℕ) → real_child (shape_at sight.node_data) (parents_of sight.node_data) n middle ≡ o
          → next_child (shape_at sight.node_data) (parents_of sight.node_data) far
          (real_child (shape_at sight.node_data) (parents_of sight.node_data) n middle)
          ≡ next_child (node_at sight.nodes) (parents_of sight.node_data) far o
      by None h = ap (next_child (shape_at sight.node_data) (parents_of sight.node_data) far) h
      by (Some m) h = ap (next_child (shape_at sight.node_data) (parents_of sight.node_data) far) h ∙ child_same m far
