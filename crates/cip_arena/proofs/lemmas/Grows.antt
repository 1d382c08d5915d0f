-- The list describes the digraph, sphere after sphere.
use Rattle.std.proofs.Common.{◌≡◌, ◌≤◌, ◌<◌, ◌+◌, ◌-◌, ℕ, zero, suc, List, [], ◌∷◌, ◌++◌, map, length, take}
use Rattle.std.proofs.Common.{slice_index, refl, sym, ap, ◌∙◌, subst, arith, length-append, append_assoc, add-one}
use Rattle.std.specs.List.{AllByRecursion}
use Rattle.std.proofs.Math.Seq.{take-length}
use Rattle.std.proofs.lemmas.List.{take_more, append-nil, ext_get_or, length-take-le, length-map, get_or-map}
use Rattle.cip_digraph.specs.declared.nodes.NodeData.{NodeData}
use Rattle.cip_digraph.specs.digraph.Digraph.{Node, children, sphere, digraph}
use Rattle.cip_digraph.specs.graph.Graph.{Graph}
use Rattle.cip_digraph.specs.digraph.NodeList.{nothing_told, told_at, parents_of}
use Rattle.cip_digraph.specs.digraph.Telling.{node_at, TellsOf, Tells, first_of}
use Rattle.cip_digraph.proofs.lemmas.numbered.Hanging.{others, low_parents, at_behind}
use Rattle.cip_digraph.proofs.lemmas.numbered.Linked.{no_placed, placed_at, at_left, digraph_linked}
use Rattle.cip_digraph.proofs.lemmas.numbered.PlaceTrees.{at_number, digraph_length}
use Rattle.cip_digraph.proofs.lemmas.numbered.Placing.{Placed, nodes_of, parents, next_sphere, spheres, placed, placed_nodes}
use Rattle.cip_digraph.proofs.lemmas.numbered.Placing.{placed_length, placed_parents, first_is, last_nodes}
use Rattle.cip_rank.specs.Tree.{last_parent}
use Rattle.cip_arena.specs.Growth.{Growth, Holds, next_size}
use Rattle.cip_arena.specs.Making.{node_size, size_upto, with_sphere}
use Rattle.cip_arena.specs.Walk.{IsEarlier}
use Rattle.cip_arena.proofs.lemmas.Children.{below, node_tells}
use Rattle.cip_arena.proofs.lemmas.Lengths.{length_kids, length_sphere}
use Rattle.cip_arena.proofs.lemmas.Ups.{TellsPlaced}

last_of : (m : ℕ) (p : Placed) (ps : List Placed) → AllByRecursion (λ (q : Placed). q.parent < m) ps → p.parent ≤ m
    → slice_index (parents (p ∷ ps)) (length ps) ≤ m
last_of m p [] all h = h
last_of m p (q ∷ qs) all h = last_of m q qs all.1 (let lt = all.0 in omega (arith, lt))

module _ (g : Graph) (positions : List (List ℕ)) where
  last_by : (m : ℕ) (ns : List Placed) → AllByRecursion (λ (q : Placed). q.parent < m) (others g positions ns)
      → (placed_at ns 0).parent ≤ m → last_parent (parents ns) ≤ m
  last_by m [] all h = omega arith
  last_by m (p ∷ ps) all h =
      let at : length (parents (p ∷ ps)) - 1 ≡ length ps =
      omega (arith, length-map (p ∷ ps) (λ (q : Placed). q.parent)) in
      subst (λ k. slice_index (parents (p ∷ ps)) k ≤ m) (sym at) (last_of m p ps all h)

  module _ (root s : ℕ) (ts : List NodeData) where
    to_placed : Tells g positions root s ts → TellsPlaced g positions root (placed g positions root s) ts
    to_placed t =
        let len : length ts ≡ length (placed g positions root s) = t.len ∙ sym (placed_length g positions root s) in
        record {
          linked = digraph_linked g positions root s;
          len = len;
          parents = λ k lt.
              sym (get_or-map (λ (u : NodeData). u.parent) ts k nothing_told 0 (omega (arith, len, lt)))
              ∙ ap (λ ps. slice_index ps k) (t.parents ∙ sym (placed_parents g positions root s))
              ∙ get_or-map (λ (p : Placed). p.parent) (placed g positions root s) k no_placed 0 lt;
          each = λ k lt.
              let within : k < length (digraph g positions root s) = omega (
                arith,
                lt,
                placed_length g positions root
                    s,
              ) in
              subst (λ ns. TellsOf g positions ns (placed_at (placed g positions root s) k).node (told_at ts k))
              (sym (placed_nodes g positions root s))
              (subst (λ n. TellsOf g positions (digraph g positions root s) n (told_at ts k))
              (at_number g positions root s k within) (t.each k (omega (arith, len, lt))));
        }

    from_placed : TellsPlaced g positions root (placed g positions root s) ts → Tells g positions root s ts
    from_placed t =
        let len : length ts ≡ length (digraph g positions root s) = t.len ∙ placed_length g positions root s in
        record {
          len = len;
          parents =
              ext_get_or 0 (parents_of ts) (parents (placed g positions root s))
              (length-map ts (λ (u : NodeData). u.parent) ∙ t.len
              ∙ sym (length-map (placed g positions root s) (λ (p : Placed). p.parent)))
              (λ k lt.
              let low : k < length ts = omega (arith, lt, length-map ts (λ (u : NodeData). u.parent)) in
              get_or-map (λ (u : NodeData). u.parent) ts k nothing_told 0 low ∙ t.parents k (omega (arith, low, t.len))
              ∙ sym (get_or-map (λ (p : Placed). p.parent) (placed g positions root s) k no_placed 0
              (omega (arith, low, t.len))))
              ∙ placed_parents g positions root s;
          each = λ k lt.
              subst (λ ns. TellsOf g positions ns (node_at (digraph g positions root s) k) (told_at ts k))
              (placed_nodes g positions root s)
              (subst (λ n. TellsOf g positions (nodes_of (placed g positions root s)) n (told_at ts k))
              (sym (at_number g positions root s k (omega (arith, lt, len))))
              (t.each k (omega (arith, lt, t.len))));
        }

    -- the last node's parent is in the sphere before
    pub last_low : Tells g positions root s ts → last_parent (parents_of ts) ≤ first_of g positions root s
    last_low t =
        let linked = digraph_linked g positions root s in
        subst (λ ps. last_parent ps ≤ first_of g positions root s) (placed_parents g positions root s ∙ sym t.parents)
        (subst (λ m. last_parent (parents (placed g positions root s)) ≤ m) (first_is g positions root s)
        (last_by (length (spheres g positions root s).before) (placed g positions root s) (low_parents g positions root
        s)
        (subst (λ (p : Placed). p.parent ≤ length (spheres g positions root s).before) (sym linked.first)
        (omega arith))))

  next_push : (i : ℕ) (xs : List Placed) (x : Placed)
      → next_sphere g positions i (xs ++ x ∷ []) ≡ next_sphere g positions i xs ++ map (below (i + length xs))
      (children g positions x.node)
  next_push i [] x = append-nil (map (below i) (children g positions x.node))
      ∙ ap (λ k. map (below k) (children g positions x.node)) (omega arith)
  next_push i (y ∷ xs) x =
      let at : i + 1 + length xs ≡ i + suc (length xs) = omega arith in
      ap (λ ps. map (below i) (children g positions y.node) ++ ps) (next_push (i + 1) xs x
      ∙ ap (λ k. next_sphere g positions (i + 1) xs ++ map (below k) (children g positions x.node)) at)
      ∙ sym (append_assoc (map (below i) (children g positions y.node)) (next_sphere g positions (i + 1) xs)
      (map (below (i + suc (length xs))) (children g positions x.node)))

  -- the next sphere's first nodes, made one node's children after the other's
  sphere_tells : (root : ℕ) (done last : List Placed) (ts : List NodeData) → TellsPlaced g positions root (done ++ last) ts
      → (k : ℕ) → k ≤ length last
      → TellsPlaced g positions root ((done ++ last) ++ next_sphere g positions (length done) (take k last))
      (with_sphere g positions ts (length done) k)
  sphere_tells root done last ts all zero h = subst (λ ms. TellsPlaced g positions root ms ts)
      (sym (append-nil (done ++ last))) all
  sphere_tells root done last ts all (suc k) h =
      let ns = done ++ last in
      let so_far = next_sphere g positions (length done) (take k last) in
      let rest = sphere_tells root done last ts all k (omega arith) in
      let len : length (done ++ last) ≡ length done + length last = length-append done last in
      let lt : length done + k < length ns = omega (arith, len) in
      let more_lt : length done + k < length (ns ++ so_far) = omega (arith, lt, length-append ns so_far) in
      let x = placed_at last k in
      let at : placed_at (ns ++ so_far) (length done + k) ≡ x = at_left ns so_far (length done + k) lt
      ∙ at_behind g positions done last k in
      let more = node_tells g positions root (length done + k) (ns ++ so_far) (with_sphere g positions ts (length done)
      k) rest more_lt in
      let taken : length (take k last) ≡ k = length-take-le k last (omega arith) in
      let step : take (suc k) last ≡ take k last ++ x ∷ [] = ap (λ n. take n last) (sym (add-one k))
      ∙ take_more last k no_placed (omega arith) in
      let next : next_sphere g positions (length done) (take (suc k) last) ≡ so_far ++ map (below (length done + k))
      (children g positions x.node) =
      ap (next_sphere g positions (length done)) step ∙ next_push (length done) (take k last) x
      ∙ ap (λ n. so_far ++ map (below (length done + n)) (children g positions x.node)) taken in
      subst (λ ms. TellsPlaced g positions root ms (with_sphere g positions ts (length done) (suc k)))
      (append_assoc ns so_far (map (below (length done + k)) (children g positions x.node)) ∙ ap (λ ps. ns ++ ps)
      (sym next))
      (subst (λ (p : Placed). TellsPlaced g positions root ((ns ++ so_far) ++ map (below (length done + k))
      (children g positions p.node)) (with_sphere g positions ts (length done) (suc k))) at more)

  last_length : (root s : ℕ) → length (spheres g positions root s).last ≡ length (sphere g positions root s)
  last_length root s = sym (length-map (spheres g positions root s).last (λ (p : Placed). p.node))
      ∙ ap (length {A = Node}) (last_nodes g positions root s)

  count_of : (a : Growth) → Holds g positions a → length a.nodes - a.first ≡ length (spheres g positions a.root
      a.sphere).last
  count_of a h =
      let first = h.first in
      let len = h.tells.len in
      omega (arith, first, len, digraph_length g positions a.root a.sphere, last_length a.root a.sphere)

  pub first_low : (a : Growth) → Holds g positions a → a.first ≤ length a.nodes
  first_low a h = let first = h.first in let len = h.tells.len in omega (
    arith,
    first,
    len,
    digraph_length g positions
        a.root a.sphere,
  )

  -- the next sphere, whole
  next_tells : (a : Growth) → Holds g positions a → Tells g positions a.root (suc a.sphere)
      (with_sphere g positions a.nodes a.first (length a.nodes - a.first))
  next_tells a h =
      let up = spheres g positions a.root a.sphere in
      let made = sphere_tells a.root up.before up.last a.nodes (to_placed a.root a.sphere a.nodes h.tells)
      (length up.last) (omega arith) in
      from_placed a.root (suc a.sphere) (with_sphere g positions a.nodes a.first (length a.nodes - a.first))
      (subst (λ n. TellsPlaced g positions a.root (placed g positions a.root (suc a.sphere))
      (with_sphere g positions a.nodes a.first n)) (sym (count_of a h))
      (subst (λ f. TellsPlaced g positions a.root (placed g positions a.root (suc a.sphere))
      (with_sphere g positions a.nodes f (length up.last))) (first_is g positions a.root a.sphere ∙ sym h.first)
      (subst (λ xs. TellsPlaced g positions a.root ((up.before ++ up.last) ++ next_sphere g positions (length up.before)
      xs) (with_sphere g positions a.nodes (length up.before) (length up.last))) (take-length up.last) made)))

abbrev pub grown : Graph → List (List ℕ) → Growth → Growth
grown g positions a = record a {
  sphere = a.sphere + 1;
  first = length a.nodes;
  nodes = with_sphere g positions a.nodes
      a.first (length a.nodes - a.first);
}

pub is_grown : (g : Graph) (positions : List (List ℕ)) (a new : Growth) → new ≡ grown g positions a
    → new ≡ record a { sphere = a.sphere + 1; first = length a.nodes; nodes = new.nodes }
is_grown g positions a new is = rw is refl

size_is : (g : Graph) (positions : List (List ℕ)) (a : Growth) → IsEarlier a.nodes → Holds g positions a
    → next_size g positions a ≡ size_upto g a.nodes a.first (length a.nodes - a.first)
size_is g positions a e h =
    let first = first_low g positions a h in
    let long = (length_sphere g positions a.nodes e a.first (length a.nodes - a.first) (omega arith)).0 in
    let len = (next_tells g positions a h).len in
    let old = h.tells.len in
    omega (arith, long, len, old, digraph_length g positions a.root (suc a.sphere))

-- the same, by columns that are those of its nodes
pub size_told : (g : Graph) (positions : List (List ℕ)) (a : Growth) → IsEarlier a.nodes → Holds g positions a
    → (nodes : List NodeData) (first past : ℕ) → nodes ≡ a.nodes → first ≡ a.first → past ≡ length a.nodes
    → next_size g positions a ≡ size_upto g nodes first (past - first)
size_told g positions a e h nodes first past same at long = rw (same, at, long) (size_is g positions a e h)

pub holds_grown : (g : Graph) (positions : List (List ℕ)) (a : Growth) → Holds g positions a
    → Holds g positions (grown g positions a)
holds_grown g positions a h = record {
  tells = subst (λ s. Tells g positions a.root s (with_sphere g positions a.nodes a.first (length a.nodes - a.first)))
      (sym (add-one a.sphere)) (next_tells g positions a h);
  first = h.tells.len ∙ ap (first_of g positions a.root) (sym (add-one a.sphere));
}

pub last_holds : (g : Graph) (positions : List (List ℕ)) (a : Growth) → Holds g positions a
    → last_parent (parents_of a.nodes) ≤ a.first
last_holds g positions a h = subst (λ f. last_parent (parents_of a.nodes) ≤ f) (sym h.first)
    (last_low g positions a.root a.sphere a.nodes h.tells)

-- a node has as many children as the list of what is known of it says
pub size_is_count : (g : Graph) (positions : List (List ℕ)) (a : Growth) → IsEarlier a.nodes → Holds g positions a
    → (n : ℕ) → n < length a.nodes
    → node_size g a.nodes n ≡ length (children g positions (node_at (digraph g positions a.root a.sphere) n))
size_is_count g positions a e h n lt =
    let ns = placed g positions a.root a.sphere in
    let t = to_placed g positions a.root a.sphere a.nodes h.tells in
    let within : n < length ns = let len = t.len in omega (arith, lt, len) in
    let made = node_tells g positions a.root n ns a.nodes t within in
    let long = (length_kids g positions n a.nodes e lt a.nodes
    (record { longer = omega arith; same = λ k _. refl })).0 in
    let all = made.len in
    let len = t.len in
    let here : length (children g positions (placed_at ns n).node) ≡ length
    (children g positions (node_at (digraph g positions a.root a.sphere) n)) =
    ap (λ node. length {A = Node} (children g positions node))
    (sym (at_number g positions a.root a.sphere n (let l = h.tells.len in omega (arith, lt, l)))) in
    omega (
      arith,
      long,
      all,
      len,
      here,
      length-append ns (map (below n) (children g positions (placed_at ns n).node)),
      length-map (children g positions (placed_at ns n).node) (below n),
    )
