-- Different real nodes have different paths.
use Rattle.std.proofs.Common.{◌≡◌, ◌≢◌, ◌≤◌, ◌+◌, ◌-◌, ◌==◌, ◌&&◌, ℕ, zero, suc, Bool, true, false, cond, List, [], ◌∷◌}
use Rattle.std.proofs.Common.{◌++◌, map, length, replicate, refl, sym, ap, ◌∙◌, subst, arith, inl, inr, ◌⊎◌}
use Rattle.std.specs.List.{AllByRecursion, flat_map, filter}
use Rattle.std.proofs.lemmas.List.{append-nil}
use Rattle.cip_digraph.specs.rings.Alternating.{is_in}
use Rattle.cip_digraph.specs.digraph.Digraph.{NodeKind, Real, Closure, Multiple, Delocalised, Node, real_node}
use Rattle.cip_digraph.specs.digraph.Digraph.{duplicate, is_real, begins_with, neighbour_child, bond_children}
use Rattle.cip_digraph.specs.digraph.Digraph.{edge_children, real_children, children, sphere, digraph}
use Rattle.cip_digraph.specs.declared.drawing.graph.Edge.{Edge}
use Rattle.cip_digraph.specs.graph.Graph.{Graph, edges_at, other_end}
use Rattle.cip_digraph.specs.Laws.{real_paths}
use Rattle.cip_digraph.specs.rings.Positions.{is_delocalised}
use Rattle.cip_digraph.specs.graph.SoundGraphs.{IsSound}
use Rattle.cip_digraph.proofs.lemmas.tree.Children.{sphere_has}
use Rattle.cip_digraph.proofs.lemmas.tree.Ended.{IsPath, Anywhere, leads_anywhere, paths_pass}
use Rattle.cip_digraph.proofs.lemmas.bonds.Neighbours.{neighbours_differ}
use Rattle.cip_digraph.proofs.lemmas.lists.Elements.{all_by, all_append, Pairwise, pairwise_append, all_each}

-- no two elements are equal
abbrev pub Different : {X : Type 0} → List X → Type 0
Different xs = Pairwise ◌≢◌ xs

different_append : {X : Type 0} (xs ys : List X) → Different xs → Different ys
    → AllByRecursion (λ x. AllByRecursion (λ y. x ≢ y) ys) xs → Different (xs ++ ys)
different_append xs ys one other cross = pairwise_append ◌≢◌ xs ys one other cross

pub tail_of : {x y : ℕ} {xs ys : List ℕ} → x ∷ xs ≡ y ∷ ys → xs ≡ ys
tail_of h = cc

head_of : {x y : ℕ} {xs ys : List ℕ} → x ∷ xs ≡ y ∷ ys → x ≡ y
head_of h = cc

paths_append : (ns ms : List Node) → real_paths (ns ++ ms) ≡ real_paths ns ++ real_paths ms
paths_append [] ms = refl
paths_append (n ∷ ns) ms = by (is_real n.kind) (paths_append ns ms)
  where
    by : (b : Bool) → real_paths (ns ++ ms) ≡ real_paths ns ++ real_paths ms
        → map (λ (node : Node). node.path)
        (cond b (n ∷ filter (λ node. is_real node.kind) (ns ++ ms)) (filter (λ node. is_real node.kind) (ns ++ ms)))
        ≡ map (λ (node : Node). node.path)
        (cond b (n ∷ filter (λ node. is_real node.kind) ns) (filter (λ node. is_real node.kind) ns))
        ++ real_paths ms
    by true e = ap (λ ps. n.path ∷ ps) e
    by false e = e

copies_none : (delocalised : Bool) (count vertex other : ℕ) (up : List ℕ)
    → real_paths
    (replicate count
    (cond delocalised (duplicate Delocalised vertex (vertex ∷ up)) (duplicate Multiple other (vertex ∷ up)))) ≡ []
copies_none delocalised zero vertex other up = refl
copies_none true (suc count) vertex other up = copies_none true count vertex other up
copies_none false (suc count) vertex other up = copies_none false count vertex other up

-- The paths below the real node of a vertex that came along a path.
module _ (positions : List (List ℕ)) (vertex : ℕ) (up : List ℕ) where
  -- a path one vertex longer, by a vertex that W holds of
  pub record IsLonger (W : ℕ → Type 0) (path : List ℕ) : Type 0 where
    pub first : ℕ
    pub holds : W first
    pub is : path ≡ first ∷ vertex ∷ up

  near_by : (other : ℕ) (is_parent is_met : Bool)
      → (real_paths
      (cond is_parent []
      (cond is_met (duplicate Closure other (vertex ∷ up) ∷ []) (real_node other (vertex ∷ up) ∷ []))) ≡ [])
      ⊎ (real_paths
      (cond is_parent []
      (cond is_met (duplicate Closure other (vertex ∷ up) ∷ []) (real_node other (vertex ∷ up) ∷ [])))
      ≡ (other ∷ vertex ∷ up) ∷ [])
  near_by other true is_met = inl refl
  near_by other false true = inl refl
  near_by other false false = inr refl

  no_copies : (counted delocalised : Bool) (count other : ℕ)
      → real_paths
      (cond counted
      (replicate count
      (cond delocalised (duplicate Delocalised vertex (vertex ∷ up))
      (duplicate Multiple other (vertex ∷ up)))) []) ≡ []
  no_copies true delocalised count other = copies_none delocalised count vertex other up
  no_copies false delocalised count other = refl

  -- an edge gives one path or none
  edge_paths : (edge : Edge)
      → (real_paths (edge_children positions vertex up edge) ≡ []) ⊎
      (real_paths (edge_children positions vertex up edge) ≡ (other_end vertex edge ∷ vertex ∷ up) ∷ [])
  edge_paths edge =
      let other = other_end vertex edge in
      let nearer = neighbour_child vertex up other in
      let copies = bond_children positions edge vertex up in
      let none : real_paths copies ≡ [] =
      no_copies edge.counted ((edge.order == 2) && is_delocalised positions vertex) (edge.order - 1) other in
      let both : real_paths (nearer ++ copies) ≡ real_paths nearer = paths_append nearer copies
      ∙ ap (λ ps. real_paths nearer ++ ps) none ∙ append-nil (real_paths nearer) in
      elim (near_by other (begins_with other up) (is_in other (vertex ∷ up))) [
        | inl h ↦ inl (both ∙ h)
        | inr h ↦
            inr (both ∙ h)
      ]

  edges_longer : (W : ℕ → Type 0) (edges : List Edge) → AllByRecursion W (map (other_end vertex) edges)
      → AllByRecursion (IsLonger W) (real_paths (flat_map (edge_children positions vertex up) edges))
  edges_longer W [] h = tt
  edges_longer W (edge ∷ edges) h =
      let here = edge_children positions vertex up edge in
      let rest = flat_map (edge_children positions vertex up) edges in
      subst (AllByRecursion (IsLonger W)) (sym (paths_append here rest))
      (all_append (IsLonger W) (real_paths here) (real_paths rest)
      (elim (edge_paths edge) [
        | inl none ↦ subst (AllByRecursion (IsLonger W)) (sym none) tt
        | inr one ↦ subst (AllByRecursion (IsLonger W)) (sym one)
            (record { first = other_end vertex edge; holds = h.0; is = refl }, tt)
      ])
      (edges_longer W edges h.1))

  edges_differ : (edges : List Edge) → Different (map (other_end vertex) edges)
      → Different (real_paths (flat_map (edge_children positions vertex up) edges))
  edges_differ [] d = tt
  edges_differ (edge ∷ edges) d =
      let other = other_end vertex edge in
      let here = edge_children positions vertex up edge in
      let rest = flat_map (edge_children positions vertex up) edges in
      let longer : AllByRecursion (IsLonger (λ v. other ≢ v)) (real_paths rest) =
      edges_longer (λ v. other ≢ v) edges d.0 in
      subst Different (sym (paths_append here rest))
      (elim (edge_paths edge) [
        | inl none ↦ subst (λ ps. Different (ps ++ real_paths rest)) (sym none) (edges_differ edges d.1)
        | inr one ↦ subst (λ ps. Different (ps ++ real_paths rest)) (sym one) (
          all_by (IsLonger (λ v. other ≢ v)) (λ path. (other ∷ vertex ∷ up) ≢ path)
              (λ path l same. l.holds (head_of (same ∙ l.is))) (real_paths rest) longer,
          edges_differ edges d.1,
        )
      ])

-- a path that is one vertex longer than some path of a list
pub record GoesOn (paths : List (List ℕ)) (path : List ℕ) : Type 0 where
  pub first : ℕ
  pub from : List ℕ
  pub among : AllByRecursion (λ other. from ≢ other) paths → ⊥
  pub is : path ≡ first ∷ from

goes_on_more : (other : List ℕ) (paths : List (List ℕ)) (path : List ℕ) → GoesOn paths path
    → GoesOn (other ∷ paths) path
goes_on_more other paths path h = record { first = h.first; from = h.from; among = λ none. h.among none.1; is = h.is }

module _ (graph : Graph) (positions : List (List ℕ)) (sound : IsSound graph) where
  abbrev next : List Node → List Node
  next nodes = flat_map (children graph positions) nodes

  ends_differ : (vertex : ℕ) → Different (map (other_end vertex) (edges_at graph vertex))
  ends_differ vertex = neighbours_differ graph sound vertex

  pub children_differ : (vertex : ℕ) (up : List ℕ) → Different (real_paths (real_children graph positions vertex up))
  unfolding real_children
  children_differ vertex up = edges_differ positions vertex up (edges_at graph vertex) (ends_differ vertex)

  children_longer : (vertex : ℕ) (up : List ℕ)
      → AllByRecursion (IsLonger positions vertex up Anywhere) (real_paths (real_children graph positions vertex up))
  unfolding real_children
  children_longer vertex up =
      edges_longer positions vertex up Anywhere (edges_at graph vertex)
      (all_each Anywhere (λ _. tt) (map (other_end vertex) (edges_at graph vertex)))

  goes_on_by : (kind : NodeKind) (path : List ℕ) (vertex : ℕ) (nodes : List Node)
      → AllByRecursion (GoesOn (real_paths nodes)) (real_paths (next nodes))
      → AllByRecursion (GoesOn (real_paths (duplicate kind vertex path ∷ nodes)))
      (real_paths (next (duplicate kind vertex path ∷ nodes)))
  goes_on_by Real [] vertex nodes rest =
      all_by (GoesOn (real_paths nodes)) (GoesOn ([] ∷ real_paths nodes))
      (λ path h. goes_on_more [] (real_paths nodes) path h) (real_paths (next nodes)) rest
  goes_on_by Real (first ∷ up) vertex nodes rest =
      let here = real_children graph positions first up in
      let all = (first ∷ up) ∷ real_paths nodes in
      subst (AllByRecursion (GoesOn all)) (sym (paths_append here (next nodes)))
      (all_append (GoesOn all) (real_paths here) (real_paths (next nodes))
      (all_by (IsLonger positions first up Anywhere) (GoesOn all)
      (λ path l. record { first = l.first; from = first ∷ up; among = λ none. none.0 refl; is = l.is })
      (real_paths here) (children_longer first up))
      (all_by (GoesOn (real_paths nodes)) (GoesOn all) (λ path h. goes_on_more (first ∷ up) (real_paths nodes) path h)
      (real_paths (next nodes)) rest))
  goes_on_by kind path vertex nodes rest = rest

  next_goes_on : (nodes : List Node) → AllByRecursion (GoesOn (real_paths nodes)) (real_paths (next nodes))
  next_goes_on [] = tt
  next_goes_on (node ∷ nodes) = goes_on_by node.kind node.path node.vertex nodes (next_goes_on nodes)

  differ_by : (kind : NodeKind) (path : List ℕ) (vertex : ℕ) (nodes : List Node)
      → Different (real_paths (duplicate kind vertex path ∷ nodes))
      → (Different (real_paths nodes) → Different (real_paths (next nodes)))
      → Different (real_paths (next (duplicate kind vertex path ∷ nodes)))
  differ_by Real [] vertex nodes d go = go d.1
  differ_by Real (first ∷ up) vertex nodes d go =
      let here = real_children graph positions first up in
      subst Different (sym (paths_append here (next nodes)))
      (different_append (real_paths here) (real_paths (next nodes)) (children_differ first up) (go d.1)
      (all_by (IsLonger positions first up Anywhere)
      (λ path. AllByRecursion (λ other. path ≢ other) (real_paths (next nodes)))
      (λ path l. all_by (GoesOn (real_paths nodes)) (λ other. path ≢ other)
      (λ other h same.
      let tails : first ∷ up ≡ h.from = tail_of (sym l.is ∙ same ∙ h.is) in
      h.among (subst (λ from. AllByRecursion (λ p. from ≢ p) (real_paths nodes)) tails d.0))
      (real_paths (next nodes)) (next_goes_on nodes))
      (real_paths here) (children_longer first up)))
  differ_by kind path vertex nodes d go = go d

  next_differs : (nodes : List Node) → Different (real_paths nodes) → Different (real_paths (next nodes))
  next_differs [] d = tt
  next_differs (node ∷ nodes) d = differ_by node.kind node.path node.vertex nodes d (next_differs nodes)

  sphere_differs : (root number : ℕ) → Different (real_paths (sphere graph positions root number))
  sphere_differs root zero = (tt, tt)
  sphere_differs root (suc number) = next_differs (sphere graph positions root number) (sphere_differs root number)

  -- paths of a sphere are all of one length
  lengths_by : (number : ℕ) (kind : NodeKind) (path : List ℕ) (vertex : ℕ) (nodes : List Node)
      → IsPath Anywhere number (duplicate kind vertex path)
      → AllByRecursion (λ p. length p ≡ number + 1) (real_paths nodes)
      → AllByRecursion (λ p. length p ≡ number + 1) (real_paths (duplicate kind vertex path ∷ nodes))
  lengths_by number Real path vertex nodes h rest = (h.len, rest)
  lengths_by number kind path vertex nodes h rest = rest

  lengths : (number : ℕ) (nodes : List Node) → AllByRecursion (IsPath Anywhere number) nodes
      → AllByRecursion (λ p. length p ≡ number + 1) (real_paths nodes)
  lengths number [] all = tt
  lengths number (node ∷ nodes) all =
      lengths_by number node.kind node.path node.vertex nodes all.0 (lengths number nodes all.1)

  sphere_lengths : (root number : ℕ)
      → AllByRecursion (λ p. length p ≡ number + 1) (real_paths (sphere graph positions root number))
  sphere_lengths root number =
      lengths number (sphere graph positions root number)
      (sphere_has graph positions root (IsPath Anywhere)
      (paths_pass graph positions Anywhere (λ vertex _. leads_anywhere graph vertex) root tt) number)

  digraph_lengths : (root number : ℕ)
      → AllByRecursion (λ p. length p ≤ number + 1) (real_paths (digraph graph positions root number))
  digraph_lengths root zero = (omega arith, tt)
  digraph_lengths root (suc number) =
      let before = digraph graph positions root number in
      let last = sphere graph positions root (suc number) in
      subst (AllByRecursion (λ p. length p ≤ suc number + 1)) (sym (paths_append before last))
      (all_append (λ p. length p ≤ suc number + 1) (real_paths before) (real_paths last)
      (all_by (λ p. length p ≤ number + 1) (λ p. length p ≤ suc number + 1) (λ p h. omega arith) (real_paths before)
      (digraph_lengths root number))
      (all_by (λ p. length p ≡ suc number + 1) (λ p. length p ≤ suc number + 1) (λ p h. omega arith) (real_paths last)
      (sphere_lengths root (suc number))))

  pub digraph_differs : (root number : ℕ) → Different (real_paths (digraph graph positions root number))
  digraph_differs root zero = (tt, tt)
  digraph_differs root (suc number) =
      let before = digraph graph positions root number in
      let last = sphere graph positions root (suc number) in
      subst Different (sym (paths_append before last))
      (different_append (real_paths before) (real_paths last) (digraph_differs root number)
      (sphere_differs root (suc number))
      (all_by (λ p. length p ≤ number + 1) (λ p. AllByRecursion (λ q. p ≢ q) (real_paths last))
      (λ p short. all_by (λ q. length q ≡ suc number + 1) (λ q. p ≢ q)
      (λ q long same. let equal : length p ≡ length q = ap length same in omega arith) (real_paths last)
      (sphere_lengths root (suc number)))
      (real_paths before) (digraph_lengths root number)))
