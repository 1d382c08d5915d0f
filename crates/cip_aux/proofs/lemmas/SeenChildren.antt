-- The children of nodes in a view, by number, are those of the definitions.
use Rattle.std.proofs.Common.{◌≡◌, ℕ, zero, suc, ◌<◌, ◌≤◌, ◌==◌, ◌&&◌, ◌||◌, not, Bool, true, false, cond, List, [], ◌∷◌, ◌++◌, map, length, slice_index, refl, sym, ap, ◌∙◌, arith, eq-eqb, inl, inr}
use Rattle.std.specs.List.{AllByRecursion, filter}
use Rattle.std.proofs.lemmas.Bool.{cases_order, cases_eq, cases_Bool, ne_eqb, and_parts, or_left}
use Rattle.cip_rank.specs.Tree.{children_of}
use Rattle.cip_digraph.specs.digraph.Digraph.{Node, is_real, children}
use Rattle.cip_digraph.specs.graph.Graph.{Graph}
use Rattle.cip_digraph.specs.graph.SoundGraphs.{IsSound}
use Rattle.cip_digraph.specs.digraph.Telling.{node_at}
use Rattle.cip_digraph.specs.digraph.View.{is_end_of, is_on_way, parent, view_children}
use Rattle.cip_digraph.proofs.lemmas.lists.Elements.{all_by}
use Rattle.cip_rank.specs.View.{is_above, on_way, parent_list, children_seen}
use Rattle.cip_rank.proofs.lemmas.Times.{children_below}
use Rattle.cip_aux.specs.WholeDigraph.{IsWhole}
use Rattle.cip_aux.proofs.lemmas.PathEnds.{end_long, end_itself, end_step}
use Rattle.cip_aux.proofs.lemmas.Standing.{real_is, hangs, path_below, long, root_path, same_path}

pub on_real : (from : List ℕ) (node : Node) (b : Bool) → is_real node.kind ≡ true → is_end_of node.path from ≡ b
    → is_on_way from node ≡ b
on_real from node b real e = ap (λ t. t && is_end_of node.path from) real ∙ e

pub on_other : (from : List ℕ) (node : Node) → is_real node.kind ≡ false → is_on_way from node ≡ false
on_other from node other = ap (λ t. t && is_end_of node.path from) other

map_append : (f : ℕ → Node) (xs ys : List ℕ) → map f (xs ++ ys) ≡ map f xs ++ map f ys
map_append f [] ys = refl
map_append f (x ∷ xs) ys = ap (λ zs. f x ∷ zs) (map_append f xs ys)

kept_by : (f : ℕ → Node) (x : ℕ) (xs : List ℕ) (ns : List Node) (b : Bool) → map f xs ≡ ns
    → map f (cond b (x ∷ xs) xs) ≡ cond b (f x ∷ ns) ns
kept_by f x xs ns true e = ap (λ zs. f x ∷ zs) e
kept_by f x xs ns false e = e

kept : (f : ℕ → Node) (way : ℕ → Bool) (their : Node → Bool) (xs : List ℕ)
    → AllByRecursion (λ x. their (f x) ≡ way x) xs
    → map f (filter (λ x. not (way x)) xs) ≡ filter (λ node. not (their node)) (map f xs)
kept f way their [] all = refl
kept f way their (x ∷ xs) all =
    let rest = filter (λ node. not (their node)) (map f xs) in
    kept_by f x (filter (λ x. not (way x)) xs) rest (not (way x)) (kept f way their xs all.1)
    ∙ ap (λ b. cond (not b) (f x ∷ rest) rest) (sym all.0)

module _ (graph : Graph) (positions : List (List ℕ)) (root : ℕ) (nodes : List Node) (parents : List ℕ)
    (whole : IsWhole graph positions root nodes parents) (sound : IsSound graph) where
  root_way : (n x : ℕ) → 0 ≡ n → 0 < x → x < length parents → is_on_way (node_at nodes n).path (node_at nodes x) ≡ false
  root_way n x first some h = elim (cases_Bool (is_real (node_at nodes x).kind)) [
    | inl real ↦
        on_real (node_at nodes n).path (node_at nodes x) false real
        (end_long (node_at nodes x).path (node_at nodes n).path
        (omega (
          arith,
          long graph positions root nodes parents whole x some h real,
          root_path graph positions root nodes
              parents whole,
          ap (λ k. length (node_at nodes k).path) first,
        )))
    | inr other ↦ on_other (node_at nodes n).path (node_at nodes x) other
  ]

  way_step : (n x : ℕ) → 0 < n → n < length parents → x < length parents → is_real (node_at nodes n).kind ≡ true
      → (n ≡ x → ⊥)
      → is_on_way (node_at nodes n).path (node_at nodes x)
      ≡ is_on_way (node_at nodes (slice_index parents n)).path (node_at nodes x)
  way_step n x some hn hx rn differ = elim (cases_Bool (is_real (node_at nodes x).kind)) [
    | inl rx ↦
        let up = (node_at nodes (slice_index parents n)).path in
        let below = path_below graph positions root nodes parents whole n some hn rn in
        ap (λ path. is_on_way path (node_at nodes x)) below.1
        ∙ ap (λ t. t && is_end_of (node_at nodes x).path (below.0 ∷ up)) rx
        ∙ end_step (node_at nodes x).path (below.0) up
        (λ same. differ (same_path graph positions root nodes parents whole sound n x hn hx rn rx (below.1 ∙ sym same)))
        ∙ sym (ap (λ t. t && is_end_of (node_at nodes x).path up) rx)
    | inr other ↦
        on_other (node_at nodes n).path (node_at nodes x) other
        ∙ sym (on_other (node_at nodes (slice_index parents n)).path (node_at nodes x) other)
  ]

  itself : (n x : ℕ) → n ≡ x → is_real (node_at nodes n).kind ≡ true
      → is_on_way (node_at nodes n).path (node_at nodes x) ≡ true
  itself n x same real =
      ap (λ k. is_on_way (node_at nodes n).path (node_at nodes k)) (sym same)
      ∙ on_real (node_at nodes n).path (node_at nodes n) true real (end_itself (node_at nodes n).path)

  way_by : (most n x : ℕ) → n ≤ most → n < length parents → x < length parents → is_real (node_at nodes n).kind ≡ true
      → is_on_way (node_at nodes n).path (node_at nodes x) ≡ is_above parents most n x
  way_by zero n x le hn hx real = elim (cases_eq n x) [
    | inl same ↦ itself n x same real ∙ sym (eq-eqb n x same)
    | inr differ ↦ root_way n x (omega arith) (some x differ) hx ∙ sym (ne_eqb n x differ)
  ]
    where
      some : (x : ℕ) → (n ≡ x → ⊥) → 0 < x
      some zero differ = absurd (differ (omega arith))
      some (suc x) differ = omega arith
  way_by (suc most) n x le hn hx real = elim (cases_eq n x) [
    | inl same ↦ itself n x same real ∙ sym (or_left (n == x) _ (eq-eqb n x same))
    | inr differ ↦
        elim (cases_order 0 n) [
          | inl first ↦
              root_way n x first (some x (λ e. differ (sym first ∙ e))) hx
              ∙ sym
              (ap (λ b. b || (not (n == 0) && is_above parents most (slice_index parents n) x)) (ne_eqb n x differ)
              ∙ ap (λ b. not b && is_above parents most (slice_index parents n) x) (eq-eqb n 0 (sym first)))
          | inr (inl positive) ↦
              let behind : slice_index parents n < n = whole.tree.behind n positive hn in
              way_step n x positive hn hx real differ
              ∙ way_by most (slice_index parents n) x (omega arith) (omega arith) hx
              (hangs graph positions root nodes parents whole n positive hn).real
              ∙ sym
              (ap (λ b. b || (not (n == 0) && is_above parents most (slice_index parents n) x)) (ne_eqb n x differ)
              ∙ ap (λ b. not b && is_above parents most (slice_index parents n) x)
              (ne_eqb n 0 (λ e. absurd (omega (arith, e, positive)))))
          | inr (inr less) ↦ absurd (omega arith)
        ]
  ]
    where
      some : (x : ℕ) → (0 ≡ x → ⊥) → 0 < x
      some zero differ = absurd (differ refl)
      some (suc x) differ = omega arith

  -- the way of the definitions is the way by number
  pub way_is : (from x : ℕ) → from < length parents → x < length parents → is_real (node_at nodes from).kind ≡ true
      → is_on_way (node_at nodes from).path (node_at nodes x) ≡ on_way parents from x
  unfolding on_way
  way_is from x hf hx real = way_by from from x (omega arith) hf hx real

  parent_is : (n : ℕ) → n < length parents → is_real (node_at nodes n).kind ≡ true
      → map (node_at nodes) (parent_list parents n) ≡ parent (node_at nodes n).path
  parent_is n h real = elim (cases_order 0 n) [
    | inl first ↦
        ap (λ b. map (node_at nodes) (cond b [] (slice_index parents n ∷ []))) (eq-eqb n 0 (sym first))
        ∙ sym
        (ap (λ k. parent (node_at nodes k).path) (sym first) ∙ ap (λ (node : Node). parent node.path) whole.at_root)
    | inr (inl some) ↦
        let m = slice_index parents n in
        let behind : m < n = whole.tree.behind n some h in
        let below = path_below graph positions root nodes parents whole n some h real in
        let above =
        real_is graph positions root nodes parents whole m (omega arith)
        (hangs graph positions root nodes parents whole n some h).real in
        ap (λ b. map (node_at nodes) (cond b [] (m ∷ []))) (ne_eqb n 0 (λ e. absurd (omega (arith, e, some))))
        ∙ ap (λ node. node ∷ []) above.is
        ∙ sym (ap parent below.1 ∙ ap (λ (node : Node). parent (below.0 ∷ node.path)) above.is)
    | inr (inr less) ↦ absurd (omega arith)
  ]

  module _ (from : ℕ) (inside : from < length parents) (real : is_real (node_at nodes from).kind ≡ true) where
    seen_by : (n : ℕ) → n < length parents → (b : Bool) → on_way parents from n ≡ b
        → map (node_at nodes)
        (cond b (filter (λ c. not (on_way parents from c)) (children_of parents n) ++ parent_list parents n)
        (children_of parents n))
        ≡ cond b
        (filter (λ child. not (is_on_way (node_at nodes from).path child)) (children graph positions (node_at nodes n))
        ++ parent (node_at nodes n).path) (children graph positions (node_at nodes n))
    seen_by n h true e =
        let real_n =
        (and_parts (is_real (node_at nodes n).kind) (is_end_of (node_at nodes n).path (node_at nodes from).path)
        (way_is from n inside h real ∙ e)).0 in
        let off = filter (λ c. not (on_way parents from c)) (children_of parents n) in
        map_append (node_at nodes) off (parent_list parents n)
        ∙ ap (λ ns. ns ++ map (node_at nodes) (parent_list parents n))
        (kept (node_at nodes) (on_way parents from) (is_on_way (node_at nodes from).path) (children_of parents n)
        (all_by (λ c. c < length parents)
        (λ c. is_on_way (node_at nodes from).path (node_at nodes c) ≡ on_way parents from c)
        (λ c lt. way_is from c inside lt real) (children_of parents n) (children_below parents n))
        ∙ ap (filter (λ child. not (is_on_way (node_at nodes from).path child))) (whole.children n h))
        ∙ ap
        (λ ns. filter (λ child. not (is_on_way (node_at nodes from).path child))
        (children graph positions (node_at nodes n)) ++ ns) (parent_is n h real_n)
    seen_by n h false e = whole.children n h

    -- the children in the view
    pub seen_are : (n : ℕ) → n < length parents
        → map (node_at nodes) (children_seen parents from n)
        ≡ view_children graph positions (node_at nodes from).path (node_at nodes n)
    unfolding children_seen view_children
    seen_are n h =
        seen_by n h (on_way parents from n) refl
        ∙ ap
        (λ b. cond b
        (filter (λ child. not (is_on_way (node_at nodes from).path child)) (children graph positions (node_at nodes n))
        ++ parent (node_at nodes n).path) (children graph positions (node_at nodes n)))
        (sym (way_is from n inside h real))
