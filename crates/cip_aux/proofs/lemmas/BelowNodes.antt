-- The nodes strictly below one of them are those inside its subtree.
use Rattle.std.proofs.Common.{◌≡◌, ℕ, suc, ◌<◌, ◌≤◌, ◌==◌, ◌&&◌, ◌||◌, not, Bool, true, false, cond, List, [], ◌∷◌, length, slice_index, refl, sym, ap, ◌∙◌, arith, inl, inr, eq-eqb}
use Rattle.std.specs.Prelude.{nat_lt}
use Rattle.std.proofs.Math.Bool.{or-false}
use Rattle.std.proofs.lemmas.Bool.{cases_order, ne_eqb, lt-ltb, le-ltb, and_right}
use Rattle.cip_rank.specs.Tree.{IsTree}
use Rattle.cip_digraph.specs.digraph.Digraph.{Node, is_real}
use Rattle.cip_digraph.specs.graph.Graph.{Graph}
use Rattle.cip_digraph.specs.graph.SoundGraphs.{IsSound}
use Rattle.cip_digraph.specs.digraph.Telling.{node_at}
use Rattle.cip_digraph.specs.digraph.View.{is_end_of}
use Rattle.cip_rank.specs.View.{is_above, on_way}
use Rattle.cip_rank.proofs.lemmas.Way.{to_above, above_le, fuel_free}
use Rattle.cip_aux.specs.Below.{is_below}
use Rattle.cip_aux.specs.WholeDigraph.{IsWhole}
use Rattle.cip_aux.proofs.lemmas.PathEnds.{end_long, end_more}
use Rattle.cip_aux.proofs.lemmas.SeenChildren.{way_is}
use Rattle.cip_aux.proofs.lemmas.Standing.{hangs, real_is, path_below}

-- a node on the way up, or one below it
pub step_below : (parents : List ℕ) → IsTree parents → (from p : ℕ) → p < length parents
    → ((p == from) || is_below parents from p) ≡ on_way parents p from
unfolding on_way
step_below parents tree from p h = elim (cases_order 0 p) [
  | inl first ↦
      ap (λ b. (p == from) || cond b false (is_above parents (slice_index parents p) (slice_index parents p) from))
      (eq-eqb p 0 (sym first))
      ∙ or-false (p == from)
      ∙ sym (ap (λ k. is_above parents k p from) (sym first))
  | inr (inl some) ↦
      let behind : slice_index parents p < p = tree.behind p some h in
      let positive : (p == 0) ≡ false = ne_eqb p 0 (λ e. absurd (omega (arith, e, some))) in
      ap (λ b. (p == from) || cond b false (is_above parents (slice_index parents p) (slice_index parents p) from))
      positive
      ∙ ap (λ b. (p == from) || b)
      (fuel_free parents tree (slice_index parents p) p (slice_index parents p) from (omega arith) (omega arith)
      (omega arith))
      ∙ ap (λ b. (p == from) || (not b && is_above parents p (slice_index parents p) from)) (sym positive)
      ∙ fuel_free parents tree (suc p) p p from (omega arith) (omega arith) h
  | inr (inr less) ↦ absurd (omega arith)
]

-- such a node has a higher number
pub below_behind : (parents : List ℕ) → IsTree parents → (from n : ℕ) → n < length parents
    → is_below parents from n ≡ true → from < n
unfolding on_way
below_behind parents tree from n h e = elim (cases_order 0 n) [
  | inl first ↦
      let bad : false ≡ true =
      sym
      (ap (λ b. cond b false (is_above parents (slice_index parents n) (slice_index parents n) from))
      (eq-eqb n 0 (sym first))) ∙ e in cc
  | inr (inl some) ↦
      let p = slice_index parents n in
      let behind : p < n = tree.behind n some h in
      let on : is_above parents p p from ≡ true =
      sym (ap (λ b. cond b false (is_above parents p p from)) (ne_eqb n 0 (λ z. absurd (omega (arith, z, some)))))
      ∙ e in
      let le : from ≤ p = above_le parents tree p p from (omega arith) (to_above parents p p from on) in
      omega arith
  | inr (inr less) ↦ absurd (omega arith)
]

module _ (graph : Graph) (positions : List (List ℕ)) (root : ℕ) (nodes : List Node) (parents : List ℕ)
    (whole : IsWhole graph positions root nodes parents) (sound : IsSound graph)
    (from : ℕ) (here : from < length parents) (real : is_real (node_at nodes from).kind ≡ true) where
  abbrev up : List ℕ
  up = (node_at nodes from).path

  longer : (vertex : ℕ) (path : List ℕ)
      → (is_end_of (node_at nodes from).path (vertex ∷ path)
      && nat_lt (length (node_at nodes from).path) (length (vertex ∷ path))) ≡ is_end_of (node_at nodes from).path path
  longer vertex path = elim (cases_order (length (node_at nodes from).path) (length (vertex ∷ path))) [
    | inl even ↦
        and_right (is_end_of (node_at nodes from).path (vertex ∷ path)) _
        (le-ltb (length (node_at nodes from).path) (length (vertex ∷ path)) (omega (arith, even)))
        ∙ sym (end_long (node_at nodes from).path path (omega (arith, even)))
    | inr (inl less) ↦
        ap (λ b. is_end_of (node_at nodes from).path (vertex ∷ path) && b)
        (lt-ltb (length (node_at nodes from).path) (length (vertex ∷ path)) less)
        ∙ and_true (is_end_of (node_at nodes from).path (vertex ∷ path))
        ∙ end_more (node_at nodes from).path vertex path (omega arith)
    | inr (inr more) ↦
        and_right (is_end_of (node_at nodes from).path (vertex ∷ path)) _
        (le-ltb (length (node_at nodes from).path) (length (vertex ∷ path)) (omega arith))
        ∙ sym (end_long (node_at nodes from).path path (omega arith))
  ]
    where
      and_true : (b : Bool) → (b && true) ≡ b
      and_true true = refl
      and_true false = refl

  -- strictly inside the subtree, for real nodes
  pub inside_is : (n : ℕ) → n < length parents → is_real (node_at nodes n).kind ≡ true
      → (is_end_of (node_at nodes from).path (node_at nodes n).path
      && nat_lt (length (node_at nodes from).path) (length (node_at nodes n).path)) ≡ is_below parents from n
  inside_is n h r = elim (cases_order 0 n) [
    | inl first ↦
        let root_path : (node_at nodes n).path ≡ root ∷ [] =
        ap (λ k. (node_at nodes k).path) (sym first) ∙ ap (λ (node : Node). node.path) whole.at_root in
        let is = real_is graph positions root nodes parents whole from here real in
        let some : 0 < length (node_at nodes from).path = omega (arith, ap (λ (node : Node). length node.path) is.is) in
        and_right (is_end_of (node_at nodes from).path (node_at nodes n).path) _
        (le-ltb (length (node_at nodes from).path) (length (node_at nodes n).path)
        (omega (arith, some, ap length root_path)))
        ∙ sym (ap (λ b. cond b false (on_way parents (slice_index parents n) from)) (eq-eqb n 0 (sym first)))
    | inr (inl some) ↦
        let p = slice_index parents n in
        let behind : p < n = whole.tree.behind n some h in
        let below = path_below graph positions root nodes parents whole n some h r in
        let up_real = (hangs graph positions root nodes parents whole n some h).real in
        ap
        (λ path. is_end_of (node_at nodes from).path path && nat_lt (length (node_at nodes from).path) (length path))
        below.1
        ∙ longer (below.0) (node_at nodes p).path
        ∙ sym (ap (λ b. b && is_end_of (node_at nodes from).path (node_at nodes p).path) real)
        ∙ way_is graph positions root nodes parents whole sound p from (omega arith) here up_real
        ∙ sym (ap (λ b. cond b false (on_way parents p from)) (ne_eqb n 0 (λ e. absurd (omega (arith, e, some)))))
    | inr (inr less) ↦ absurd (omega arith)
  ]

-- a node whose parent is another one, or below it
pub next_below : (parents : List ℕ) → IsTree parents → (from node p : ℕ) → p ≡ slice_index parents node → 0 < node
    → node < length parents
    → ((p == from) || is_below parents from p) ≡ is_below parents from node
next_below parents tree from node p e some h =
    let behind : slice_index parents node < node = tree.behind node some h in
    step_below parents tree from p (omega (arith, e, behind, h))
    ∙ ap (λ k. on_way parents k from) e
    ∙ sym
    (ap (λ b. cond b false (on_way parents (slice_index parents node) from))
    (ne_eqb node 0 (λ z. absurd (omega (arith, z, some)))))
