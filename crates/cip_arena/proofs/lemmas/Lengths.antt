-- How long the rows get.
use Rattle.std.proofs.Common.{◌≡◌, ◌<◌, ◌≤◌, ◌+◌, ◌-◌, ℕ, zero, suc, Bool, true, false, cond, List, [], ◌∷◌, length}
use Rattle.std.proofs.Common.{None, Some, refl, ap, ◌∙◌, arith, length-append, replicate, unwrap_or}
use Rattle.std.specs.List.{sum_by, fold}
use Rattle.std.proofs.lemmas.List.Sums.{sum_by-cons}
use Rattle.cip_digraph.specs.declared.nodes.NodeData.{NodeData}
use Rattle.cip_digraph.specs.digraph.NodeList.{told_at}
use Rattle.cip_digraph.specs.graph.Graph.{Graph}
use Rattle.cip_digraph.specs.declared.drawing.graph.Edge.{Edge}
use Rattle.cip_digraph.specs.graph.Graph.{edges_at, other_end}
use Rattle.std.specs.declared.option.Option.{Option}
use Rattle.cip_arena.specs.Walk.{walk, is_above, IsEarlier, Keeps}
use Rattle.cip_arena.specs.Making.{edge_size, size_at, node_size, size_upto, real_vertex, neighbour_told}
use Rattle.cip_arena.specs.Making.{neighbours_told, duplicate_told, duplicates_told, with_neighbour, with_edge}
use Rattle.cip_arena.specs.Making.{children_at, with_children, with_sphere}
use Rattle.cip_arena.proofs.lemmas.Sized.{edge_kept}
use Rattle.cip_arena.proofs.lemmas.Added.{keeps_append, keeps_then}

one_or : (b : Bool) (t : NodeData) → length (cond b [] (t ∷ [])) ≡ cond b 0 1
one_or true t = refl
one_or false t = refl

length_copies : (n : ℕ) (t : NodeData) → length (replicate n t) ≡ n
length_copies zero t = refl
length_copies (suc n) t = ap suc (length_copies n t)

copies_or : (b : Bool) (n : ℕ) (t : NodeData) → length (cond b (replicate n t) []) ≡ cond b n 0
copies_or true n t = length_copies n t
copies_or false n t = refl

module _ (g : Graph) (positions : List (List ℕ)) (node : ℕ) where
  length_edge : (v : ℕ) (ts : List NodeData) (e : Edge) → length (with_edge g positions node v ts e) ≡ length ts + edge_size
      ts node v e
  length_edge v ts e =
      let w = other_end v e in
      let nearer : length (with_neighbour g ts node w) ≡ length ts + cond (is_above ts node w) 0 1 =
      length-append ts (neighbours_told g ts node w) ∙ ap (λ n. length ts + n) (one_or (is_above ts node w)
      (neighbour_told g ts node w (walk ts node w))) in
      let dups = duplicates_told g positions (with_neighbour g ts node w) node v w (unwrap_or (walk ts node w)
      (length ts)) e in
      let more : length dups ≡ cond e.counted (e.order - 1) 0 = copies_or e.counted (e.order - 1)
      (duplicate_told g positions (with_neighbour g ts node w) node v w (unwrap_or (walk ts node w) (length ts))
      e.order) in
      let all = length-append (with_neighbour g ts node w) dups in
      omega (arith, nearer, more, all)

  keeps_edge : (v : ℕ) (ts : List NodeData) (e : Edge) → Keeps ts (with_edge g positions node v ts e)
  keeps_edge v ts e =
      let w = other_end v e in
      keeps_then ts (with_neighbour g ts node w) (with_edge g positions node v ts e)
      (keeps_append ts (neighbours_told g ts node w))
      (keeps_append (with_neighbour g ts node w) (duplicates_told g positions (with_neighbour g ts node w) node v w
      (unwrap_or (walk ts node w) (length ts)) e))

  module _ (old : List NodeData) (early : IsEarlier old) (lt : node < length old) where
    length_fold : (v : ℕ) (ts : List NodeData) (es : List Edge) → Keeps old ts
        → (length (fold (with_edge g positions node v) ts es) ≡ length ts + sum_by (edge_size old node v) es) × Keeps
        old (fold (with_edge g positions node v) ts es)
    length_fold v ts [] k = (omega arith, k)
    length_fold v ts (e ∷ es) k =
        let rest = length_fold v (with_edge g positions node v ts e) es
        (keeps_then old ts (with_edge g positions node v ts e) k (keeps_edge v ts e)) in
        let here = length_edge v ts e in
        let kept = edge_kept old ts early k node v e lt in
        let cons = sum_by-cons (edge_size old node v) e es in
        let all = rest.0 in
        (omega (arith, all, here, kept, cons), rest.1)

    length_at : (ts : List NodeData) → Keeps old ts → (v : Option ℕ) → (length (children_at g positions ts node v) ≡ length
        ts + size_at g old node v) × Keeps old (children_at g positions ts node v)
    length_at ts k None = (omega arith, k)
    length_at ts k (Some v) = length_fold v ts (edges_at g v) k

    pub length_kids : (ts : List NodeData) → Keeps old ts → (length (with_children g positions ts node) ≡ length
        ts + node_size g old node) × Keeps old (with_children g positions ts node)
    length_kids ts k =
        let both = length_at ts k (real_vertex (told_at ts node)) in
        (both.0 ∙ ap (λ (t : NodeData). length ts + size_at g old node (real_vertex t)) (k.same node lt), both.1)

pub length_sphere : (g : Graph) (positions : List (List ℕ)) (old : List NodeData) → IsEarlier old → (first k : ℕ)
    → first + k ≤ length old → (length (with_sphere g positions old first k) ≡ length old + size_upto g old first k)
    × Keeps old (with_sphere g positions old first k)
length_sphere g positions old early first zero h = (omega arith, record { longer = omega arith; same = λ k lt. refl })
length_sphere g positions old early first (suc k) h =
    let rest = length_sphere g positions old early first k (omega arith) in
    let here = length_kids g positions (first + k) old early (omega arith) (with_sphere g positions old first k)
    rest.1 in
    let a = rest.0 in
    let b = here.0 in
    (omega (arith, a, b), here.1)
