-- The sizes of spheres, node by node.
use Rattle.std.proofs.Common.{◌≡◌, ◌+◌, ◌-◌, ◌≤◌, ◌<◌, ℕ, zero, suc, List, refl, sym, ap, ◌∙◌, arith, add-one, inl, inr}
use Rattle.std.proofs.lemmas.Bool.{cases_lt}
use Rattle.cip_digraph.specs.declared.nodes.NodeData.{NodeData}
use Rattle.cip_digraph.specs.graph.Graph.{Graph}
use Rattle.cip_digraph.specs.declared.drawing.graph.Edge.{Edge}
use Rattle.cip_digraph.specs.graph.Graph.{edges_at, other_end}
use Rattle.std.specs.declared.option.Option.{Option}
use Rattle.cip_digraph.specs.digraph.NodeList.{told_at}
use Rattle.cip_arena.specs.Walk.{is_above, IsEarlier, Keeps}
use Rattle.cip_arena.specs.Making.{with_children, with_sphere, edge_size, size_at, node_size, size_upto, real_vertex}
use Rattle.std.specs.List.{sum_by}
use Rattle.std.proofs.lemmas.Bool.{eqb-false, cases_order}
use Rattle.std.proofs.Common.{◌==◌, Bool, true, false, cond, length, None, Some}
use Rattle.std.proofs.lemmas.List.Sums.{sum_by-cons}
use Rattle.std.proofs.Common.{[], ◌∷◌}

pub size_more : (g : Graph) (ts : List NodeData) (first k : ℕ) → size_upto g ts first (k + 1) ≡ size_upto g ts first
    k + node_size g ts (first + k)
size_more g ts first k = rw add-one refl

pub size_le : (g : Graph) (ts : List NodeData) (first k m : ℕ) → k ≤ m → size_upto g ts first k ≤ size_upto g ts first m
size_le g ts first k zero h = let none : k ≡ 0 = omega arith in rw none (omega arith)
size_le g ts first k (suc m) h = elim (cases_lt m k) [
  | inl here ↦ let same : k ≡ suc m = omega arith in rw same (omega arith)
  | inr below ↦ let rest = size_le g ts first k m below in omega arith
]

-- a node's children fit where those of all do
pub size_next : (g : Graph) (ts : List NodeData) (first node past : ℕ) → first ≤ node → node < past → size_upto g ts first
    (node - first) + node_size g ts node ≤ size_upto g ts first (past - first)
size_next g ts first node past low lt =
    let at : first + (node - first) ≡ node = omega arith in
    let more : size_upto g ts first (node - first + 1) ≡ size_upto g ts first (node - first) + node_size g ts node =
    size_more g ts first (node - first) ∙ ap (λ k. size_upto g ts first (node - first) + node_size g ts k) at in
    let le : size_upto g ts first (node - first + 1) ≤ size_upto g ts first (past - first) = size_le g ts first
    (node - first + 1) (past - first) (omega arith) in
    omega (arith, more, le)

pub size_after : (g : Graph) (ts : List NodeData) (first node : ℕ) → first ≤ node → size_upto g ts first (node + 1 - first)
    ≡ size_upto g ts first (node - first) + node_size g ts node
size_after g ts first node low =
    let at : first + (node - first) ≡ node = omega arith in
    let next : node + 1 - first ≡ node - first + 1 = omega arith in
    ap (size_upto g ts first) next ∙ size_more g ts first (node - first)
    ∙ ap (λ k. size_upto g ts first (node - first) + node_size g ts k) at

pub sphere_after : (g : Graph) (positions : List (List ℕ)) (ts : List NodeData) (first node : ℕ) → first ≤ node
    → with_sphere g positions ts first (node + 1 - first) ≡ with_children g positions (with_sphere g positions ts first
    (node - first)) node
sphere_after g positions ts first node low =
    let at : first + (node - first) ≡ node = omega arith in
    let next : node + 1 - first ≡ suc (node - first) = omega arith in
    ap (with_sphere g positions ts first) next
    ∙ ap (with_children g positions (with_sphere g positions ts first (node - first))) at

module _ (old new : List NodeData) (e : IsEarlier old) (k : Keeps old new) where
  parent_by : (node vertex : ℕ) (b : Bool) → (node == 0) ≡ b → node < length old
      → cond b false ((told_at new (told_at new node).parent).vertex == vertex) ≡ cond b false
      ((told_at old (told_at old node).parent).vertex == vertex)
  parent_by node vertex true z lt = refl
  parent_by node vertex false z lt =
      let some : 0 < node = elim (cases_order node 0) [
        | inl e ↦ absurd (eqb-false node 0 z e)
        | inr (inl below) ↦ absurd
            (omega arith)
        | inr (inr more) ↦ more
      ] in
      let up = e.earlier node some lt in
      ap (λ (t : NodeData). (told_at new t.parent).vertex == vertex) (k.same node lt)
      ∙ ap (λ (t : NodeData). t.vertex == vertex) (k.same (told_at old node).parent (omega arith))

  -- what a node's parent has stays
  pub parent_kept : (node vertex : ℕ) → node < length old → is_above new node vertex ≡ is_above old node vertex
  parent_kept node vertex lt = parent_by node vertex (node == 0) refl lt

  pub edge_kept : (node vertex : ℕ) (edge : Edge) → node < length old → edge_size new node vertex edge ≡ edge_size old
      node vertex edge
  edge_kept node vertex edge lt = ap (λ b. cond b 0 1 + cond edge.counted (edge.order - 1) 0)
      (parent_kept node (other_end vertex edge) lt)

  edges_kept : (node vertex : ℕ) → node < length old → (edges : List Edge) → sum_by (edge_size new node vertex)
      edges ≡ sum_by (edge_size old node vertex) edges
  edges_kept node vertex lt [] = refl
  edges_kept node vertex lt (edge ∷ edges) =
      sum_by-cons (edge_size new node vertex) edge edges
      ∙ ap (λ n. n + sum_by (edge_size new node vertex) edges) (edge_kept node vertex edge lt)
      ∙ ap (λ n. edge_size old node vertex edge + n) (edges_kept node vertex lt edges)
      ∙ sym (sum_by-cons (edge_size old node vertex) edge edges)

  size_at_kept : (g : Graph) (node : ℕ) → node < length old → (v : Option ℕ) → size_at g new node v ≡ size_at g old node
      v
  size_at_kept g node lt None = refl
  size_at_kept g node lt (Some v) = edges_kept node v lt (edges_at g v)

  pub node_kept : (g : Graph) (node : ℕ) → node < length old → node_size g new node ≡ node_size g old node
  node_kept g node lt = ap (λ (t : NodeData). size_at g new node (real_vertex t)) (k.same node lt) ∙ size_at_kept g node lt
      (real_vertex (told_at old node))
