-- The paths of nodes by number.
use Rattle.std.proofs.Common.{◌≡◌, ℕ, zero, suc, ◌<◌, ◌≤◌, true, false, List, [], ◌∷◌, length, slice_index, refl, sym, ap, ◌∙◌, arith}
use Rattle.std.specs.List.{AllByRecursion}
use Rattle.cip_digraph.specs.rings.Alternating.{is_in}
use Rattle.cip_digraph.specs.declared.nodes.NodeKind.{NodeKind}
use Rattle.cip_digraph.specs.declared.nodes.NodeKind.TheVariants.{Real, Closure, Multiple, Delocalised}
use Rattle.cip_digraph.specs.digraph.Digraph.{Node, is_real, real_node, children}
use Rattle.cip_digraph.specs.digraph.NodeList.{parents_of}
use Rattle.cip_digraph.specs.digraph.Telling.{node_at}
use Rattle.cip_digraph.specs.digraph.View.{real_at}
use Rattle.cip_digraph.specs.graph.Graph.{Graph}
use Rattle.cip_digraph.proofs.lemmas.tree.Children.{Passed, children_have}
use Rattle.cip_digraph.proofs.lemmas.tree.Ended.{Anywhere, leads_anywhere}
use Rattle.cip_aux.proofs.lemmas.Standing.{from_parent, few, root_path}
use Rattle.cip_aux.proofs.lemmas.WholeTold.{parents_len}
use Rattle.cip_aux.specs.Views.{DigraphView, Shows, path_at, IsReal}

-- a child of a node of some kind with a path
pub record IsBelow (kind : NodeKind) (path : List ℕ) (child : Node) : Type 0 where
  pub carrier : is_real kind ≡ true
  pub real : is_real child.kind ≡ true → child ≡ real_node child.vertex path
  pub new : is_real child.kind ≡ true → is_in child.vertex path ≡ false

no_real : {X : Type 0} → false ≡ true → X
no_real h = absurd (let bad : false ≡ true = h in cc)

passed_below : (vertex : ℕ) (up : List ℕ) → Passed Anywhere vertex up (IsBelow Real (vertex ∷ up))
passed_below vertex up = record {
  reals = λ other w e. record { carrier = refl; real = λ h. refl; new = λ h. e };
  closures = λ other w e. record { carrier = refl; real = λ h. no_real h; new = λ h. no_real h };
  multiples = λ other w. record { carrier = refl; real = λ h. no_real h; new = λ h. no_real h };
  delocaliseds = record { carrier = refl; real = λ h. no_real h; new = λ h. no_real h };
}

module _ (graph : Graph) (positions : List (List ℕ)) where
  below_by : (kind : NodeKind) (path : List ℕ) (vertex : ℕ)
      → AllByRecursion (IsBelow kind path)
      (children graph positions (record { kind = kind; path = path; vertex = vertex }))
  below_by Real [] vertex = tt
  below_by Real (first ∷ up) vertex =
      children_have Anywhere first up (IsBelow Real (first ∷ up)) (passed_below first up) graph positions
      (leads_anywhere graph first)
  below_by Closure path vertex = tt
  below_by Multiple path vertex = tt
  below_by Delocalised path vertex = tt

  pub children_below : (node : Node) → AllByRecursion (IsBelow node.kind node.path) (children graph positions node)
  children_below node = below_by node.kind node.path node.vertex

module _ (sight : DigraphView) (s : Shows sight) where
  pub within_parents : (n : ℕ) → n < length sight.nodes → n < length (parents_of sight.node_data)
  within_parents n lt = let len = s.node_data.len in omega arith

  pub within_told : (n : ℕ) → n < length sight.nodes → n < length sight.node_data
  within_told n lt = let len = s.node_data.len in let many = parents_len sight.node_data in omega arith

  pub as_many : length sight.node_data ≡ length sight.nodes
  as_many = sym (s.node_data.len ∙ parents_len sight.node_data)

  pub earlier : (n : ℕ) → 0 < n → n < length sight.nodes → slice_index (parents_of sight.node_data) n < n
  earlier n some lt = s.node_data.whole.tree.behind n some (within_parents n lt)

  pub hangs : (n : ℕ) → 0 < n → n < length sight.nodes
      → let up = slice_index (parents_of sight.node_data) n in
      IsBelow (node_at sight.nodes up).kind (path_at sight.nodes up) (node_at sight.nodes n)
  hangs n some lt =
      let up = node_at sight.nodes (slice_index (parents_of sight.node_data) n) in
      from_parent sight.graph sight.positions sight.root sight.nodes (parents_of sight.node_data) s.node_data.whole
      (IsBelow up.kind up.path) n some (within_parents n lt) (children_below sight.graph sight.positions up)

  pub parent_real : (n : ℕ) → 0 < n → n < length sight.nodes
      → IsReal sight.nodes (slice_index (parents_of sight.node_data) n)
  parent_real n some lt =
      let less = earlier n some lt in
      record { within = omega arith; real = (hangs n some lt).carrier }

  -- the path of a real node goes on from that of its parent
  pub path_is : (n : ℕ) → 0 < n → IsReal sight.nodes n
      → path_at sight.nodes n ≡ (node_at sight.nodes n).vertex
      ∷ path_at sight.nodes (slice_index (parents_of sight.node_data) n)
  path_is n some r = ap (λ (node : Node). node.path) ((hangs n some r.within).real r.real)

  pub some_path : (n : ℕ) → IsReal sight.nodes n → 1 ≤ length (path_at sight.nodes n)
  some_path zero r =
      let one = root_path sight.graph sight.positions sight.root sight.nodes (parents_of sight.node_data) s.node_data.whole in
      omega (arith, one)
  some_path (suc n) r =
      let more = ap (length {A = ℕ}) (path_is (suc n) (omega arith) r) in omega (arith, more)

  -- none is longer than there are vertices
  pub short : (n : ℕ) → IsReal sight.nodes n → length (path_at sight.nodes n) ≤ length sight.graph.vertices
  short n r =
      few sight.graph sight.positions sight.root sight.nodes (parents_of sight.node_data) s.node_data.whole s.sound s.low n
      (within_parents n r.within)

  -- a real node is the one of its path
  pub real_is : (n : ℕ) → IsReal sight.nodes n → node_at sight.nodes n ≡ real_at (path_at sight.nodes n)
  real_is zero r = s.node_data.whole.at_root ∙ sym (ap (λ (node : Node). real_at node.path) s.node_data.whole.at_root)
  real_is (suc n) r =
      let e = (hangs (suc n) (omega arith) r.within).real r.real in
      e ∙ sym (ap (λ (node : Node). real_at node.path) e)
