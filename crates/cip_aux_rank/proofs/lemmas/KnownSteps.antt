-- How many steps a node is away, by those of its parent, or as one on the way.
use Rattle.std.proofs.Common.{◌≡◌, ◌<◌, ◌≤◌, ◌+◌, ◌-◌, ◌∙◌, ◌++◌, ◌∷◌, [], ℕ, Bool, true, false, List, length, slice_index, refl, sym, ap, subst, arith, inl, inr}
use Rattle.std.proofs.lemmas.Bool.{cases_order}
use Rattle.std.proofs.lemmas.List.{get_or_append_left, get_or_push, length-append}
use Rattle.cip_rank.specs.Tree.{spheres_of}
use Rattle.cip_partition.specs.Parting.{has_flag}
use Rattle.cip_digraph.specs.declared.nodes.NodeData.{NodeData}
use Rattle.cip_digraph.specs.digraph.NodeList.{parents_of}
use Rattle.cip_digraph.specs.digraph.View.{apart}
use Rattle.cip_aux.proofs.lemmas.PathEnds.{common_low, common_short}
use Rattle.cip_aux.proofs.lemmas.Spheres.{sphere_next}
use Rattle.cip_aux.proofs.lemmas.WholeTold.{parents_len}
use Rattle.cip_aux.specs.Views.{DigraphView, Shows, IsReal, path_at}
use Rattle.cip_aux_rank.specs.Keys.{IsFlagged, KnowSteps}
use Rattle.cip_aux_rank.proofs.lemmas.Meeting.{comes_first, comes_next, length_is, meets_there, steps_are}

abbrev pub apart_from : DigraphView → ℕ → ℕ → ℕ
apart_from sight from node = apart (path_at sight.nodes from) (path_at sight.nodes node)

module _ (sight : DigraphView) (shows : Shows sight) (from : ℕ) (real : IsReal sight.nodes from) (way : List Bool)
    (flagged : IsFlagged (parents_of sight.node_data) from way) where
  abbrev parents : List ℕ
  parents = parents_of sight.node_data

  abbrev sphere : ℕ → ℕ
  sphere n = slice_index (spheres_of parents) n

  abbrev away : ℕ → ℕ
  away n = apart (path_at sight.nodes from) (path_at sight.nodes n)

  -- one on the way is as far away as the spheres are apart
  pub on_way_is : (node : ℕ) → IsReal sight.nodes node → (0 < node → has_flag way node ≡ true)
      → sphere from - sphere node ≡ away node
  on_way_is node here on =
      let meet = meets_there sight shows from real node here way flagged node (comes_first sight from node here) on in
      let steps = steps_are sight shows from real node here node meet in
      omega (arith, steps)

  -- any other one is a step farther away than its parent
  pub off_way_is : (node : ℕ) → (here : IsReal sight.nodes node) → 0 < node → node < length parents
      → has_flag way node ≡ false
      → IsReal sight.nodes (slice_index parents node) × (away (slice_index parents node) + 1 ≡ away node)
  off_way_is node here some within off =
      let parent = slice_index parents node in
      let parent_place = comes_next sight shows from real node here way flagged node (comes_first sight from node here) some off
      parent refl in
      let both = parent_place.both in
      let ligand_branches = length_is sight shows from real in
      let far = length_is sight shows node here in
      let above = length_is sight shows parent parent_place.is_real in
      let next = sphere_next parents shows.node_data.whole.tree node some within in
      let low = common_low (path_at sight.nodes from) (path_at sight.nodes parent) in
      let short = common_short (path_at sight.nodes from) (path_at sight.nodes parent) in
      (parent_place.is_real, omega (arith, both, ligand_branches, far, above, next, low, short))

-- a table has as many nodes as were given
pub table_len : (node_data : List NodeData) (table : List ℕ) → table ≡ parents_of node_data → length table ≡ length node_data
table_len node_data table is = ap (λ (ps : List ℕ). length ps) is ∙ parents_len node_data

-- and the digraph has them
pub in_table : (sight : DigraphView) → Shows sight → (table : List ℕ) → table ≡ parents_of sight.node_data → (node : ℕ)
    → node < length sight.nodes → node < length table
in_table sight shows table is node within =
    let len = shows.node_data.len in
    let same = ap (λ (ps : List ℕ). length ps) is in
    omega (arith, within, len, same)

-- of no nodes
pub known_none : (sight : DigraphView) (from : ℕ) → KnowSteps sight from 0 []
known_none sight from = record {
  len = refl;
  each = λ node lt here. absurd (omega (arith, lt));
  few = λ node lt. absurd (omega (arith, lt));
}

-- one node more of which the steps are known
pub known_more : (sight : DigraphView) (from count next : ℕ) (steps : List ℕ) → KnowSteps sight from count steps
    → (IsReal sight.nodes count → next ≡ apart (path_at sight.nodes from) (path_at sight.nodes count))
    → next ≤ length sight.node_data + count → KnowSteps sight from (count + 1) (steps ++ next ∷ [])
known_more sight from count next steps known is few =
    let len = known.len in
    let here : slice_index (steps ++ next ∷ []) count ≡ next =
    ap (slice_index (steps ++ next ∷ [])) (sym len) ∙ get_or_push steps next 0 (length steps) refl in
    record {
      len = let sum = length-append steps (next ∷ []) in omega (arith, sum, len);
      each = λ node lt real. elim (cases_order node count) [
        | inl same ↦ ap (slice_index (steps ++ next ∷ [])) same ∙ here
            ∙ is (subst (IsReal sight.nodes) same real)
            ∙ ap (λ n. apart (path_at sight.nodes from) (path_at sight.nodes n)) (sym same)
        | inr (inl below) ↦ before node below ∙ known.each node below real
        | inr (inr above) ↦ absurd (omega (arith, lt, above))
      ];
      few = λ node lt. elim (cases_order node count) [
        | inl same ↦
            let at = ap (slice_index (steps ++ next ∷ [])) same ∙ here in omega (arith, at, few, same)
        | inr (inl below) ↦ let at = before node below in let low = known.few node below in omega (arith, at, low)
        | inr (inr above) ↦ absurd (omega (arith, lt, above))
      ];
    }
  where
    before : (node : ℕ) → node < count → slice_index (steps ++ next ∷ []) node ≡ slice_index steps node
    before node lt = get_or_append_left steps (next ∷ []) 0 node (let len = known.len in omega (arith, lt, len))
