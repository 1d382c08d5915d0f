-- What Rules 3 to 5 decide between branches by the descriptors that count.
use Rattle.std.proofs.Common.{◌++◌, ◌∷◌, [], cond, eq-eqb, ne_eqb, inl, inr, ◌≡◌, ◌<◌, ℕ, Bool, true, false, List, map, length, slice_index, slice_index_or, sym, ap, ◌∙◌, subst, arith, None}
use Rattle.std.specs.List.{AllByRecursion}
use Rattle.std.specs.declared.option.Option.{Option}
use Rattle.std.proofs.lemmas.Bool.{cases_order}
use Rattle.cip_rank.specs.Tree.{IsTree, children_of}
use Rattle.cip_rank.proofs.lemmas.Children.{IsChild, children_are}
use Rattle.cip_rank.specs.View.{on_way, parent_list}
use Rattle.cip_rank.proofs.lemmas.ChildrenSeen.{all_append, all_at, all_kept}
use Rattle.cip_partition.specs.Parting.{has_flag}
use Rattle.cip_branches.specs.Deciding.{Branched}
use Rattle.cip_partition.specs.Keys.{AreKeyed}
use Rattle.cip_branches.specs.Standing.{node_in, WantedIn}
use Rattle.cip_mol.specs.declared.labels.descriptor.Descriptor.{Descriptor}
use Rattle.cip_digraph.specs.digraph.NodeList.{parents_of}
use Rattle.cip_digraph.specs.digraph.Telling.{node_at}
use Rattle.cip_digraph.specs.rules.Decisions.{order}
use Rattle.cip_digraph.specs.declared.decisions.branch_pair.BranchPair.{BranchPair}
use Rattle.cip_digraph.specs.Asking.{AreWithin, with_found}
use Rattle.cip_rules.specs.DescriptorMap.{AreDescriptorsOf}
use Rattle.cip_digraph.proofs.lemmas.lists.Elements.{all_by}
use Rattle.cip_aux.specs.Below.{is_below}
use Rattle.cip_aux.proofs.lemmas.WholeTold.{parents_len}
use Rattle.cip_aux.specs.InnerContext.{InnerContext, AgreesInside, Ready}
use Rattle.cip_aux.specs.Views.{DigraphView}
use Rattle.cip_aux_rank.specs.NodeDescriptors.{descriptors_below}
use Rattle.cip_aux_rank.specs.LigandBranches.{AreTops, ArePlaced, AreOrdered, described_by, seen_at}
use Rattle.cip_aux_rank.proofs.lemmas.Constituted.{by_tops, place_low}
use Rattle.cip_aux_rank.proofs.lemmas.CountedDescriptors.{below_behind, descriptor_is, descriptors_len}
use Rattle.cip_aux_rank.proofs.lemmas.HangingPlaces.{way_low, way_parent}

-- pairs have the order of the branches' nodes, and these are at the tops
pub ordered_by : (sight : DigraphView) (node : ℕ) (tops : List ℕ) (begin : List BranchPair)
    → AllByRecursion (AreWithin (length tops)) begin → (now : Branched) → ArePlaced sight node tops now
    → (descriptor : List ℕ → Option Descriptor) (requested turned : List BranchPair)
    → (requested ≡ map (with_found (λ a b. order (seen_at sight node descriptor) true (node_in (node_at sight.nodes) now a)
    (node_in (node_at sight.nodes) now b))) begin)
    × (turned ≡ map (with_found (λ a b. order (seen_at sight node descriptor) false (node_in (node_at sight.nodes) now a)
    (node_in (node_at sight.nodes) now b))) begin)
    → AreOrdered sight node descriptor tops begin requested turned
ordered_by sight node tops begin within now placed descriptor requested turned both = record {
  natural = both.0 ∙ by_tops sight node tops begin within now placed (order (seen_at sight node descriptor) true);
  other = both.1 ∙ by_tops sight node tops begin within now placed (order (seen_at sight node descriptor) false);
}

module _ (inner : InnerContext) (node : ℕ) (r : Ready inner node) (tops : List ℕ) (now : Branched)
    (placed : ArePlaced inner.sight node tops now) where
  abbrev counted : List (Option Descriptor)
  counted = descriptors_below (parents_of inner.sight.node_data) inner.from inner.descriptors

  told_len : length counted ≡ length inner.sight.node_data
  told_len = descriptors_len (parents_of inner.sight.node_data) inner.from inner.descriptors ∙ parents_len inner.sight.node_data

  pub counted_keyed : AreKeyed (length counted) now.layers.place_tree
  counted_keyed = subst (λ n. AreKeyed n now.layers.place_tree) (sym told_len) placed.keyed

  -- the descriptors that count are those of the nodes at all places
  pub counted_are : (descriptor : List ℕ → Option Descriptor) → AgreesInside inner descriptor
      → AreDescriptorsOf (node_at inner.sight.nodes) (described_by descriptor) counted now
  counted_are descriptor agrees = record {
    within = λ t place p. counted_keyed.each place (place_low now placed.followed t place p.at);
    each = λ t place p.
        let number = slice_index now.layers.place_tree.nodes place in
        let low = counted_keyed.each place (place_low now placed.followed t place p.at) in
        let few = descriptors_len (parents_of inner.sight.node_data) inner.from inner.descriptors in
        let len = r.shows.node_data.len in
        descriptor_is (parents_of inner.sight.node_data) inner.from inner.descriptors number low
        ∙ agrees.each number (omega (arith, low, few, len));
  }

module _ (ps : List ℕ) (tree : IsTree ps) (node : ℕ) (inside : node < length ps) where
  -- the parent is before the node
  parent_before : (test : ℕ → Bool) → AllByRecursion (λ top. node < top → IsChild ps node top) (parent_list ps node)
  parent_before test = elim (cases_order 0 node) [
    | inl first ↦
        subst (AllByRecursion (λ top. node < top → IsChild ps node top))
        (sym (ap (λ b. cond b [] (slice_index ps node ∷ [])) (eq-eqb node 0 (sym first)))) tt
    | inr (inl some) ↦
        let behind = tree.behind node some inside in
        subst (AllByRecursion (λ top. node < top → IsChild ps node top))
        (sym (ap (λ b. cond b [] (slice_index ps node ∷ [])) (ne_eqb node 0 (λ e. absurd (omega (arith, e, some))))))
        ((λ more. absurd (omega (arith, more, behind))), tt)
    | inr (inr less) ↦ absurd (omega (arith, less))
  ]

  -- a neighbour after the node is a child
  top_child : (tops : List ℕ) → AreTops ps node tops → (branch : ℕ) → branch < length tops
      → node < slice_index tops branch → IsChild ps node (slice_index tops branch)
  top_child tops are branch low behind =
      let P : ℕ → Type 0 = λ top. node < top → IsChild ps node top in
      let all : AllByRecursion P (children_of ps node ++ parent_list ps node) =
      all_append P (children_of ps node) (parent_list ps node)
      (all_by (IsChild ps node) P (λ top child more. child) (children_of ps node) (children_are ps node))
      (parent_before are.test) in
      all_at P tops branch (subst (AllByRecursion P) (sym are.are)
      (all_kept P are.test (children_of ps node ++ parent_list ps node) all)) low behind

-- Where all branches that are unresolved lead down from the node whose descriptors count, all of their nodes are below
-- it.
module _ (inner : InnerContext) (node : ℕ) (r : Ready inner node) (tops : List ℕ)
    (are : AreTops (parents_of inner.sight.node_data) node tops) (now : Branched)
    (placed : ArePlaced inner.sight node tops now) (from_is : inner.from ≡ node)
    (behind : (branch : ℕ) → branch < length tops → has_flag now.unresolved branch ≡ true
    → node < slice_index tops branch) where
  abbrev ps : List ℕ
  ps = parents_of inner.sight.node_data

  is_inside : (t place : ℕ) → WantedIn now t place
      → is_below ps inner.from (slice_index now.layers.place_tree.nodes place) ≡ true
  is_inside t place p =
      let tree = r.shows.node_data.whole.tree in
      let len = r.shows.node_data.len in
      let within = r.real.within in
      let n = slice_index now.layers.place_tree.nodes place in
      let branch = slice_index now.layers.place_tree.branches place in
      let low = placed.low t place p in
      let more = behind branch low p.chosen in
      let child = top_child ps tree node (omega (arith, within, len)) tops are branch low more in
      let top = slice_index tops branch in
      let number = placed.keyed.each place (place_low now placed.followed t place p.at) in
      let few : n < length ps = omega (arith, number, parents_len inner.sight.node_data) in
      let way = placed.hang.each t place p child.behind child.parent in
      let high = way_low ps tree n top few way in
      let parent_place : on_way ps n inner.from ≡ true =
      ap (on_way ps n) (from_is ∙ sym child.parent) ∙ way_parent ps tree n top few child.behind way in
      below_behind ps tree inner.from n few (omega (arith, from_is, more, high)) ∙ parent_place

  pub descriptors_keyed : AreKeyed (length inner.descriptors) now.layers.place_tree
  descriptors_keyed =
      let len = r.shows.node_data.len in
      let many = r.descriptors in
      let same : length inner.sight.node_data ≡ length inner.descriptors =
      omega (arith, len, many, parents_len inner.sight.node_data) in
      subst (λ n. AreKeyed n now.layers.place_tree) same placed.keyed

  pub descriptors_are : (descriptor : List ℕ → Option Descriptor) → AgreesInside inner descriptor
      → AreDescriptorsOf (node_at inner.sight.nodes) (described_by descriptor) inner.descriptors now
  descriptors_are descriptor agrees = record {
    within = λ t place p. descriptors_keyed.each place (place_low now placed.followed t place p.at);
    each = λ t place p.
        let n = slice_index now.layers.place_tree.nodes place in
        let low = descriptors_keyed.each place (place_low now placed.followed t place p.at) in
        let many = r.descriptors in
        sym (ap (λ b. cond b (slice_index_or inner.descriptors n None) None) (is_inside t place p))
        ∙ agrees.each n (omega (arith, low, many));
  }
