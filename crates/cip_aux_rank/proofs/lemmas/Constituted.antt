-- Branches that were followed, and by Rules 1b and 2 what is open between them.
use Rattle.std.proofs.Common.{◌≡◌, ◌<◌, ◌≤◌, ◌∷◌, ℕ, pos, true, List, [], map, length, slice_index, refl, sym, ap, ◌∙◌, subst, arith, inl, inr}
use Rattle.std.specs.declared.option.Option.{Option}
use Rattle.std.specs.List.{AllByRecursion, list_all}
use Rattle.std.proofs.lemmas.Bool.{cases_order}
use Rattle.cip_mol.specs.declared.labels.descriptor.Descriptor.{Descriptor}
use Rattle.cip_mol.specs.declared.labels.outcome.Rule.TheVariants.{R1a, R1b, R2, R3}
use Rattle.cip_digraph.specs.declared.decisions.decision.Decision.{Decision}
use Rattle.cip_digraph.specs.digraph.Digraph.{Node}
use Rattle.cip_digraph.specs.digraph.NodeList.{parents_of}
use Rattle.cip_digraph.specs.digraph.Telling.{node_at}
use Rattle.cip_digraph.specs.rules.Decisions.{difference_by, first_decision}
use Rattle.cip_branches.specs.Deciding.{Branched, AreFollowed}
use Rattle.cip_partition.specs.PlaceTree.{PlaceTree}
use Rattle.cip_partition.specs.Keys.{AreKeyed}
use Rattle.cip_branches.specs.Standing.{node_in, WantedIn, AreKeysOf}
use Rattle.cip_branches.specs.Turning.{in_sphere}
use Rattle.cip_rank.specs.View.{on_way}
use Rattle.cip_aux.proofs.lemmas.WholeTold.{parents_len}
use Rattle.cip_digraph.specs.declared.decisions.branch_pair.BranchPair.{BranchPair}
use Rattle.cip_digraph.specs.Asking.{AreWithin, is_decided, with_found}
use Rattle.cip_rules.specs.Deciding.{AreOfConstitution}
use Rattle.cip_rules.specs.Taking.{WantsNoMore}
use Rattle.cip_rules.proofs.lemmas.FoundWithin.{same_found}
use Rattle.cip_rules.proofs.lemmas.RulesReady.{ready_early}
use Rattle.cip_aux.specs.Views.{DigraphView, Shows}
use Rattle.cip_aux_rank.specs.Keys.{distance_keys}
use Rattle.cip_digraph.specs.declared.nodes.NodeData.{NodeData}
use Rattle.cip_rules.specs.NodeKeys.{mass_keys}
use Rattle.cip_rules.proofs.lemmas.NodeKeys.{keys_at}
use Rattle.cip_aux_rank.specs.LigandBranches.{ArePlaced, AreFollowedFrom, AreConstituted, seen_at, top_node}
use Rattle.cip_aux_rank.proofs.lemmas.NodeKeys.{distance_key_is}

-- a place of a sphere is one of all
pub place_low : (now : Branched) → AreFollowed now → (t place : ℕ)
    → in_sphere now.layers.ranked.rows now.layers.starts t place → place < length now.layers.place_tree.place_parents
place_low now followed t place at =
    let places = followed.places now.unresolved in
    let few = followed.within in
    elim (cases_order t now.last) [
      | inl last ↦ places.high place (subst (λ s. in_sphere now.layers.ranked.rows now.layers.starts s place) last at)
      | inr (inl inner) ↦ let low = places.inner t place inner at in omega (arith, low, few)
      | inr (inr outer) ↦
          let most = followed.ranked.spheres.ends t at.row at.low at.high in
          absurd (omega (arith, outer, most))
    ]

module _ (sight : DigraphView) (node : ℕ) (tops : List ℕ) (begin : List BranchPair)
    (within : AllByRecursion (AreWithin (length tops)) begin) where
  abbrev named : ℕ → Node
  named = node_at sight.nodes

  -- the first places have the nodes at the tops
  pub by_tops : (now : Branched) → ArePlaced sight node tops now → (find : Node → Node → Option Decision)
      → map (with_found (λ a b. find (node_in named now a) (node_in named now b))) begin
      ≡ map (with_found (λ a b. find (top_node sight tops a) (top_node sight tops b))) begin
  by_tops now placed find =
      same_found (λ a b. find (node_in named now a) (node_in named now b))
      (λ a b. find (top_node sight tops a) (top_node sight tops b)) (AreWithin (length tops))
      (λ one w. ap (λ n. find (named n) (node_in named now one.second)) (placed.top one.first w.0)
      ∙ ap (λ n. find (top_node sight tops one.first) (named n)) (placed.top one.second w.1)) begin within

  constituted_by : (now : Branched) (requested : List BranchPair) → ArePlaced sight node tops now
      → ((descriptor : List ℕ → Option Descriptor) → AreOfConstitution (seen_at sight node descriptor) named (node_in named now)
      (length tops) begin now requested) → AreConstituted sight node tops now begin requested
  constituted_by now requested placed decided = record {
    placed = placed;
    decided = decided;
    noted = λ descriptor. (decided descriptor).noted
        ∙ by_tops now placed (λ m n. first_decision (difference_by (seen_at sight node descriptor) true m n)
        (R1a ∷ R1b ∷ R2 ∷ []));
  }

  module _ (old : Branched) (requested : List BranchPair) (followed : AreFollowedFrom sight node tops old begin requested) where
    -- Rule 1a decided all pairs
    pub constituted_early : list_all is_decided requested ≡ true → AreConstituted sight node tops old begin requested
    constituted_early done = constituted_by old requested followed.placed (λ descriptor.
        ready_early (seen_at sight node descriptor) true named (node_in named old) (length tops) begin within R1b R3
        (R1b ∷ R2 ∷ []) refl old requested (record {
          noted = (followed.decided descriptor).noted;
          stands = λ undone. followed.decided descriptor;
        }) done)

    module _ (shows : Shows sight) (descriptor : List ℕ → Option Descriptor) where
      told_len : length sight.nodes ≡ length sight.node_data
      told_len = shows.node_data.len ∙ parents_len sight.node_data

      node_low : (t place : ℕ) → WantedIn old t place → slice_index old.layers.place_tree.nodes place < length sight.node_data
      node_low t place p = followed.placed.keyed.each place (place_low old followed.placed.followed t place p.at)

      pub distances_are : AreKeysOf named (seen_at sight node descriptor).distance (distance_keys sight node) old
      distances_are = record {
        each = λ t place p. distance_key_is sight node (slice_index old.layers.place_tree.nodes place) (node_low t place p);
      }

      pub masses_are : AreKeysOf named (seen_at sight node descriptor).mass (mass_keys sight.node_data) old
      masses_are = record {
        each = λ t place p.
            let number = slice_index old.layers.place_tree.nodes place in
            let low = node_low t place p in
            keys_at (λ (node_data : NodeData). pos node_data.mass) sight.node_data number low
            ∙ ap pos (shows.node_data.each number (omega (arith, low, told_len))).mass;
      }

    -- Rules 1b and 2 decided what was open
    pub constituted_next : (now : Branched) (new : List BranchPair) → AreFollowed now → now.layers.place_tree ≡ old.layers.place_tree
        → WantsNoMore old now
        → ((descriptor : List ℕ → Option Descriptor) → AreOfConstitution (seen_at sight node descriptor) named (node_in named old)
        (length tops) begin now new) → AreConstituted sight node tops now begin new
    constituted_next now new stands place_tree fewer decided =
        let before = followed.placed in
        constituted_by now new (record {
          followed = stands;
          keyed = subst (AreKeyed (length sight.node_data)) (sym place_tree) before.keyed;
          few = subst (λ (k : PlaceTree). length k.place_parents ≤ length sight.node_data) (sym place_tree) before.few;
          top = λ k lt. ap (λ (n : PlaceTree). slice_index n.nodes k) place_tree ∙ before.top k lt;
          low = λ t place p. subst (λ (n : PlaceTree). slice_index n.branches place < length tops) (sym place_tree)
              (before.low t place (fewer.each t place p));
          hang = record {
            each = λ t place p.
                subst (λ (n : PlaceTree). 0 < slice_index tops (slice_index n.branches place)
                → slice_index (parents_of sight.node_data) (slice_index tops (slice_index n.branches place)) ≡ node
                → on_way (parents_of sight.node_data) (slice_index n.nodes place)
                (slice_index tops (slice_index n.branches place)) ≡ true) (sym place_tree)
                (before.hang.each t place (fewer.each t place p));
          };
        }) (λ descriptor. subst (λ (k : PlaceTree). AreOfConstitution (seen_at sight node descriptor) named
        (λ a. named (slice_index k.nodes a)) (length tops) begin now new) (sym place_tree) (decided descriptor))
