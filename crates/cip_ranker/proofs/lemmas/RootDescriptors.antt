-- Descriptors that were found where they are requested are those of the nodes in branches that are unresolved.
use Rattle.std.proofs.Common.{◌≡◌, ◌<◌, ◌≤◌, ℕ, zero, suc, Bool, true, List, cond, length, None, slice_index, refl, sym, ap, ◌∙◌, arith, inl, inr}
use Rattle.std.specs.declared.option.Option.{Option}
use Rattle.std.proofs.lemmas.Bool.{cases_lt}
use Rattle.cip_arena.specs.Growth.{Growth, Holds}
use Rattle.cip_aux.specs.DescriptorsInside.{HaveDescriptors, flag_at, descriptor_at_node}
use Rattle.cip_aux.specs.Views.{DigraphView, sight_of}
use Rattle.cip_branches.specs.Deciding.{Branched, AreFollowed}
use Rattle.cip_branches.specs.Standing.{WantedIn}
use Rattle.cip_constitution.specs.FollowedOut.{AreConstituted, with_flags}
use Rattle.cip_constitution.specs.declared.pairs.VertexPair.{VertexPair}
use Rattle.cip_digraph.specs.digraph.Telling.{node_at}
use Rattle.cip_aux_rank.proofs.lemmas.Constituted.{place_low}
use Rattle.cip_aux.proofs.lemmas.FlaggedNodes.{set_len, set_stays, set_there}
use Rattle.cip_label.specs.Settings.{LabelContext}
use Rattle.cip_digraph.specs.declared.decisions.branch_pair.BranchPair.{BranchPair}
use Rattle.cip_mol.specs.declared.labels.descriptor.Descriptor.{Descriptor}
use Rattle.cip_partition.specs.Keys.{AreKeyed}
use Rattle.cip_partition.specs.Parting.{has_flag}
use Rattle.cip_ranker.specs.Rooting.{HoldDescriptors, whole_at}

module _ (now : Branched) (flags : List Bool) (keyed : AreKeyed (length flags) now.layers.place_tree) where
  abbrev node : ℕ → ℕ
  node place = slice_index now.layers.place_tree.nodes place

  abbrev is_set : ℕ → Bool
  is_set place = has_flag now.unresolved (slice_index now.layers.place_tree.branches place)

  flags_len : (count : ℕ) → length (with_flags now count flags) ≡ length flags
  flags_len zero = refl
  flags_len (suc place) = set_len (with_flags now place flags) (node place) (is_set place) ∙ flags_len place

  -- nodes in branches that are unresolved have flags
  flags_set : (count place : ℕ) → count ≤ length now.layers.place_tree.place_parents → place < count → is_set place ≡ true
      → flag_at (with_flags now count flags) (node place) ≡ true
  flags_set zero place few lt is = absurd (omega (arith, lt))
  flags_set (suc last) place few lt is =
      let before = with_flags now last flags in
      let low : node last < length before =
      let lt_last = keyed.each last (omega (arith, few)) in omega (arith, lt_last, flags_len last) in
      elim (cases_lt place last) [
        | inl inner ↦ set_stays before (node last) (node place) (is_set last) low
            (flags_set last place (omega (arith, few)) inner is)
        | inr out ↦
            let same : place ≡ last = omega (arith, lt, out) in
            ap (λ n. flag_at (with_flags now (suc last) flags) (node n)) same
            ∙ set_there before (node last) (is_set last) low (ap is_set (sym same) ∙ is)
      ]

  pub wanted_set : AreFollowed now → (t place : ℕ) → WantedIn now t place
      → flag_at (with_flags now (length now.layers.place_tree.place_parents) flags) (node place) ≡ true
  wanted_set followed t place p =
      flags_set (length now.layers.place_tree.place_parents) place (omega arith) (place_low now followed t place p.at) p.chosen

module _ (setting : LabelContext) (a : Growth) (h : Holds setting.graph setting.positions a) (pairs : List VertexPair)
    (now : Branched) (requested : List BranchPair)
    (are : AreConstituted setting.rules setting.graph setting.positions a pairs now requested) where
  abbrev sight : DigraphView
  sight = sight_of (whole_at setting a)

  pub hold_descriptors : (unresolved : List Bool) (descriptors : List (Option Descriptor))
      → ((t place : ℕ) → WantedIn now t place → flag_at unresolved (slice_index now.layers.place_tree.nodes place) ≡ true)
      → HaveDescriptors sight setting.units unresolved 0 descriptors → HoldDescriptors setting a now descriptors
  hold_descriptors unresolved descriptors flagged key_or_zero =
      let len : length descriptors ≡ length a.nodes =
      let len = key_or_zero.len in let node_data = h.tells.len in omega (arith, len, node_data) in
      let low : (t place : ℕ) → WantedIn now t place → slice_index now.layers.place_tree.nodes place < length a.nodes =
      λ t place p. are.keyed.each place (place_low now are.followed t place p.at) in
      record {
        len = len;
        each = record {
          within = λ t place p. let lt = low t place p in omega (arith, lt, len);
          each = λ t place p.
              let n = slice_index now.layers.place_tree.nodes place in
              key_or_zero.each n (omega arith) (let lt = low t place p in let node_data = h.tells.len in omega (arith, lt, node_data))
              ∙ ap (λ b. cond b (descriptor_at_node sight setting.units (node_at sight.nodes n)) None) (flagged t place p)
              ∙ ap (descriptor_at_node sight setting.units) (sym (are.names n (low t place p)));
        };
      }
