-- A rule that looks at descriptors, taken by their keys, and passed over where none counts.
use Rattle.std.proofs.Common.{◌≡◌, Bool, true, false, List, [], map, refl, sym, slice_index}
use Rattle.std.specs.Prelude.{None, Some, pos}
use Rattle.std.specs.List.{slice_index_or}
use Rattle.std.specs.declared.option.Option.{Option}
use Rattle.std.proofs.lemmas.List.{get_or-map}
use Rattle.cip_mol.specs.declared.labels.descriptor.Descriptor.{Descriptor}
use Rattle.cip_mol.specs.declared.labels.descriptor.Descriptor.TheVariants as letters
use Rattle.cip_mol.specs.declared.labels.outcome.Rule.{Rule}
use Rattle.cip_mol.specs.declared.labels.outcome.Rule.TheVariants.{R5}
use Rattle.cip_branches.specs.Deciding.{Branched, AreFollowed}
use Rattle.cip_digraph.specs.declared.decisions.branch_pair.BranchPair.{BranchPair}
use Rattle.cip_digraph.specs.Asking.{found_between, with_found}
use Rattle.cip_rules.specs.Counting.{AreUncounted, AppliesDescriptorRule}
use Rattle.cip_rules.specs.Orders.{key_of_descriptor}
use Rattle.cip_rules.specs.Taking.{TakesRule}
use Rattle.cip_rules.proofs.lemmas.TakenNone.{none_taken}

module _ (descriptors : List (Option Descriptor)) (begin : Branched) (pairs new : List BranchPair) where
  pub taken_by_descriptors : (r_first : Bool) (rule : Rule) (now : Branched)
      → TakesRule begin (map (key_of_descriptor r_first rule) descriptors) rule pairs now new
      → AppliesDescriptorRule descriptors r_first rule begin pairs now new
  taken_by_descriptors r_first rule now takes = record {
    keys = map (key_of_descriptor r_first rule) descriptors;
    same = λ t place p lt. get_or-map (key_of_descriptor r_first rule) descriptors (slice_index begin.layers.place_tree.nodes place) None
        (pos 0) lt;
    takes = takes;
  }

  pub taken_by_none : (r_first : Bool) (rule : Rule) → AreFollowed begin → AreUncounted descriptors r_first rule begin
      → new ≡ map (with_found (found_between begin.layers.ranked.numbers rule 0)) pairs
      → AppliesDescriptorRule descriptors r_first rule begin pairs begin new
  taken_by_none r_first rule followed none noted = record {
    keys = [];
    same = λ t place p lt. sym (none.each t place p);
    takes = none_taken begin followed rule pairs new noted;
  }

-- what counts for nothing where kind R has precedence does so where kind S has it
turned_key : (descriptor : Option Descriptor) → key_of_descriptor true R5 descriptor ≡ pos 0 → key_of_descriptor false R5 descriptor ≡ pos 0
turned_key None e = refl
turned_key (Some letters.R) e = let bad : pos 2 ≡ pos 0 = e in cc
turned_key (Some letters.S) e = let bad : pos 1 ≡ pos 0 = e in cc
turned_key (Some letters.SmallR) e = refl
turned_key (Some letters.SmallS) e = refl
turned_key (Some letters.Z) e = refl
turned_key (Some letters.E) e = refl
turned_key (Some letters.M) e = let bad : pos 2 ≡ pos 0 = e in cc
turned_key (Some letters.P) e = let bad : pos 1 ≡ pos 0 = e in cc
turned_key (Some letters.SmallM) e = refl
turned_key (Some letters.SmallP) e = refl
turned_key (Some letters.SeqCis) e = let bad : pos 2 ≡ pos 0 = e in cc
turned_key (Some letters.SeqTrans) e = let bad : pos 1 ≡ pos 0 = e in cc

pub uncounted_turned : (descriptors : List (Option Descriptor)) (now : Branched) → AreUncounted descriptors true R5 now
    → AreUncounted descriptors false R5 now
uncounted_turned descriptors now none = record {
  each = λ t place p.
      turned_key (slice_index_or descriptors (slice_index now.layers.place_tree.nodes place) None) (none.each t place p);
}
