-- A rule begun, and taken one sphere further: what is found so far.
use Rattle.std.proofs.Common.{◌≡◌, ◌<◌, ℕ, ℤ, zero, suc, Bool, List, [], ◌∷◌, map, refl, ap, ◌∙◌}
use Rattle.std.specs.declared.option.Option.{Option}
use Rattle.std.specs.List.{AllByRecursion}
use Rattle.cip_mol.specs.declared.labels.descriptor.Descriptor.{Descriptor}
use Rattle.cip_mol.specs.declared.labels.outcome.Rule.{Rule}
use Rattle.cip_digraph.specs.declared.decisions.decision.Decision.{Decision}
use Rattle.cip_branches.specs.Deciding.{Branched, AreFollowed, FlagsOpen}
use Rattle.cip_branches.specs.Saving.{saved_of, restored}
use Rattle.cip_branches.specs.Standing.{WantedIn}
use Rattle.cip_branches.specs.Taking.{SplitsFirst, Deepens}
use Rattle.cip_branches.proofs.lemmas.refined.Kept.{same_itself}
use Rattle.cip_branches.proofs.lemmas.taken.Checkpoint.{put_back}
use Rattle.cip_branches.proofs.lemmas.taken.Among.{was_wanted}
use Rattle.cip_branches.proofs.lemmas.taken.Kept.{kept_on}
use Rattle.cip_digraph.specs.declared.decisions.branch_pair.BranchPair.{BranchPair}
use Rattle.cip_digraph.specs.Asking.{kept_or, with_found, found_between}
use Rattle.cip_rules.proofs.lemmas.FoundWithin.{with_both}
use Rattle.cip_rules.specs.Counting.{AppliesDescriptorRule}
use Rattle.cip_rules.specs.Taking.{AreSame, TakenTo, TakesSoFar, TakesRule, WantsNoMore}

abbrev Any : BranchPair → Type 0
Any one = Unit {0}

any_all : (pairs : List BranchPair) → AllByRecursion Any pairs
any_all [] = tt
any_all (one ∷ pairs) = (tt, any_all pairs)

module _ (begin : Branched) (keys : List ℤ) (rule : Rule) (pairs : List BranchPair) where
  pub so_far_begun : (now : Branched) (new : List BranchPair) → SplitsFirst begin.layers keys now.layers
      → FlagsOpen now.layers.ranked.numbers begin.unresolved now.unresolved → now.first ≡ begin.first → now.last ≡ begin.last
      → new ≡ map (with_found (found_between now.layers.ranked.numbers rule 0)) pairs
      → TakesSoFar begin keys rule pairs 0 now new
  so_far_begun now new splits chosen same_first same_last noted = record {
    found = found_between now.layers.ranked.numbers rule 0;
    taken = record { splits = splits; chosen = chosen; front = same_first; end = same_last; here = λ a b. refl };
    noted = noted;
  }

  pub so_far_on : (far : ℕ) (old now : Branched) (mid new : List BranchPair) → TakesSoFar begin keys rule pairs far old mid
      → far < old.last → Deepens old.layers far keys now.layers
      → FlagsOpen now.layers.ranked.numbers old.unresolved now.unresolved → now.first ≡ old.first → now.last ≡ old.last
      → new ≡ map (with_found (found_between now.layers.ranked.numbers rule (suc far))) mid
      → TakesSoFar begin keys rule pairs (suc far) now new
  so_far_on far old now mid new before lt deeper chosen same_first same_last noted =
      let here : ℕ → ℕ → Option Decision = found_between now.layers.ranked.numbers rule (suc far) in
      let both : ℕ → ℕ → Option Decision = λ a b. kept_or (before.found a b) (here a b) in
      record {
        found = both;
        taken = (
          old,
          before.found,
          before.taken,
          record { within = lt; deeper = deeper; chosen = chosen; front = same_first; end = same_last; here = λ a b. refl },
        );
        noted = noted ∙ ap (map (with_found here)) before.noted
            ∙ with_both before.found here both Any (λ one w. refl) pairs (any_all pairs);
      }

pub same_still : (begin : Branched) → AreSame begin begin
same_still begin = record {
  kept = record {
    places = same_itself begin.layers.ranked.rows begin.layers.starts;
    place_tree = refl;
    starts = refl;
    room = refl;
  };
  front = refl;
  end = refl;
  count = refl;
}

pub same_then : (begin mid now : Branched) → AreSame begin mid → AreSame mid now → AreSame begin now
same_then begin mid now one two = record {
  kept = kept_on begin.layers mid.layers now.layers one.kept two.kept;
  front = two.front ∙ one.front;
  end = two.end ∙ one.end;
  count = two.count ∙ one.count;
}

pub taken_same : (begin : Branched) (keys : List ℤ) (rule : Rule) (far : ℕ) (now : Branched)
    (found : ℕ → ℕ → Option Decision) → TakenTo begin keys rule far now found → AreSame begin now
taken_same begin keys rule zero now found begins = record {
  kept = begins.splits.kept;
  front = begins.front;
  end = begins.end;
  count = begins.chosen.len;
}
taken_same begin keys rule (suc far) now found steps =
    let before = taken_same begin keys rule far steps.0 steps.1 steps.2 in
    let goes = steps.3 in
    record {
      kept = kept_on begin.layers steps.0.layers now.layers before.kept goes.deeper.kept;
      front = goes.front ∙ before.front;
      end = goes.end ∙ before.end;
      count = goes.chosen.len ∙ before.count;
    }

pub same_branches : (begin : Branched) (keys : List ℤ) (rule : Rule) (pairs : List BranchPair) (now : Branched)
    (new : List BranchPair) → TakesRule begin keys rule pairs now new → AreSame begin now
same_branches begin keys rule pairs now new takes = taken_same begin keys rule takes.far now takes.so_far.found
    takes.so_far.taken

pub same_described : (descriptors : List (Option Descriptor)) (r_first : Bool) (rule : Rule) (begin : Branched)
    (pairs : List BranchPair) (now : Branched) (new : List BranchPair) → AppliesDescriptorRule descriptors r_first rule begin pairs now new
    → AreSame begin now
same_described descriptors r_first rule begin pairs now new key_or_zero = same_branches begin key_or_zero.keys rule pairs now new
    key_or_zero.takes

-- ranks that were set aside before let them be as they were
pub stands_back : (begin now : Branched) (room : ℕ) → AreFollowed begin → AreSame begin now
    → restored (saved_of room begin) now ≡ begin
stands_back begin now room followed same = put_back begin now room followed same.kept same.front same.end

taken_wanted : (begin : Branched) (keys : List ℤ) (rule : Rule) (far : ℕ) (now : Branched)
    (found : ℕ → ℕ → Option Decision) → TakenTo begin keys rule far now found
    → (t place : ℕ) → WantedIn now t place → WantedIn begin t place
taken_wanted begin keys rule zero now found begins t place p =
    was_wanted {N = ℕ} (λ n. []) (λ n. n) begin now begins.splits.kept begins.chosen begins.end t place p
taken_wanted begin keys rule (suc far) now found steps t place p =
    let goes = steps.3 in
    taken_wanted begin keys rule far steps.0 steps.1 steps.2 t place
    (was_wanted {N = ℕ} (λ n. []) (λ n. n) steps.0 now goes.deeper.kept goes.chosen goes.end t place p)

-- and of them no more are unresolved
pub fewer_wanted : (begin : Branched) (keys : List ℤ) (rule : Rule) (pairs : List BranchPair) (far : ℕ) (now : Branched)
    (new : List BranchPair) → TakesSoFar begin keys rule pairs far now new → WantsNoMore begin now
fewer_wanted begin keys rule pairs far now new takes = record {
  each = λ t place p. taken_wanted begin keys rule far now takes.found takes.taken t place p;
}

pub fewer_still : (one two three : Branched) → WantsNoMore one two → WantsNoMore two three → WantsNoMore one three
fewer_still one two three first second = record {
  each = λ t place p. first.each t place (second.each t place p);
}
