-- Rules taken one after another over the places of branches.
use Rattle.std.proofs.Common.{◌≡◌, ◌<◌, ◌≤◌, ℕ, ℤ, suc, List, length, refl, arith}
use Rattle.std.specs.declared.cmp.Ordering.{Ordering}
use Rattle.std.specs.Cmp.{IsTotalOrder}
use Rattle.cip_rank.specs.Comparison.{comparison}
use Rattle.cip_branches.specs.Among.{AreShownAmong, StandsAmong, IsTakenAmong}
use Rattle.cip_branches.specs.Deciding.{Branched, AreFollowed, AreDecided, FlagsOpen}
use Rattle.cip_branches.specs.Standing.{node_in, WantedIn, AreKeysOf, AreShown, StandsBy, IsTaken}
use Rattle.cip_branches.specs.Taking.{SplitsFirst, Deepens}
use Rattle.cip_branches.specs.Views.{IsEnded}
use Rattle.cip_branches.proofs.lemmas.taken.Among.{rule_begun, rule_deeper, rule_stands as stands_among}

-- all branches
abbrev pub AllOf : ℕ → ℕ → Type 0
AllOf count k = k < count

module _ {N : Type 0} (children : N → List N) (named : ℕ → N) where
  shown_all : (now : Branched) → AreShown children named now
      → AreShownAmong (AllOf (length now.unresolved)) children named now
  shown_all now shown = record {
    view = shown.view;
    inherits = shown.inherits;
    top = shown.top;
    branch = shown.branch;
    inside = λ k lt. lt;
  }

  shown_back : (now : Branched) (count : ℕ) → length now.unresolved ≡ count
      → AreShownAmong (AllOf count) children named now → AreShown children named now
  shown_back now count len shown = record {
    view = shown.view;
    inherits = shown.inherits;
    top = λ k lt. shown.top k (omega (arith, lt, len));
    branch = λ k lt. shown.branch k (omega (arith, lt, len));
  }

  module _ (compare : N → N → Ordering) where
    pub stand_all : (now : Branched) → StandsBy children named compare now
        → StandsAmong (AllOf (length now.unresolved)) children named compare now
    stand_all now stands = record {
      shown = shown_all now stands.shown;
      tops = record { node_data = stands.tops.node_data; tie = stands.tops.tie };
      ordered = stands.ordered;
    }

    pub stand_back : (now : Branched) (count : ℕ) → length now.unresolved ≡ count
        → StandsAmong (AllOf count) children named compare now → StandsBy children named compare now
    stand_back now count len stands = record {
      shown = shown_back now count len stands.shown;
      tops = record {
        node_data = λ a b la lb. stands.tops.node_data a b (omega (arith, la, len)) (omega (arith, lb, len));
        tie = λ a b la lb. stands.tops.tie a b (omega (arith, la, len)) (omega (arith, lb, len));
      };
      ordered = stands.ordered;
    }

  module _ (earlier : N → N → Ordering) (o : IsTotalOrder earlier) (key : N → ℤ) where
    pub taken_all : (far : ℕ) (now : Branched) → IsTaken children named earlier key far now
        → IsTakenAmong (AllOf (length now.unresolved)) children named earlier key far now
    taken_all far now taken = record {
      shown = shown_all now taken.shown;
      tops = record { node_data = taken.tops.node_data; tie = taken.tops.tie };
      reaches = taken.reaches;
      ahead = taken.ahead;
    }

    pub taken_back : (far : ℕ) (now : Branched) (count : ℕ) → length now.unresolved ≡ count
        → IsTakenAmong (AllOf count) children named earlier key far now → IsTaken children named earlier key far now
    taken_back far now count len taken = record {
      shown = shown_back now count len taken.shown;
      tops = record {
        node_data = λ a b la lb. taken.tops.node_data a b (omega (arith, la, len)) (omega (arith, lb, len));
        tie = λ a b la lb. taken.tops.tie a b (omega (arith, la, len)) (omega (arith, lb, len));
      };
      reaches = taken.reaches;
      ahead = taken.ahead;
    }

    -- a rule begins over the present numbers, and is taken one sphere further
    module _ (old new : Branched) (keys : List ℤ) (same : AreKeysOf named key keys old)
        (chosen : FlagsOpen new.layers.ranked.numbers old.unresolved new.unresolved) (last : new.last ≡ old.last) where
      pub begun_taken : StandsBy children named earlier old → SplitsFirst old.layers keys new.layers
          → IsTaken children named earlier key 0 new
      begun_taken stands splits = taken_back 0 new (length old.unresolved) chosen.len
          (rule_begun (AllOf (length old.unresolved)) children named earlier o key old new keys same chosen last
          (stand_all earlier old stands) splits)

      pub deeper_taken : (far : ℕ) → far < old.last → IsTaken children named earlier key far old
          → Deepens old.layers far keys new.layers → IsTaken children named earlier key (suc far) new
      deeper_taken far within taken deeper = taken_back (suc far) new (length old.unresolved) chosen.len
          (rule_deeper (AllOf (length old.unresolved)) children named earlier o key old new keys same chosen last far within
          (taken_all far old taken) deeper)

    -- a rule that was taken to the end is decided, at each depth that reaches it
    pub rule_stands : (now : Branched) → IsEnded children (node_in named now) (WantedIn now) now.last
        → IsTaken children named earlier key now.last now → (depth : ℕ) → now.last ≤ depth
        → StandsBy children named (comparison children earlier key depth) now
    rule_stands now ends taken depth le = stand_back (comparison children earlier key depth) now
        (length now.unresolved) refl
        (stands_among (AllOf (length now.unresolved)) children named earlier o key now ends
        (taken_all now.last now taken) depth le)

    -- what was followed by a rule is taken as far as the last sphere
    pub followed_taken : (now : Branched) → AreDecided children earlier key named now
        → IsTaken children named earlier key now.last now
    followed_taken now decided = record {
      shown = record {
        view = decided.ruled.view;
        inherits = decided.ruled.inherits;
        top = decided.top;
        branch = decided.branch;
      };
      tops = record { node_data = decided.node_data; tie = decided.tie };
      reaches = decided.ruled.reaches;
      ahead = record {
        each = λ t beyond. record {
          each = λ a b p q. let in_view = decided.ruled.view.within t a p in absurd (omega (arith, beyond, in_view));
        };
      };
    }

-- where the last sphere has no place, unresolved branches have ended
pub ended_before : {N : Type 0} (children : N → List N) (named : ℕ → N) (now : Branched) → AreFollowed now
    → now.first ≡ length now.layers.place_tree.place_parents → IsEnded children (node_in named now) (WantedIn now) now.last
ended_before children named now followed at_end = record {
  none = λ place p.
      let places = followed.places now.unresolved in
      let low = places.low place p.at in
      let high = places.high place p.at in
      absurd (omega (arith, low, high, at_end));
}
