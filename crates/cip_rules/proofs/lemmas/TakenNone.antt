-- A rule for which no node counts, taken over branches: the numbers are unchanged.
use Rattle.std.proofs.Common.{◌≡◌, ◌<◌, ◌≤◌, ℕ, zero, suc, List, [], map, refl, arith}
use Rattle.std.specs.declared.cmp.Ordering.{Ordering}
use Rattle.std.specs.declared.cmp.Ordering.TheVariants.{Less, Equal, Greater}
use Rattle.std.specs.declared.option.Option.{Option}
use Rattle.cip_rank.specs.Ranking.{by_number}
use Rattle.cip_mol.specs.declared.labels.outcome.Rule.{Rule}
use Rattle.cip_digraph.specs.declared.decisions.decision.Decision.{Decision}
use Rattle.cip_branches.specs.Deciding.{Branched, AreFollowed}
use Rattle.cip_branches.specs.Taking.{Deepens, SplitsFirst}
use Rattle.cip_branches.proofs.lemmas.taken.Even.{deeper_even, stay, then_told}
use Rattle.cip_digraph.specs.declared.decisions.branch_pair.BranchPair.{BranchPair}
use Rattle.cip_digraph.specs.Asking.{decided, differing, found_between, kept_or, with_found}
use Rattle.cip_rules.specs.Taking.{TakenTo, TakesRule}

-- what was found at the first depth stays, where no number changes
found_stays : (rule : Rule) (depth : ℕ) (r : Ordering) → decided rule (differing 0 r)
    ≡ kept_or (decided rule (differing 0 r)) (decided rule (differing depth r))
found_stays rule depth Less = refl
found_stays rule depth Equal = refl
found_stays rule depth Greater = refl

module _ (begin : Branched) (followed : AreFollowed begin) (rule : Rule) where
  abbrev numbers : List ℕ
  numbers = begin.layers.ranked.numbers

  splits : SplitsFirst begin.layers [] begin.layers
  splits = record {
    kept = stay begin.layers;
    split = record { each = λ a b p q. then_told (by_number numbers a b) };
    others = λ t place differ p. refl;
  }

  deeper : (far : ℕ) → far < begin.last → Deepens begin.layers far [] begin.layers
  deeper far lt = deeper_even begin.layers begin.last followed.ranked far lt []
      (record { each = λ a b p q tie. refl })

  abbrev found : ℕ → ℕ → Option Decision
  found a b = found_between numbers rule 0 a b

  taken_to : (far : ℕ) → far ≤ begin.last → TakenTo begin [] rule far begin found
  taken_to zero le = record {
    splits = splits;
    chosen = followed.chosen.tie;
    front = refl;
    end = refl;
    here = λ a b. refl;
  }
  taken_to (suc far) le = (
    begin,
    found,
    taken_to far (omega (arith, le)),
    record {
      within = omega (arith, le);
      deeper = deeper far (omega (arith, le));
      chosen = followed.chosen.tie;
      front = refl;
      end = refl;
      here = λ a b. found_stays rule (suc far) (by_number numbers a b);
    },
  )

  pub none_taken : (pairs new : List BranchPair) → new ≡ map (with_found found) pairs
      → TakesRule begin [] rule pairs begin new
  none_taken pairs new noted = record {
    far = begin.last;
    within = omega arith;
    so_far = record { found = found; taken = taken_to begin.last (omega arith); noted = noted };
    early = λ lt. absurd (omega (arith, lt));
  }
