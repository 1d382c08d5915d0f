-- What is decided between pairs of branches, rule by rule. Own.
use Rattle.std.specs.Prelude.{ℕ, ◌+◌, ◌<◌, List, Bool, true, false, None, Some}
use Rattle.std.specs.declared.option.Option.{Option}
use Rattle.std.specs.declared.cmp.Ordering.{Ordering}
use Rattle.std.specs.declared.cmp.Ordering.TheVariants.{Less, Equal, Greater}
use Rattle.cip_rank.specs.Ranking.{by_number}
use Rattle.cip_mol.specs.declared.labels.outcome.Rule.{Rule}
use Rattle.cip_digraph.specs.rules.Decisions.{Difference}
use Rattle.cip_digraph.specs.declared.decisions.decision.Decision.{Decision}
use Rattle.cip_digraph.specs.declared.decisions.branch_pair.BranchPair.{BranchPair}

abbrev pub is_decided : BranchPair → Bool
is_decided pairs = elim pairs.decision as (λ _. Bool) [ None ↦ false | Some found ↦ true ]

-- it asks about two of n places
abbrev pub AreWithin : ℕ → BranchPair → Type 0
AreWithin count pairs = (pairs.first < count) × (pairs.second < count)

-- what a rule decides by a difference
abbrev pub decided : Rule → Option Difference → Option Decision
decided rule None = None
decided rule (Some found) = Some (record { side = found.side; rule = rule; sphere = found.depth + 1 })

abbrev pub kept_or : Option Decision → Option Decision → Option Decision
kept_or None later = later
kept_or (Some found) later = Some found

-- what was decided stays, and where nothing was, this is
abbrev pub with_found : (ℕ → ℕ → Option Decision) → BranchPair → BranchPair
with_found find pairs = record pairs { decision = kept_or pairs.decision (find pairs.first pairs.second) }

-- a difference at one depth
abbrev pub differing : ℕ → Ordering → Option Difference
differing depth Less = Some (record { side = Less; depth = depth })
differing depth Equal = None
differing depth Greater = Some (record { side = Greater; depth = depth })

abbrev pub found_between : List ℕ → Rule → ℕ → ℕ → ℕ → Option Decision
found_between numbers rule depth a b = decided rule (differing depth (by_number numbers a b))
