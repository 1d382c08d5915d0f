-- A rule taken over branches depth by depth, and what it finds between them on the way. Own.
use Rattle.std.specs.Prelude.{◌≡◌, ◌<◌, ◌≤◌, ℕ, ℤ, zero, suc, true, List, length, map}
use Rattle.std.specs.declared.option.Option.{Option}
use Rattle.std.specs.List.{list_all}
use Rattle.cip_mol.specs.declared.labels.outcome.Rule.{Rule}
use Rattle.cip_digraph.specs.declared.decisions.decision.Decision.{Decision}
use Rattle.cip_branches.specs.Deciding.{Branched, FlagsOpen}
use Rattle.cip_branches.specs.Standing.{WantedIn}
use Rattle.cip_branches.specs.Taking.{KeepsPlaces, SplitsFirst, Deepens}
use Rattle.cip_digraph.specs.declared.decisions.branch_pair.BranchPair.{BranchPair}
use Rattle.cip_digraph.specs.Asking.{is_decided, kept_or, with_found, found_between}

-- a rule begins, and finds what the tops' numbers say
pub record BeginsRule (begin : Branched) (keys : List ℤ) (rule : Rule) (now : Branched)
    (found : ℕ → ℕ → Option Decision) : Type 0 where
  pub splits : SplitsFirst begin.layers keys now.layers
  pub chosen : FlagsOpen now.layers.ranked.numbers begin.unresolved now.unresolved
  pub front : now.first ≡ begin.first
  pub end : now.last ≡ begin.last
  pub here : (a b : ℕ) → found a b ≡ found_between now.layers.ranked.numbers rule 0 a b

-- it is taken to the sphere after `far`, and finds what they decide then
pub record GoesOn (old : Branched) (was : ℕ → ℕ → Option Decision) (keys : List ℤ) (rule : Rule) (far : ℕ)
    (now : Branched) (found : ℕ → ℕ → Option Decision) : Type 0 where
  pub within : far < old.last
  pub deeper : Deepens old.layers far keys now.layers
  pub chosen : FlagsOpen now.layers.ranked.numbers old.unresolved now.unresolved
  pub front : now.first ≡ old.first
  pub end : now.last ≡ old.last
  pub here : (a b : ℕ)
      → found a b ≡ kept_or (was a b) (found_between now.layers.ranked.numbers rule (suc far) a b)

-- what is found as far as a sphere
abbrev pub TakenTo : Branched → List ℤ → Rule → ℕ → Branched → (ℕ → ℕ → Option Decision) → Type 0
TakenTo begin keys rule zero now found = BeginsRule begin keys rule now found
TakenTo begin keys rule (suc far) now found =
    (old : Branched) × (was : ℕ → ℕ → Option Decision) × TakenTo begin keys rule far old was
    × GoesOn old was keys rule far now found

-- pairs are decided by what is found as far as a sphere
pub record TakesSoFar (begin : Branched) (keys : List ℤ) (rule : Rule) (pairs : List BranchPair) (far : ℕ) (now : Branched)
    (new : List BranchPair) : Type 0 where
  pub found : ℕ → ℕ → Option Decision
  pub taken : TakenTo begin keys rule far now found
  pub noted : new ≡ map (with_found found) pairs

-- and so as far as the last sphere, or until all of them are decided
pub record TakesRule (begin : Branched) (keys : List ℤ) (rule : Rule) (pairs : List BranchPair) (now : Branched)
    (new : List BranchPair) : Type 0 where
  pub far : ℕ
  pub within : far ≤ begin.last
  pub so_far : TakesSoFar begin keys rule pairs far now new
  pub early : far < begin.last → list_all is_decided new ≡ true

-- the same, whatever becomes of the branches
pub record TakesOnce (begin : Branched) (keys : List ℤ) (rule : Rule) (pairs new : List BranchPair) : Type 0 where
  pub now : Branched
  pub takes : TakesRule begin keys rule pairs now new

-- no branch is unresolved that was not so before
pub record WantsNoMore (old now : Branched) : Type 0 where
  pub each : (t place : ℕ) → WantedIn now t place → WantedIn old t place

-- the same branches with the same places
pub record AreSame (begin now : Branched) : Type 0 where
  pub kept : KeepsPlaces begin.layers now.layers
  pub front : now.first ≡ begin.first
  pub end : now.last ≡ begin.last
  pub count : length now.unresolved ≡ length begin.unresolved
