-- What is reached in steps. Own.
use Rattle.std.specs.Prelude.{◌≡◌, ◌≤◌, ◌<◌, ℕ, zero, suc, true, false, Some, None, List, [], ◌∷◌, flat_map}
use Rattle.std.specs.declared.option.Option.{Option}
use Rattle.cip_digraph.specs.rings.Alternating.{is_in}
use Rattle.cip_digraph.specs.rings.SmallRings.{with_new}

-- one step from each of some vertices
abbrev pub next_within : (ℕ → List ℕ) → List ℕ → List ℕ
next_within step vertices = with_new vertices (flat_map step vertices)

abbrev pub within : (ℕ → List ℕ) → ℕ → ℕ → List ℕ
within step from zero = from ∷ []
within step from (suc steps) = next_within step (within step from steps)

-- a step from some vertices reaches none that isn't there
pub record NothingNew (step : ℕ → List ℕ) (some vertices : List ℕ) : Type 0 where
  pub same : with_new vertices (flat_map step some) ≡ vertices

-- the least number of steps that reach a target
pub record IsLeast (step : ℕ → List ℕ) (from target most steps : ℕ) : Type 0 where
  pub few : steps ≤ most
  pub reached : is_in target (within step from steps) ≡ true
  pub before : (k : ℕ) → k < steps → is_in target (within step from k) ≡ false

pub record IsOutside (step : ℕ → List ℕ) (from target most : ℕ) : Type 0 where
  pub each : (k : ℕ) → k ≤ most → is_in target (within step from k) ≡ false

abbrev pub TellsLeast : (ℕ → List ℕ) → ℕ → ℕ → ℕ → Option ℕ → Type 0
TellsLeast step from target most (Some steps) = IsLeast step from target most steps
TellsLeast step from target most None = IsOutside step from target most
