-- The ranges in which the numbers of settings lie. Own.
use Rattle.std.specs.Prelude.{ℕ, ◌≡◌, ◌≤◌, ◌⊎◌}
use Rattle.cip_rank.specs.declared.rules.Rules.{Rules}
use Rattle.cip_words.specs.declared.command_table.Values.{Values}
use Rattle.cip_words.specs.declared.command_table.Values.TheVariants.{Between, CentreLetter, Either}

pub record IsBetween (least most number : ℕ) : Type 0 where
  pub above : least ≤ number
  pub below : number ≤ most

-- a number is one of those that an option takes
abbrev pub IsOf : Values → ℕ → Type 0
IsOf (Between least most) number = IsBetween least most number
IsOf (Either one other) number = (number ≡ one) ⊎ (number ≡ other)
IsOf CentreLetter number = ⊥

-- what all commands that label ask for: a bound on the nodes of a digraph, a number of workers, the wording of Rule 1b
pub record Labelling : Type 0 where
  pub nodes : ℕ
  pub workers : ℕ
  pub rules : Rules

-- made records: the number at which their series starts, and how many there are
pub record Series : Type 0 where
  pub start : ℕ
  pub records : ℕ

-- a bound on the nodes of a digraph, and a number of workers
pub record CanLabel (bound count : ℕ) : Type 0 where
  pub nodes : IsBetween 1 1000000 bound
  pub workers : IsBetween 1 16 count

abbrev pub CanMake : ℕ → Type 0
CanMake records = IsBetween 1 100000 records

-- the numbers of a record and of an atom
pub record CanName (number at : ℕ) : Type 0 where
  pub numbers : IsBetween 1 1000000000 number
  pub atoms : IsBetween 1 1000000000 at
