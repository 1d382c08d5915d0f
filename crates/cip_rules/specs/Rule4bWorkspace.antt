-- Rule 4b over branches and their copies: the copy of a branch is read with S as the reference, it itself with R. Own.
use Rattle.std.specs.Prelude.{◌≡◌, ◌<◌, ◌^◌, ◌+◌, ◌-◌, ℕ, ℤ, Bool, true, false, cond, if◌then◌else◌, List, None, Some, length, map, nat_le, nat_lt, slice_index}
use Rattle.std.specs.declared.option.Option.{Option}
use Rattle.std.specs.List.{list_all, range_with_len, slice_index_or}
use Rattle.std.specs.Ordering.{is_lt}
use Rattle.std.specs.declared.cmp.Ordering.TheVariants.{Equal}
use Rattle.cip_mol.specs.declared.labels.descriptor.Descriptor.{Descriptor}
use Rattle.cip_mol.specs.declared.labels.outcome.Rule.TheVariants.{R4b}
use Rattle.cip_digraph.specs.declared.decisions.decision.Decision.{Decision}
use Rattle.cip_digraph.specs.rules.Kinds.{KindR, KindS, key_or_zero, like_key}
use Rattle.cip_branches.specs.Deciding.{Branched, AreFollowed}
use Rattle.cip_partition.specs.Parting.{has_flag}
use Rattle.cip_partition.specs.ReservedList.{ReservedList}
use Rattle.cip_branches.specs.Saving.{Checkpoint, saved_of}
use Rattle.cip_branches.specs.Taking.{KeepsPlaces}
use Rattle.cip_branches.specs.Twins.{twins_of}
use Rattle.cip_digraph.specs.declared.decisions.branch_pair.BranchPair.{BranchPair}
use Rattle.cip_digraph.specs.Asking.{is_decided}
use Rattle.cip_rules.specs.Taking.{TakesRule}

-- memory for both readings of branches of n places
pub record Readied : Type 0 where
  pub bound : ℕ

pub record KeepReadings (bound : ℕ) (twins : Branched) (saved : Checkpoint) (sides : ReservedList BranchPair) (values : ReservedList ℕ) :
    Type 0 where
  pub few : bound + bound < 2 ^ 32
  pub twins_room : twins.layers.place_tree.room ≡ bound + bound
  pub saved_room : saved.room ≡ bound + bound
  pub sides_room : sides.room ≡ bound
  pub values_room : values.room ≡ bound + bound

-- the other reading of a branch that is unresolved; of one that was dropped there is none
abbrev pub twin_of : Branched → ℕ → ℕ
twin_of from branch = if has_flag from.unresolved branch then length from.layers.place_tree.place_parents + branch else branch

-- one reading ties with itself
abbrev pub one_reading : Option Decision
one_reading = Some (record { side = Equal; rule = R4b; sphere = 0 })

-- Which of the readings of a branch is the higher one is asked. Of one that was dropped that is decided: it has one.
abbrev pub side_of : Branched → ℕ → BranchPair
side_of from branch = record {
  first = branch;
  second = twin_of from branch;
  decision = if has_flag from.unresolved branch then None else one_reading;
}

-- the second one is
abbrev pub is_second : Option Decision → Bool
is_second None = false
is_second (Some found) = is_lt found.side

abbrev pub s_higher : List BranchPair → List Bool
s_higher sides = map (λ one. is_second one.decision) sides

-- the branch of a reading, and so the place of a copy
abbrev pub base_of : ℕ → ℕ → ℕ
base_of count reading = if nat_lt reading count then reading else reading - count

-- the lower or the higher reading of a branch
abbrev pub reading_of : Branched → List Bool → Bool → ℕ → ℕ
reading_of from higher lower branch =
    if lower then (if has_flag higher branch then branch else twin_of from branch)
    else (if has_flag higher branch then twin_of from branch else branch)

abbrev pub read_as : Branched → List Bool → Bool → ℕ → ℕ
read_as from higher lower reading = reading_of from higher lower (base_of (length from.layers.place_tree.place_parents) reading)

abbrev pub between : (ℕ → ℕ) → BranchPair → BranchPair
between place pairs = record pairs { first = place pairs.first; second = place pairs.second }

-- at the copy of a place, what is like S
abbrev pub reading_key : List (Option Descriptor) → List ℕ → ℕ → ℕ → ℤ
reading_key descriptors nodes count place =
    key_or_zero (like_key (cond (nat_le count place) KindS KindR))
    (slice_index_or descriptors (slice_index nodes (base_of count place)) None)

abbrev pub reading_keys : List (Option Descriptor) → Branched → List ℤ
reading_keys descriptors from =
    map (reading_key descriptors from.layers.place_tree.nodes (length from.layers.place_tree.place_parents))
    (range_with_len 0 (length from.layers.place_tree.place_parents + length from.layers.place_tree.place_parents))

-- ranks that were set aside are those of before, over whose places a rule was taken
pub record IsAside (begin : Branched) (saved : Checkpoint) (now : Branched) : Type 0 where
  pub followed : AreFollowed begin
  pub numbers_len : length begin.layers.ranked.numbers ≡ length begin.layers.place_tree.place_parents
  pub saved_are : saved ≡ saved_of saved.room begin
  pub kept : KeepsPlaces begin.layers now.layers
  pub front : now.first ≡ begin.first
  pub end : now.last ≡ begin.last
  pub count : length now.unresolved ≡ length begin.unresolved

-- and these branches are copies of others
pub record AreTwinsAside (from : Branched) (saved : Checkpoint) (now : Branched) : Type 0 where
  pub few : length from.layers.place_tree.place_parents + length from.layers.place_tree.place_parents < 2 ^ 32
  pub aside : IsAside (twins_of now.layers.place_tree.room from) saved now

-- where it is known which reading of each branch is the higher one, these are compared, and where two of them tie the
-- lower ones
pub record ComparesReadings (from begin : Branched) (keys : List ℤ) (sides pairs new : List BranchPair) : Type 0 where
  pub higher : List BranchPair
  pub higher_now : Branched
  pub higher_taken : TakesRule begin keys R4b (map (between (read_as from (s_higher sides) false)) pairs) higher_now
      higher
  pub lower : List BranchPair
  pub lower_now : Branched
  pub lower_decided : list_all is_decided (map (between (read_as from (s_higher sides) true)) higher) ≡ true
      → lower ≡ map (between (read_as from (s_higher sides) true)) higher
  pub lower_taken : list_all is_decided (map (between (read_as from (s_higher sides) true)) higher) ≡ false
      → TakesRule begin keys R4b (map (between (read_as from (s_higher sides) true)) higher) lower_now lower
  pub named : new ≡ map (between (base_of (length from.layers.place_tree.place_parents))) lower

-- First it is asked which reading of each branch is the higher one; then they are compared.
pub record TakesReadings (from : Branched) (descriptors : List (Option Descriptor)) (pairs new : List BranchPair) : Type 0 where
  pub room : ℕ
  pub sides : List BranchPair
  pub sides_now : Branched
  pub sides_taken : TakesRule (twins_of room from) (reading_keys descriptors from) R4b (map (side_of from)
      (range_with_len 0 (length from.unresolved))) sides_now sides
  pub compared : ComparesReadings from (twins_of room from) (reading_keys descriptors from) sides pairs new
