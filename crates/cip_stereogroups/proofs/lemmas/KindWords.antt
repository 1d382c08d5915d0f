-- The group that a word names, by the tests that tell it.
use Rattle.std.proofs.Common.{◌≡◌, ℕ, List, Bool, Some, None, Result, Ok, sym}
use Rattle.std.specs.Prelude.{codes, drop, nat_eq, if◌then◌else◌}
use Rattle.std.specs.declared.option.Option.{Option}
use Rattle.std.specs.List.{starts_with}
use Rattle.std.specs.Str.{bytes_eq}
use Rattle.cip_ctfile.specs.Reading.{◌>>=◌}
use Rattle.cip_stereogroups.specs.declared.faults.GroupCause.{GroupCause}
use Rattle.cip_stereogroups.specs.declared.kinds.GroupKind.{GroupKind}
use Rattle.cip_stereogroups.specs.declared.kinds.GroupKind.TheVariants.{Absolute, Racemic, Relative}
use Rattle.cip_stereogroups.specs.Names.{kind_of, racemic_by, relative_by}

abbrev pub racemic_with : Result ℕ GroupCause → Result (Option GroupKind) GroupCause
racemic_with read = do
  number ← read
  Ok (Some (Racemic number))

abbrev pub relative_with : Result ℕ GroupCause → Result (Option GroupKind) GroupCause
relative_with read = do
  number ← read
  Ok (Some (Relative number))

module _ (word : List ℕ) where
  abbrev by_tests : Bool → Bool → Bool → Result (Option GroupKind) GroupCause
  by_tests absolute racemic relative =
      if absolute then Ok (Some Absolute)
      else if racemic then racemic_by (drop 13 word)
      else if relative then relative_by (drop 13 word)
      else Ok None

  pub named : (absolute racemic relative : Bool) → bytes_eq word (codes "MDLV30/STEABS") ≡ absolute
      → starts_with nat_eq word (codes "MDLV30/STERAC") ≡ racemic
      → starts_with nat_eq word (codes "MDLV30/STEREL") ≡ relative → by_tests absolute racemic relative ≡ kind_of word
  unfolding kind_of
  named absolute racemic relative a b c = λ i. by_tests (sym a i) (sym b i) (sym c i)
