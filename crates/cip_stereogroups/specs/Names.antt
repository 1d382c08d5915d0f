-- The names of stereo groups, by the first word of a line. CTfile Formats, V3000: MDLV30/STEABS, MDLV30/STERACn and
-- MDLV30/STERELn; that n is from 1 to 1,000,000,000 is own.
use Rattle.std.specs.Prelude.{ℕ, List, ◌==◌, Bool, true, false, codes, drop, nat_eq, Some, None, Result, Ok, Err, if◌then◌else◌}
use Rattle.std.specs.declared.option.Option.{Option}
use Rattle.std.specs.List.{starts_with}
use Rattle.std.specs.Str.{bytes_eq}
use Rattle.cip_ctfile.specs.Fields.{parse_number}
use Rattle.cip_ctfile.specs.Reading.{◌>>=◌}
use Rattle.cip_stereogroups.specs.declared.faults.GroupCause.{GroupCause}
use Rattle.cip_stereogroups.specs.declared.faults.GroupCause.TheVariants.{Name}
use Rattle.cip_stereogroups.specs.declared.kinds.GroupKind.{GroupKind}
use Rattle.cip_stereogroups.specs.declared.kinds.GroupKind.TheVariants.{Absolute, Racemic, Relative}

abbrev pub unless_zero : Option ℕ → Result ℕ GroupCause
unless_zero None = Err Name
unless_zero (Some number) = if number == 0 then Err Name else Ok number

-- the number of a group, which follows its kind
unfoldable pub number_of : List ℕ → Result ℕ GroupCause
number_of text = unless_zero (parse_number 1000000000 text)

abbrev pub racemic_by : List ℕ → Result (Option GroupKind) GroupCause
racemic_by text = do
  number ← number_of text
  Ok (Some (Racemic number))

abbrev pub relative_by : List ℕ → Result (Option GroupKind) GroupCause
relative_by text = do
  number ← number_of text
  Ok (Some (Relative number))

-- the group that a word names; none where it names something else
unfoldable pub kind_of : List ℕ → Result (Option GroupKind) GroupCause
kind_of word =
    if bytes_eq word (codes "MDLV30/STEABS") then Ok (Some Absolute)
    else if starts_with nat_eq word (codes "MDLV30/STERAC") then racemic_by (drop 13 word)
    else if starts_with nat_eq word (codes "MDLV30/STEREL") then relative_by (drop 13 word)
    else Ok None

abbrev pub same_kind : GroupKind → GroupKind → Bool
same_kind Absolute Absolute = true
same_kind (Racemic a) (Racemic b) = a == b
same_kind (Relative a) (Relative b) = a == b
same_kind one other = false
