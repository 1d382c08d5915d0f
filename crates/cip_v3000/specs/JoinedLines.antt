-- The lines of a molfile of version V3000, joined where they are continued. CTfile Formats, V3000: each line begins
-- with `M  V30 `, and one whose content ends in `-` goes on in the next; that spaces may follow the `-` is own.
use Rattle.std.specs.Prelude.{ℕ, List, Bool, not, nat_eq, [], ◌∷◌, ◌++◌, ◌+◌, ◌-◌, length, take, drop, codes, if◌then◌else◌}
use Rattle.std.specs.List.{ends_with, flat_map}
use Rattle.std.specs.Str.{bytes_eq}
use Rattle.cip_text.specs.Columns.{trim_end_spaces}
use Rattle.cip_mol.specs.declared.labels.refusal.ReadCause.TheVariants.{Short, Frame}
use Rattle.cip_mol.specs.declared.labels.refusal.ReadFault.{ReadFault}

abbrev pub begins_v30 : List ℕ → Bool
begins_v30 line = bytes_eq (take 7 line) (codes "M  V30 ")

-- what follows `M  V30 `
abbrev pub body : List ℕ → List ℕ
body line = drop 7 line

abbrev pub is_continued : List ℕ → Bool
is_continued line = ends_with nat_eq (trim_end_spaces (body line)) (codes "-")

-- what a line adds to the line that it is a part of
abbrev pub part_of : List ℕ → List ℕ
part_of line =
    if is_continued line
    then take (length (trim_end_spaces (body line)) - 1) (trim_end_spaces (body line))
    else body line

-- the lines that make one, and the number of the first
pub record LogicalLine : Type 0 where
  pub parts : List (List ℕ)
  pub number : ℕ

abbrev pub text_of : LogicalLine → List ℕ
text_of line = flat_map part_of line.parts

-- the number of the line after it
abbrev pub next_number : LogicalLine → ℕ
next_number line = line.number + length line.parts

-- joined lines, and the fault where one more is due
pub record JoinedLines : Type 0 where
  pub lines : List LogicalLine
  pub past : ReadFault

abbrev pub behind : LogicalLine → JoinedLines → JoinedLines
behind line joined = record joined { lines = line ∷ joined.lines }

-- the joined lines from one on whose first part has this number, and of which these parts came before; `past` is the
-- number after the last line
abbrev pub joined_from : ℕ → ℕ → List (List ℕ) → List (List ℕ) → JoinedLines
joined_from past number begun [] = record { lines = []; past = record { line = past; cause = Short } }
joined_from past number begun (line ∷ lines) =
    if not (begins_v30 line) then record { lines = []; past = record { line = number + length begun; cause = Frame } }
    else if is_continued line then joined_from past number (begun ++ line ∷ []) lines
    else behind (record { parts = begun ++ line ∷ []; number = number })
    (joined_from past (number + length begun + 1) [] lines)

-- the joined lines of a record after its first four
unfoldable pub logical_lines : List (List ℕ) → JoinedLines
logical_lines lines = joined_from (length lines + 1) 5 [] (drop 4 lines)
