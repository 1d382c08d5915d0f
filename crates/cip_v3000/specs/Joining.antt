-- Joined lines in memory, as contracts see them. Own.
use Rattle.std.specs.Prelude.{ℕ, List, ◌<◌, ◌++◌, ◌+◌, ◌-◌, ◌^◌, length, take, drop, map}
use Rattle.std.specs.Borrow.{Bor}
use Rattle.cip_text.specs.Slices.{texts}
use Rattle.cip_mol.specs.declared.labels.refusal.ReadFault.{ReadFault}
use Rattle.cip_v3000.specs.declared.lines.continuation.LogicalLine as declared_line
use Rattle.cip_v3000.specs.declared.lines.continuation.JoinedLines as declared_lines
use Rattle.cip_v3000.specs.declared.lines.continuation.Text.{Text}
use Rattle.cip_v3000.specs.declared.lines.continuation.Text.TheVariants.{Whole, Joined}
use Rattle.cip_v3000.specs.JoinedLines.{LogicalLine, JoinedLines, next_number, joined_from}

abbrev pub seen : declared_line.LogicalLine → LogicalLine
seen line = record { parts = texts line.parts.now; number = line.number }

abbrev pub seen_all : declared_lines.JoinedLines → JoinedLines
seen_all joined = record { lines = map seen joined.lines.items; past = joined.past }

-- the same from these lines and this fault
abbrev pub joined_by : List declared_line.LogicalLine → ReadFault → JoinedLines
joined_by lines past = record { lines = map seen lines; past = past }

abbrev pub bytes_of : Text → List ℕ
bytes_of (Whole bytes) = bytes.now
bytes_of (Joined bytes) = bytes.items

-- joined lines after others
abbrev pub with_before : List LogicalLine → JoinedLines → JoinedLines
with_before before joined = record joined { lines = before ++ joined.lines }

-- what is from one place to another
abbrev pub parts_at : List (Bor (List ℕ)) → ℕ → ℕ → List (List ℕ)
parts_at lines first place = texts (take (place - first) (drop first lines))

-- the joined lines from the one on that has begun at the first place, of which the lines before the other place are
-- parts
abbrev pub rest_from : List (Bor (List ℕ)) → ℕ → ℕ → JoinedLines
rest_from lines first place =
    joined_from (length lines + 1) (first + 1) (parts_at lines first place) (drop place (texts lines))

-- the number of the line after a joined line has 32 bits
pub record IsNumbered (line : declared_line.LogicalLine) : Type 0 where
  pub next : next_number (seen line) < 2 ^ 32
