-- The stereo groups of a molfile: those of the group lines in its collections, which are between the bond block and
-- the end of the table. CTfile Formats, V3000; that the first line with a cause decides, and the order of the causes
-- at a line, is own.
use Rattle.std.specs.Prelude.{◌≡◌, ℕ, List, [], ◌∷◌, false, not, Some, None, Result, Ok, Err, if◌then◌else◌}
use Rattle.std.specs.declared.option.Option.{Option}
use Rattle.cip_ctfile.specs.Reading.{◌>>=◌}
use Rattle.cip_v3000.specs.declared.lines.block_lines.BlockLine.TheVariants.{BeginCollection, EndCollection, EndTable}
use Rattle.cip_v3000.specs.Frames.{is_frame}
use Rattle.cip_v3000.specs.Grammar.{words_in}
use Rattle.cip_v3000.specs.JoinedLines.{LogicalLine}
use Rattle.cip_v3000.specs.Tables.{Table, table_of}
use Rattle.cip_stereogroups.specs.declared.faults.GroupCause.TheVariants.{Frame}
use Rattle.cip_stereogroups.specs.declared.faults.GroupFault.{GroupFault}
use Rattle.cip_stereogroups.specs.declared.collection_blocks.GroupBuilder.{GroupBuilder}
use Rattle.cip_stereogroups.specs.declared.groups.Group.{Group}
use Rattle.cip_stereogroups.specs.declared.groups.GroupsAnswer.{GroupsAnswer}
use Rattle.cip_stereogroups.specs.declared.groups.GroupsAnswer.TheVariants.{Groups, Refused}
use Rattle.cip_stereogroups.specs.declared.kinds.GroupKind.{GroupKind}
use Rattle.cip_stereogroups.specs.AtomLists.{names_of, atoms_of, all_taken}
use Rattle.cip_stereogroups.specs.Grouping.{with_line}
use Rattle.cip_stereogroups.specs.Names.{kind_of}
use Rattle.cip_stereogroups.specs.Reading.{told_at}

abbrev pub nothing : GroupBuilder
nothing = record { inside = false; taken = []; groups = [] }

-- these atoms of a group line put to those of its group
abbrev pub with_atoms : ℕ → GroupBuilder → GroupKind → List ℕ → Result GroupBuilder GroupFault
with_atoms number found kind atoms = do
  taken ← told_at number (all_taken found.taken atoms)
  Ok (record { inside = found.inside; taken = taken; groups = with_line kind number atoms found.groups })

-- the words after the name of a group
abbrev pub with_kind : List ℕ → ℕ → GroupBuilder → List (List ℕ) → Option GroupKind → Result GroupBuilder GroupFault
with_kind indices number found words None = Ok found
with_kind indices number found words (Some kind) = do
  names ← told_at number (names_of words)
  atoms ← told_at number (atoms_of indices names)
  with_atoms number found kind atoms

-- the words of a line in a collection
abbrev pub with_words : List ℕ → ℕ → GroupBuilder → List (List ℕ) → Result GroupBuilder GroupFault
with_words indices number found [] = Ok found
with_words indices number found (name ∷ words) = do
  kind ← told_at number (kind_of name)
  with_kind indices number found words kind

-- the line of this number after those before it; lines outside collections are passed over
unfoldable pub with_joined : List ℕ → ℕ → GroupBuilder → List (List ℕ) → Result GroupBuilder GroupFault
with_joined indices number found words =
    if not found.inside then Ok (record found { inside = is_frame BeginCollection words })
    else if is_frame EndCollection words then Ok (record found { inside = false })
    else with_words indices number found words

-- at the end of the table no collection is open
abbrev pub ended : ℕ → GroupBuilder → Result (List Group) GroupFault
ended number found = if found.inside then Err (record { line = number; cause = Frame }) else Ok found.groups

abbrev pub groups_from : List ℕ → GroupBuilder → List LogicalLine → Result (List Group) GroupFault
groups_from indices found [] = Ok found.groups
groups_from indices found (line ∷ lines) =
    if is_frame EndTable (words_in line) then ended line.number found
    else (with_joined indices line.number found (words_in line) >>= λ now. groups_from indices now lines)

-- the groups of a table, or the first line with a cause and its first one
unfoldable pub groups_of : Table → Result (List Group) GroupFault
groups_of table = groups_from table.indices nothing table.rest

abbrev pub answer_by : Result (List Group) GroupFault → GroupsAnswer
answer_by (Ok groups) = Groups groups
answer_by (Err fault) = Refused fault

-- of the contents of the lines of a record that is read
abbrev pub IsAnswer : List (List ℕ) → GroupsAnswer → Type 0
IsAnswer lines answer = (table : Table) → table_of lines ≡ Ok table → answer ≡ answer_by (groups_of table)
