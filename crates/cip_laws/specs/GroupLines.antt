-- What the group lines of a record say, line by line. Own.
use Rattle.std.specs.Prelude.{ℕ, List, [], ◌∷◌, ◌++◌, ◌&&◌, ◌||◌, Bool, false, not, nat_eq, Some, None, Result, Ok, Err, if◌then◌else◌}
use Rattle.std.specs.declared.option.Option.{Option}
use Rattle.std.specs.List.{filter_map, flat_map, list_any}
use Rattle.cip_ctfile.specs.Reading.{◌>>=◌}
use Rattle.cip_v3000.specs.declared.lines.block_lines.BlockLine.TheVariants.{BeginCollection, EndCollection, EndTable}
use Rattle.cip_v3000.specs.Frames.{is_frame}
use Rattle.cip_v3000.specs.Grammar.{words_in}
use Rattle.cip_v3000.specs.JoinedLines.{LogicalLine}
use Rattle.cip_v3000.specs.Tables.{Table}
use Rattle.cip_stereogroups.specs.declared.faults.GroupCause.{GroupCause}
use Rattle.cip_stereogroups.specs.declared.groups.Group.{Group}
use Rattle.cip_stereogroups.specs.declared.kinds.GroupKind.{GroupKind}
use Rattle.cip_stereogroups.specs.AtomLists.{names_of, atoms_of}
use Rattle.cip_stereogroups.specs.Names.{kind_of}

-- a line of these words is in a collection that is open
abbrev pub stands_in : Bool → List (List ℕ) → Bool
stands_in inside words = inside && not (is_frame EndCollection words)

-- whether a collection is open after it
abbrev pub opens : Bool → List (List ℕ) → Bool
opens inside words = if inside then not (is_frame EndCollection words) else is_frame BeginCollection words

-- the lines that are in collections, up to the end of the table
abbrev pub collected : Bool → List LogicalLine → List LogicalLine
collected inside [] = []
collected inside (line ∷ lines) =
    if is_frame EndTable (words_in line) then []
    else if stands_in inside (words_in line) then line ∷ collected (opens inside (words_in line)) lines
    else collected (opens inside (words_in line)) lines

-- the atoms that the words after a name list
abbrev pub listed : List ℕ → List (List ℕ) → Result (List ℕ) GroupCause
listed indices words = do
  names ← names_of words
  atoms_of indices names

-- a line of a name that lists these atoms, as a group of its own
abbrev pub group_by : ℕ → Result (Option GroupKind) GroupCause → Result (List ℕ) GroupCause → Option Group
group_by number (Ok (Some kind)) (Ok atoms) = Some (record { kind = kind; line = number; atoms = atoms })
group_by number (Ok (Some kind)) (Err cause) = None
group_by number (Ok None) atoms = None
group_by number (Err cause) atoms = None

-- none where it names no group
abbrev pub line_group : List ℕ → ℕ → List (List ℕ) → Option Group
line_group indices number [] = None
line_group indices number (name ∷ words) = group_by number (kind_of name) (listed indices words)

abbrev pub group_lines : List ℕ → List LogicalLine → List Group
group_lines indices lines = filter_map (λ line. line_group indices line.number (words_in line)) lines

-- the group lines of a record, each as a group of its own
abbrev pub lines_of : Table → List Group
lines_of table = group_lines table.indices (collected false table.rest)

-- the atoms of some groups, in order
abbrev pub atoms_in : List Group → List ℕ
atoms_in groups = flat_map (λ group. group.atoms) groups

-- some atom is among those before it
abbrev pub repeats : List ℕ → List ℕ → Bool
repeats before [] = false
repeats before (atom ∷ atoms) = list_any (nat_eq atom) before || repeats (before ++ atom ∷ []) atoms
