-- What the groups of a record are, by its group lines. Own, after CTfile Formats, V3000.
use Rattle.std.specs.Prelude.{◌≡◌, ℕ, List, [], ◌∷◌, ◌++◌, ◌&&◌, Bool, true, false, not, nat_eq, Ok, Err}
use Rattle.std.specs.List.{list_any}
use Rattle.cip_v3000.specs.JoinedLines.{LogicalLine}
use Rattle.cip_v3000.specs.Tables.{Table}
use Rattle.cip_stereogroups.specs.declared.faults.GroupCause.TheVariants.{Repeated}
use Rattle.cip_stereogroups.specs.declared.groups.Group.{Group}
use Rattle.cip_stereogroups.specs.declared.kinds.GroupKind.{GroupKind}
use Rattle.cip_stereogroups.specs.Collections.{groups_of}
use Rattle.cip_stereogroups.specs.Grouping.{kinds_of}
use Rattle.cip_stereogroups.specs.Names.{same_kind}
use Rattle.cip_laws.specs.GroupLines.{collected, group_lines, lines_of, atoms_in, repeats}

-- some group of this name is there
abbrev pub is_named : GroupKind → List Group → Bool
is_named kind groups = list_any (same_kind kind) (kinds_of groups)

-- some group of this name holds the atom
abbrev pub holds : GroupKind → ℕ → List Group → Bool
holds kind atom groups = list_any (λ group. same_kind kind group.kind && list_any (nat_eq atom) group.atoms) groups

abbrev pub are_different : List GroupKind → Bool
are_different [] = true
are_different (kind ∷ kinds) = not (list_any (same_kind kind) kinds) && are_different kinds

-- There is a group of a name exactly where a group line has it, and an atom is in it exactly where a line of this name
-- names it. Groups have different names, and no atom is named twice.
pub record AreOfLines (lines groups : List Group) : Type 0 where
  pub names : (kind : GroupKind) → is_named kind groups ≡ is_named kind lines
  pub members : (kind : GroupKind) (atom : ℕ) → holds kind atom groups ≡ holds kind atom lines
  pub different : are_different (kinds_of groups) ≡ true
  pub once : repeats [] (atoms_in lines) ≡ false

abbrev pub GroupsAreOfLines : Type 0
GroupsAreOfLines = (table : Table) (groups : List Group) → groups_of table ≡ Ok groups
    → AreOfLines (lines_of table) groups

-- among the group lines up to the one of this number an atom is named twice, and among those before it none
pub record RepeatsAt (indices before : List ℕ) (lines : List LogicalLine) (number : ℕ) : Type 0 where
  pub front : List LogicalLine
  pub line : LogicalLine
  pub behind : List LogicalLine
  pub parts : lines ≡ front ++ line ∷ behind
  pub at : line.number ≡ number
  pub free : repeats before (atoms_in (group_lines indices front)) ≡ false
  pub named : repeats before (atoms_in (group_lines indices (front ++ line ∷ []))) ≡ true

-- an atom that is named twice is reported at the first line up to which there is one
abbrev pub RepeatedIsNamedTwice : Type 0
RepeatedIsNamedTwice = (table : Table) (number : ℕ) →
    groups_of table ≡ Err (record { line = number; cause = Repeated }) →
    RepeatsAt table.indices [] (collected false table.rest) number
