-- Groups of the same name are one: its line is the first, and the atoms of its lines follow in order. CTfile Formats,
-- V3000.
use Rattle.std.specs.Prelude.{ℕ, List, [], ◌∷◌, ◌++◌, map, if◌then◌else◌}
use Rattle.cip_stereogroups.specs.declared.groups.Group.{Group}
use Rattle.cip_stereogroups.specs.declared.kinds.GroupKind.{GroupKind}
use Rattle.cip_stereogroups.specs.Names.{same_kind}

abbrev pub kinds_of : List Group → List GroupKind
kinds_of groups = map (λ group. group.kind) groups

-- the atoms of a line put to the group of its name, which is new where there is none
abbrev pub with_line : GroupKind → ℕ → List ℕ → List Group → List Group
with_line kind number atoms [] = record { kind = kind; line = number; atoms = atoms } ∷ []
with_line kind number atoms (group ∷ groups) =
    if same_kind kind group.kind
    then record { kind = group.kind; line = group.line; atoms = group.atoms ++ atoms } ∷ groups
    else group ∷ with_line kind number atoms groups
