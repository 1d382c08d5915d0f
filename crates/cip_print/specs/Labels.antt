-- How labels are written: the unit, the descriptor, the rule and the sphere, and the ligands in the order that it rests
-- on. Own.
use Rattle.std.specs.Prelude.{ℕ, List, [], ◌∷◌, ◌++◌, codes, decimal, length, take, drop, nat_lt, slice_get, Some, None, if◌then◌else◌}
use Rattle.std.specs.declared.option.Option.{Option}
use Rattle.cip_mol.specs.declared.labels.outcome.Label.{Label}
use Rattle.cip_mol.specs.declared.site.Ligand.{Ligand}
use Rattle.cip_mol.specs.declared.site.Ligand.TheVariants.{Vertex, LonePair}
use Rattle.cip_mol.specs.declared.site.Site.{Site}
use Rattle.cip_mol.specs.declared.site.Site.TheVariants.{Centre, Bond, Axis}
use Rattle.cip_mol.specs.Letters.{letter_text, rule_text}
use Rattle.cip_print.specs.declared.answer.UnitAnswer.{UnitAnswer}
use Rattle.cip_print.specs.Naming.{number, name_text}

-- an atom by its number; those from `drawn` on are implicit hydrogens
abbrev pub ligand_name : ℕ → Ligand → List ℕ
ligand_name drawn (Vertex vertex) = if nat_lt vertex drawn then number vertex else codes "H"
ligand_name drawn LonePair = codes ":"

abbrev pub spaced_name : ℕ → Option Ligand → List ℕ
spaced_name drawn None = []
spaced_name drawn (Some ligand) = codes " " ++ ligand_name drawn ligand

-- the ligands at these places, a space before each
abbrev pub names_at : ℕ → List Ligand → List ℕ → List ℕ
names_at drawn ligands [] = []
names_at drawn ligands (place ∷ places) = spaced_name drawn (slice_get ligands place) ++ names_at drawn ligands places

-- the ligands of the first end are before those of the second
unfoldable pub names_of_ends : ℕ → List Ligand → List Ligand → List ℕ → List ℕ
names_of_ends drawn first second places =
    names_at drawn first (take (length first) places)
    ++ codes " |" ++ names_at drawn second (drop (length first) places)

-- the ligands of a unit by their places, highest first
abbrev pub names_in_order : ℕ → Site → List ℕ → List ℕ
names_in_order drawn (Centre at ligands) places = names_at drawn ligands places
names_in_order drawn (Bond a b first second) places = names_of_ends drawn first second places
names_in_order drawn (Axis a middle b first second) places = names_of_ends drawn first second places

-- the descriptor, the rule and the sphere
abbrev pub decision_text : Label → List ℕ
decision_text label =
    codes " " ++ (letter_text label.letter ++ (codes " " ++ (rule_text label.rule ++ (codes " " ++ decimal label.sphere))))

-- a label: the unit and what is decided
abbrev pub label_line : List ℕ → Label → List ℕ
label_line name label = name ++ decision_text label

-- a label with the ligands in the order that it rests on
unfoldable pub ordered_label : UnitAnswer → Label → List ℕ
ordered_label unit label =
    label_line (name_text unit.name) label ++ codes " order" ++ names_in_order unit.drawn unit.site label.order
