-- What property lines state of atoms, and what they drop. CTfile Formats; that a later statement on an atom replaces an
-- earlier one, and that D and T keep their masses unless one names them, is own.
use Rattle.std.specs.Prelude.{◌≤◌, unsigned_abs, pos, List, Bool, true, false, not, Some, None, map, fold, slice_get, slice_set, if◌then◌else◌}
use Rattle.std.specs.declared.option.Option.{Option}
use Rattle.std.specs.List.{list_any}
use Rattle.cip_mol.specs.declared.graph.molecule.Atom.{Atom}
use Rattle.cip_v2000.specs.declared.atoms.AtomLine.{AtomLine}
use Rattle.cip_v2000.specs.declared.atom_properties.AtomProperty.{AtomProperty}
use Rattle.cip_v2000.specs.declared.atom_properties.AtomProperty.TheVariants.{Charge, Radical, Isotope}
use Rattle.cip_v2000.specs.declared.atom_properties.Pair.{Pair}

abbrev pub is_isotope : AtomProperty → Bool
is_isotope (Charge n) = false
is_isotope (Radical n) = false
is_isotope (Isotope n) = true

-- a charge or radical is stated of any atom
abbrev pub state_charges : List Pair → Bool
state_charges pairs = list_any (λ pair. not (is_isotope pair.states)) pairs

-- an isotope is stated of any atom
abbrev pub state_isotopes : List Pair → Bool
state_isotopes pairs = list_any (λ pair. is_isotope pair.states) pairs

-- The atom of a line of the atom block, where charges are stated without its charge and radical, and where isotopes are
-- stated with that of its symbol alone.
abbrev pub kept : Bool → Bool → AtomLine → Atom
kept charges isotopes line = record line.atom {
  charge = if charges then pos 0 else line.atom.charge;
  radical = if charges then 0 else line.atom.radical;
  isotope = if isotopes then line.symbol_isotope else line.atom.isotope;
}

abbrev pub with_statement : AtomProperty → Atom → Atom
with_statement (Charge n) atom = record atom { charge = n }
with_statement (Radical n) atom = record atom { radical = n }
with_statement (Isotope n) atom = record atom { isotope = n }

abbrev pub with_pair_at : List Atom → Pair → Option Atom → List Atom
with_pair_at atoms pair None = atoms
with_pair_at atoms pair (Some atom) = slice_set atoms pair.atom (with_statement pair.states atom)

abbrev pub with_pair : List Atom → Pair → List Atom
with_pair atoms pair = with_pair_at atoms pair (slice_get atoms pair.atom)

-- the atoms of the atom block with what is stated of them, one pair after the other
unfoldable pub settled : List Pair → List AtomLine → List Atom
settled pairs lines = fold with_pair (map (kept (state_charges pairs) (state_isotopes pairs)) lines) pairs

abbrev pub IsStatement : AtomProperty → Type 0
IsStatement (Charge n) = unsigned_abs n ≤ 15
IsStatement (Radical n) = n ≤ 3
IsStatement (Isotope n) = n ≤ 400

abbrev pub IsPair : Pair → Type 0
IsPair pair = IsStatement pair.states
