-- What is stated last of an atom, and what the atom is by it. CTfile Formats; that a later statement replaces an
-- earlier one is own.
use Rattle.std.specs.Prelude.{◌≡◌, ℕ, ℤ, pos, List, [], ◌∷◌, ◌==◌, Some, None, slice_get, if◌then◌else◌}
use Rattle.std.specs.declared.option.Option.{Option}
use Rattle.std.specs.Option.{option_map, option_or, unwrap_or}
use Rattle.cip_mol.specs.declared.graph.molecule.Atom.{Atom}
use Rattle.cip_v2000.specs.declared.atoms.AtomLine.{AtomLine}
use Rattle.cip_v2000.specs.declared.atom_properties.Pair.{Pair}
use Rattle.cip_v2000.specs.declared.atom_properties.AtomProperty.{AtomProperty}
use Rattle.cip_v2000.specs.declared.atom_properties.AtomProperty.TheVariants.{Charge, Radical, Isotope}
use Rattle.cip_v2000.specs.Statements.{state_charges, state_isotopes, settled}

abbrev pub charge_in : AtomProperty → Option ℤ
charge_in (Charge n) = Some n
charge_in (Radical n) = None
charge_in (Isotope n) = None

abbrev pub radical_in : AtomProperty → Option ℕ
radical_in (Charge n) = None
radical_in (Radical n) = Some n
radical_in (Isotope n) = None

abbrev pub isotope_in : AtomProperty → Option ℕ
isotope_in (Charge n) = None
isotope_in (Radical n) = None
isotope_in (Isotope n) = Some n

-- the last statement of a kind on the atom at a place
abbrev pub last_of : {A : Type 0} → (AtomProperty → Option A) → ℕ → List Pair → Option A
last_of kind place [] = None
last_of kind place (pair ∷ pairs) =
    option_or (last_of kind place pairs) (if pair.atom == place then kind pair.states else None)

-- What is stated last of an atom holds. Where nothing is, the atom is as its line has it, but for the charge and the
-- radical where charges are stated of any atom, and but for a mass difference where isotopes are.
abbrev pub settled_atom : List Pair → ℕ → AtomLine → Atom
settled_atom pairs place line = record line.atom {
  charge = unwrap_or (last_of charge_in place pairs) (if state_charges pairs then pos 0 else line.atom.charge);
  radical = unwrap_or (last_of radical_in place pairs) (if state_charges pairs then 0 else line.atom.radical);
  isotope = unwrap_or (last_of isotope_in place pairs)
      (if state_isotopes pairs then line.symbol_isotope else line.atom.isotope);
}

abbrev pub AtomsAreSettled : Type 0
AtomsAreSettled =
    (pairs : List Pair) (lines : List AtomLine) (place : ℕ) →
    slice_get (settled pairs lines) place ≡ option_map (settled_atom pairs place) (slice_get lines place)
