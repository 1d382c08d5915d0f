-- An atom line of a molfile. CTfile Formats; where a mass difference states nothing is own.
use Rattle.std.specs.Prelude.{◌≤◌, ℕ, zero, suc, ℤ, pos, negsuc, List, ◌+◌, ◌-◌, ◌==◌, Some, None, Result, Ok, if◌then◌else◌}
use Rattle.std.specs.declared.option.Option.{Option}
use Rattle.std.specs.Option.{ok_or}
use Rattle.cip_text.specs.Columns.{field}
use Rattle.cip_text.specs.Numbers.{decimal4_of}
use Rattle.cip_elem.specs.Symbols.{element_of}
use Rattle.cip_elem.specs.Masses.{reference_mass_of}
use Rattle.cip_elem.specs.declared.symbols.Element.{Element}
use Rattle.cip_mol.specs.Ranges.{IsAtom}
use Rattle.cip_mol.specs.declared.labels.refusal.ReadCause.{ReadCause}
use Rattle.cip_mol.specs.declared.labels.refusal.ReadCause.TheVariants.{Symbol, AtomField}
use Rattle.cip_v2000.specs.declared.atoms.AtomLine.{AtomLine}
use Rattle.cip_ctfile.specs.Causes.{coordinate}
use Rattle.cip_ctfile.specs.Fields.{number_in, signed_in}
use Rattle.cip_ctfile.specs.Reading.{◌>>=◌}

-- a mass difference states nothing where it is 0, where no reference mass is known, and below a mass of 1
abbrev pub mass_from : Option ℕ → ℤ → ℕ
mass_from None difference = 0
mass_from (Some mass) (pos zero) = 0
mass_from (Some mass) (pos (suc n)) = mass + suc n
mass_from (Some mass) (negsuc n) = mass - suc n

-- D and T keep the mass that their symbols state
abbrev pub isotope_of : Element → ℤ → ℕ
isotope_of element difference =
    if element.isotope == 0 then mass_from (reference_mass_of element.z) difference else element.isotope

abbrev pub charge_of : ℕ → ℤ
charge_of code =
    if code == 1 then pos 3
    else if code == 2 then pos 2
    else if code == 3 then pos 1
    else if code == 5 then negsuc 0
    else if code == 6 then negsuc 1
    else if code == 7 then negsuc 2
    else pos 0

-- the charge code 4 is a doublet radical
abbrev pub radical_of : ℕ → ℕ
radical_of code = if code == 4 then 2 else 0

unfoldable pub atom_of : List ℕ → Result AtomLine ReadCause
atom_of line = do
  x ← coordinate (decimal4_of (field 1 10 line))
  y ← coordinate (decimal4_of (field 11 20 line))
  z ← coordinate (decimal4_of (field 21 30 line))
  element ← ok_or (element_of (field 32 34 line)) Symbol
  difference ← ok_or (signed_in 3 4 (field 35 36 line)) AtomField
  code ← ok_or (number_in 7 (field 37 39 line)) AtomField
  valence ← ok_or (number_in 15 (field 49 51 line)) AtomField
  Ok (record {
    atom = record {
      z = element.z;
      isotope = isotope_of element difference;
      charge = charge_of code;
      radical = radical_of code;
      valence_mark = valence;
      at = record { x = x; y = y; z = z };
    };
    symbol_isotope = element.isotope;
  })

pub record IsAtomLine (line : AtomLine) : Type 0 where
  pub atom : IsAtom line.atom
  pub light : line.symbol_isotope ≤ 3
