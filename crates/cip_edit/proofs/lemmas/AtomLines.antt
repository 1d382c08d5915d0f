-- What is read of an atom line, field by field.
use Rattle.std.proofs.Common.{◌≡◌, ℕ, ℤ, List, Result, Ok, Option, Some, refl, sym, ap, ◌∙◌}
use Rattle.std.specs.Option.{ok_or}
use Rattle.cip_text.specs.Columns.{field}
use Rattle.cip_text.specs.Numbers.{decimal4_of}
use Rattle.cip_text.specs.declared.numbers.NumberFault.{NumberFault}
use Rattle.cip_elem.specs.Symbols.{element_of}
use Rattle.cip_elem.specs.declared.symbols.Element.{Element}
use Rattle.cip_mol.specs.declared.labels.refusal.ReadCause.{ReadCause}
use Rattle.cip_mol.specs.declared.labels.refusal.ReadCause.TheVariants.{Symbol, AtomField}
use Rattle.cip_ctfile.specs.Causes.{coordinate}
use Rattle.cip_ctfile.specs.Fields.{number_in, signed_in}
use Rattle.cip_ctfile.specs.Reading.{◌>>=◌}
use Rattle.cip_v2000.specs.declared.atoms.AtomLine.{AtomLine}
use Rattle.cip_v2000.specs.AtomLine.{atom_of, charge_of, isotope_of, radical_of}

abbrev pub atom_from : Result ℤ NumberFault → Result ℤ NumberFault → Result ℤ NumberFault → Option Element → Option ℤ
    → Option ℕ → Option ℕ → Result AtomLine ReadCause
atom_from x y z element difference code valence = do
  x ← coordinate x
  y ← coordinate y
  z ← coordinate z
  element ← ok_or element Symbol
  difference ← ok_or difference AtomField
  code ← ok_or code AtomField
  valence ← ok_or valence AtomField
  Ok (record {
    atom = record {
      z = element.z;
      isotope = isotope_of element difference;
      charge = charge_of code;
      radical = radical_of code;
      valence_mark = valence;
      at = record { x = x; y = y; z = z };
    };
    symbol_isotope = element.isotope;
  })

pub atom_of-is : (line : List ℕ) → atom_of line
    ≡ atom_from (decimal4_of (field 1 10 line)) (decimal4_of (field 11 20 line)) (decimal4_of (field 21 30 line))
    (element_of (field 32 34 line)) (signed_in 3 4 (field 35 36 line)) (number_in 7 (field 37 39 line))
    (number_in 15 (field 49 51 line))
unfolding atom_of
atom_of-is line = refl

abbrev pub at_height : ℤ → AtomLine → AtomLine
at_height z line = record line { atom = record line.atom { at = record line.atom.at { z = z } } }

-- the fields of the atom that was read, and the atom with another z
pub record IsAtomOf (one two three : Result ℤ NumberFault) (element : Option Element) (difference : Option ℤ)
    (code valence : Option ℕ) (given : AtomLine) : Type 0 where
  pub x : one ≡ Ok given.atom.at.x
  pub z : three ≡ Ok given.atom.at.z
  pub other : (height : ℤ) → atom_from one two (Ok height) element difference code valence
      ≡ Ok (at_height height given)

pub fields : (x y z : Result ℤ NumberFault) (element : Option Element) (difference : Option ℤ)
    (code valence : Option ℕ) (given : AtomLine) → atom_from x y z element difference code valence ≡ Ok given
    → IsAtomOf x y z element difference code valence given
fields (Ok x) (Ok y) (Ok z) (Some element) (Some difference) (Some code) (Some valence) given h =
    let read : AtomLine = record {
      atom = record {
        z = element.z;
        isotope = isotope_of element difference;
        charge = charge_of code;
        radical = radical_of code;
        valence_mark = valence;
        at = record { x = x; y = y; z = z };
      };
      symbol_isotope = element.isotope;
    } in
    let same : read ≡ given = cc in
    record {
      x = ap (λ line. Ok line.atom.at.x) same;
      z = ap (λ line. Ok line.atom.at.z) same;
      other = λ height. ap (λ line. Ok (at_height height line)) same;
    }
fields x y z element difference code valence given h = absurd cc

-- the same of a line

abbrev pub IsAtomLineOf : List ℕ → AtomLine → Type 0
IsAtomLineOf line given =
    IsAtomOf (decimal4_of (field 1 10 line)) (decimal4_of (field 11 20 line)) (decimal4_of (field 21 30 line))
    (element_of (field 32 34 line)) (signed_in 3 4 (field 35 36 line)) (number_in 7 (field 37 39 line))
    (number_in 15 (field 49 51 line)) given

pub line_fields : (line : List ℕ) (given : AtomLine) → atom_of line ≡ Ok given → IsAtomLineOf line given
line_fields line given h =
    fields (decimal4_of (field 1 10 line)) (decimal4_of (field 11 20 line)) (decimal4_of (field 21 30 line))
    (element_of (field 32 34 line)) (signed_in 3 4 (field 35 36 line)) (number_in 7 (field 37 39 line))
    (number_in 15 (field 49 51 line)) given (sym (atom_of-is line) ∙ h)
