use Rattle.std.proofs.Common.{◌≡◌, ◌≤◌, ◌∙◌, ℕ, List, Option, Result, Ok, Fits, arith, refl, sym, subst, ap, w8, w64}
use Rattle.std.specs.Prelude.{ℤ, unsigned_abs}
use Rattle.std.specs.Option.{ok_or}
use Rattle.std.proofs.lemmas.Int.{ints, to_z-of_z}
use Rattle.cip_elem.specs.Symbols.{element_of}
use Rattle.cip_elem.specs.declared.symbols.Element.{Element}
use Rattle.cip_mol.specs.declared.labels.refusal.ReadCause.{ReadCause}
use Rattle.cip_mol.specs.declared.labels.refusal.ReadCause.TheVariants.{Symbol, AtomField}
use Rattle.cip_ctfile.specs.Causes.{coordinate}
use Rattle.cip_ctfile.specs.Fields.{number_in, signed_in}
use Rattle.cip_ctfile.specs.Reading.{◌>>=◌}
use Rattle.cip_text.specs.Columns.{field}
use Rattle.cip_text.specs.Numbers.{decimal4_of}
use Rattle.cip_v2000.specs.AtomLine.{atom_of, charge_of, isotope_of, radical_of}
use Rattle.cip_v2000.specs.declared.atoms.AtomLine.{AtomLine}
use Rattle.cip_v2000.proofs.atoms.atom_in.Goals as goal
use mir.Val.{of_z, to_z}

byte_back : (m : ℤ) → unsigned_abs m ≤ 15 → to_z w8 (of_z w8 m) ≡ m
byte_back m small = to_z-of_z w8 m (omega (arith, ints))

place_back : (m : ℤ) → unsigned_abs m ≤ 500000000 → to_z w64 (of_z w64 m) ≡ m
place_back m small = to_z-of_z w64 m (omega (arith, ints))

small_back : (m : ℤ) → unsigned_abs m ≤ 4 → to_z w8 (of_z w8 m) ≡ m
small_back m small = byte_back m (omega (arith, small))

fits_byte : (n : ℕ) → n ≤ 15 → Fits w8 n
fits_byte n few = omega (arith, few)

-- an atom line by its fields, as each is read
abbrev atom_by : Result ℤ ReadCause → Result ℤ ReadCause → Result ℤ ReadCause → Result Element ReadCause
    → Result ℤ ReadCause → Result ℕ ReadCause → Result ℕ ReadCause → Result AtomLine ReadCause
atom_by x y z element difference code valence = do
  x ← x
  y ← y
  z ← z
  element ← element
  difference ← difference
  code ← code
  valence ← valence
  Ok (record {
    atom = record {
      z = element.z;
      isotope = isotope_of element difference;
      charge = charge_of code;
      radical = radical_of code;
      valence_mark = valence;
      at = record { x = x; y = y; z = z };
    };
    symbol_isotope = element.isotope;
  })

atom_is : (line : List ℕ) (x y z : Result ℤ ReadCause) (element : Result Element ReadCause)
    (difference : Result ℤ ReadCause) (code valence : Result ℕ ReadCause)
    → x ≡ coordinate (decimal4_of (field 1 10 line)) → y ≡ coordinate (decimal4_of (field 11 20 line))
    → z ≡ coordinate (decimal4_of (field 21 30 line)) → element ≡ ok_or (element_of (field 32 34 line)) Symbol
    → difference ≡ ok_or (signed_in 3 4 (field 35 36 line)) AtomField
    → code ≡ ok_or (number_in 7 (field 37 39 line)) AtomField
    → valence ≡ ok_or (number_in 15 (field 49 51 line)) AtomField
    → atom_by x y z element difference code valence ≡ atom_of line
unfolding atom_of
atom_is line x y z element difference code valence a b c d e f g =
    λ i. atom_by (a i) (b i) (c i) (d i) (e i) (f i) (g i)

-- the fields after the symbol, where they are read so
module _ (line : List ℕ) (x y z : Result ℤ ReadCause) (element : Option Element)
    (at_x : x ≡ coordinate (decimal4_of (field 1 10 line))) (at_y : y ≡ coordinate (decimal4_of (field 11 20 line)))
    (at_z : z ≡ coordinate (decimal4_of (field 21 30 line))) (symbol : element ≡ element_of (field 32 34 line)) where
  by_fields : (difference : Option ℤ) (code valence : Option ℕ) → difference ≡ signed_in 3 4 (field 35 36 line)
      → code ≡ number_in 7 (field 37 39 line) → valence ≡ number_in 15 (field 49 51 line)
      → atom_by x y z (ok_or element Symbol) (ok_or difference AtomField) (ok_or code AtomField)
      (ok_or valence AtomField) ≡ atom_of line
  by_fields difference code valence a b c =
      atom_is line _ _ _ _ _ _ _ at_x at_y at_z (ap (λ o. ok_or o Symbol) symbol) (ap (λ o. ok_or o AtomField) a)
      (ap (λ o. ok_or o AtomField) b) (ap (λ o. ok_or o AtomField) c)

pub isotope-requires-clause-known : goal.isotope-requires-clause-known
isotope-requires-clause-known c = c.in-Some.ensures.known

pub isotope-requires-clause-light : goal.isotope-requires-clause-light
isotope-requires-clause-light c = c.in-Some.ensures.light

pub isotope-requires-clause-small : goal.isotope-requires-clause-small
isotope-requires-clause-small c =
    let small = c.in-Some-mass_difference.ensures.range in
    subst (λ (d : ℤ). unsigned_abs d ≤ 4) (sym (small_back c.in-Some-mass_difference.difference small)) small

pub overflow_cast-atom : goal.overflow_cast-atom
overflow_cast-atom c = fits_byte _ c.in-Some-digit_at-2.ensures.range

pub returns-in_default-mass_difference-clause-value : goal.returns-in_default-mass_difference-clause-value
returns-in_default-mass_difference-clause-value c =
    by_fields c.args.line.now _ _ _ _ c.in_ok-x.ensures.value c.in_ok-y.ensures.value c.in_ok-z.ensures.value
    (c.in-Some.ensures.value ∙ ap element_of c.symbol.ensures) _ _ _ c.in_default-mass_difference.ensures.value
    refl refl

pub returns-in_default-digit_at-clause-value : goal.returns-in_default-digit_at-clause-value
returns-in_default-digit_at-clause-value c =
    by_fields c.args.line.now _ _ _ _ c.in_ok-x.ensures.value c.in_ok-y.ensures.value c.in_ok-z.ensures.value
    (c.in-Some.ensures.value ∙ ap element_of c.symbol.ensures) _ _ _ c.in-Some-mass_difference.ensures.value
    c.in_default-digit_at.ensures.value refl

pub returns-in_default-digit_at-2-clause-value : goal.returns-in_default-digit_at-2-clause-value
returns-in_default-digit_at-2-clause-value c =
    by_fields c.args.line.now _ _ _ _ c.in_ok-x.ensures.value c.in_ok-y.ensures.value c.in_ok-z.ensures.value
    (c.in-Some.ensures.value ∙ ap element_of c.symbol.ensures) _ _ _ c.in-Some-mass_difference.ensures.value
    c.in-Some-digit_at.ensures.value c.in_default-digit_at-2.ensures.value

pub returns-clause-range : goal.returns-clause-range
returns-clause-range c = record {
  atom = record {
    element = c.in-Some.ensures.known.some;
    known = c.in-Some.ensures.known.known;
    isotope = c.isotope.ensures.range;
    charge = subst (λ (d : ℤ). unsigned_abs d ≤ 15) (sym (byte_back c.charge.result c.charge.ensures.range))
        c.charge.ensures.range;
    radical = c.radical.ensures.range;
    valence_mark = c.in-Some-digit_at-2.ensures.range;
    place = record {
      x = subst (λ (d : ℤ). unsigned_abs d ≤ 500000000)
          (sym (place_back c.in_ok-x.x c.in_ok-x.ensures.small)) c.in_ok-x.ensures.small;
      y = subst (λ (d : ℤ). unsigned_abs d ≤ 500000000)
          (sym (place_back c.in_ok-y.y c.in_ok-y.ensures.small)) c.in_ok-y.ensures.small;
      z = subst (λ (d : ℤ). unsigned_abs d ≤ 500000000)
          (sym (place_back c.in_ok-z.z c.in_ok-z.ensures.small)) c.in_ok-z.ensures.small;
    };
  };
  light = c.in-Some.ensures.light;
}

pub returns-clause-value : goal.returns-clause-value
returns-clause-value c =
    let small = c.in-Some-mass_difference.ensures.range in
    (λ i. Ok (record {
      atom = record {
        z = c.in-Some.element.z;
        isotope = (c.isotope.ensures.value
            ∙ ap (isotope_of c.in-Some.element) (small_back c.in-Some-mass_difference.difference small)) i;
        charge = (byte_back c.charge.result c.charge.ensures.range ∙ c.charge.ensures.value) i;
        radical = c.radical.ensures.value i;
        valence_mark = c.in-Some-digit_at-2.valence;
        at = record {
          x = place_back c.in_ok-x.x c.in_ok-x.ensures.small i;
          y = place_back c.in_ok-y.y c.in_ok-y.ensures.small i;
          z = place_back c.in_ok-z.z c.in_ok-z.ensures.small i;
        };
      };
      symbol_isotope = c.in-Some.element.isotope;
    }))
    ∙ by_fields c.args.line.now _ _ _ _ c.in_ok-x.ensures.value c.in_ok-y.ensures.value c.in_ok-z.ensures.value
    (c.in-Some.ensures.value ∙ ap element_of c.symbol.ensures) _ _ _ c.in-Some-mass_difference.ensures.value
    c.in-Some-digit_at.ensures.value c.in-Some-digit_at-2.ensures.value
