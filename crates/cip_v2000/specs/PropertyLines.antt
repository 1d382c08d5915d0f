-- The property lines of a molfile that state charges, radicals and isotopes. CTfile Formats; that words are split at
-- spaces, and that words past the pairs aren't read, is own.
use Rattle.std.specs.Prelude.{ℕ, List, [], ◌∷◌, ◌+◌, ◌*◌, Some, None, Result, Ok, Err, codes, take, drop, slice_get, if◌then◌else◌}
use Rattle.std.specs.declared.option.Option.{Option}
use Rattle.std.specs.Option.{ok_or, option_map}
use Rattle.std.specs.Str.{bytes_eq}
use Rattle.cip_mol.specs.declared.labels.refusal.ReadFault.{ReadFault}
use Rattle.cip_v2000.specs.declared.properties.Property.{Property}
use Rattle.cip_v2000.specs.declared.properties.Property.TheVariants as property
use Rattle.cip_v2000.specs.declared.atom_properties.AtomProperty.{AtomProperty}
use Rattle.cip_v2000.specs.declared.atom_properties.AtomProperty.TheVariants.{Charge, Radical, Isotope}
use Rattle.cip_v2000.specs.declared.atom_properties.Pair.{Pair}
use Rattle.cip_ctfile.specs.Fields.{number_in, signed_in, one_based_index}
use Rattle.cip_ctfile.specs.Reading.{◌>>=◌, in_turn}
use Rattle.cip_ctfile.specs.Spaces.{spaced_words_of}

-- the first six columns say what a property line states
abbrev pub property_of : List ℕ → Option Property
property_of line =
    if bytes_eq (take 6 line) (codes "M  CHG") then Some property.Charges
    else if bytes_eq (take 6 line) (codes "M  RAD") then Some property.Radicals
    else if bytes_eq (take 6 line) (codes "M  ISO") then Some property.Isotopes
    else None

abbrev pub statement_of : Property → List ℕ → Option AtomProperty
statement_of property.Charges word = option_map (λ n. Charge n) (signed_in 15 15 word)
statement_of property.Radicals word = option_map (λ n. Radical n) (number_in 3 word)
statement_of property.Isotopes word = option_map (λ n. Isotope n) (number_in 400 word)

abbrev pub paired : Option ℕ → Option AtomProperty → Option Pair
paired None states = None
paired (Some atom) None = None
paired (Some atom) (Some states) = Some (record { atom = atom; states = states })

-- an atom and its value
unfoldable pub pair_of : Property → ℕ → List ℕ → List ℕ → Option Pair
pair_of property atoms atom value = paired (one_based_index (number_in atoms atom)) (statement_of property value)

abbrev pub pair_from : Property → ℕ → Option (List ℕ) → Option (List ℕ) → Option Pair
pair_from property atoms None value = None
pair_from property atoms (Some atom) None = None
pair_from property atoms (Some atom) (Some value) = pair_of property atoms atom value

-- the pair of two words from this place on
unfoldable pub pair_at : Property → ℕ → List (List ℕ) → ℕ → Option Pair
pair_at property atoms words place = pair_from property atoms (slice_get words place) (slice_get words (place + 1))

abbrev pub pair_row : ReadFault → Property → ℕ → List (List ℕ) → List Pair → ℕ → Result Pair ReadFault
pair_row fault property atoms words before row = ok_or (pair_at property atoms words (2 * row)) fault

-- n pairs after those before them
abbrev pub pairs_of : ReadFault → Property → ℕ → List Pair → ℕ → List (List ℕ) → Result (List Pair) ReadFault
pairs_of fault property atoms before count words = in_turn (pair_row fault property atoms words) before count 0

-- a count from 1 to 8, and that many pairs
abbrev pub counted_pairs : ReadFault → Property → ℕ → List Pair → List (List ℕ) → Result (List Pair) ReadFault
counted_pairs fault property atoms before [] = Err fault
counted_pairs fault property atoms before (count ∷ words) = do
  last ← ok_or (one_based_index (number_in 8 count)) fault
  pairs_of fault property atoms before (last + 1) words

abbrev pub pairs_stated : ReadFault → Option Property → ℕ → List Pair → List ℕ → Result (List Pair) ReadFault
pairs_stated fault None atoms before line = Ok before
pairs_stated fault (Some property) atoms before line =
    counted_pairs fault property atoms before (spaced_words_of (drop 6 line))

-- the pairs of a line after those before them; a line that states something else is passed over
unfoldable pub pairs_with : ReadFault → ℕ → List Pair → List ℕ → Result (List Pair) ReadFault
pairs_with fault atoms before line = pairs_stated fault (property_of line) atoms before line
