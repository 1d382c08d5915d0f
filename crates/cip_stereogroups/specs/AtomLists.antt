-- The atoms of a group line: ATOMS=(n a1 .. an), where n atoms are named by their indices. CTfile Formats, V3000; that
-- all words are read before any atom is looked for, and that an atom is in one group line at most, is own.
use Rattle.std.specs.Prelude.{ℕ, List, [], ◌∷◌, ◌++◌, ◌-◌, ◌==◌, ◌&&◌, Bool, false, codes, length, take, drop, nat_eq, Some, None, Result, Ok, Err, if◌then◌else◌}
use Rattle.std.specs.declared.option.Option.{Option}
use Rattle.std.specs.List.{list_all, list_any, starts_with}
use Rattle.std.specs.Option.{ok_or}
use Rattle.cip_text.specs.Lines.{ends_with_byte}
use Rattle.cip_text.specs.Numbers.{integer_of}
use Rattle.cip_ctfile.specs.Fields.{parse_number}
use Rattle.cip_ctfile.specs.Reading.{◌>>=◌}
use Rattle.cip_ctfile.specs.Spaces.{spaced_words_of}
use Rattle.cip_ctfile.specs.Turns.{over}
use Rattle.cip_v3000.specs.AtomLine.{is_number}
use Rattle.cip_v3000.specs.BondLine.{place_named}
use Rattle.cip_stereogroups.specs.declared.faults.GroupCause.{GroupCause}
use Rattle.cip_stereogroups.specs.declared.faults.GroupCause.TheVariants.{Word, Atom, Repeated}

-- a number, of any size
abbrev pub is_numeral : List ℕ → Bool
is_numeral part = is_number (integer_of part)

abbrev pub is_count : ℕ → Option ℕ → Bool
is_count count None = false
is_count count (Some number) = number == count

-- a number, and as many numbers after it as it says
abbrev pub is_counted : List (List ℕ) → Bool
is_counted [] = false
is_counted (count ∷ names) =
    is_count (length names) (parse_number 1000000000 count) && list_all is_numeral names

-- what is in the brackets of ATOMS=( )
abbrev pub inner : List ℕ → Option (List ℕ)
inner word =
    if starts_with nat_eq word (codes "ATOMS=(") && ends_with_byte 41 word then Some (take (length word - 8) (drop 7 word))
    else None

abbrev pub with_parts : List (List ℕ) → List (List ℕ) → Result (List (List ℕ)) GroupCause
with_parts before parts = if is_counted parts then Ok (before ++ drop 1 parts) else Err Word

abbrev pub with_inner : List (List ℕ) → Option (List ℕ) → Result (List (List ℕ)) GroupCause
with_inner before None = Err Word
with_inner before (Some text) = with_parts before (spaced_words_of text)

-- the names of atoms of a word after those before it; another word has none
unfoldable pub with_names : List (List ℕ) → List ℕ → Result (List (List ℕ)) GroupCause
with_names before word =
    if starts_with nat_eq word (codes "ATOMS=") then with_inner before (inner word) else Ok before

abbrev pub names_of : List (List ℕ) → Result (List (List ℕ)) GroupCause
names_of words = over with_names [] words

-- the atom of a name, from 0
abbrev pub atom_of : List ℕ → List ℕ → Result ℕ GroupCause
atom_of indices name = ok_or (place_named indices name) Atom

-- after those before it
abbrev pub with_atom : List ℕ → List ℕ → List ℕ → Result (List ℕ) GroupCause
with_atom indices before name = do
  atom ← atom_of indices name
  Ok (before ++ atom ∷ [])

abbrev pub atoms_of : List ℕ → List (List ℕ) → Result (List ℕ) GroupCause
atoms_of indices names = over (with_atom indices) [] names

-- an atom that is none of those in group lines so far
abbrev pub with_taken : List ℕ → ℕ → Result (List ℕ) GroupCause
with_taken taken atom = if list_any (nat_eq atom) taken then Err Repeated else Ok (taken ++ atom ∷ [])

abbrev pub all_taken : List ℕ → List ℕ → Result (List ℕ) GroupCause
all_taken taken atoms = over with_taken taken atoms
