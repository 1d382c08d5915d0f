-- What the grammar gives has bonds without a fault.
use Rattle.std.proofs.Common.{◌≡◌, ◌+◌, ℕ, List, [], ◌∷◌, ◌++◌, length, map, fold, Ok, Option, Some, None, refl, sym, ◌∙◌, subst, arith}
use Rattle.std.specs.Prelude.{slice_get}
use Rattle.std.specs.Option.{ok_or}
use Rattle.std.proofs.lemmas.List.{length-set, length-map}
use Rattle.cip_text.specs.Columns.{field}
use Rattle.cip_mol.specs.Bonds.{cause_of, IsSound}
use Rattle.cip_mol.specs.Drawing.{Drawing}
use Rattle.cip_mol.specs.declared.graph.molecule.Atom.{Atom}
use Rattle.cip_mol.specs.declared.graph.molecule.Bond.{Bond}
use Rattle.cip_mol.specs.declared.labels.refusal.ReadCause.TheVariants.{BondEnd, BondType, BondMark}
use Rattle.cip_mol.proofs.lemmas.SoundBonds.{sound_push}
use Rattle.cip_ctfile.specs.Causes.{order_of}
use Rattle.cip_ctfile.specs.Fields.{number_in, one_based_index}
use Rattle.cip_ctfile.specs.Reading.{read_at, in_turn, pushing}
use Rattle.cip_ctfile.proofs.lemmas.Given.{same_given, given_of, given_at, unrefused, kept_through}
use Rattle.cip_ctfile.proofs.lemmas.Rows.{length-push}
use Rattle.cip_v2000.specs.declared.atoms.AtomLine.{AtomLine}
use Rattle.cip_v2000.specs.declared.atom_properties.Pair.{Pair}
use Rattle.cip_v2000.specs.BondLine.{bond_of, mark_of}
use Rattle.cip_v2000.specs.CountsLine.{counts_of}
use Rattle.cip_v2000.specs.Grammar.{atom_row, bond_row, pairs_behind, molecule_of}
use Rattle.cip_v2000.specs.Soundness.{ReadingsAreSound}
use Rattle.cip_v2000.specs.Statements.{kept, with_pair, with_pair_at, settled, state_charges, state_isotopes}

-- no cause holds at a bond that is read

free_bond : (atoms : ℕ) (before : List Bond) (line : List ℕ) (bond : Bond) → bond_of atoms before line ≡ Ok bond
    → cause_of atoms before bond ≡ None
unfolding bond_of
free_bond atoms before line bond h =
    let a = given_of (ok_or (one_based_index (number_in atoms (field 1 3 line))) BondEnd) _ bond h in
    let b = given_of (ok_or (one_based_index (number_in atoms (field 4 6 line))) BondEnd) _ bond a.gives in
    let order = given_of (ok_or (order_of (number_in 3 (field 7 9 line))) BondType) _ bond b.gives in
    let mark = given_of (ok_or (mark_of order.was (number_in 6 (field 10 12 line))) BondMark) _ bond order.gives in
    let drawn : Bond = record { a = a.was; b = b.was; order = order.was; mark = mark.was } in
    let free = unrefused drawn bond (cause_of atoms before drawn) mark.gives in
    subst (λ x. cause_of atoms before x ≡ None) free.same free.none

bond_pushed : (lines : List (List ℕ)) (atoms : ℕ) (before : List Bond) (number : ℕ) (now : List Bond)
    → IsSound atoms before → pushing (bond_row lines atoms) before number ≡ Ok now → IsSound atoms now
bond_pushed lines atoms before number now sound h =
    let row = given_of (bond_row lines atoms before number) _ now h in
    let line = given_at lines (4 + atoms + number) (bond_of atoms before) row.was row.read_as in
    subst (IsSound atoms) (same_given (before ++ row.was ∷ []) now row.gives)
    (sound_push atoms before row.was sound (free_bond atoms before line.line row.was line.gives))

none_sound : (atoms : ℕ) → IsSound atoms []
none_sound atoms = record { each = λ k within d. absurd (omega (arith, within)) }

sound_rows : (lines : List (List ℕ)) (atoms count : ℕ) (bonds : List Bond)
    → in_turn (bond_row lines atoms) [] count 0 ≡ Ok bonds → IsSound atoms bonds
unfolding in_turn
sound_rows lines atoms count bonds h =
    kept_through (λ number. IsSound atoms) (pushing (bond_row lines atoms)) (bond_pushed lines atoms) [] count 0 bonds
    (none_sound atoms) h

-- n atoms are read

atom_pushed : (lines : List (List ℕ)) (before : List AtomLine) (number : ℕ) (now : List AtomLine)
    → length before ≡ number → pushing (atom_row lines) before number ≡ Ok now → length now ≡ number + 1
atom_pushed lines before number now counted h =
    let row = given_of (atom_row lines before number) _ now h in
    subst (λ xs. length xs ≡ number + 1) (same_given (before ++ row.was ∷ []) now row.gives)
    (length-push before row.was number counted)

counted_rows : (lines : List (List ℕ)) (count : ℕ) (atoms : List AtomLine)
    → in_turn (atom_row lines) [] count 0 ≡ Ok atoms → length atoms ≡ count
unfolding in_turn
counted_rows lines count atoms h =
    let same : 0 + count ≡ count = omega arith in
    kept_through (λ number xs. length xs ≡ number) (pushing (atom_row lines)) (atom_pushed lines) [] count 0 atoms refl h
    ∙ same

-- statements leave as many

length_pair : (atoms : List Atom) (pair : Pair) (atom : Option Atom) → length (with_pair_at atoms pair atom) ≡ length atoms
length_pair atoms pair None = refl
length_pair atoms pair (Some atom) = length-set atoms pair.atom _

length_pairs : (pairs : List Pair) (atoms : List Atom) → length (fold with_pair atoms pairs) ≡ length atoms
length_pairs [] atoms = refl
length_pairs (pair ∷ pairs) atoms =
    length_pairs pairs (with_pair atoms pair) ∙ length_pair atoms pair (slice_get atoms pair.atom)

length_settled : (pairs : List Pair) (lines : List AtomLine) → length (settled pairs lines) ≡ length lines
unfolding settled
length_settled pairs lines =
    length_pairs pairs (map (kept (state_charges pairs) (state_isotopes pairs)) lines)
    ∙ length-map lines (kept (state_charges pairs) (state_isotopes pairs))

pub readings_are_sound : ReadingsAreSound
unfolding molecule_of
readings_are_sound lines drawing h =
    let counts = given_of (read_at lines 3 counts_of) _ drawing h in
    let atoms = given_of (in_turn (atom_row lines) [] counts.was.atoms 0) _ drawing counts.gives in
    let bonds = given_of (in_turn (bond_row lines counts.was.atoms) [] counts.was.bonds 0) _ drawing atoms.gives in
    let pairs = given_of (pairs_behind counts.was.atoms (4 + (counts.was.atoms + counts.was.bonds)) lines) _ drawing
    bonds.gives in
    let many : counts.was.atoms ≡ length (settled pairs.was atoms.was) =
    sym (length_settled pairs.was atoms.was ∙ counted_rows lines counts.was.atoms atoms.was atoms.read_as) in
    let sound : IsSound (length (settled pairs.was atoms.was)) bonds.was =
    subst (λ n. IsSound n bonds.was) many
    (sound_rows lines counts.was.atoms counts.was.bonds bonds.was bonds.read_as) in
    subst (λ (d : Drawing). IsSound (length d.atoms) d.bonds)
    (same_given (record { atoms = settled pairs.was atoms.was; bonds = bonds.was }) drawing pairs.gives) sound
