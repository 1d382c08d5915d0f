-- What the grammar gives has bonds without a fault.
use Rattle.std.proofs.Common.{◌≡◌, ◌+◌, ℕ, List, [], ◌∷◌, ◌++◌, length, drop, Result, Ok, Option, Some, None, Bool, true, false, refl, sym, ap, ◌∙◌, subst, arith}
use Rattle.std.specs.Prelude.{slice_get, nat_lt}
use Rattle.cip_mol.specs.Bonds.{cause_of, IsSound}
use Rattle.cip_mol.specs.Drawing.{Drawing}
use Rattle.cip_mol.specs.declared.graph.molecule.Bond.{Bond}
use Rattle.cip_mol.specs.declared.labels.refusal.ReadCause.{ReadCause}
use Rattle.cip_mol.specs.declared.labels.refusal.ReadCause.TheVariants.{Frame}
use Rattle.cip_mol.specs.declared.labels.refusal.ReadFault.{ReadFault}
use Rattle.cip_mol.proofs.lemmas.SoundBonds.{sound_push}
use Rattle.cip_ctfile.specs.Causes.{guard, unless_refused}
use Rattle.cip_ctfile.specs.Fields.{parse_number}
use Rattle.cip_ctfile.proofs.lemmas.Given.{same_given, given_of, numbered_given, unrefused, kept_through}
use Rattle.cip_ctfile.proofs.lemmas.Rows.{length-push}
use Rattle.cip_v3000.specs.declared.bonds.BondLine.{BondLine}
use Rattle.cip_v3000.specs.declared.lines.block_lines.BlockLine.TheVariants.{BeginTable, BeginAtoms, EndAtoms, BeginBonds, EndBonds}
use Rattle.cip_v3000.specs.AtomLine.{atom_of, new_index, word_at}
use Rattle.cip_v3000.specs.BondLine.{bond_by, bond_of}
use Rattle.cip_v3000.specs.CountsLine.{counts_of}
use Rattle.cip_v3000.specs.Grammar.{Atoms, Bonds, words_in, read_line, read_at, frame_at, atom_row, bond_row, atom_block, bond_rows, framed_bonds, has_bond_block, bond_block, behind_block, table_end, molecule_end, molecule_in, molecule_of}
use Rattle.cip_v3000.specs.JoinedLines.{LogicalLine, JoinedLines, logical_lines}
use Rattle.cip_v3000.specs.Soundness.{ReadingsAreSound}

-- the words that something was read of
record IsOfSome {A : Type 0} (read : List (List ℕ) → Result A ReadCause) (x : A) : Type 0 where
  words : List (List ℕ)
  gives : read words ≡ Ok x

line_given : {A : Type 0} (past : ReadFault) (read : List (List ℕ) → Result A ReadCause) (line : Option LogicalLine)
    (x : A)
    → read_line past read line ≡ Ok x → IsOfSome read x
line_given past read None x h = absurd cc
line_given past read (Some line) x h =
    record { words = words_in line; gives = numbered_given line.number (read (words_in line)) x h }

given_at : {A : Type 0} (joined : JoinedLines) (place : ℕ) (read : List (List ℕ) → Result A ReadCause) (x : A)
    → read_at joined place read ≡ Ok x → IsOfSome read x
unfolding read_at
given_at joined place read x h = line_given joined.past read (slice_get joined.lines place) x h

-- no cause holds at a bond that is read

free_bond : (atoms known : List ℕ) (before : List Bond) (words : List (List ℕ)) (line : BondLine)
    → bond_of atoms known before words ≡ Ok line → cause_of (length atoms) before line.bond ≡ None
unfolding bond_of
free_bond atoms known before words line h =
    let many = given_of (guard Frame (nat_lt 3 (length words))) _ line h in
    let index = given_of (new_index known (word_at words 0)) _ line many.gives in
    let drawn = given_of (bond_by atoms (parse_number 3 (word_at words 1)) (parse_number 1000000000 (word_at words 2))
    (parse_number 1000000000 (word_at words 3)) (drop 4 words)) _ line index.gives in
    let bond = given_of (unless_refused drawn.was (cause_of (length atoms) before drawn.was)) _ line drawn.gives in
    let free = unrefused drawn.was bond.was (cause_of (length atoms) before drawn.was) bond.read_as in
    subst (λ (l : BondLine). cause_of (length atoms) before l.bond ≡ None)
    (same_given (record { index = index.was; bond = bond.was }) line bond.gives)
    (subst (λ x. cause_of (length atoms) before x ≡ None) free.same free.none)

bond_pushed : (joined : JoinedLines) (atoms : List ℕ) (first : ℕ) (before : Bonds) (number : ℕ) (now : Bonds)
    → IsSound (length atoms) before.bonds → bond_row joined atoms first before number ≡ Ok now
    → IsSound (length atoms) now.bonds
bond_pushed joined atoms first before number now sound h =
    let line = given_of (read_at joined (first + number) (bond_of atoms before.indices before.bonds)) _ now h in
    let words = given_at joined (first + number) (bond_of atoms before.indices before.bonds) line.was line.read_as in
    subst (λ (b : Bonds). IsSound (length atoms) b.bonds)
    (same_given (record { indices = before.indices ++ line.was.index ∷ []; bonds = before.bonds ++ line.was.bond ∷ [] })
    now line.gives)
    (sound_push (length atoms) before.bonds line.was.bond sound
    (free_bond atoms before.indices before.bonds words.words line.was words.gives))

none_sound : (atoms : ℕ) → IsSound atoms []
none_sound atoms = record { each = λ k within d. absurd (omega (arith, within)) }

sound_rows : (joined : JoinedLines) (atoms : List ℕ) (first count : ℕ) (bonds : Bonds)
    → bond_rows joined atoms first count ≡ Ok bonds → IsSound (length atoms) bonds.bonds
sound_rows joined atoms first count bonds h =
    kept_through (λ number (b : Bonds). IsSound (length atoms) b.bonds) (bond_row joined atoms first)
    (bond_pushed joined atoms first) (record { indices = []; bonds = [] }) count 0 bonds (none_sound (length atoms)) h

sound_framed : (joined : JoinedLines) (atoms : List ℕ) (count place : ℕ) (bonds : Bonds)
    → framed_bonds joined atoms count place ≡ Ok bonds → IsSound (length atoms) bonds.bonds
sound_framed joined atoms count place bonds h =
    let begun = given_of (frame_at joined place BeginBonds) _ bonds h in
    let rows = given_of (bond_rows joined atoms (place + 1) count) _ bonds begun.gives in
    let ended = given_of (frame_at joined (place + 1 + count) EndBonds) _ bonds rows.gives in
    subst (λ (b : Bonds). IsSound (length atoms) b.bonds) (same_given rows.was bonds ended.gives)
    (sound_rows joined atoms (place + 1) count rows.was rows.read_as)

sound_by : (joined : JoinedLines) (atoms : List ℕ) (count place : ℕ) (bonds : Bonds) (has : Bool)
    → has_bond_block joined count place ≡ has → bond_block joined atoms count place ≡ Ok bonds
    → IsSound (length atoms) bonds.bonds
sound_by joined atoms count place bonds true e h = sound_framed joined atoms count place bonds (rw e at h)
sound_by joined atoms count place bonds false e h =
    subst (λ (b : Bonds). IsSound (length atoms) b.bonds)
    (same_given (record { indices = []; bonds = [] }) bonds (rw e at h)) (none_sound (length atoms))

-- each atom has an index

atom_pushed : (joined : JoinedLines) (before : Atoms) (number : ℕ) (now : Atoms)
    → length before.indices ≡ length before.atoms → atom_row joined before number ≡ Ok now
    → length now.indices ≡ length now.atoms
atom_pushed joined before number now same h =
    let line = given_of (read_at joined (3 + number) (atom_of before.indices)) _ now h in
    subst (λ (a : Atoms). length a.indices ≡ length a.atoms)
    (same_given (record { indices = before.indices ++ line.was.index ∷ []; atoms = before.atoms ++ line.was.atom ∷ [] })
    now line.gives)
    (length-push before.indices line.was.index (length before.indices) refl
    ∙ ap (λ n. n + 1) same ∙ sym (length-push before.atoms line.was.atom (length before.atoms) refl))

same_many : (joined : JoinedLines) (count : ℕ) (atoms : Atoms) → atom_block joined count ≡ Ok atoms
    → length atoms.indices ≡ length atoms.atoms
same_many joined count atoms h =
    kept_through (λ number (a : Atoms). length a.indices ≡ length a.atoms) (atom_row joined) (atom_pushed joined)
    (record { indices = []; atoms = [] }) count 0 atoms refl h

sound_in : (lines : List (List ℕ)) (joined : JoinedLines) (drawing : Drawing) → molecule_in lines joined ≡ Ok drawing
    → IsSound (length drawing.atoms) drawing.bonds
sound_in lines joined drawing h =
    let begun = given_of (frame_at joined 0 BeginTable) _ drawing h in
    let counts = given_of (read_at joined 1 counts_of) _ drawing begun.gives in
    let framed = given_of (frame_at joined 2 BeginAtoms) _ drawing counts.gives in
    let atoms = given_of (atom_block joined counts.was.atoms) _ drawing framed.gives in
    let ended = given_of (frame_at joined (3 + counts.was.atoms) EndAtoms) _ drawing atoms.gives in
    let bonds = given_of (bond_block joined atoms.was.indices counts.was.bonds (4 + counts.was.atoms)) _ drawing
    ended.gives in
    let number = given_of
    (table_end joined.past (drop (behind_block (has_bond_block joined counts.was.bonds (4 + counts.was.atoms))
    counts.was.bonds (4 + counts.was.atoms)) joined.lines))
    _ drawing bonds.gives in
    let last = given_of (molecule_end lines number.was) _ drawing number.gives in
    let sound : IsSound (length atoms.was.atoms) bonds.was.bonds =
    subst (λ n. IsSound n bonds.was.bonds) (same_many joined counts.was.atoms atoms.was atoms.read_as)
    (sound_by joined atoms.was.indices counts.was.bonds (4 + counts.was.atoms) bonds.was
    (has_bond_block joined counts.was.bonds (4 + counts.was.atoms)) refl bonds.read_as) in
    subst (λ (d : Drawing). IsSound (length d.atoms) d.bonds)
    (same_given (record { atoms = atoms.was.atoms; bonds = bonds.was.bonds }) drawing last.gives) sound

pub readings_are_sound : ReadingsAreSound
unfolding molecule_of
readings_are_sound lines drawing h = sound_in lines (logical_lines lines) drawing h
