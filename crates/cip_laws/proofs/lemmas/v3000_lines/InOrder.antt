-- The lines of a molfile decide in order.
use Rattle.std.proofs.Common.{◌≡◌, ◌≤◌, ◌<◌, ◌+◌, ◌-◌, ◌||◌, ◌==◌, ℕ, zero, suc, List, [], ◌∷◌, ◌++◌, length, drop, Result, Ok, Err, Some, Bool, true, false, cond, refl, ap, inl, inr, arith}
use Rattle.std.specs.Prelude.{slice_get}
use Rattle.std.specs.List.{list_any}
use Rattle.std.proofs.lemmas.Bool.Decides.{nat_tests}
use Rattle.std.proofs.lemmas.Option.{slice_get_within}
use Rattle.cip_text.specs.Kinds.{is_molecule_end}
use Rattle.cip_mol.specs.Drawing.{Drawing}
use Rattle.cip_mol.specs.declared.labels.refusal.ReadCause.TheVariants.{Short, Frame}
use Rattle.cip_mol.specs.declared.labels.refusal.ReadFault.{ReadFault}
use Rattle.cip_ctfile.specs.Causes.{guard}
use Rattle.cip_ctfile.specs.Laws.{Reader, IsDecidedInOrder}
use Rattle.cip_ctfile.specs.Reading.{◌>>=◌, numbered, through}
use Rattle.cip_laws.proofs.lemmas.reading.InOrder.{DecidesSomewhere, Anywhere, IsLineAt, line_there, gives, alike, mapped, one_after_another, there_decides, rows_decide, drop_cases, in_order}
use Rattle.cip_laws.proofs.lemmas.reading.LineCauses.{guard_is}
use Rattle.cip_v3000.specs.declared.values.counts.CountsLine.{CountsLine}
use Rattle.cip_v3000.specs.declared.lines.block_lines.BlockLine.{BlockLine}
use Rattle.cip_v3000.specs.declared.lines.block_lines.BlockLine.TheVariants.{BeginTable, BeginAtoms, EndAtoms, BeginBonds, EndBonds, EndTable}
use Rattle.cip_v3000.specs.AtomLine.{atom_of}
use Rattle.cip_v3000.specs.BondLine.{bond_of}
use Rattle.cip_v3000.specs.CountsLine.{counts_of}
use Rattle.cip_v3000.specs.Frames.{is_frame}
use Rattle.cip_v3000.specs.Grammar.{Atoms, Bonds, words_in, read_at, frame_at, atom_row, bond_row, atom_block, bond_rows, framed_bonds, bond_block, has_bond_block, behind_block, table_end, molecule_end, molecule_in, molecule_of}
use Rattle.cip_v3000.specs.JoinedLines.{LogicalLine, next_number, logical_lines}
use Rattle.cip_v3000.specs.Laws.{TellsAtFirstPart}
use Rattle.cip_laws.proofs.lemmas.v3000_lines.JoinedInOrder.{joined_at, missing_told, Stated, Stands, Read, joined_decides, words_decide}
use Rattle.cip_laws.proofs.lemmas.v3000_lines.LineCauses.{counts_line, atom_line, bond_line}

-- from a place on, the joined lines up to the end of the table
abbrev table_from : ℕ → Reader ℕ
table_from place lines = table_end (logical_lines lines).past (drop place (logical_lines lines).lines)

table_from-is : (place : ℕ) (lines : List (List ℕ)) → table_from place lines
    ≡ (joined_at place lines >>= λ line.
    cond (is_frame EndTable (words_in line)) (Ok (next_number line)) (table_from (place + 1) lines))
table_from-is place lines = elim (drop_cases place (logical_lines lines).lines) [
  | inl none ↦ rw (none.0, none.1) refl
  | inr some ↦ rw (some.1, some.2) refl
]

-- from a place on, the lines up to the end of the molecule
abbrev end_from : ℕ → Reader (Unit {0})
end_from place lines = numbered (length lines + 1) (guard Short (list_any is_molecule_end (drop place lines)))

guard_or : (past : ℕ) (one other : Bool) → numbered past (guard Short (one || other))
    ≡ cond one (Ok tt) (numbered past (guard Short other))
guard_or past true other = refl
guard_or past false other = refl

end_from-is : (place : ℕ) (lines : List (List ℕ)) → end_from place lines
    ≡ (line_there place lines >>= λ line. cond (is_molecule_end line) (Ok tt) (end_from (place + 1) lines))
end_from-is place lines = elim (drop_cases place lines) [
  | inl none ↦ rw (none.0, none.1) refl
  | inr some ↦ rw (some.1, some.2) (guard_or (length lines + 1) (is_molecule_end some.0) _)
]

-- where there are no bonds, one line decides whether their block is there

abbrev no_bonds : Bonds
no_bonds = record { indices = []; bonds = [] }

abbrev finish : Atoms → Bonds → ℕ → Reader Drawing
finish atoms bonds number lines = do
  _ ← molecule_end lines number
  Ok (record { atoms = atoms.atoms; bonds = bonds.bonds })

abbrev closing : Atoms → Bonds → ℕ → Reader Drawing
closing atoms bonds place lines = do
  number ← table_from place lines
  finish atoms bonds number lines

abbrev behind_atoms : Atoms → ℕ → ℕ → Reader Drawing
behind_atoms atoms count place lines = do
  bonds ← bond_block (logical_lines lines) atoms.indices count place
  number ← table_end (logical_lines lines).past
      (drop (behind_block (has_bond_block (logical_lines lines) count place) count place) (logical_lines lines).lines)
  finish atoms bonds number lines

abbrev by_frame : Atoms → ℕ → LogicalLine → Reader Drawing
by_frame atoms place line lines =
    cond (is_frame BeginBonds (words_in line))
    (frame_at (logical_lines lines) (place + 1 + 0) EndBonds >>= λ _. closing atoms no_bonds (place + 0 + 2) lines)
    (cond (is_frame EndTable (words_in line)) (finish atoms no_bonds (next_number line) lines)
    (closing atoms no_bonds (place + 1) lines))

assoc : {A B C E : Type 0} (read : Result A E) (next : A → Result B E) (last : B → Result C E)
    → ((read >>= next) >>= last) ≡ (read >>= λ x. next x >>= last)
assoc (Ok x) next last = refl
assoc (Err e) next last = refl

behind_no_bonds : (atoms : Atoms) (place : ℕ) (lines : List (List ℕ)) → behind_atoms atoms 0 place lines
    ≡ (joined_at place lines >>= λ line. by_frame atoms place line lines)
unfolding read_at through
behind_no_bonds atoms place lines = elim (drop_cases place (logical_lines lines).lines) [
  | inl none ↦ rw (none.0, none.1) refl
  | inr some ↦ by_tests some.0 some.1 some.2 (is_frame BeginBonds (words_in some.0))
      (is_frame EndTable (words_in some.0))
      refl refl
]
  where
    by_tests : (line : LogicalLine) → slice_get (logical_lines lines).lines place ≡ Some line
        → drop place (logical_lines lines).lines ≡ line ∷ drop (place + 1) (logical_lines lines).lines
        → (begins ends : Bool) → is_frame BeginBonds (words_in line) ≡ begins → is_frame EndTable (words_in line) ≡ ends
        → behind_atoms atoms 0 place lines ≡ (joined_at place lines >>= λ line. by_frame atoms place line lines)
    by_tests line get rest true ends begin end =
        rw (get, begin) (assoc (frame_at (logical_lines lines) (place + 1 + 0) EndBonds) (λ _. Ok no_bonds)
        (λ bonds. closing atoms bonds (place + 0 + 2) lines))
    by_tests line get rest false true begin end = rw (get, begin, rest, end) refl
    by_tests line get rest false false begin end = rw (get, begin, rest, end) refl

with_bonds : (atoms : Atoms) (count place : ℕ) (lines : List (List ℕ)) → behind_atoms atoms (suc count) place lines
    ≡ (framed_bonds (logical_lines lines) atoms.indices (suc count) place >>= λ bonds.
    closing atoms bonds (place + suc count + 2) lines)
with_bonds atoms count place lines =
    let some : (suc count == 0) ≡ false = by_test (suc count == 0) refl in
    rw some refl
  where
    by_test : (test : Bool) → (suc count == 0) ≡ test → test ≡ false
    by_test false is = refl
    by_test true is = absurd (let same : suc count ≡ 0 = grind (arith, nat_tests) in omega (arith, same))

module _ (lines : List (List ℕ)) where
  frame_decides : (place next early : ℕ) (due : BlockLine) → next ≡ place + 1 → Stands lines place early
      → early ≤ length lines
      → DecidesSomewhere (Stated lines) lines early (λ x last. Stands lines next last)
      (λ ls. frame_at (logical_lines ls) place due)
  frame_decides place next early due is stands le =
      words_decide lines place next early (λ words. guard Frame (is_frame due words)) is
      (λ words. guard_is Frame (λ e. cc) (is_frame due words)) stands le

  atom_decides : (before : Atoms) (row early : ℕ) → Stands lines (3 + row) early → early ≤ length lines
      → DecidesSomewhere (Stated lines) lines early (λ x last. Stands lines (3 + (row + 1)) last)
      (λ ls. atom_row (logical_lines ls) before row)
  atom_decides before row early stands le =
      mapped (Stated lines) lines early (λ x last. Stands lines (3 + (row + 1)) last)
      (λ x last. Stands lines (3 + (row + 1)) last)
      (λ ls. read_at (logical_lines ls) (3 + row) (atom_of before.indices))
      (λ line. record { indices = before.indices ++ line.index ∷ []; atoms = before.atoms ++ line.atom ∷ [] })
      le (λ x last is. is)
      (words_decide lines (3 + row) (3 + (row + 1)) early (atom_of before.indices) (omega arith)
      (atom_line before.indices) stands le)

  bond_decides : (atoms : List ℕ) (first : ℕ) (before : Bonds) (row early : ℕ) → Stands lines (first + row) early
      → early ≤ length lines
      → DecidesSomewhere (Stated lines) lines early (λ x last. Stands lines (first + (row + 1)) last)
      (λ ls. bond_row (logical_lines ls) atoms first before row)
  bond_decides atoms first before row early stands le =
      mapped (Stated lines) lines early (λ x last. Stands lines (first + (row + 1)) last)
      (λ x last. Stands lines (first + (row + 1)) last)
      (λ ls. read_at (logical_lines ls) (first + row) (bond_of atoms before.indices before.bonds))
      (λ line. record { indices = before.indices ++ line.index ∷ []; bonds = before.bonds ++ line.bond ∷ [] })
      le (λ x last is. is)
      (words_decide lines (first + row) (first + (row + 1)) early (bond_of atoms before.indices before.bonds)
      (omega arith)
      (bond_line atoms before.indices before.bonds) stands le)

  atoms_decide : (count early : ℕ) → Stands lines 3 early → early ≤ length lines
      → DecidesSomewhere (Stated lines) lines early (λ x last. Stands lines (3 + count) last)
      (λ ls. atom_block (logical_lines ls) count)
  atoms_decide count early stands le =
      rows_decide (Stated lines) lines (λ row last. Stands lines (3 + row) last) (λ ls. atom_row (logical_lines ls))
      atom_decides count (record { indices = []; atoms = [] }) 0 count early (omega arith) stands le

  bonds_decide : (atoms : List ℕ) (first count early : ℕ) → Stands lines first early → early ≤ length lines
      → DecidesSomewhere (Stated lines) lines early (λ x last. Stands lines (first + count) last)
      (λ ls. bond_rows (logical_lines ls) atoms first count)
  bonds_decide atoms first count early stands le =
      let same : first + 0 ≡ first = omega arith in
      rows_decide (Stated lines) lines (λ row last. Stands lines (first + row) last)
      (λ ls. bond_row (logical_lines ls) atoms first) (bond_decides atoms first) count no_bonds 0 count early
      (omega arith) (rw same stands) le

  framed_decide : (atoms : List ℕ) (count place behind early : ℕ) → behind ≡ place + count + 2
      → Stands lines place early
      → early ≤ length lines
      → DecidesSomewhere (Stated lines) lines early (λ x last. Stands lines behind last)
      (λ ls. framed_bonds (logical_lines ls) atoms count place)
  framed_decide atoms count place behind early is stands le =
      one_after_another (Stated lines) lines early (λ x last. Stands lines (place + 1) last)
      (λ x last. Stands lines behind last)
      (λ ls. frame_at (logical_lines ls) place BeginBonds)
      (λ _ ls. bond_rows (logical_lines ls) atoms (place + 1) count >>= λ bonds.
      frame_at (logical_lines ls) (place + 1 + count) EndBonds >>= λ _. Ok bonds)
      le (frame_decides place (place + 1) early BeginBonds refl stands le)
      (λ _ n at within.
      one_after_another (Stated lines) lines n (λ x last. Stands lines (place + 1 + count) last)
      (λ x last. Stands lines behind last)
      (λ ls. bond_rows (logical_lines ls) atoms (place + 1) count)
      (λ bonds ls. frame_at (logical_lines ls) (place + 1 + count) EndBonds >>= λ _. Ok bonds)
      within (bonds_decide atoms (place + 1) count n at within)
      (λ bonds m next inside.
      mapped (Stated lines) lines m (λ x last. Stands lines behind last) (λ x last. Stands lines behind last)
      (λ ls. frame_at (logical_lines ls) (place + 1 + count) EndBonds) (λ _. bonds) inside (λ x last is. is)
      (frame_decides (place + 1 + count) behind m EndBonds (omega (arith, is)) next inside)))

  -- up to the end of the table

  abbrev TableDecides : ℕ → ℕ → Type 0
  TableDecides place early =
      DecidesSomewhere (Stated lines) lines early (λ number last. number ≡ last + 1) (table_from place)

  by_table_end : (ends : Bool) (number place last : ℕ) → number ≡ last + 1 → last ≤ length lines
      → TableDecides (place + 1) last
      → DecidesSomewhere (Stated lines) lines last (λ number last. number ≡ last + 1)
      (λ ls. cond ends (Ok number) (table_from (place + 1) ls))
  by_table_end true number place last next within rest =
      gives (Stated lines) lines last (λ number last. number ≡ last + 1) number within next
  by_table_end false number place last next within rest = rest

  table_step : (place early : ℕ) → Stands lines place early → early ≤ length lines
      → ((last : ℕ) → Stands lines (suc place) last → last ≤ length lines → TableDecides (place + 1) last)
      → TableDecides place early
  table_step place early stands le each =
      alike (Stated lines) lines early (λ number last. number ≡ last + 1) _ (table_from place) (table_from-is place)
      (one_after_another (Stated lines) lines early (Read lines place) (λ number last. number ≡ last + 1)
      (joined_at place)
      (λ line ls. cond (is_frame EndTable (words_in line)) (Ok (next_number line)) (table_from (place + 1) ls))
      le (joined_decides lines place early stands le)
      (λ line last at within. by_table_end (is_frame EndTable (words_in line)) (next_number line) place last
      at.makes.next within (each last at.stands within)))

  within_joined : (place last : ℕ) → Stands lines (suc place) last → place < length (logical_lines lines).lines
  within_joined place last reached = elim (drop_cases place (logical_lines lines).lines) [
    | inl none ↦ absurd (let e : refused ≡ Ok reached.line = rw none.0 at reached.is in cc)
    | inr some ↦ slice_get_within (logical_lines lines).lines place some.0 some.1
  ]
    where
      refused : Result LogicalLine ReadFault
      refused = Err (logical_lines lines).past

  table_decides : (left place early : ℕ) → length (logical_lines lines).lines ≤ place + left → Stands lines place early
      → early ≤ length lines → TableDecides place early
  table_decides zero place early most stands le =
      table_step place early stands le
      (λ last at within. absurd (omega (arith, most, within_joined place last at)))
  table_decides (suc left) place early most stands le =
      table_step place early stands le
      (λ last at within. let same : place + 1 ≡ suc place = omega arith in
      table_decides left (place + 1) last (omega (arith, most)) (rw same at) within)

  -- up to the end of the molecule

  abbrev EndDecides : ℕ → Type 0
  EndDecides place = DecidesSomewhere (Stated lines) lines place Anywhere (end_from place)

  by_end : (ends : Bool) (place : ℕ) → place + 1 ≤ length lines → EndDecides (place + 1)
      → DecidesSomewhere (Stated lines) lines (place + 1) Anywhere (λ ls. cond ends (Ok tt) (end_from (place + 1) ls))
  by_end true place within rest = gives (Stated lines) lines (place + 1) Anywhere tt within tt
  by_end false place within rest = rest

  end_step : (place : ℕ) → place ≤ length lines → (place + 1 ≤ length lines → EndDecides (place + 1)) → EndDecides place
  end_step place le each =
      alike (Stated lines) lines place Anywhere _ (end_from place) (end_from-is place)
      (one_after_another (Stated lines) lines place (IsLineAt lines place) Anywhere (line_there place)
      (λ line ls. cond (is_molecule_end line) (Ok tt) (end_from (place + 1) ls)) le
      (there_decides (Stated lines) lines place place (missing_told lines) (omega arith) le)
      (λ line n is within. let at : n ≡ place + 1 = is.number in
      rw at (by_end (is_molecule_end line) place (omega (arith, at, within)) (each (omega (arith, at, within))))))

  end_decides : (left place : ℕ) → place + left ≡ length lines → EndDecides place
  end_decides zero place at = end_step place (omega (arith, at)) (λ within. absurd (omega (arith, at, within)))
  end_decides (suc left) place at =
      end_step place (omega (arith, at)) (λ within. end_decides left (place + 1) (omega (arith, at)))

  -- the whole grammar

  abbrev DrawingDecides : ℕ → Reader Drawing → Type 0
  DrawingDecides early read = DecidesSomewhere (Stated lines) lines early Anywhere read

  finish_decides : (atoms : Atoms) (bonds : Bonds) (number last : ℕ) → number ≡ last + 1 → last ≤ length lines
      → DrawingDecides last (finish atoms bonds number)
  finish_decides atoms bonds number last is le =
      let same : number - 1 ≡ last = omega (arith, is) in
      let drawing : Drawing = record { atoms = atoms.atoms; bonds = bonds.bonds } in
      alike (Stated lines) lines last Anywhere _ (finish atoms bonds number)
      (λ ls. ap (λ place. end_from place ls >>= λ _. Ok drawing) same)
      (mapped (Stated lines) lines last Anywhere Anywhere (end_from last) (λ _. drawing) le (λ x n is. tt)
      (end_decides (length lines - last) last (omega (arith, le))))

  closing_decides : (atoms : Atoms) (bonds : Bonds) (place early : ℕ) → Stands lines place early → early ≤ length lines
      → DrawingDecides early (closing atoms bonds place)
  closing_decides atoms bonds place early stands le =
      one_after_another (Stated lines) lines early (λ number last. number ≡ last + 1) Anywhere (table_from place)
      (finish atoms bonds) le
      (table_decides (length (logical_lines lines).lines) place early (omega arith) stands le)
      (finish_decides atoms bonds)

  by_frame_decides : (atoms : Atoms) (place : ℕ) (line : LogicalLine) (last : ℕ) → next_number line ≡ last + 1
      → Stands lines (place + 1) last → last ≤ length lines → (begins ends : Bool)
      → DrawingDecides last (λ ls. cond begins
      (frame_at (logical_lines ls) (place + 1 + 0) EndBonds >>= λ _. closing atoms no_bonds (place + 0 + 2) ls)
      (cond ends (finish atoms no_bonds (next_number line) ls) (closing atoms no_bonds (place + 1) ls)))
  by_frame_decides atoms place line last next stands le true ends =
      let same : place + 1 + 0 ≡ place + 1 = omega arith in
      one_after_another (Stated lines) lines last (λ x n. Stands lines (place + 0 + 2) n) Anywhere
      (λ ls. frame_at (logical_lines ls) (place + 1 + 0) EndBonds) (λ _. closing atoms no_bonds (place + 0 + 2)) le
      (frame_decides (place + 1 + 0) (place + 0 + 2) last EndBonds (omega arith) (rw same stands) le)
      (λ _ n at within. closing_decides atoms no_bonds (place + 0 + 2) n at within)
  by_frame_decides atoms place line last next stands le false true =
      finish_decides atoms no_bonds (next_number line) last next le
  by_frame_decides atoms place line last next stands le false false =
      closing_decides atoms no_bonds (place + 1) last stands le

  behind_atoms_decides : (atoms : Atoms) (count place early : ℕ) → Stands lines place early → early ≤ length lines
      → DrawingDecides early (behind_atoms atoms count place)
  behind_atoms_decides atoms zero place early stands le =
      alike (Stated lines) lines early Anywhere _ (behind_atoms atoms 0 place) (behind_no_bonds atoms place)
      (one_after_another (Stated lines) lines early (Read lines place) Anywhere (joined_at place)
      (by_frame atoms place) le
      (joined_decides lines place early stands le)
      (λ line last at within. let same : place + 1 ≡ suc place = omega arith in
      by_frame_decides atoms place line last at.makes.next (rw same at.stands) within
      (is_frame BeginBonds (words_in line)) (is_frame EndTable (words_in line))))
  behind_atoms_decides atoms (suc count) place early stands le =
      alike (Stated lines) lines early Anywhere _ (behind_atoms atoms (suc count) place) (with_bonds atoms count place)
      (one_after_another (Stated lines) lines early (λ x last. Stands lines (place + suc count + 2) last) Anywhere
      (λ ls. framed_bonds (logical_lines ls) atoms.indices (suc count) place)
      (λ bonds. closing atoms bonds (place + suc count + 2)) le
      (framed_decide atoms.indices (suc count) place (place + suc count + 2) early refl stands le)
      (λ bonds last at within. closing_decides atoms bonds (place + suc count + 2) last at within))

  whole_decides : DrawingDecides 0 (λ ls. molecule_in ls (logical_lines ls))
  whole_decides =
      one_after_another (Stated lines) lines 0 (λ x last. Stands lines 1 last) Anywhere
      (λ ls. frame_at (logical_lines ls) 0 BeginTable) (λ _. behind_begin) (omega arith)
      (frame_decides 0 1 0 BeginTable refl refl (omega arith))
      (λ _ n at within.
      one_after_another (Stated lines) lines n (λ x last. Stands lines 2 last) Anywhere
      (λ ls. read_at (logical_lines ls) 1 counts_of) behind_counts within
      (words_decide lines 1 2 n counts_of refl counts_line at within)
      (λ counts m next inside.
      one_after_another (Stated lines) lines m (λ x last. Stands lines 3 last) Anywhere
      (λ ls. frame_at (logical_lines ls) 2 BeginAtoms) (λ _. behind_frame counts) inside
      (frame_decides 2 3 m BeginAtoms refl next inside)
      (λ _ n at within.
      one_after_another (Stated lines) lines n (λ x last. Stands lines (3 + counts.atoms) last) Anywhere
      (λ ls. atom_block (logical_lines ls) counts.atoms) (behind_rows counts) within
      (atoms_decide counts.atoms n at within)
      (λ atoms m next inside.
      one_after_another (Stated lines) lines m (λ x last. Stands lines (4 + counts.atoms) last) Anywhere
      (λ ls. frame_at (logical_lines ls) (3 + counts.atoms) EndAtoms)
      (λ _. behind_atoms atoms counts.bonds (4 + counts.atoms)) inside
      (frame_decides (3 + counts.atoms) (4 + counts.atoms) m EndAtoms (omega arith) next inside)
      (λ _ n at within. behind_atoms_decides atoms counts.bonds (4 + counts.atoms) n at within)))))
    where
      behind_rows : CountsLine → Atoms → Reader Drawing
      behind_rows counts atoms ls =
          frame_at (logical_lines ls) (3 + counts.atoms) EndAtoms >>= λ _.
          behind_atoms atoms counts.bonds (4 + counts.atoms) ls

      behind_frame : CountsLine → Reader Drawing
      behind_frame counts ls = atom_block (logical_lines ls) counts.atoms >>= λ atoms. behind_rows counts atoms ls

      behind_counts : CountsLine → Reader Drawing
      behind_counts counts ls =
          frame_at (logical_lines ls) 2 BeginAtoms >>= λ _. behind_frame counts ls

      behind_begin : Reader Drawing
      behind_begin ls = read_at (logical_lines ls) 1 counts_of >>= λ counts. behind_counts counts ls

pub molecule_in_order : IsDecidedInOrder TellsAtFirstPart molecule_of
unfolding molecule_of
molecule_in_order lines = in_order TellsAtFirstPart lines molecule_of (whole_decides lines)
