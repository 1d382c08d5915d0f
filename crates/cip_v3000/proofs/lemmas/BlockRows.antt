-- One row more of the blocks.
use Rattle.std.proofs.Common.{◌≡◌, ◌≤◌, ◌<◌, ◌+◌, ℕ, Bool, List, [], ◌∷◌, ◌++◌, length, drop, map, get_or, Result, Ok, Err, true, false, refl, sym, ◌∙◌}
use Rattle.std.specs.Borrow.{Bor}
use Rattle.std.specs.List.{list_any}
use Rattle.std.proofs.lemmas.List.{drop_more, drop-map}
use Rattle.cip_mol.specs.declared.labels.refusal.ReadFault.{ReadFault}
use Rattle.cip_text.specs.Kinds.{is_molecule_end}
use Rattle.cip_text.specs.Slices.{texts}
use Rattle.cip_ctfile.proofs.lemmas.Texts.{drop_texts, drop_texts_past}
use Rattle.cip_v3000.specs.declared.lines.continuation.LogicalLine as declared_line
use Rattle.cip_v3000.specs.declared.atoms.AtomLine.{AtomLine}
use Rattle.cip_v3000.specs.declared.bonds.BondLine.{BondLine}
use Rattle.cip_v3000.specs.declared.lines.block_lines.BlockLine.TheVariants.{EndTable}
use Rattle.cip_v3000.specs.AtomLine.{atom_of}
use Rattle.cip_v3000.specs.BondLine.{bond_of}
use Rattle.cip_v3000.specs.Frames.{is_frame}
use Rattle.cip_v3000.specs.Grammar.{Atoms, Bonds, words_in, read_at, atom_row, bond_row, table_end}
use Rattle.cip_v3000.specs.JoinedLines.{JoinedLines, next_number}
use Rattle.cip_v3000.specs.Joining.{seen}

pub atom_row_read : (joined : JoinedLines) (before : Atoms) (row : ℕ) (line : AtomLine)
    → read_at joined (3 + row) (atom_of before.indices) ≡ Ok line
    → Ok (record { indices = before.indices ++ line.index ∷ []; atoms = before.atoms ++ line.atom ∷ [] })
    ≡ atom_row joined before row
atom_row_read joined before row line is = rw is refl

pub atom_row_refused : (joined : JoinedLines) (before : Atoms) (row : ℕ) (fault : ReadFault)
    → Err fault ≡ read_at joined (3 + row) (atom_of before.indices) → Err fault ≡ atom_row joined before row
atom_row_refused joined before row fault is = rw (← is) refl

pub bond_row_read : (joined : JoinedLines) (atoms : List ℕ) (first : ℕ) (before : Bonds) (row : ℕ) (line : BondLine)
    → read_at joined (first + row) (bond_of atoms before.indices before.bonds) ≡ Ok line
    → Ok (record { indices = before.indices ++ line.index ∷ []; bonds = before.bonds ++ line.bond ∷ [] })
    ≡ bond_row joined atoms first before row
bond_row_read joined atoms first before row line is = rw is refl

pub bond_row_refused : (joined : JoinedLines) (atoms : List ℕ) (first : ℕ) (before : Bonds) (row : ℕ)
    (fault : ReadFault)
    → Err fault ≡ read_at joined (first + row) (bond_of atoms before.indices before.bonds) → Err fault
    ≡ bond_row joined atoms first before row
bond_row_refused joined atoms first before row fault is = rw (← is) refl

-- lines before the end of the table

drop_seen : (lines : List declared_line.LogicalLine) (place : ℕ) (d : declared_line.LogicalLine) → place < length lines
    → drop place (map seen lines) ≡ seen (get_or lines place d) ∷ drop (place + 1) (map seen lines)
drop_seen lines place d within =
    rw (drop-map seen place lines, drop-map seen (place + 1) lines, drop_more lines place d within) refl

pub table_ends : (past : ReadFault) (lines : List declared_line.LogicalLine) (place : ℕ) (d : declared_line.LogicalLine)
    (total : Result ℕ ReadFault)
    → place < length lines → is_frame EndTable (words_in (seen (get_or lines place d))) ≡ true
    → table_end past (drop place (map seen lines)) ≡ total → total ≡ Ok (next_number (seen (get_or lines place d)))
table_ends past lines place d total within ends so_far =
    let one : table_end past (drop place (map seen lines))
    ≡ Ok (next_number (seen (get_or lines place d))) = rw (drop_seen lines place d within, ends) refl in
    sym so_far ∙ one

pub table_goes_on : (past : ReadFault) (lines : List declared_line.LogicalLine) (place : ℕ)
    (d : declared_line.LogicalLine) (total : Result ℕ ReadFault)
    → place < length lines → is_frame EndTable (words_in (seen (get_or lines place d))) ≡ false
    → table_end past (drop place (map seen lines)) ≡ total → table_end past (drop (place + 1) (map seen lines)) ≡ total
table_goes_on past lines place d total within goes_on so_far =
    let one : table_end past (drop place (map seen lines))
    ≡ table_end past (drop (place + 1) (map seen lines)) = rw (drop_seen lines place d within, goes_on) refl in
    sym one ∙ so_far

-- lines before the end of the molfile

pub molecule_ends : (lines : List (Bor (List ℕ))) (place : ℕ) (d : Bor (List ℕ)) (total : Bool) → place < length lines
    → is_molecule_end (get_or lines place d).now ≡ true
    → list_any is_molecule_end (drop place (texts lines)) ≡ total → total ≡ true
molecule_ends lines place d total within ends so_far =
    let one : list_any is_molecule_end (drop place (texts lines)) ≡ true
    = rw (drop_texts lines place d within, ends) refl in
    sym so_far ∙ one

pub molecule_goes_on : (lines : List (Bor (List ℕ))) (place : ℕ) (d : Bor (List ℕ)) (total : Bool)
    → place < length lines → is_molecule_end (get_or lines place d).now ≡ false
    → list_any is_molecule_end (drop place (texts lines)) ≡ total
    → list_any is_molecule_end (drop (place + 1) (texts lines)) ≡ total
molecule_goes_on lines place d total within goes_on so_far =
    let one : list_any is_molecule_end (drop place (texts lines))
    ≡ list_any is_molecule_end (drop (place + 1) (texts lines)) = rw (drop_texts lines place d within, goes_on) refl in
    sym one ∙ so_far

pub molecule_runs_out : (lines : List (Bor (List ℕ))) (place : ℕ) (total : Bool) → length lines ≤ place
    → list_any is_molecule_end (drop place (texts lines)) ≡ total → total ≡ false
molecule_runs_out lines place total past so_far =
    let one : list_any is_molecule_end (drop place (texts lines)) ≡ false = rw (drop_texts_past lines place past) refl in
    sym so_far ∙ one
