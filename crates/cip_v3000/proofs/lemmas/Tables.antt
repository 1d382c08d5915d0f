-- The molecule of a table is that of the grammar.
use Rattle.std.proofs.Common.{◌≡◌, ℕ, ◌+◌, List, Result, Ok, Err, refl, ap, drop}
use Rattle.cip_mol.specs.Drawing.{Drawing}
use Rattle.cip_mol.specs.declared.labels.refusal.ReadFault.{ReadFault}
use Rattle.cip_ctfile.specs.Reading.{◌>>=◌}
use Rattle.cip_v3000.specs.CountsLine.{counts_of}
use Rattle.cip_v3000.specs.declared.lines.block_lines.BlockLine.TheVariants.{BeginTable, BeginAtoms, EndAtoms}
use Rattle.cip_v3000.specs.Grammar.{read_at, frame_at, atom_block, bond_block, table_end, molecule_end, molecule_in, molecule_of}
use Rattle.cip_v3000.specs.JoinedLines.{JoinedLines, logical_lines}
use Rattle.cip_v3000.specs.Tables.{Table, place_behind, table_in, table_of, drawn}

-- what was read first is the same
then_drawn : {A : Type 0} (read : Result A ReadFault) (next : A → Result Table ReadFault)
    (other : A → Result Drawing ReadFault)
    → ((x : A) → drawn (next x) ≡ other x) → drawn (read >>= next) ≡ (read >>= other)
then_drawn (Ok x) next other each = each x
then_drawn (Err fault) next other each = refl

-- the end of a table, and of the molfile after it
end_drawn : (number : Result ℕ ReadFault) (end : ℕ → Result (Unit {0}) ReadFault) (table : Table) (drawing : Drawing)
    → table.drawing ≡ drawing
    → drawn (number >>= end >>= (λ _. Ok table)) ≡ (number >>= (λ n. end n >>= (λ _. Ok drawing)))
end_drawn (Err fault) end table drawing same = refl
end_drawn (Ok number) end table drawing same = then_drawn (end number) _ _ (λ _. ap Ok same)

table_drawn : (lines : List (List ℕ)) (joined : JoinedLines) → drawn (table_in lines joined) ≡ molecule_in lines joined
table_drawn lines joined =
    then_drawn (frame_at joined 0 BeginTable) _ _ (λ _.
    then_drawn (read_at joined 1 counts_of) _ _ (λ counts.
    then_drawn (frame_at joined 2 BeginAtoms) _ _ (λ _.
    then_drawn (atom_block joined counts.atoms) _ _ (λ atoms.
    then_drawn (frame_at joined (3 + counts.atoms) EndAtoms) _ _ (λ _.
    then_drawn (bond_block joined atoms.indices counts.bonds (4 + counts.atoms)) _ _ (λ bonds.
    end_drawn (table_end joined.past (drop (place_behind joined counts) joined.lines)) (molecule_end lines) _ _
    refl))))))

pub tables_are_drawn : (lines : List (List ℕ)) → drawn (table_of lines) ≡ molecule_of lines
unfolding table_of molecule_of
tables_are_drawn lines = table_drawn lines (logical_lines lines)

pub drawn_table : (lines : List (List ℕ)) (table : Table) → table_of lines ≡ Ok table
    → molecule_of lines ≡ Ok table.drawing
drawn_table lines table is = rw (← tables_are_drawn lines, is) refl

pub undrawn_table : (lines : List (List ℕ)) (fault : ReadFault) → table_of lines ≡ Err fault
    → molecule_of lines ≡ Err fault
undrawn_table lines fault is = rw (← tables_are_drawn lines, is) refl
