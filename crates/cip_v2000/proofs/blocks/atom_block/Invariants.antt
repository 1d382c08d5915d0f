use Rattle.std.proofs.Common.{◌≡◌, ◌≤◌, ◌+◌, ◌-◌, [], length, All, vec_capacity, vec_len}
use Rattle.cip_text.specs.Slices.{texts}
use Rattle.cip_v2000.specs.AtomLine.{IsAtomLine}
use Rattle.cip_v2000.specs.Grammar.{atom_row}
use Rattle.cip_ctfile.specs.Reading.{in_turn}
use Rattle.cip_v2000.proofs.blocks.atom_block.Given as goal

abbrev pub invariant-loop-row : goal.invariant-loop-row
invariant-loop-row l = record {
  so_far : in_turn (atom_row (texts l.lines)) l.atoms.items (l.count - l.row) l.row
      ≡ in_turn (atom_row (texts l.lines)) [] l.count 0;
  there : 4 + l.row ≤ length l.lines;
  counted : length l.atoms.items ≡ l.row;
  range : All IsAtomLine l.atoms.items;
  kept : vec_len l.atoms ≡ l.row;
  room : l.count ≤ vec_capacity l.atoms;
}
