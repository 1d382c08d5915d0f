use Rattle.std.proofs.Common.{◌≡◌, ◌≤◌, ◌+◌, ◌-◌, [], length, All}
use Rattle.cip_text.specs.Slices.{texts}
use Rattle.cip_mol.specs.Ranges.{IsBond}
use Rattle.cip_v2000.specs.Grammar.{bond_row}
use Rattle.cip_ctfile.specs.Reading.{in_turn}
use Rattle.cip_v2000.proofs.blocks.bond_block.Given as goal

abbrev pub invariant-loop-row : goal.invariant-loop-row
invariant-loop-row l = record {
  so_far : in_turn (bond_row (texts l.lines) l.atoms) l.bonds.bonds (l.count - l.row) l.row
      ≡ in_turn (bond_row (texts l.lines) l.atoms) [] l.count 0;
  among : l.bonds.atoms ≡ l.atoms;
  there : 4 + l.atoms + l.row ≤ length l.lines;
  counted : length l.bonds.bonds ≡ l.row;
  range : All IsBond l.bonds.bonds;
}
