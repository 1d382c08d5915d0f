use Rattle.std.proofs.Common.{◌≡◌, ◌-◌, length}
use Rattle.cip_ctfile.specs.Reading.{through}
use Rattle.cip_v3000.specs.Blocks.{seen_bonds, AreBonds}
use Rattle.cip_v3000.specs.Grammar.{bond_row, bond_rows}
use Rattle.cip_v3000.specs.Joining.{seen_all}
use Rattle.cip_v3000.proofs.blocks.read_bonds.Given as goal

abbrev pub invariant-loop-row : goal.invariant-loop-row
invariant-loop-row l = record {
  so_far : through (bond_row (seen_all l.joined) l.atoms l.first) (seen_bonds l.block) (l.count - l.row) l.row
      ≡ bond_rows (seen_all l.joined) l.atoms l.first l.count;
  are : AreBonds (length l.atoms) l.row l.block;
}
