use Rattle.std.proofs.Common.{◌≡◌, ◌-◌}
use Rattle.cip_ctfile.specs.Reading.{through}
use Rattle.cip_v3000.specs.Blocks.{seen_atoms, AreAtoms}
use Rattle.cip_v3000.specs.Grammar.{atom_row, atom_block}
use Rattle.cip_v3000.specs.Joining.{seen_all}
use Rattle.cip_v3000.proofs.blocks.read_atoms.Given as goal

abbrev pub invariant-loop-row : goal.invariant-loop-row
invariant-loop-row l = record {
  so_far : through (atom_row (seen_all l.joined)) (seen_atoms l.block) (l.count - l.row) l.row
      ≡ atom_block (seen_all l.joined) l.count;
  are : AreAtoms l.row l.block;
}
