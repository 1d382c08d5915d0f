use Rattle.std.proofs.Common.{◌≡◌, All, fold, take, length}
use Rattle.cip_mol.specs.Ranges.{IsAtom}
use Rattle.cip_v2000.specs.Statements.{with_pair}
use Rattle.cip_v2000.proofs.atom_properties.with_pairs.Given as goal

abbrev pub invariant-loop-pair : goal.invariant-loop-pair
invariant-loop-pair l = record {
  so_far : l.atoms.items ≡ fold with_pair l.initial.atoms.items (take l.pair-index l.pairs);
  counted : length l.atoms.items ≡ length l.initial.atoms.items;
  range : All IsAtom l.atoms.items;
}
