use Rattle.std.proofs.Common.{◌≡◌, ◌≤◌, All, map, take, length, vec_capacity, vec_len}
use Rattle.cip_mol.specs.Ranges.{IsAtom}
use Rattle.cip_v2000.specs.Statements.{kept}
use Rattle.cip_v2000.proofs.atom_properties.keep_all.Given as goal

abbrev pub invariant-loop-line : goal.invariant-loop-line
invariant-loop-line l = record {
  so_far : l.atoms.items ≡ map (kept l.charges l.isotopes) (take l.line-index l.lines);
  counted : length l.atoms.items ≡ l.line-index;
  range : All IsAtom l.atoms.items;
  kept : vec_len l.atoms ≡ l.line-index;
  room : length l.lines ≤ vec_capacity l.atoms;
}
