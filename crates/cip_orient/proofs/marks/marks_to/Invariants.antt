use Rattle.std.proofs.Common.{◌≡◌, map, take, length}
use Rattle.cip_mol.specs.Marks.{mark_to}
use Rattle.cip_orient.proofs.marks.marks_to.Given as goal

abbrev pub invariant-loop-neighbour : goal.invariant-loop-neighbour
invariant-loop-neighbour l = record {
  so_far : l.marks ≡ map (mark_to l.atom l.molecule.bonds) (take l.neighbour-index l.neighbours);
  counted : length l.marks ≡ l.neighbour-index;
}
