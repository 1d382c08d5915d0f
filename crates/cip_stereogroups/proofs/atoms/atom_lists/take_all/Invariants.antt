use Rattle.std.proofs.Common.{◌≡◌, drop}
use Rattle.cip_ctfile.specs.Turns.{over}
use Rattle.cip_stereogroups.specs.AtomLists.{with_taken, all_taken}
use Rattle.cip_stereogroups.proofs.atoms.atom_lists.take_all.Given as goal

abbrev pub invariant-loop-atom : goal.invariant-loop-atom
invariant-loop-atom l = over with_taken l.taken (drop l.atom-index l.atoms) ≡ all_taken l.fn.taken l.atoms
