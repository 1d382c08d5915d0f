use Rattle.std.proofs.Common.{◌≡◌, drop}
use Rattle.cip_text.specs.Slices.{texts}
use Rattle.cip_ctfile.specs.Turns.{over}
use Rattle.cip_stereogroups.specs.AtomLists.{with_atom, atoms_of}
use Rattle.cip_stereogroups.proofs.atoms.atom_lists.atoms_of.Given as goal

abbrev pub invariant-loop-name : goal.invariant-loop-name
invariant-loop-name l =
    over (with_atom l.index) l.atoms.items (texts (drop l.name-index l.names)) ≡ atoms_of l.index (texts l.names)
