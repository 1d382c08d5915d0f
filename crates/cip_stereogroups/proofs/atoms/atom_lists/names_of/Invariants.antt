use Rattle.std.proofs.Common.{◌≡◌, drop}
use Rattle.cip_text.specs.Slices.{texts}
use Rattle.cip_ctfile.specs.Turns.{over}
use Rattle.cip_stereogroups.specs.AtomLists.{with_names, names_of}
use Rattle.cip_stereogroups.proofs.atoms.atom_lists.names_of.Given as goal

abbrev pub invariant-loop-word : goal.invariant-loop-word
invariant-loop-word l =
    over with_names (texts l.names.items) (texts (drop l.word-index l.words)) ≡ names_of (texts l.words)
