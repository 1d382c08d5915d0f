use Rattle.std.proofs.Common.{◌≡◌, drop}
use Rattle.std.specs.List.{list_all}
use Rattle.cip_text.specs.Slices.{texts}
use Rattle.cip_stereogroups.specs.AtomLists.{is_numeral}
use Rattle.cip_stereogroups.proofs.atoms.atom_lists.are_numerals.Given as goal

abbrev pub invariant-loop-part : goal.invariant-loop-part
invariant-loop-part l = list_all is_numeral (texts (drop l.part-index l.parts)) ≡ list_all is_numeral (texts l.parts)
