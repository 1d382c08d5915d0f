use Rattle.std.proofs.Common.{◌≡◌, drop}
use Rattle.std.specs.List.{list_any}
use Rattle.cip_text.specs.Kinds.{is_molecule_end}
use Rattle.cip_text.specs.Slices.{texts}
use Rattle.cip_item.proofs.sections.has_molecule_end.Given as goal

abbrev pub invariant-loop-content : goal.invariant-loop-content
invariant-loop-content l =
    list_any is_molecule_end (texts (drop l.content-index l.contents)) ≡ list_any is_molecule_end (texts l.contents)
