use Rattle.std.proofs.Common.{◌≡◌, drop}
use Rattle.cip_text.specs.Slices.{texts}
use Rattle.cip_item.specs.Parts.{first_part, has_label_part}
use Rattle.cip_item.proofs.label_items.has_label_part.Given as goal

abbrev pub invariant-loop-content : goal.invariant-loop-content
invariant-loop-content l =
    has_label_part l.part (texts (drop l.content-index l.contents))
    ≡ has_label_part (first_part (texts l.contents)) (texts l.contents)
