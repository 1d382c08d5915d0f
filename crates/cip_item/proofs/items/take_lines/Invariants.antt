use Rattle.std.proofs.Common.{◌≡◌, ◌≤◌, ◌+◌, drop}
use Rattle.cip_text.specs.Slices.{texts}
use Rattle.cip_item.specs.Splitting.{items_with, begun}
use Rattle.cip_item.proofs.items.take_lines.Given as goal

abbrev pub invariant-loop-content : goal.invariant-loop-content
invariant-loop-content l = record {
  items : items_with l.splitter (texts (drop l.content-index l.contents))
      ≡ items_with l.initial.splitter (texts l.contents);
  number : l.splitter.number ≡ l.initial.splitter.number + l.content-index;
  begun : begun l.splitter ≤ l.splitter.number;
}
