use Rattle.std.proofs.Common.{◌≡◌, ◌≤◌, ◌+◌, drop, length, All}
use Rattle.cip_text.specs.Slices.{texts}
use Rattle.cip_v2000.specs.Grammar.{pairs_from, pairs_behind}
use Rattle.cip_v2000.specs.Statements.{IsPair}
use Rattle.cip_v2000.proofs.blocks.property_block.Given as goal

abbrev pub invariant-loop-place : goal.invariant-loop-place
invariant-loop-place l = record {
  so_far : pairs_from (length (texts l.lines) + 1) l.atoms l.pairs.items (l.place + 1) (drop l.place (texts l.lines))
      ≡ pairs_behind l.atoms l.before (texts l.lines);
  within : l.place ≤ length l.lines;
  range : All IsPair l.pairs.items;
}
