use Rattle.std.proofs.Common.{◌≡◌, ◌-◌, All}
use Rattle.cip_text.specs.Slices.{texts}
use Rattle.cip_v2000.specs.PropertyLines.{pairs_of, pair_row}
use Rattle.cip_ctfile.specs.Reading.{in_turn}
use Rattle.cip_v2000.specs.Statements.{IsPair}
use Rattle.cip_v2000.proofs.properties.push_pairs.Given as goal

abbrev pub invariant-loop-row : goal.invariant-loop-row
invariant-loop-row l = record {
  so_far : in_turn (pair_row l.fault l.property l.atoms (texts l.words)) l.pairs.items (l.count - l.row) l.row
      ≡ pairs_of l.fault l.property l.atoms l.fn.pairs.items l.count (texts l.words);
  range : All IsPair l.pairs.items;
}
