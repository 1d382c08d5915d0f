use Rattle.std.proofs.Common.{◌≡◌, length, map, pos}
use Rattle.std.specs.List.{range_with_len}
use Rattle.cip_rules.specs.Rule4bWorkspace.{reading_key}
use Rattle.cip_rules.proofs.rule_4b.write_values.Given as goal

abbrev pub invariant-loop-place : goal.invariant-loop-place
invariant-loop-place g l = record {
  len : length l.values.items ≡ l.place;
  values : map pos l.values.items
      ≡ map (reading_key (g.M.DescriptorMap.descriptors l.descriptors) l.branches.layers.place_tree.nodes (length l.branches.layers.place_tree.place_parents))
      (range_with_len 0 l.place);
  room : l.values.room ≡ l.fn.values.room;
}
