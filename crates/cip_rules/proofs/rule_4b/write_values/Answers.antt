use Rattle.std.proofs.Common.{◌∷◌, ◌∙◌, [], ℕ, length, map, pos, ap, arith}
use Rattle.std.proofs.lemmas.List.{length-append}
use Rattle.cip_partition.specs.ReservedList.{ReservedList}
use Rattle.cip_rules.specs.Rule4bWorkspace.{reading_key}
use Rattle.cip_rules.proofs.lemmas.ReadingKeys.{values_more}
use Rattle.cip_rules.proofs.rule_4b.write_values.Goals as goal

pub loop-place-preserved : goal.loop-place-preserved
loop-place-preserved g c =
    let from = c.args.branches.now in
    let key = reading_key (g.M.DescriptorMap.descriptors c.args.descriptors.now) from.layers.place_tree.nodes (length from.layers.place_tree.place_parents) in
    let before = c.loop-place.invariant in
    let items = c.loop-place.values.items in
    let value = c.reading_value.result in
    let pushed = ap (λ (r : ReservedList ℕ). r.items) c.push.ensures in
    let len = before.len in
    let sum = length-append items (value ∷ []) in
    let now = ap length pushed in
    record {
      len = omega (arith, len, sum, now);
      values = ap (map pos) pushed
          ∙ values_more key items c.loop-place.place value before.values c.reading_value.ensures;
      room = ap (λ (r : ReservedList ℕ). r.room) c.push.ensures ∙ before.room;
    }

pub reading_value-requires-clause-keyed : goal.reading_value-requires-clause-keyed
reading_value-requires-clause-keyed g c = c.requires.keyed
