use Rattle.std.proofs.Common.{◌∙◌, arith}
use Rattle.std.specs.Ordering.{int_cmp}
use Rattle.cip_rules.specs.Rule4bWorkspace.{reading_keys}
use Rattle.cip_rules.proofs.lemmas.ReadingKeys.{value_here}
use Rattle.cip_rules.proofs.rule_4b.ReadingKeysKeyed.compare.Goals as goal

pub returns : goal.returns
returns g c =
    let self = c.args.self.now in
    let keys = reading_keys (g.M.DescriptorMap.descriptors self.descriptors.now) self.branches.now in
    let len = self.len in
    let one = value_here self.values.now keys self.node_data c.args.a (omega (arith, c.requires.first, len)) in
    let other = value_here self.values.now keys self.node_data c.args.b (omega (arith, c.requires.second, len)) in
    c.compare_values.ensures ∙ (λ i. int_cmp (one i) (other i))
