use Rattle.std.proofs.Common.{◌∙◌, sym, ap}
use Rattle.std.specs.Ordering.{int_cmp}
use Rattle.cip_digraph.specs.rules.Keys.{lower_precedes}
use Rattle.cip_aux.specs.Views.{sight_of}
use Rattle.cip_rules.proofs.lemmas.NodeKeys.{lower_cmp}
use Rattle.cip_aux_rank.proofs.lemmas.NodeKeys.{distance_key_is}
use Rattle.cip_aux_rank.proofs.keys.distance_keys.DistancesKeyed.compare.Goals as goal

pub returns : goal.returns
returns g c =
    let self = c.args.self.now in
    let sight = sight_of self.whole.now in
    let one = ap lower_precedes c.distance-2.ensures
    ∙ sym (distance_key_is sight self.from c.args.a c.requires.first) in
    let other = ap lower_precedes c.distance.ensures
    ∙ sym (distance_key_is sight self.from c.args.b c.requires.second) in
    c.cmp.ensures ∙ sym (lower_cmp c.distance-2.result c.distance.result) ∙ (λ i. int_cmp (one i) (other i))
