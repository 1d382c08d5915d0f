use Rattle.std.proofs.Common.{◌≡◌, ◌<◌, ◌∙◌, length, slice_index, sym, ap, subst, arith, rules}
use Rattle.std.proofs.lemmas.Grind.{common_steps}
use Rattle.cip_digraph.specs.digraph.View.{apart}
use Rattle.cip_aux.specs.Sources.{distance_node}
use Rattle.cip_aux.proofs.lemmas.WholeTold.{parents_len}
use Rattle.cip_aux.specs.Views.{IsReal, path_at, sight_of}
use Rattle.cip_aux.proofs.lemmas.Data.{whole_shows}
use Rattle.cip_aux_rank.proofs.lemmas.Sources.{source_is}
use Rattle.cip_aux_rank.proofs.keys.distance_keys.Distances.distance.Goals as goal

pub steps-requires : goal.steps-requires
steps-requires g c =
    let self = c.args.self.now in
    let whole = self.whole.now in
    let sight = sight_of whole in
    let shows = whole_shows whole c.nodes-nodes.ensures.whole in
    let len = shows.node_data.len in
    let low = c.requires in
    let same : c.source-source.result ≡ distance_node whole.rules whole.node_data c.args.node =
    c.source-source.ensures ∙ (λ i. distance_node (c.rules.ensures i) (c.nodes-nodes.ensures.node_data i) c.args.node) in
    record {
      real = subst (IsReal sight.nodes) (sym same)
          (source_is sight shows self.from c.args.node (omega (arith, len, low, parents_len whole.node_data))).real;
    }

pub returns-in-Some : goal.returns-in-Some
returns-in-Some g c =
    let self = c.args.self.now in
    let whole = self.whole.now in
    let sight = sight_of whole in
    let shows = whole_shows whole c.nodes-nodes.ensures.whole in
    let len = shows.node_data.len in
    let low = c.requires in
    let same : c.source-source.result ≡ distance_node whole.rules whole.node_data c.args.node =
    c.source-source.ensures ∙ (λ i. distance_node (c.rules.ensures i) (c.nodes-nodes.ensures.node_data i) c.args.node) in
    let is = source_is sight shows self.from c.args.node (omega (arith, len, low, parents_len whole.node_data)) in
    let within : c.source-source.result < length self.known.now = grind (arith, common_steps) in
    let value : c.in-Some.steps.now ≡ slice_index self.known.now c.source-source.result = search rules in
    c.from.ensures ∙ value ∙ self.counted.each c.source-source.result within (subst (IsReal sight.nodes) (sym same) is.real)
    ∙ ap (λ n. apart (path_at sight.nodes self.from) (path_at sight.nodes n)) same ∙ is.far

pub returns-in-None : goal.returns-in-None
returns-in-None g c =
    let self = c.args.self.now in
    let whole = self.whole.now in
    let sight = sight_of whole in
    let shows = whole_shows whole c.nodes-nodes.ensures.whole in
    let len = shows.node_data.len in
    let low = c.requires in
    let same : c.source-source.result ≡ distance_node whole.rules whole.node_data c.args.node =
    c.source-source.ensures ∙ (λ i. distance_node (c.rules.ensures i) (c.nodes-nodes.ensures.node_data i) c.args.node) in
    c.steps.ensures ∙ ap (λ n. apart (path_at sight.nodes self.from) (path_at sight.nodes n)) same
    ∙ (source_is sight shows self.from c.args.node (omega (arith, len, low, parents_len whole.node_data))).far
