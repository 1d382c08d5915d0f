use Rattle.std.proofs.Common.{◌∙◌, ℕ, List, slice_index, ap, arith}
use Rattle.std.proofs.lemmas.Grind.{common_steps}
use Rattle.cip_digraph.specs.digraph.NodeList.{parents_of}
use Rattle.cip_aux.specs.Views.{sight_of}
use Rattle.cip_aux.proofs.lemmas.Data.{whole_shows}
use Rattle.cip_aux_rank.proofs.lemmas.Meeting.{comes_next, meets_root, meets_there}
use Rattle.cip_aux_rank.proofs.keys.distance_keys.Distances.meet.Goals as goal

pub loop-table-preserved : goal.loop-table-preserved
loop-table-preserved g c =
    let self = c.args.self.now in
    let whole = self.whole.now in
    let parents = c.table-table.ensures ∙ ap parents_of c.nodes-nodes.ensures.node_data in
    let at = c.loop-table.at in
    comes_next (sight_of whole) (whole_shows whole c.nodes-nodes.ensures.whole) self.from self.real c.args.node
    c.requires.real self.way.now self.flagged at c.loop-table.invariant (c.is_off_path.ensures.some c.loop-table-test.true)
    (c.is_off_path.ensures.off c.loop-table-test.true) c.parent_of-at.result
    (c.parent_of-at.ensures.parent ∙ ap (λ (ps : List ℕ). slice_index ps at) parents)

pub returns-after-loop-table : goal.returns-after-loop-table
returns-after-loop-table g c =
    let self = c.args.self.now in
    let whole = self.whole.now in
    meets_there (sight_of whole) (whole_shows whole c.nodes-nodes.ensures.whole) self.from self.real c.args.node
    c.requires.real self.way.now self.flagged c.loop-table.at c.loop-table.invariant
    (c.is_off_path.ensures.on c.loop-table-test.false)

pub parent_of-at-requires-clause-node : goal.parent_of-at-requires-clause-node
parent_of-at-requires-clause-node g c = grind (arith, common_steps)

pub parent_of-at-requires-clause-some : goal.parent_of-at-requires-clause-some
parent_of-at-requires-clause-some g c = grind (arith, common_steps)

pub returns-then-self-eq0 : goal.returns-then-self-eq0
returns-then-self-eq0 g c =
    let self = c.args.self.now in
    let whole = self.whole.now in
    meets_root (sight_of whole) (whole_shows whole c.nodes-nodes.ensures.whole) self.from c.if-self-eq0.true c.args.node
    c.requires.real
