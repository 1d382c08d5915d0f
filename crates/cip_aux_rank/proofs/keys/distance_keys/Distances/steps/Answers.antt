use Rattle.std.proofs.Common.{◌∙◌, ◌+◌, ◌-◌, ℕ, List, slice_index, ap, arith}
use Rattle.cip_rank.specs.Tree.{spheres_of}
use Rattle.cip_digraph.specs.digraph.NodeList.{parents_of}
use Rattle.cip_aux.specs.Views.{sight_of}
use Rattle.cip_aux.proofs.lemmas.Data.{whole_shows}
use Rattle.cip_aux_rank.proofs.lemmas.KnownSteps.{in_table}
use Rattle.cip_aux_rank.proofs.lemmas.Meeting.{steps_are}
use Rattle.cip_aux_rank.proofs.keys.distance_keys.Distances.steps.Goals as goal

pub returns : goal.returns
returns g c =
    let self = c.args.self.now in
    let whole = self.whole.now in
    let parents = c.table-table.ensures ∙ ap parents_of c.nodes-nodes.ensures.node_data in
    let meet = c.from-meet.ensures ∙ c.sphere.ensures.sphere
    ∙ ap (λ (ps : List ℕ). slice_index (spheres_of ps) c.meet.result) parents in
    let here = c.from-here.ensures ∙ c.sphere-2.ensures.sphere
    ∙ ap (λ (ps : List ℕ). slice_index (spheres_of ps) self.from) parents in
    let there = c.from-there.ensures ∙ c.sphere-3.ensures.sphere
    ∙ ap (λ (ps : List ℕ). slice_index (spheres_of ps) c.args.node) parents in
    (λ i. (here i - meet i) + (there i - meet i))
    ∙ steps_are (sight_of whole) (whole_shows whole c.nodes-nodes.ensures.whole) self.from self.real c.args.node
    c.requires.real c.meet.result c.meet.ensures

pub sphere-requires : goal.sphere-requires
sphere-requires g c =
    let self = c.args.self.now in
    let whole = self.whole.now in
    in_table (sight_of whole) (whole_shows whole c.nodes-nodes.ensures.whole) c.table-table.result.now.parents
    (c.table-table.ensures ∙ ap parents_of c.nodes-nodes.ensures.node_data) c.meet.result c.meet.ensures.within

pub sphere-requires-2 : goal.sphere-requires-2
sphere-requires-2 g c =
    let self = c.args.self.now in
    let whole = self.whole.now in
    in_table (sight_of whole) (whole_shows whole c.nodes-nodes.ensures.whole) c.table-table.result.now.parents
    (c.table-table.ensures ∙ ap parents_of c.nodes-nodes.ensures.node_data) self.from self.real.within

pub sphere-requires-3 : goal.sphere-requires-3
sphere-requires-3 g c =
    let self = c.args.self.now in
    let whole = self.whole.now in
    in_table (sight_of whole) (whole_shows whole c.nodes-nodes.ensures.whole) c.table-table.result.now.parents
    (c.table-table.ensures ∙ ap parents_of c.nodes-nodes.ensures.node_data) c.args.node c.requires.real.within

pub overflow_sub-result : goal.overflow_sub-result
overflow_sub-result g c =
    let self = c.args.self.now in
    let parents = c.table-table.ensures ∙ ap parents_of c.nodes-nodes.ensures.node_data in
    let meet = c.from-meet.ensures ∙ c.sphere.ensures.sphere
    ∙ ap (λ (ps : List ℕ). slice_index (spheres_of ps) c.meet.result) parents in
    let here = c.from-here.ensures ∙ c.sphere-2.ensures.sphere
    ∙ ap (λ (ps : List ℕ). slice_index (spheres_of ps) self.from) parents in
    let ligand_branches = c.meet.ensures.ligand_branches in
    omega (arith, meet, here, ligand_branches)

pub overflow_sub-result-2 : goal.overflow_sub-result-2
overflow_sub-result-2 g c =
    let parents = c.table-table.ensures ∙ ap parents_of c.nodes-nodes.ensures.node_data in
    let meet = c.from-meet.ensures ∙ c.sphere.ensures.sphere
    ∙ ap (λ (ps : List ℕ). slice_index (spheres_of ps) c.meet.result) parents in
    let there = c.from-there.ensures ∙ c.sphere-3.ensures.sphere
    ∙ ap (λ (ps : List ℕ). slice_index (spheres_of ps) c.args.node) parents in
    let low = c.meet.ensures.low in
    omega (arith, meet, there, low)
