use Rattle.std.proofs.Common.{◌≡◌, ◌<◌, ◌-◌, length, slice_index, arith, ◌∙◌, sym, ap, subst}
use Rattle.std.proofs.lemmas.Bool.{true≢false}
use Rattle.cip_partition.specs.Parting.{has_flag}
use Rattle.cip_branches.specs.ViewedTree.{kids_around}
use Rattle.cip_branches.specs.SphereColumns.{SphereColumns}
use Rattle.cip_branches.proofs.lemmas.walked.Pushed.{places_more, kids_walked}
use Rattle.cip_branches.proofs.growth.spheres.Spheres.walk_place_if.Goals as goal
use Rattle.cip_branches.proofs.growth.spheres.Spheres.walk_place_if.Goals.{After-node-node}

-- what is asked about the node at the place is known of the node that is read
read : (c : After-node-node) → c.node-node.result ≡ slice_index c.args.self.now.place_tree.nodes c.args.place
read c = c.node-node.ensures ∙ ap (λ (s : SphereColumns). slice_index s.place_tree.nodes c.args.place) c.self.view_is

pub push_neighbours-requires-clause-node : goal.push_neighbours-requires-clause-node
push_neighbours-requires-clause-node c =
    subst (λ node. node < length c.args.around.now.table.now.parents)
    (sym (read (goal.at.push_neighbours-requires-clause-node c).After-node-node)) c.requires.node

pub push_neighbours-requires-clause-room : goal.push_neighbours-requires-clause-room
push_neighbours-requires-clause-room c =
    let kids_at = kids_around c.args.around.now.table.now.parents c.args.around.now.way.now in
    let same = ap (λ node. length (kids_at node)) (read (goal.at.push_neighbours-requires-clause-room c).After-node-node) in
    let place_parents = ap (λ (s : SphereColumns). length s.place_tree.place_parents) c.self.view_is in
    let room = ap (λ (s : SphereColumns). s.place_tree.room) c.self.view_is in
    omega (arith, same, place_parents, room, c.requires.room)

pub overflow_sub-count : goal.overflow_sub-count
overflow_sub-count c =
    let kids = kids_around c.args.around.now.table.now.parents c.args.around.now.way.now c.node-node.result in
    let count = c.len-first.ensures.count ∙ ap (λ (s : SphereColumns). length s.place_tree.place_parents) c.self.view_is in
    let past = c.len.ensures.count ∙ ap (λ (s : SphereColumns). length s.place_tree.place_parents) c.self-then-flag_at.view_is in
    let places = ap (λ (s : SphereColumns). length s.place_tree.place_parents) c.push_neighbours.ensures
    ∙ places_more kids c.branch-branch.result c.args.place c.args.number c.args.self.now in
    omega (arith, count, past, places)

pub set_children-requires-clause-place : goal.set_children-requires-clause-place
set_children-requires-clause-place c =
    let kids = kids_around c.args.around.now.table.now.parents c.args.around.now.way.now c.node-node.result in
    let now = ap (λ (s : SphereColumns). length s.place_tree.place_parents) c.self-then-flag_at.view_is in
    let places = ap (λ (s : SphereColumns). length s.place_tree.place_parents) c.push_neighbours.ensures
    ∙ places_more kids c.branch-branch.result c.args.place c.args.number c.args.self.now in
    omega (arith, now, places, c.requires.place)

pub set_children-requires-clause-within : goal.set_children-requires-clause-within
set_children-requires-clause-within c =
    let kids = kids_around c.args.around.now.table.now.parents c.args.around.now.way.now c.node-node.result in
    let count = c.len-first.ensures.count ∙ ap (λ (s : SphereColumns). length s.place_tree.place_parents) c.self.view_is in
    let past = c.len.ensures.count ∙ ap (λ (s : SphereColumns). length s.place_tree.place_parents) c.self-then-flag_at.view_is in
    let now = ap (λ (s : SphereColumns). length s.place_tree.place_parents) c.self-then-flag_at.view_is in
    let places = ap (λ (s : SphereColumns). length s.place_tree.place_parents) c.push_neighbours.ensures
    ∙ places_more kids c.branch-branch.result c.args.place c.args.number c.args.self.now in
    omega (arith, count, past, now, places)

pub returns-then-flag_at-clause-walked : goal.returns-then-flag_at-clause-walked
returns-then-flag_at-clause-walked c = λ unresolved.
    let first = c.args.self.now in
    let kids_at = kids_around c.args.around.now.table.now.parents c.args.around.now.way.now in
    let kids = kids_at c.node-node.result in
    let node : c.node-node.result ≡ slice_index first.place_tree.nodes c.args.place = c.node-node.ensures
    ∙ ap (λ (s : SphereColumns). slice_index s.place_tree.nodes c.args.place) c.self.view_is in
    let branch : c.branch-branch.result ≡ slice_index first.place_tree.branches c.args.place = c.branch-branch.ensures
    ∙ ap (λ (s : SphereColumns). slice_index s.place_tree.branches c.args.place) c.self.view_is in
    let count = c.len-first.ensures.count ∙ ap (λ (s : SphereColumns). length s.place_tree.place_parents) c.self.view_is in
    let past = c.len.ensures.count ∙ ap (λ (s : SphereColumns). length s.place_tree.place_parents) c.self-then-flag_at.view_is in
    let places = ap (λ (s : SphereColumns). length s.place_tree.place_parents) c.push_neighbours.ensures
    ∙ places_more kids c.branch-branch.result c.args.place c.args.number first in
    let many : c.len.result - c.len-first.result ≡ length (kids_at (slice_index first.place_tree.nodes c.args.place)) =
    let same = ap (λ n. length (kids_at n)) node in omega (arith, count, past, places, same) in
    rw c.set_children.ensures
    (kids_walked first _ (kids_at (slice_index first.place_tree.nodes c.args.place)) kids c.branch-branch.result c.len-first.result
    (c.len.result - c.len-first.result) c.args.place c.args.number (c.self-then-flag_at.view_is ∙ c.push_neighbours.ensures)
    (ap kids_at node) branch count many)

pub returns-then-flag_at-clause-skipped : goal.returns-then-flag_at-clause-skipped
returns-then-flag_at-clause-skipped c = λ none.
    let branch = c.branch-branch.ensures ∙ ap (λ (s : SphereColumns). slice_index s.place_tree.branches c.args.place) c.self.view_is in
    absurd (true≢false (sym c.if-flag_at.true ∙ c.flag_at.ensures ∙ ap (has_flag c.args.unresolved.now) branch ∙ none))
