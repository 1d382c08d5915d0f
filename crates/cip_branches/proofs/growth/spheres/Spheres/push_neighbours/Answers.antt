use Rattle.std.proofs.Common.{◌≡◌, ◌++◌, ◌∷◌, [], ℕ, true, cond, List, length, rules, arith, ◌∙◌, sym, ap, length-append}
use Rattle.std.proofs.lemmas.List.{append-nil}
use Rattle.cip_rank.specs.Tree.{children_of}
use Rattle.cip_rank.specs.View.{parent_list}
use Rattle.cip_branches.specs.ViewedTree.{kept_off, kids_around}
use Rattle.cip_branches.specs.SphereColumns.{SphereColumns, with_nodes}
use Rattle.cip_branches.proofs.lemmas.walked.Pushed.{nodes_both, places_more, room_stays}
use Rattle.cip_branches.proofs.growth.spheres.Spheres.push_neighbours.Goals as goal
use Rattle.cip_branches.proofs.growth.spheres.Spheres.push_neighbours.Goals.{After-flag_at}

-- a node on the way has its children that are off it, and its parent
around_is : (c : After-flag_at) → c.flag_at.result ≡ true →
    let way = c.args.around.now.way.now in
    let parents = c.args.around.now.table.now.parents in
    kids_around parents way c.args.node
    ≡ kept_off way (children_of parents c.args.node) ++ parent_list parents c.args.node
around_is c on =
    let way = c.args.around.now.way.now in
    let parents = c.args.around.now.table.now.parents in
    ap (λ b. cond b (kept_off way (children_of parents c.args.node) ++ parent_list parents c.args.node)
    (children_of parents c.args.node)) (sym c.flag_at.ensures ∙ on)

pub push_children_off_path-requires-clause-room : goal.push_children_off_path-requires-clause-room
push_children_off_path-requires-clause-room c =
    let parents = c.args.around.now.table.now.parents in
    let off = kept_off c.args.around.now.way.now (children_of parents c.args.node) in
    let parent_place = parent_list parents c.args.node in
    let kids = around_is (goal.at.push_children_off_path-requires-clause-room c).After-flag_at c.if-flag_at.true in
    let many = ap (λ (ns : List ℕ). length ns) kids ∙ length-append off parent_place in
    omega (arith, many, c.requires.room)

pub push_place-requires : goal.push_place-requires
push_place-requires c =
    let parents = c.args.around.now.table.now.parents in
    let off = kept_off c.args.around.now.way.now (children_of parents c.args.node) in
    let parent_place = parent_list parents c.args.node in
    let here : parent_place ≡ c.in-Some.parent ∷ [] = search rules in
    let kids = around_is (goal.at.push_place-requires c).After-flag_at c.if-flag_at.true in
    let many = ap (λ (ns : List ℕ). length ns) kids ∙ length-append off parent_place in
    let places = ap (λ (s : SphereColumns). length s.place_tree.place_parents) c.push_children_off_path.ensures
    ∙ places_more off c.args.branch c.args.parent_place c.args.number c.args.self.now in
    let room = ap (λ (s : SphereColumns). s.place_tree.room) c.push_children_off_path.ensures
    ∙ room_stays off c.args.branch c.args.parent_place c.args.number c.args.self.now in
    let one = ap (λ (ns : List ℕ). length ns) here in
    omega (arith, many, places, room, one, c.requires.room)

pub returns-in-Some : goal.returns-in-Some
returns-in-Some c =
    let parents = c.args.around.now.table.now.parents in
    let off = kept_off c.args.around.now.way.now (children_of parents c.args.node) in
    let parent_place = parent_list parents c.args.node in
    let here : parent_place ≡ c.in-Some.parent ∷ [] = search rules in
    let kids = around_is (goal.at.returns-in-Some c).After-flag_at c.if-flag_at.true in
    let push = λ (ns : List ℕ) (s : SphereColumns). with_nodes ns c.args.branch c.args.parent_place c.args.number s in
    c.push_place.ensures ∙ ap (λ (ns : List ℕ). push ns c.push_children_off_path.new.self) (sym here) ∙ ap (push parent_place) c.push_children_off_path.ensures
    ∙ sym (nodes_both off parent_place c.args.branch c.args.parent_place c.args.number c.args.self.now)
    ∙ ap (λ (ns : List ℕ). push ns c.args.self.now) (sym kids)

pub returns-in_default : goal.returns-in_default
returns-in_default c =
    let parents = c.args.around.now.table.now.parents in
    let off = kept_off c.args.around.now.way.now (children_of parents c.args.node) in
    let none : parent_list parents c.args.node ≡ [] = search rules in
    let kids = around_is (goal.at.returns-in_default c).After-flag_at c.if-flag_at.true in
    c.push_children_off_path.ensures
    ∙ ap (λ (ns : List ℕ). with_nodes ns c.args.branch c.args.parent_place c.args.number c.args.self.now)
    (sym (kids ∙ ap (λ (ns : List ℕ). off ++ ns) none ∙ append-nil off))
