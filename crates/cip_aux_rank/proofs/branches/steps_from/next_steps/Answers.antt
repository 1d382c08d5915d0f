use Rattle.std.proofs.Common.{◌≡◌, ◌<◌, ◌+◌, ◌-◌, ◌∙◌, ℕ, List, length, slice_index, sym, ap, subst, arith}
use Rattle.cip_rank.specs.Tree.{spheres_of}
use Rattle.cip_digraph.specs.digraph.NodeList.{parents_of}
use Rattle.cip_aux.specs.Views.{IsReal, sight_of}
use Rattle.cip_aux.proofs.lemmas.Data.{whole_shows}
use Rattle.cip_aux_rank.proofs.lemmas.KnownSteps.{apart_from, in_table, off_way_is, on_way_is, table_len}
use Rattle.cip_aux_rank.proofs.branches.steps_from.next_steps.Goals as goal

pub returns-then-is_off_path-clause-steps : goal.returns-then-is_off_path-clause-steps
returns-then-is_off_path-clause-steps g c = λ here.
    let whole = c.args.whole.now in
    let from = c.args.from.now in
    let known = c.args.known.now in
    let sight = sight_of whole in
    let shows = whole_shows whole c.nodes-nodes.ensures.whole in
    let parents = parents_of whole.node_data in
    let node = length known in
    let tables = c.table-table.ensures ∙ ap parents_of c.nodes-nodes.ensures.node_data in
    let low : node < length parents = let lt = here.within in let len = shows.node_data.len in omega (arith, lt, len) in
    let parent_place = off_way_is sight shows from.node c.requires.real from.way.now c.requires.way node here
    (c.is_off_path.ensures.some c.if-is_off_path.true) low (c.is_off_path.ensures.off c.if-is_off_path.true) in
    let parent : c.parent_of.result ≡ slice_index parents node =
    c.parent_of.ensures.parent ∙ ap (λ (ps : List ℕ). slice_index ps node) tables in
    let earlier = c.parent_of.ensures.earlier in
    let is = c.requires.known.each c.parent_of.result earlier (subst (IsReal sight.nodes) (sym parent) parent_place.0) in
    let same = ap (λ n. apart_from sight from.node n) parent in
    ap (λ n. n + 1) (is ∙ same) ∙ parent_place.1

pub returns-else-is_off_path-clause-steps : goal.returns-else-is_off_path-clause-steps
returns-else-is_off_path-clause-steps g c = λ here.
    let whole = c.args.whole.now in
    let from = c.args.from.now in
    let node = length c.args.known.now in
    let sight = sight_of whole in
    let shows = whole_shows whole c.nodes-nodes.ensures.whole in
    let tables = c.table-table.ensures ∙ ap parents_of c.nodes-nodes.ensures.node_data in
    let one = c.sphere.ensures.sphere ∙ ap (λ (ps : List ℕ). slice_index (spheres_of ps) from.node) tables in
    let other = c.sphere-else-is_off_path.ensures.sphere
    ∙ ap (λ (ps : List ℕ). slice_index (spheres_of ps) node) tables in
    c.saturating_sub.ensures ∙ (λ i. one i - other i)
    ∙ on_way_is sight shows from.node c.requires.real from.way.now c.requires.way node here
    (c.is_off_path.ensures.on c.if-is_off_path.false)

pub overflow_cast-node : goal.overflow_cast-node
overflow_cast-node g c =
    let within = c.requires.within in
    let few = c.requires.few in
    omega (arith, within, few)

pub parent_of-requires-clause-node : goal.parent_of-requires-clause-node
parent_of-requires-clause-node g c =
    let within = c.requires.within in
    let len = table_len c.args.whole.now.node_data c.table-table.result.now.parents
    (c.table-table.ensures ∙ ap parents_of c.nodes-nodes.ensures.node_data) in
    omega (arith, within, len)

pub parent_of-requires-clause-some : goal.parent_of-requires-clause-some
parent_of-requires-clause-some g c = c.is_off_path.ensures.some c.if-is_off_path.true

pub overflow_cast-result : goal.overflow_cast-result
overflow_cast-result g c =
    let earlier = c.parent_of.ensures.earlier in
    let within = c.requires.within in
    let few = c.requires.few in
    omega (arith, earlier, within, few)

pub bounds-known-parent_of : goal.bounds-known-parent_of
bounds-known-parent_of g c = c.parent_of.ensures.earlier

pub overflow_add-result : goal.overflow_add-result
overflow_add-result g c =
    let earlier = c.parent_of.ensures.earlier in
    let known = c.requires.known.few c.parent_of.result earlier in
    let within = c.requires.within in
    let few = c.requires.few in
    omega (arith, earlier, known, within, few)

pub sphere-requires : goal.sphere-requires
sphere-requires g c =
    let whole = c.args.whole.now in
    in_table (sight_of whole) (whole_shows whole c.nodes-nodes.ensures.whole) c.table-table.result.now.parents
    (c.table-table.ensures ∙ ap parents_of c.nodes-nodes.ensures.node_data) c.args.from.now.node c.requires.real.within

pub sphere-requires-else-is_off_path : goal.sphere-requires-else-is_off_path
sphere-requires-else-is_off_path g c =
    let within = c.requires.within in
    let len = table_len c.args.whole.now.node_data c.table-table.result.now.parents
    (c.table-table.ensures ∙ ap parents_of c.nodes-nodes.ensures.node_data) in
    omega (arith, within, len)

pub returns-then-is_off_path-clause-few : goal.returns-then-is_off_path-clause-few
returns-then-is_off_path-clause-few g c =
    let earlier = c.parent_of.ensures.earlier in
    let known = c.requires.known.few c.parent_of.result earlier in
    omega (arith, earlier, known)

pub returns-else-is_off_path-clause-few : goal.returns-else-is_off_path-clause-few
returns-else-is_off_path-clause-few g c =
    let whole = c.args.whole.now in
    let parents = c.table-table.ensures ∙ ap parents_of c.nodes-nodes.ensures.node_data in
    let inside = in_table (sight_of whole) (whole_shows whole c.nodes-nodes.ensures.whole)
    c.table-table.result.now.parents parents c.args.from.now.node c.requires.real.within in
    let len = table_len whole.node_data c.table-table.result.now.parents parents in
    let low = c.sphere.ensures.low in
    let sub = c.saturating_sub.ensures in
    omega (arith, inside, len, low, sub)
