use Rattle.std.proofs.Common.{◌∙◌, List, length, sym, ap, subst, arith}
use Rattle.cip_partition.specs.PlaceTree.{PlaceTree}
use Rattle.cip_partition.specs.Keys.{AreKeyed}
use Rattle.cip_branches.specs.Standing.{node_in, AreKeysOf}
use Rattle.cip_digraph.specs.declared.nodes.NodeData.{NodeData}
use Rattle.cip_digraph.specs.digraph.Telling.{node_at}
use Rattle.cip_digraph.proofs.lemmas.lists.Elements.{by_recursion}
use Rattle.cip_digraph.specs.Asking.{AreWithin}
use Rattle.cip_aux.specs.Views.{sight_of}
use Rattle.cip_aux.proofs.lemmas.Data.{whole_shows}
use Rattle.cip_rules.specs.NodeKeys.{mass_keys}
use Rattle.cip_aux_rank.specs.LigandBranches.{seen_at}
use Rattle.cip_aux_rank.proofs.lemmas.Constituted.{constituted_early, constituted_next, distances_are, masses_are}
use Rattle.cip_aux_rank.proofs.keys.constitutional_rules.decide_constitutional_rules.Goals as goal

pub returns-then-all_decided-clause-constituted : goal.returns-then-all_decided-clause-constituted
returns-then-all_decided-clause-constituted g c =
    let tops = c.args.tops.now in
    constituted_early (sight_of c.args.whole.now) c.args.from.now.node tops c.args.requested.now
    (by_recursion (AreWithin (length tops)) c.args.requested.now c.requires.within) c.follow_to_end.new.branches
    c.follow_to_end.new.requested c.follow_to_end.ensures.followed (sym c.all_decided.ensures ∙ c.if-all_decided.true)

pub decide_constitution-requires-clause-followed : goal.decide_constitution-requires-clause-followed
decide_constitution-requires-clause-followed g c = c.follow_to_end.ensures.followed.placed.followed

pub decide_constitution-requires-clause-distances_keyed : goal.decide_constitution-requires-clause-distances_keyed
decide_constitution-requires-clause-distances_keyed g c = c.follow_to_end.ensures.followed.placed.keyed

pub decide_constitution-requires-clause-masses_keyed : goal.decide_constitution-requires-clause-masses_keyed
decide_constitution-requires-clause-masses_keyed g c =
    subst (λ (all : List NodeData). AreKeyed (length all) c.follow_to_end.new.branches.layers.place_tree)
    (sym c.nodes-nodes.ensures.node_data) c.follow_to_end.ensures.followed.placed.keyed

pub returns-else-all_decided-clause-constituted : goal.returns-else-all_decided-clause-constituted
returns-else-all_decided-clause-constituted g c =
    let sight = sight_of c.args.whole.now in
    let tops = c.args.tops.now in
    let node = c.args.from.now.node in
    let begin = c.args.requested.now in
    let within = by_recursion (AreWithin (length tops)) begin c.requires.within in
    let old = c.follow_to_end.new.branches in
    let followed = c.follow_to_end.ensures.followed in
    let shows = whole_shows c.args.whole.now c.nodes-nodes.ensures.whole in
    let named = node_at sight.nodes in
    constituted_next sight node tops begin within old c.follow_to_end.new.requested followed c.decide_constitution.new.branches
    c.decide_constitution.new.pairs c.decide_constitution.ensures.followed c.decide_constitution.ensures.place_tree
    c.decide_constitution.ensures.unresolved
    (λ descriptor. c.decide_constitution.ensures.decided (seen_at sight node descriptor) named (node_in named old) (length tops)
    begin within (followed.decided descriptor)
    (distances_are sight node tops begin within old c.follow_to_end.new.requested followed shows descriptor)
    (subst (λ (all : List NodeData). AreKeysOf named (seen_at sight node descriptor).mass (mass_keys all) old)
    (sym c.nodes-nodes.ensures.node_data)
    (masses_are sight node tops begin within old c.follow_to_end.new.requested followed shows descriptor)))

pub returns-else-all_decided-clause-room : goal.returns-else-all_decided-clause-room
returns-else-all_decided-clause-room g c = ap (λ (k : PlaceTree). k.room) c.decide_constitution.ensures.place_tree ∙ c.follow_to_end.ensures.room

pub follow_to_end-requires-clause-within : goal.follow_to_end-requires-clause-within
follow_to_end-requires-clause-within g c = c.requires.within

pub count_distances-requires-clause-few : goal.count_distances-requires-clause-few
count_distances-requires-clause-few g c = omega (arith, c.requires.room, c.requires.few)

pub count_distances-requires-clause-room : goal.count_distances-requires-clause-room
count_distances-requires-clause-room g c = c.requires.steps_room

pub returns-else-all_decided-clause-steps_room : goal.returns-else-all_decided-clause-steps_room
returns-else-all_decided-clause-steps_room g c = c.count_distances.ensures.room

pub returns-else-all_decided-clause-all : goal.returns-else-all_decided-clause-all
returns-else-all_decided-clause-all g c = c.decide_constitution.ensures.all

pub count_distances-requires-clause-way : goal.count_distances-requires-clause-way
count_distances-requires-clause-way g c = c.requires.way

pub follow_to_end-requires-clause-way : goal.follow_to_end-requires-clause-way
follow_to_end-requires-clause-way g c = c.requires.way

pub count_distances-requires-clause-real : goal.count_distances-requires-clause-real
count_distances-requires-clause-real g c = c.requires.real

pub follow_to_end-requires-clause-tops : goal.follow_to_end-requires-clause-tops
follow_to_end-requires-clause-tops g c = c.requires.tops

pub follow_to_end-requires-clause-room : goal.follow_to_end-requires-clause-room
follow_to_end-requires-clause-room g c = c.requires.room

pub follow_to_end-requires-clause-real : goal.follow_to_end-requires-clause-real
follow_to_end-requires-clause-real g c = c.requires.real
