use Rattle.std.proofs.Common.{◌+◌, List, length, sym, ap, ◌∙◌, subst}
use Rattle.cip_mol.specs.declared.labels.outcome.Rule.TheVariants.{R4b}
use Rattle.cip_branches.specs.Twins.{twins_of}
use Rattle.cip_partition.specs.Keys.{AreKeyed}
use Rattle.cip_partition.specs.PlaceTree.{PlaceTree}
use Rattle.cip_partition.specs.ReservedList.{ReservedList}
use Rattle.cip_digraph.specs.declared.decisions.branch_pair.BranchPair.{BranchPair}
use Rattle.cip_rules.specs.Rule4bWorkspace.{reading_keys, ComparesReadings}
use Rattle.cip_rules.specs.Taking.{TakesRule}
use Rattle.cip_rules.proofs.rule_4b.take_with.Goals as goal

pub ask_sides-requires-clause-few : goal.ask_sides-requires-clause-few
ask_sides-requires-clause-few g c = c.set_aside.ensures.aside.few

pub ask_sides-requires-clause-room : goal.ask_sides-requires-clause-room
ask_sides-requires-clause-room g c = c.requires.sides_room

pub take_sides-requires-clause-aside : goal.take_sides-requires-clause-aside
take_sides-requires-clause-aside g c = c.set_aside.ensures.aside

pub take_sides-requires-clause-keyed : goal.take_sides-requires-clause-keyed
take_sides-requires-clause-keyed g c = c.set_aside.ensures.keyed

pub take_pairs-requires-clause-aside : goal.take_pairs-requires-clause-aside
take_pairs-requires-clause-aside g c = c.take_sides.ensures.aside

pub take_pairs-requires-clause-keyed : goal.take_pairs-requires-clause-keyed
take_pairs-requires-clause-keyed g c =
    let from = c.args.keys.now.branches.now in
    subst (λ (k : PlaceTree). AreKeyed (length from.layers.place_tree.place_parents + length from.layers.place_tree.place_parents) k)
    (sym c.take_sides.ensures.place_tree) c.set_aside.ensures.keyed

pub returns-clause-room : goal.returns-clause-room
returns-clause-room g c =
    ap (λ (k : PlaceTree). k.room) (c.take_pairs.ensures.place_tree ∙ c.take_sides.ensures.place_tree) ∙ c.set_aside.ensures.room

pub returns-clause-saved_room : goal.returns-clause-saved_room
returns-clause-saved_room g c = c.set_aside.ensures.saved_room

pub returns-clause-sides_room : goal.returns-clause-sides_room
returns-clause-sides_room g c =
    c.take_sides.ensures.room ∙ ap (λ (r : ReservedList BranchPair). r.room) c.ask_sides.ensures

pub returns-clause-may : goal.returns-clause-may
returns-clause-may g c = c.set_aside.ensures.may

pub returns-clause-taken : goal.returns-clause-taken
returns-clause-taken g c =
    let from = c.args.keys.now.branches.now in
    let twins = c.take_sides.new.twins in
    let keys = reading_keys (g.M.DescriptorMap.descriptors c.args.keys.now.descriptors.now) from in
    let sides = c.take_sides.new.sides.items in
    record {
      room = twins.layers.place_tree.room;
      sides = sides;
      sides_now = twins;
      sides_taken = subst (λ (pairs : List BranchPair). TakesRule (twins_of twins.layers.place_tree.room from) keys R4b pairs twins
          sides) (ap (λ (r : ReservedList BranchPair). r.items) c.ask_sides.ensures) c.take_sides.ensures.taken;
      compared = subst (λ (all : List BranchPair). ComparesReadings from (twins_of twins.layers.place_tree.room from) keys all
          c.args.pairs.now c.take_pairs.new.pairs) c.as_slice.ensures c.take_pairs.ensures.compared;
    }

pub set_aside-requires-clause-some : goal.set_aside-requires-clause-some
set_aside-requires-clause-some g c = c.requires.some
