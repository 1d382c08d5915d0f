use Rattle.std.proofs.Common.{ap, ◌∙◌, arith}
use Rattle.cip_partition.specs.PlaceTree.{PlaceTree, with_place}
use Rattle.cip_partition.proofs.lemmas.FamilyColumn.{keep_pushed, kin_pushed, place_count}
use Rattle.cip_partition.proofs.places.place_tree.PlaceTree.push.Goals as goal

pub push-requires : goal.push-requires
push-requires c =
    let count = place_count c.self.inside.places c.args.self.now c.self.view_is in
    let room = ap (λ (k : PlaceTree). k.room) c.self.view_is in
    let fits = c.requires in
    omega (arith, count, room, fits)

pub invariant_of-self : goal.invariant_of-self
invariant_of-self c =
    keep_pushed c.self.inside.places c.push.new.self c.args.node c.args.branch c.args.parent_place c.push.ensures c.self.invariant
    c.args.self.now c.self.view_is c.requires

pub returns : goal.returns
returns c =
    kin_pushed c.self.inside.places c.push.new.self c.args.node c.args.branch c.args.parent_place c.push.ensures
    ∙ ap (λ (k : PlaceTree). with_place c.args.node c.args.branch c.args.parent_place k) c.self.view_is
