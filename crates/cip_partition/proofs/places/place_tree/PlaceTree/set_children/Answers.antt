use Rattle.std.proofs.Common.{◌∙◌, ap, refl}
use Rattle.cip_partition.specs.PlaceTree.{PlaceTree, with_children}
use Rattle.cip_partition.proofs.lemmas.FamilyColumn.{kids_set, keep_set, place_within}
use Rattle.cip_partition.proofs.places.place_tree.PlaceTree.set_children.Goals as goal

pub bounds-as_slice-place : goal.bounds-as_slice-place
bounds-as_slice-place c =
    place_within c.self.inside.places c.args.self.now c.self.view_is c.as_slice.result.now c.as_slice.ensures
    c.args.place c.requires.place

pub set-requires : goal.set-requires
set-requires c =
    place_within c.self.inside.places c.args.self.now c.self.view_is c.self.inside.places.items refl c.args.place
    c.requires.place

pub invariant_of-self : goal.invariant_of-self
invariant_of-self c = keep_set c.self.inside.places c.set.new.self c.as_slice.result.now c.as_slice.ensures c.args.place
    c.args.first c.args.count c.set.ensures c.self.invariant c.args.self.now c.self.view_is c.requires.place
    c.requires.within

pub returns : goal.returns
returns c =
    kids_set c.self.inside.places c.set.new.self c.as_slice.result.now c.as_slice.ensures c.args.place c.args.first
    c.args.count c.set.ensures
    ∙ ap (λ (k : PlaceTree). with_children c.args.place c.args.first c.args.count k) c.self.view_is
