use Rattle.std.proofs.Common.{arith}
use Rattle.std.proofs.lemmas.Grind.{common_steps}
use Rattle.cip_partition.proofs.lemmas.FamilyColumn.{place_within}
use Rattle.cip_partition.proofs.places.place_tree.PlaceTree.parent.Goals as goal

pub bounds-as_slice-place : goal.bounds-as_slice-place
bounds-as_slice-place c =
    place_within c.self.inside.places c.args.self.now c.self.view_is c.as_slice.result.now c.as_slice.ensures
    c.args.place c.requires

pub returns : goal.returns
returns c = grind (arith, common_steps)
