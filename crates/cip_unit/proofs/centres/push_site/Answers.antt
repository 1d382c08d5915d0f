use Rattle.cip_unit.proofs.lemmas.Shown.{centre_shown}
use Rattle.std.proofs.Common.{arith}
use Rattle.std.proofs.lemmas.Grind.{common_steps}
use Rattle.cip_unit.proofs.centres.push_site.Goals as goal

pub push_unit-requires : goal.push_unit-requires
push_unit-requires c =
    rw c.centre_ligands.ensures
    (centre_shown c.args.graph.now _ c.args.atom c.requires.drawn c.requires.within c.requires.centre)

pub centre_ligands-requires : goal.centre_ligands-requires
centre_ligands-requires c = grind (arith, common_steps)
