use Rattle.std.proofs.Common.{refl}
use Rattle.cip_hydro.proofs.lemmas.Around.{surroundings_count}
use Rattle.cip_hydro.proofs.edges.edges_of.Goals as goal

pub returns : goal.returns
returns c =
    rw (
      c.push_hydrogens.ensures,
      c.push_bonds.ensures.value,
      ← surroundings_count c.args.molecule.now,
      ← c.requires.around,
    ) refl
