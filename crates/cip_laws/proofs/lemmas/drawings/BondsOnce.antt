-- No two bonds of a drawing without a fault join the same atoms.
use Rattle.std.proofs.Common.{◌∙◌, length}
use Rattle.cip_mol.specs.Bonds.{IsSound}
use Rattle.cip_mol.specs.Drawing.{Drawing}
use Rattle.cip_mol.specs.declared.graph.molecule.Bond.{Bond}
use Rattle.cip_mol.proofs.lemmas.SimpleBonds.{Once, joins_same-flip, simple_from_sound}
use Rattle.cip_digraph.proofs.lemmas.lists.Elements.{Pairwise, pairwise_from_pairs}

pub once_back : (one other : Bond) → Once one other → Once other one
once_back one other e = joins_same-flip other one ∙ e

pub bonds_once : (drawing : Drawing) → IsSound (length drawing.atoms) drawing.bonds → Pairwise Once drawing.bonds
bonds_once drawing sound =
    pairwise_from_pairs Once drawing.bonds (simple_from_sound (length drawing.atoms) drawing.bonds sound).once
