use Rattle.std.proofs.Common.{◌+◌, ◌∙◌, ap, map}
use Rattle.std.proofs.lemmas.List.{take_all}
use Rattle.cip_mol.specs.RenumberedDrawing.{place_of, renamed}
use Rattle.cip_mol.proofs.lemmas.Mapped.{mapped_more}
use Rattle.cip_mol.proofs.renumbering.renamed_bonds.Goals as goal

pub loop-bond-preserved : goal.loop-bond-preserved
loop-bond-preserved c = record {
  so_far = c.push_reserved.ensures.items
      ∙ mapped_more (renamed (place_of c.args.atoms.now)) c.args.bonds.now c.loop-bond.bond-index _ _ _
      c.loop-bond-test.true c.loop-bond.invariant.so_far c.renamed.ensures;
  kept = c.push_reserved.ensures.len ∙ ap (λ n. n + 1) c.loop-bond.invariant.kept;
  room = rw c.push_reserved.ensures.capacity c.loop-bond.invariant.room;
}

pub returns : goal.returns
returns c =
    c.loop-bond.invariant.so_far
    ∙ ap (map (renamed (place_of c.args.atoms.now))) (take_all c.loop-bond.bond-index c.args.bonds.now c.loop-bond-test.false)
