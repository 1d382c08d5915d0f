use Rattle.std.proofs.Common.{◌+◌, ◌∙◌, ap, map}
use Rattle.std.proofs.lemmas.List.{take_all}
use Rattle.cip_mol.specs.Reflection.{mirrored_atom}
use Rattle.cip_mol.proofs.lemmas.Mapped.{mapped_more}
use Rattle.cip_mol.proofs.mirror.mirrored_atoms.Goals as goal

pub loop-atom-preserved : goal.loop-atom-preserved
loop-atom-preserved c = record {
  so_far = c.push_reserved.ensures.items
      ∙ mapped_more mirrored_atom c.args.atoms.now c.loop-atom.atom-index _ _ _
      c.loop-atom-test.true c.loop-atom.invariant.so_far c.mirrored_atom.ensures;
  kept = c.push_reserved.ensures.len ∙ ap (λ n. n + 1) c.loop-atom.invariant.kept;
  room = rw c.push_reserved.ensures.capacity c.loop-atom.invariant.room;
}

pub returns : goal.returns
returns c =
    c.loop-atom.invariant.so_far
    ∙ ap (map mirrored_atom) (take_all c.loop-atom.atom-index c.args.atoms.now c.loop-atom-test.false)
