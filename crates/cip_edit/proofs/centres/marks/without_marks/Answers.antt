use Rattle.std.proofs.Common.{◌≡◌, ◌∙◌, List, ap, length, subst, sym}
use Rattle.cip_mol.specs.Bonds.{IsSound}
use Rattle.cip_mol.specs.Ranges.{IsInRange}
use Rattle.cip_mol.specs.declared.graph.molecule.Bond.{Bond}
use Rattle.cip_edit.specs.Marking.{bare_bonds}
use Rattle.cip_edit.proofs.lemmas.SetSound.{range_bare, sound_bare}
use Rattle.cip_edit.proofs.centres.marks.without_marks.Goals as goal

pub with_bonds-requires : goal.with_bonds-requires
with_bonds-requires c =
    let molecule = c.args.molecule.now in
    let is : c.in_ok-bonds.bonds.items ≡ bare_bonds c.args.atom molecule.bonds =
    c.in_ok-bonds.ensures ∙ ap (bare_bonds c.args.atom) c.bonds.ensures.value in
    record {
      range =
          subst (λ (bonds : List Bond). IsInRange (record { atoms = molecule.atoms; bonds = bonds })) (sym is)
          (range_bare c.args.atom molecule c.bonds.ensures.range);
      sound =
          subst (λ (bonds : List Bond). IsSound (length molecule.atoms) bonds) (sym is)
          (sound_bare c.args.atom molecule c.bonds.ensures.sound);
    }
