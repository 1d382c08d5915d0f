use Rattle.std.proofs.Common.{◌≡◌, ◌∙◌, List, ap, length, map, subst, sym, arith}
use Rattle.cip_mol.specs.Bonds.{IsSound}
use Rattle.cip_mol.specs.Ranges.{IsInRange}
use Rattle.cip_mol.specs.declared.graph.molecule.Bond.{Bond}
use Rattle.cip_edit.specs.Marking.{marked_to}
use Rattle.cip_edit.proofs.lemmas.SetSound.{range_marked, sound_marked}
use Rattle.std.proofs.lemmas.Grind.{common_steps}
use Rattle.cip_edit.proofs.centres.marks.marked.Goals as goal

pub with_bonds-requires : goal.with_bonds-requires
with_bonds-requires c =
    let molecule = c.args.molecule.now in
    let one = marked_to c.args.atom c.args.neighbour c.args.mark in
    let is : c.in_ok-bonds.bonds.items ≡ map one molecule.bonds =
    c.in_ok-bonds.ensures ∙ ap (map one) c.bonds.ensures.value in
    record {
      range =
          subst (λ (bonds : List Bond). IsInRange (record { atoms = molecule.atoms; bonds = bonds })) (sym is)
          (range_marked c.args.atom c.args.neighbour c.args.mark molecule c.bonds.ensures.range);
      sound =
          subst (λ (bonds : List Bond). IsSound (length molecule.atoms) bonds) (sym is)
          (sound_marked c.args.atom c.args.neighbour c.args.mark molecule c.bonds.ensures.sound);
    }

pub returns : goal.returns
returns c = grind (arith, common_steps)
