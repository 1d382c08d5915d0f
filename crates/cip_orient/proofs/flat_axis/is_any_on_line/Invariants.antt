use Rattle.std.proofs.Common.{◌≡◌, drop}
use Rattle.std.specs.List.{list_any}
use Rattle.cip_num.specs.Signs.{is_zero}
use Rattle.cip_mol.specs.FlatAxes.{flank}
use Rattle.cip_orient.proofs.flat_axis.is_any_on_line.Given as goal

abbrev pub invariant-loop-ligand : goal.invariant-loop-ligand
invariant-loop-ligand l =
    list_any (λ ligand. is_zero (flank l.axis ligand)) (drop l.ligand-index l.ligands)
    ≡ list_any (λ ligand. is_zero (flank l.axis ligand)) l.ligands
