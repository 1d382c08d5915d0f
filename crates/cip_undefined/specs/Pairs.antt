-- Each two ligands of each end of a site. Own.
use Rattle.std.specs.Prelude.{ℕ, List, [], ◌∷◌, flat_map}
use Rattle.cip_mol.specs.declared.site.Ligand.{Ligand}
use Rattle.cip_mol.specs.declared.site.Site.{Site}
use Rattle.cip_digraph.specs.units.Ends.{End, end_at, ends_of}
use Rattle.cip_digraph.specs.Sides.{each_two}
use Rattle.cip_undefined.specs.declared.pairs.Pair.{Pair}

abbrev pub pair : ℕ → Ligand → Ligand → Pair
pair at one other = record { at = at; one = one; other = other }

abbrev pub pairs_at : End → List Pair
pairs_at end = each_two (pair end.at) end.ligands

abbrev pub pairs_of : Site → List Pair
pairs_of site = flat_map pairs_at (ends_of site)

-- an end with these two ligands alone
abbrev pub end_of : Pair → End
end_of two = end_at two.at (two.one ∷ two.other ∷ [])
