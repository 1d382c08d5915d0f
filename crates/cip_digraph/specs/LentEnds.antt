-- The ends of a unit as they are lent, in the definitions' words. Own.
use Rattle.std.specs.Prelude.{List, [], ◌∷◌}
use Rattle.cip_mol.specs.declared.ends.End as lent
use Rattle.cip_mol.specs.declared.ends.Ends.{Ends}
use Rattle.cip_mol.specs.declared.ends.Ends.TheVariants.{One, Two}
use Rattle.cip_digraph.specs.units.Ends.{End, end_at}

abbrev pub as_end : lent.End → End
as_end end = end_at end.at end.ligands.now

abbrev pub ends_in : Ends → List End
ends_in (One end) = as_end end ∷ []
ends_in (Two shape two) = as_end two.nearer ∷ as_end two.far ∷ []
