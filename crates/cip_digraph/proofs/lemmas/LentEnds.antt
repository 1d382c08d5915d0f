-- Ends that are lent are those of their site.
use Rattle.std.proofs.Common.{◌≡◌, refl}
use Rattle.cip_mol.specs.Ends.{as_site}
use Rattle.cip_mol.specs.declared.ends.Ends.{Ends}
use Rattle.cip_mol.specs.declared.ends.Ends.TheVariants.{One, Two}
use Rattle.cip_mol.specs.declared.ends.Shape.TheVariants.{Flat, Crossed}
use Rattle.cip_digraph.specs.units.Ends.{ends_of}
use Rattle.cip_digraph.specs.LentEnds.{ends_in}

pub ends_are : (ends : Ends) → ends_of (as_site ends) ≡ ends_in ends
ends_are (One end) = refl
ends_are (Two Flat two) = refl
ends_are (Two Crossed two) = refl
