-- The letters that can be asked of a centre. IUPAC 2013, P-91.
use Rattle.std.specs.Prelude.{Bool, true, false}
use Rattle.cip_mol.specs.declared.labels.centre_letter.CentreLetter.{CentreLetter}
use Rattle.cip_mol.specs.declared.labels.centre_letter.CentreLetter.TheVariants.{R, S, SmallR, SmallS}
use Rattle.cip_mol.specs.declared.labels.descriptor.Descriptor.{Descriptor}
use Rattle.cip_mol.specs.declared.labels.descriptor.Descriptor.TheVariants as descriptors

abbrev pub descriptor_of : CentreLetter → Descriptor
descriptor_of R = descriptors.R
descriptor_of S = descriptors.S
descriptor_of SmallR = descriptors.SmallR
descriptor_of SmallS = descriptors.SmallS

abbrev pub asks_small : CentreLetter → Bool
asks_small R = false
asks_small S = false
asks_small SmallR = true
asks_small SmallS = true
