-- What reflection does to descriptors and senses: R and S, M and P, seqCis and seqTrans change places; small letters, Z
-- and E stay. IUPAC 2013, P-91.2 and P-93.
use Rattle.std.specs.Prelude.{None, Some}
use Rattle.std.specs.declared.option.Option.{Option}
use Rattle.cip_mol.specs.declared.labels.descriptor.Descriptor.{Descriptor}
use Rattle.cip_mol.specs.declared.labels.descriptor.Descriptor.TheVariants.{R, S, SmallR, SmallS, M, P, SmallM, SmallP, Z, E, SeqCis, SeqTrans}
use Rattle.cip_mol.specs.declared.labels.descriptor.Sense.{Sense}
use Rattle.cip_mol.specs.declared.site.Geometry.{Geometry}
use Rattle.cip_mol.specs.declared.site.Geometry.TheVariants.{Known, Unknown}
use Rattle.cip_mol.specs.declared.site.Site.{Site}
use Rattle.cip_mol.specs.declared.site.Site.TheVariants.{Centre, Bond, Axis}
use Rattle.cip_mol.specs.declared.site.Unit as units
use Rattle.cip_digraph.specs.units.Descriptors.{opposite}
use Rattle.cip_digraph.specs.rules.Orders.{Seen}

abbrev pub exchanged : Descriptor → Descriptor
exchanged R = S
exchanged S = R
exchanged M = P
exchanged P = M
exchanged SeqCis = SeqTrans
exchanged SeqTrans = SeqCis
exchanged SmallR = SmallR
exchanged SmallS = SmallS
exchanged SmallM = SmallM
exchanged SmallP = SmallP
exchanged Z = Z
exchanged E = E

abbrev pub exchanged_descriptor : Option Descriptor → Option Descriptor
exchanged_descriptor None = None
exchanged_descriptor (Some descriptor) = Some (exchanged descriptor)

-- a digraph with all descriptors exchanged
abbrev pub with_exchanged : {N : Type 0} → Seen N → Seen N
with_exchanged seen = record seen { descriptor = λ node. exchanged_descriptor (seen.descriptor node) }

-- the sense of a centre and of an axis is turned, that of a bond stays
abbrev pub reflected_sense : Site → Sense → Sense
reflected_sense (Centre at ligands) sense = opposite sense
reflected_sense (Bond a b first second) sense = sense
reflected_sense (Axis a middle b first second) sense = opposite sense

abbrev pub reflected_geometry : Site → Geometry → Geometry
reflected_geometry site (Known sense) = Known (reflected_sense site sense)
reflected_geometry site (Unknown cause) = Unknown cause

abbrev pub reflected_unit : units.Unit → units.Unit
reflected_unit unit = record { site = unit.site; geometry = reflected_geometry unit.site unit.geometry }
