-- A unit's descriptor from its sense and the turns of its ends. Own.
use Rattle.std.specs.Prelude.{None, Some}
use Rattle.std.specs.declared.option.Option.{Option}
use Rattle.cip_mol.specs.declared.labels.descriptor.Descriptor.{Descriptor}
use Rattle.cip_mol.specs.declared.labels.descriptor.Sense.{Sense}
use Rattle.cip_mol.specs.declared.site.Site.{Site}
use Rattle.cip_digraph.specs.units.Descriptors.{letter_by, turned_if}
use Rattle.cip_digraph.specs.declared.decisions.parity.Parity.{Parity}

abbrev pub letter_in : Site → Sense → Parity → Descriptor
letter_in site sense parities = letter_by site (turned_if parities.natural sense) (turned_if parities.turned sense)

-- none where ligands tie
abbrev pub turned_letter : Site → Sense → Option Parity → Option Descriptor
turned_letter site sense None = None
turned_letter site sense (Some parities) = Some (letter_in site sense parities)
