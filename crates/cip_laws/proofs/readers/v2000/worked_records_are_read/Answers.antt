use Rattle.std.proofs.Common.{refl}
use Rattle.cip_text.specs.Numbers.{integer_of, decimal4_of}
use Rattle.cip_elem.specs.Symbols.{element_of}
use Rattle.cip_elem.specs.Masses.{reference_mass_of}
use Rattle.cip_mol.specs.Bonds.{cause_of}
use Rattle.cip_v2000.specs.AtomLine.{atom_of}
use Rattle.cip_v2000.specs.BondLine.{bond_of}
use Rattle.cip_v2000.specs.CountsLine.{counts_of}
use Rattle.cip_ctfile.specs.Fields.{number_in, signed_in}
use Rattle.cip_v2000.specs.Grammar.{molecule_of, pairs_from}
use Rattle.cip_ctfile.specs.Spaces.{spaced_words_of}
use Rattle.cip_v2000.specs.PropertyLines.{pair_of, pair_at, pairs_with}
use Rattle.cip_ctfile.specs.Reading.{read_at, through, in_turn}
use Rattle.cip_v2000.specs.Statements.{settled}
use Rattle.cip_v2000.specs.Worked.{AreRefused}
use Rattle.cip_laws.proofs.readers.v2000.worked_records_are_read.Goals as goal

are_refused : AreRefused
unfolding molecule_of pairs_from read_at through in_turn counts_of atom_of bond_of pairs_with spaced_words_of pair_of pair_at settled number_in signed_in integer_of decimal4_of element_of reference_mass_of cause_of
are_refused = record {
  version = refl;
  symbol = refl;
  coordinate = refl;
  charge_code = refl;
  end = refl;
  loop = refl;
  doubled = refl;
  mark = refl;
  property = refl;
  no_end = refl;
  cut = refl;
}

pub returns : goal.returns
unfolding molecule_of pairs_from read_at through in_turn counts_of atom_of bond_of pairs_with spaced_words_of pair_of pair_at settled number_in signed_in integer_of decimal4_of element_of reference_mass_of cause_of
returns c = record {
  whole = refl;
  refusals = are_refused;
  bond_type = refl;
  degree = refl;
  fields = refl;
  charges = refl;
  radicals = refl;
  isotopes = refl;
  deuterium = refl;
  later = refl;
  versions = refl;
}
