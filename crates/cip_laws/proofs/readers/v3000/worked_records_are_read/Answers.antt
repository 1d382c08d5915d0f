use Rattle.std.proofs.Common.{refl}
use Rattle.cip_text.specs.Numbers.{integer_of, decimal4_of}
use Rattle.cip_elem.specs.Symbols.{element_of}
use Rattle.cip_mol.specs.Bonds.{cause_of}
use Rattle.cip_ctfile.specs.Fields.{parse_number, parse_signed}
use Rattle.cip_ctfile.specs.Reading.{through}
use Rattle.cip_v3000.specs.AtomLine.{new_index, atom_by, atom_of}
use Rattle.cip_v3000.specs.BondLine.{with_mark, place_named, bond_by, bond_of}
use Rattle.cip_v3000.specs.CountsLine.{count_at, counts_of}
use Rattle.cip_v3000.specs.Frames.{is_frame}
use Rattle.cip_v3000.specs.Grammar.{read_at, molecule_of}
use Rattle.cip_v3000.specs.JoinedLines.{logical_lines}
use Rattle.cip_ctfile.specs.Turns.{over}
use Rattle.cip_v3000.specs.Keys.{with_key}
use Rattle.cip_v3000.specs.Words.{words_of, keyed}
use Rattle.cip_laws.proofs.lemmas.v3000_lines.WorkedLines.{alanine_read}
use Rattle.cip_laws.proofs.readers.v3000.worked_records_are_read.Goals as goal

pub returns : goal.returns
unfolding molecule_of logical_lines read_at through is_frame counts_of count_at atom_of atom_by bond_of bond_by new_index place_named with_mark with_key over words_of keyed parse_number parse_signed integer_of decimal4_of element_of cause_of
returns c = record {
  whole = alanine_read;
  no_order = refl;
  index = refl;
  key = refl;
  end = refl;
  counts = refl;
  second_part = refl;
  cut = refl;
  broken = refl;
  no_end = refl;
}
