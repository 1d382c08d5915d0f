-- The answer to a record in which a centre was given a letter gives it the letter.
use Rattle.std.proofs.Common.{◌≡◌, ◌-◌, ℕ, List, Result, Ok, false, true, refl, sym, ap, ◌∙◌, subst}
use Rattle.std.specs.Prelude.{IfOk}
use Rattle.std.specs.Option.{option_map}
use Rattle.std.proofs.lemmas.Option.{slice_get-map}
use Rattle.std.proofs.lemmas.Result.{IfOk-weaker}
use Rattle.cip_text.specs.Bodies.{body_contents}
use Rattle.cip_rank.specs.declared.rules.Rules.{Rules}
use Rattle.cip_mol.specs.CentreLetters.{descriptor_of}
use Rattle.cip_mol.specs.Drawing.{Drawing}
use Rattle.cip_mol.specs.declared.labels.centre_letter.CentreLetter.{CentreLetter}
use Rattle.cip_mol.specs.declared.labels.descriptor.Descriptor.{Descriptor}
use Rattle.cip_item.specs.Parts.{without_label_items}
use Rattle.cip_digraph.specs.graph.DrawnGraph.{graph_of}
use Rattle.cip_digraph.specs.rings.Positions.{positions_of}
use Rattle.cip_digraph.specs.units.Centres.{centre_ligands}
use Rattle.cip_digraph.specs.units.DrawnUnits.{units_in}
use Rattle.cip_v2000.specs.Version.{is_v3000}
use Rattle.cip_answer.specs.Answers.{answer_by, answer_without_items, of_molecule, of_reading, unit_answer}
use Rattle.cip_edit.specs.Answers.{molecule_in}
use Rattle.cip_edit.specs.Changed.{changed_record}
use Rattle.cip_edit.specs.FoundCentres.{centre_unit, found_at}
use Rattle.cip_edit.specs.Marking.{has_centre, with_mark}
use Rattle.cip_edit.specs.SetAnswers.{set_answer}
use Rattle.cip_edit.specs.SetLetters.{mark_for_letter, HasLetter}
use Rattle.cip_edit.specs.declared.request.MarkedCentre.{MarkedCentre}
use Rattle.cip_edit.specs.declared.set_answer.SetAnswer.{SetAnswer}
use Rattle.cip_edit.proofs.lemmas.CentrePlaces.{has_place}
use Rattle.cip_edit.proofs.lemmas.SetReads.{by_answer, given, read_behind, written}
use Rattle.cip_set.specs.SetLabels.{GivesLetter, IsSet, LabelsAt, SetRecordsAreRead}

-- the centre at an atom is among the units that are answered
labelled : (rules : Rules) (nodes : ℕ) (drawing : Drawing) (atom : ℕ) (letter : Descriptor)
    → has_centre drawing atom ≡ true → HasLetter letter (found_at rules nodes drawing atom)
    → LabelsAt letter atom (of_molecule rules nodes drawing)
labelled rules nodes drawing atom letter centre has =
    let graph = graph_of drawing in
    let one = unit_answer rules nodes graph (positions_of graph) (units_in drawing) in
    let found = has_place drawing atom centre in
    record {
      place = found.0;
      unit = one (centre_unit drawing atom);
      there = slice_get-map one (units_in drawing) found.0 ∙ ap (option_map one) found.1;
      centre = record { ligands = centre_ligands graph atom; is = refl };
      has = has;
    }

-- by the molecule that is read of the record
answered : (rules : Rules) (nodes : ℕ) (text : List ℕ) (drawing : Drawing) → molecule_in text ≡ Ok drawing
    → answer_by rules nodes text ≡ of_molecule rules nodes drawing
unfolding answer_without_items
answered rules nodes text drawing read = ap (of_reading rules nodes) read

module _ (rules : Rules) (nodes atom : ℕ) (letter : CentreLetter) where
  -- what is written with the mark that was answered
  set_written : (bytes : List ℕ) (molecule : Drawing) (marked : MarkedCentre)
      → mark_for_letter rules nodes molecule (atom - 1) letter ≡ Ok marked → molecule_in bytes ≡ Ok molecule
      → is_v3000 (body_contents (without_label_items bytes)) ≡ false
      → IsSet rules nodes atom letter bytes
      (changed_record molecule (with_mark molecule (atom - 1) marked.neighbour marked.mark).bonds
      (without_label_items bytes))
  set_written bytes molecule marked is read old =
      let drawing = with_mark molecule (atom - 1) marked.neighbour marked.mark in
      let text = changed_record molecule drawing.bonds (without_label_items bytes) in
      let behind = read_behind rules nodes atom letter molecule marked is bytes read old in
      let gives =
      given rules nodes atom letter molecule marked is (body_contents (without_label_items bytes)) read old in
      record {
        marked = written rules nodes atom letter molecule marked is bytes read old;
        labels = subst (LabelsAt (descriptor_of letter) (atom - 1))
            (sym (answered rules nodes text drawing behind.read))
            (labelled rules nodes drawing (atom - 1) (descriptor_of letter) gives.centre gives.letter);
      }

  set_reads : (bytes : List ℕ) → GivesLetter rules nodes atom letter bytes (set_answer rules nodes atom letter bytes)
  set_reads bytes =
      by_answer rules nodes atom letter (GivesLetter rules nodes atom letter bytes) (without_label_items bytes)
      (λ refusal. tt) (λ molecule marked is read old. set_written bytes molecule marked is read old)

  -- of what a call answers
  pub reads_of : {E : Type 0} (bytes : List ℕ) (result : Result SetAnswer E)
      → IfOk result (λ answer. answer ≡ set_answer rules nodes atom letter bytes)
      → IfOk result (λ answer. GivesLetter rules nodes atom letter bytes answer)
  reads_of bytes result is =
      IfOk-weaker result _ (GivesLetter rules nodes atom letter bytes)
      (λ answer e. subst (GivesLetter rules nodes atom letter bytes) (sym e) (set_reads bytes)) is

pub set_records_are_read : SetRecordsAreRead
set_records_are_read = set_reads
