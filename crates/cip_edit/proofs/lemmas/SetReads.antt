-- What is written for a record in which a centre is to have a letter is read as the drawing with the mark.
use Rattle.std.proofs.Common.{All, ◌≡◌, ◌≤◌, ◌+◌, ◌-◌, ◌==◌, ℕ, List, Bool, true, false, Result, Ok, Err, length, refl, sym, subst, arith}
use Rattle.std.specs.Prelude.{IfOk, if◌then◌else◌}
use Rattle.std.proofs.lemmas.Result.{IfOk-weaker}
use Rattle.cip_text.specs.Bodies.{body_contents}
use Rattle.cip_rank.specs.declared.rules.Rules.{Rules}
use Rattle.cip_mol.specs.Bonds.{IsSound}
use Rattle.cip_mol.specs.Drawing.{Drawing}
use Rattle.cip_mol.specs.Ranges.{IsBond}
use Rattle.cip_mol.specs.declared.labels.centre_letter.CentreLetter.{CentreLetter}
use Rattle.cip_mol.specs.declared.labels.refusal.ReadFault.{ReadFault}
use Rattle.cip_item.specs.Parts.{without_label_items}
use Rattle.cip_edit.proofs.lemmas.NoLonger.{no_longer}
use Rattle.cip_v2000.specs.Version.{is_v3000}
use Rattle.cip_molfile.specs.Molecules.{read_molecule}
use Rattle.cip_edit.specs.Marking.{with_mark}
use Rattle.cip_edit.specs.SetLetters.{mark_for_letter, IsGiven}
use Rattle.cip_edit.specs.declared.request.CentreRefusal.{CentreRefusal}
use Rattle.cip_edit.specs.declared.request.MarkedCentre.{MarkedCentre}
use Rattle.cip_edit.proofs.lemmas.GivenLetters.{letters_given}
use Rattle.cip_edit.proofs.lemmas.SetMarks.{all_join}
use Rattle.cip_edit.proofs.lemmas.SetSound.{bonds_set}
use Rattle.cip_edit.specs.Answers.{molecule_in}
use Rattle.cip_edit.specs.Changed.{changed_record, IsReadChanged}
use Rattle.cip_edit.proofs.lemmas.BondRanges.{bonds_in_range}
use Rattle.cip_edit.proofs.lemmas.Grammar.{IsMolecule, parts}
use Rattle.cip_edit.proofs.lemmas.MirrorReads.{old_version, sound_read}
use Rattle.cip_edit.proofs.lemmas.ReplacedBonds.{changed_few, changes_are_read}
use Rattle.cip_edit.specs.SetAnswers.{refusal_of, set_marked, set_drawn, set_read, set_without_items, set_answer, GivesMark, IsFew, IsMarked}
use Rattle.cip_edit.specs.declared.set_answer.SetAnswer.{SetAnswer}
use Rattle.cip_edit.specs.declared.set_answer.SetAnswer.TheVariants.{Written, Refused}
use Rattle.cip_edit.specs.declared.set_answer.SetRefusal.{SetRefusal}
use Rattle.cip_edit.specs.declared.set_answer.SetRefusal.TheVariants as refusals

-- the bonds of a drawing that was read, with a mark
record AreMarkable (molecule : Drawing) : Type 0 where
  sound : IsSound (length molecule.atoms) molecule.bonds
  range : All IsBond molecule.bonds

markable : (lines : List (List ℕ)) (molecule : Drawing) → read_molecule lines ≡ Ok molecule → is_v3000 lines ≡ false
    → AreMarkable molecule
markable lines molecule read old =
    let m : IsMolecule lines molecule = parts lines molecule (old_version lines molecule old read) in
    record { sound = sound_read lines molecule m; range = bonds_in_range lines molecule m }

module _ (rules : Rules) (nodes atom : ℕ) (letter : CentreLetter) where
  abbrev pub drawn_with : Drawing → MarkedCentre → Drawing
  drawn_with molecule marked = with_mark molecule (atom - 1) marked.neighbour marked.mark

  module _ (molecule : Drawing) (marked : MarkedCentre)
      (is : mark_for_letter rules nodes molecule (atom - 1) letter ≡ Ok marked) where
    few_written : (bytes : List ℕ) → read_molecule (body_contents bytes) ≡ Ok molecule
        → is_v3000 (body_contents bytes) ≡ false
        → length (changed_record molecule (drawn_with molecule marked).bonds bytes) ≤ length bytes + 65536
    few_written bytes read old =
        let m = markable (body_contents bytes) molecule read old in
        changed_few bytes molecule (drawn_with molecule marked).bonds read old
        (all_join (atom - 1) marked.neighbour marked.mark molecule.bonds)
        (bonds_set (atom - 1) marked.neighbour marked.mark molecule.bonds m.range)

    pub read_behind : (bytes : List ℕ) → molecule_in bytes ≡ Ok molecule
        → is_v3000 (body_contents (without_label_items bytes)) ≡ false
        → IsReadChanged molecule (drawn_with molecule marked).bonds
        (changed_record molecule (drawn_with molecule marked).bonds (without_label_items bytes))
    read_behind bytes read old =
        changes_are_read bytes molecule (drawn_with molecule marked).bonds read old
        (all_join (atom - 1) marked.neighbour marked.mark molecule.bonds)
        (bonds_set (atom - 1) marked.neighbour marked.mark molecule.bonds
        (markable (body_contents (without_label_items bytes)) molecule read old).range)

    pub written : (bytes : List ℕ) → molecule_in bytes ≡ Ok molecule
        → is_v3000 (body_contents (without_label_items bytes)) ≡ false
        → IsMarked rules nodes atom letter bytes
        (changed_record molecule (drawn_with molecule marked).bonds (without_label_items bytes))
    written bytes read old =
        let changed = read_behind bytes read old in
        record {
          molecule = molecule;
          marked = marked;
          before = read;
          mark = is;
          behind = changed.read;
          free = changed.free;
        }

    -- with the mark the centre has the letter
    pub given : (lines : List (List ℕ)) → read_molecule lines ≡ Ok molecule → is_v3000 lines ≡ false
        → IsGiven rules nodes molecule (atom - 1) letter marked
    given lines read old =
        letters_given rules nodes molecule (atom - 1) letter (markable lines molecule read old).sound marked is

  -- by the answer to a record without label items
  module _ (P : SetAnswer → Type 0) (bytes : List ℕ) (refused : (refusal : SetRefusal) → P (Refused refusal))
      (given : (molecule : Drawing) (marked : MarkedCentre) → mark_for_letter rules nodes molecule (atom - 1) letter ≡ Ok marked
      → read_molecule (body_contents bytes) ≡ Ok molecule → is_v3000 (body_contents bytes) ≡ false
      → P (Written (changed_record molecule (drawn_with molecule marked).bonds bytes))) where
    by_mark : (molecule : Drawing) (requested : Result MarkedCentre CentreRefusal)
        → mark_for_letter rules nodes molecule (atom - 1) letter ≡ requested
        → read_molecule (body_contents bytes) ≡ Ok molecule → is_v3000 (body_contents bytes) ≡ false
        → P (set_marked bytes molecule (atom - 1) requested)
    by_mark molecule (Ok marked) is read old = given molecule marked is read old
    by_mark molecule (Err refusal) is read old = refused (refusal_of refusal)

    by_number : (molecule : Drawing) (none : Bool) → (atom == 0) ≡ none
        → read_molecule (body_contents bytes) ≡ Ok molecule → is_v3000 (body_contents bytes) ≡ false
        → P (if none then Refused refusals.NoCentre
        else set_marked bytes molecule (atom - 1) (mark_for_letter rules nodes molecule (atom - 1) letter))
    by_number molecule true e read old = refused refusals.NoCentre
    by_number molecule false e read old =
        by_mark molecule (mark_for_letter rules nodes molecule (atom - 1) letter) refl read old

    by_version : (molecule : Drawing) (new : Bool) → read_molecule (body_contents bytes) ≡ Ok molecule
        → is_v3000 (body_contents bytes) ≡ new → P (set_drawn rules nodes atom letter bytes molecule)
    by_version molecule true read e = rw e (refused refusals.OnlyV2000)
    by_version molecule false read e = rw e (by_number molecule (atom == 0) refl read e)

    by_reading : (read : Result Drawing ReadFault) → read_molecule (body_contents bytes) ≡ read
        → P (set_read rules nodes atom letter bytes read)
    by_reading (Err fault) is = refused (refusals.Grammar fault)
    by_reading (Ok molecule) is = by_version molecule (is_v3000 (body_contents bytes)) is refl

    pub by_answer : P (set_without_items rules nodes atom letter bytes)
    unfolding set_without_items
    by_answer = by_reading (read_molecule (body_contents bytes)) refl

  set_few : (bytes : List ℕ) → IsFew bytes (set_without_items rules nodes atom letter bytes)
  set_few bytes = by_answer (IsFew bytes) bytes (λ refusal. tt)
      (λ molecule marked is read old. few_written molecule marked is bytes read old)

  pub set_reads : (bytes : List ℕ) → GivesMark rules nodes atom letter bytes (set_answer rules nodes atom letter bytes)
  set_reads bytes = by_answer (GivesMark rules nodes atom letter bytes) (without_label_items bytes) (λ refusal. tt)
      (λ molecule marked is read old. written molecule marked is bytes read old)

  -- of what a call answers
  pub few_of : {E : Type 0} (bytes : List ℕ) (result : Result SetAnswer E)
      → IfOk result (λ answer. answer ≡ set_without_items rules nodes atom letter bytes)
      → IfOk result (λ answer. IsFew bytes answer)
  few_of bytes result is =
      IfOk-weaker result _ (IsFew bytes) (λ answer e. subst (IsFew bytes) (sym e) (set_few bytes)) is

fewer : (bytes bare : List ℕ) (answer : SetAnswer) → length bare ≤ length bytes → IsFew bare answer
    → IsFew bytes answer
fewer bytes bare (Written text) le few = omega (arith, le, few)
fewer bytes bare (Refused refusal) le few = tt

pub few_with_items : {E : Type 0} (bytes : List ℕ) (result : Result SetAnswer E)
    → IfOk result (λ answer. IsFew (without_label_items bytes) answer) → IfOk result (λ answer. IsFew bytes answer)
few_with_items bytes result is =
    let bare = without_label_items bytes in
    IfOk-weaker result (IsFew bare) (IsFew bytes) (λ answer few. fewer bytes bare answer (no_longer bytes) few) is
