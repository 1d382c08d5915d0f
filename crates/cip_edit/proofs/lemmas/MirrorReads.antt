-- What is written for a record is read as its mirror image.
use Rattle.std.proofs.Common.{◌≡◌, ◌<◌, ◌≤◌, ◌+◌, ℕ, pos, List, Bool, true, false, None, Result, Ok, Err, length, map, take, get_or, refl, sym, ap, ◌∙◌, subst, arith, inl, inr}
use Rattle.std.specs.Prelude.{int_lt, IfOk}
use Rattle.std.specs.List.{list_any}
use Rattle.std.proofs.lemmas.Bool.{cases_Bool, true≢false}
use Rattle.std.proofs.lemmas.List.{length-map, get_or-map}
use Rattle.std.proofs.lemmas.Result.{IfOk-weaker}
use Rattle.std.proofs.lemmas.List.Folds.{list_any_at}
use Rattle.cip_text.specs.Bodies.{body_contents}
use Rattle.cip_num.specs.Space.{mirrored}
use Rattle.cip_mol.specs.Bonds.{cause_of, IsSound}
use Rattle.cip_mol.specs.Drawing.{Drawing}
use Rattle.cip_mol.specs.Reflection.{mirrored_bond, reflected}
use Rattle.cip_mol.specs.declared.labels.refusal.ReadFault.{ReadFault}
use Rattle.cip_mol.proofs.lemmas.Mirrored.{sound_mirrored}
use Rattle.cip_item.specs.Parts.{without_label_items, has_label_item}
use Rattle.cip_item.proofs.lemmas.Walking.{itself}
use Rattle.cip_item.proofs.lemmas.NoLabels.{no_label_item}
use Rattle.cip_v2000.specs.Grammar as v2000
use Rattle.cip_v2000.specs.Version.{is_v3000}
use Rattle.cip_edit.specs.Edits.{edited_contents}
use Rattle.cip_edit.specs.EditLaws.{IsEdited}
use Rattle.cip_edit.proofs.lemmas.EditedItems.{edits_keep_records}
use Rattle.cip_edit.proofs.lemmas.Lengths.{edits_grow_little}
use Rattle.cip_molfile.specs.Molecules.{read_molecule}
use Rattle.cip_edit.specs.Answers.{molecule_in, is_too_high, answer_read, answer_without_items, mirror_answer, IsFew, IsMirrored, GivesReflected}
use Rattle.cip_edit.specs.Laws.{GivesRows}
use Rattle.cip_edit.specs.Mirror.{mirrored_atom_line, mirrored_bond_line, mirror_edit, mirrored_record}
use Rattle.cip_edit.specs.declared.mirror_answer.MirrorAnswer.{MirrorAnswer}
use Rattle.cip_edit.specs.declared.mirror_answer.MirrorAnswer.TheVariants.{Written, Refused}
use Rattle.cip_edit.specs.declared.mirror_answer.MirrorRefusal.{MirrorRefusal}
use Rattle.cip_edit.specs.declared.mirror_answer.MirrorRefusal.TheVariants.{Grammar, OnlyV2000, Width}
use Rattle.cip_edit.proofs.lemmas.BondLines as bond_lines
use Rattle.cip_edit.proofs.lemmas.Grammar.{IsMolecule, parts, has_rows}
use Rattle.cip_edit.proofs.lemmas.Mirrored.{atom_mirrored, bond_mirrored}
use Rattle.cip_edit.proofs.lemmas.Rewriting.{IsRewritten, rewritten_is}

-- bonds that were read have no fault
pub sound_read : (lines : List (List ℕ)) (molecule : Drawing) → IsMolecule lines molecule
    → IsSound (length molecule.atoms) molecule.bonds
sound_read lines molecule m = record {
  each = λ k lt d.
      let one = (has_rows lines molecule m).bond k d lt in
      (bond_lines.line_fields (length molecule.atoms) (take k molecule.bonds) one.line
      (get_or molecule.bonds k d) one.gives).free;
}

none_at : {A : Type 0} (test : A → Bool) (xs : List A) (k : ℕ) (d : A) → list_any test xs ≡ false → k < length xs
    → test (get_or xs k d) ≡ false
none_at test xs k d none lt = elim (cases_Bool (test (get_or xs k d))) [
  | inl is ↦ absurd (true≢false (sym (list_any_at test xs k d lt is) ∙ none))
  | inr isnt ↦ isnt
]

gives_mirrored : (lines : List (List ℕ)) (molecule : Drawing) → IsMolecule lines molecule
    → list_any is_too_high molecule.atoms ≡ false
    → GivesRows molecule mirrored (map mirrored_bond molecule.bonds) mirrored_atom_line (λ _. mirrored_bond_line)
gives_mirrored lines molecule m low =
    let sound : IsSound (length molecule.atoms) (map mirrored_bond molecule.bonds) =
    subst (λ n. IsSound n (map mirrored_bond molecule.bonds)) (length-map molecule.atoms _)
    (sound_mirrored molecule (sound_read lines molecule m)) in
    record {
      counted = length-map molecule.bonds mirrored_bond;
      atoms = λ k d line given lt same h.
          atom_mirrored line given
          (ap (λ at. int_lt (pos 99999999) at.z) same ∙ none_at is_too_high molecule.atoms k d low lt) h;
      rows = λ k d line lt h.
          let got : get_or (map mirrored_bond molecule.bonds) k d ≡ mirrored_bond (get_or molecule.bonds k d) =
          get_or-map mirrored_bond molecule.bonds k d d lt in
          let long : length (map mirrored_bond molecule.bonds) ≡ length molecule.bonds =
          length-map molecule.bonds mirrored_bond in
          let free : cause_of (length molecule.atoms) (take k (map mirrored_bond molecule.bonds))
          (mirrored_bond (get_or molecule.bonds k d)) ≡ None =
          ap (cause_of (length molecule.atoms) (take k (map mirrored_bond molecule.bonds))) (sym got)
          ∙ sound.each k (subst (λ n. k < n) (sym long) lt) d in
          rw got (bond_mirrored (length molecule.atoms) (take k molecule.bonds)
          (take k (map mirrored_bond molecule.bonds)) line
          (get_or molecule.bonds k d) free h);
    }

pub old_version : (lines : List (List ℕ)) (molecule : Drawing) → is_v3000 lines ≡ false
    → read_molecule lines ≡ Ok molecule
    → v2000.molecule_of lines ≡ Ok molecule
old_version lines molecule old h = rw old at h

pub of_old : (lines : List (List ℕ)) (molecule : Drawing) → is_v3000 lines ≡ false
    → v2000.molecule_of lines ≡ Ok molecule
    → read_molecule lines ≡ Ok molecule
of_old lines molecule old h = rw old h

-- what the edit makes of the lines of a molecule's record
is_rewritten : (lines : List (List ℕ)) (molecule : Drawing) → read_molecule lines ≡ Ok molecule
    → is_v3000 lines ≡ false → list_any is_too_high molecule.atoms ≡ false
    → IsRewritten lines molecule (reflected molecule) (mirror_edit molecule)
is_rewritten lines molecule read old low =
    let m : IsMolecule lines molecule = parts lines molecule (old_version lines molecule old read) in
    rewritten_is lines molecule mirrored (map mirrored_bond molecule.bonds) mirrored_atom_line
    (λ _. mirrored_bond_line) m (gives_mirrored lines molecule m low)

few_written : (bytes : List ℕ) (molecule : Drawing) → read_molecule (body_contents bytes) ≡ Ok molecule
    → is_v3000 (body_contents bytes) ≡ false → list_any is_too_high molecule.atoms ≡ false
    → length (mirrored_record molecule bytes) ≤ length bytes + 65536
few_written bytes molecule read old low =
    let is = is_rewritten (body_contents bytes) molecule read old low in
    omega (arith, edits_grow_little (mirror_edit molecule) 2002 bytes is.grows)

written : (bytes : List ℕ) (molecule : Drawing) → molecule_in bytes ≡ Ok molecule
    → is_v3000 (body_contents (without_label_items bytes)) ≡ false → list_any is_too_high molecule.atoms ≡ false
    → IsMirrored bytes (mirrored_record molecule (without_label_items bytes))
written bytes molecule read old low =
    let bare : List ℕ = without_label_items bytes in
    let lines : List (List ℕ) = body_contents bare in
    let text : List ℕ = mirrored_record molecule bare in
    let is = is_rewritten lines molecule read old low in
    let edit : IsEdited (mirror_edit molecule) bare = edits_keep_records (mirror_edit molecule) bare is.kinds in
    let free : has_label_item text ≡ false = edit.items ∙ no_label_item bytes in
    record {
      molecule = molecule;
      before = read;
      behind = ap (λ bytes. read_molecule (body_contents bytes)) (itself text free)
          ∙ ap read_molecule edit.contents
          ∙ of_old (edited_contents (mirror_edit molecule) 0 lines) (reflected molecule) (is.version ∙ old) is.read;
      free = free;
    }

-- by the answer to a record without label items
module _ (P : MirrorAnswer → Type 0) (bytes : List ℕ) (refused : (refusal : MirrorRefusal) → P (Refused refusal))
    (given : (molecule : Drawing) → read_molecule (body_contents bytes) ≡ Ok molecule
    → is_v3000 (body_contents bytes) ≡ false → list_any is_too_high molecule.atoms ≡ false
    → P (Written (mirrored_record molecule bytes))) where
  by_height : (molecule : Drawing) (high : Bool) → read_molecule (body_contents bytes) ≡ Ok molecule
      → is_v3000 (body_contents bytes) ≡ false → list_any is_too_high molecule.atoms ≡ high
      → P (answer_read bytes (Ok molecule))
  by_height molecule true read old e = rw (old, e) (refused Width)
  by_height molecule false read old e = rw (old, e) (given molecule read old e)

  by_version : (molecule : Drawing) (new : Bool) → read_molecule (body_contents bytes) ≡ Ok molecule
      → is_v3000 (body_contents bytes) ≡ new → P (answer_read bytes (Ok molecule))
  by_version molecule true read e = rw e (refused OnlyV2000)
  by_version molecule false read e = by_height molecule (list_any is_too_high molecule.atoms) read e refl

  by_reading : (read : Result Drawing ReadFault) → read_molecule (body_contents bytes) ≡ read
      → P (answer_read bytes read)
  by_reading (Err fault) is = refused (Grammar fault)
  by_reading (Ok molecule) is = by_version molecule (is_v3000 (body_contents bytes)) is refl

  by_answer : P (answer_without_items bytes)
  unfolding answer_without_items
  by_answer = by_reading (read_molecule (body_contents bytes)) refl

pub mirror_reads : (bytes : List ℕ) → GivesReflected bytes (mirror_answer bytes)
mirror_reads bytes = by_answer (GivesReflected bytes) (without_label_items bytes) (λ refusal. tt) (written bytes)

pub mirror_few : (bytes : List ℕ) → IsFew bytes (answer_without_items bytes)
mirror_few bytes = by_answer (IsFew bytes) bytes (λ refusal. tt) (few_written bytes)

-- of what a call answers
pub few_of : {E : Type 0} (bytes : List ℕ) (result : Result MirrorAnswer E)
    → IfOk result (λ answer. answer ≡ answer_without_items bytes) → IfOk result (λ answer. IsFew bytes answer)
few_of bytes result is =
    IfOk-weaker result _ (IsFew bytes) (λ answer e. subst (IsFew bytes) (sym e) (mirror_few bytes)) is
