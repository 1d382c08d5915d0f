-- What is written for other ends and marks of bonds is read again.
use Rattle.std.proofs.Common.{All, ◌≡◌, ◌≢◌, ◌<◌, ◌≤◌, ◌+◌, ◌-◌, ◌==◌, ◌&&◌, ℕ, suc, List, Bool, true, false, Some, None, Ok, length, take, get_or, refl, sym, ap, ◌∙◌, subst, arith, ◌⊎◌, inl, inr}
use Rattle.std.specs.Prelude.{decimal, slice_get}
use Rattle.std.proofs.lemmas.Bool.{and_parts, cases_eq, eqb-true}
use Rattle.std.proofs.lemmas.Fmt.{length-decimal-le}
use Rattle.std.proofs.lemmas.List.{map-id}
use Rattle.std.proofs.lemmas.Option.{slice_get-get_or}
use Rattle.cip_text.specs.Bodies.{body_contents}
use Rattle.cip_text.specs.Columns.{field}
use Rattle.cip_num.specs.declared.plane.Vec3.{Vec3}
use Rattle.cip_mol.specs.Bonds.{cause_of}
use Rattle.cip_mol.specs.Drawing.{Drawing}
use Rattle.cip_mol.specs.Ranges.{IsBond}
use Rattle.cip_mol.specs.declared.graph.molecule.Bond.{Bond}
use Rattle.cip_mol.specs.declared.graph.molecule.Mark.{Mark}
use Rattle.cip_mol.specs.declared.graph.molecule.Mark.TheVariants.{Plain, Up, Down, Either}
use Rattle.cip_mol.proofs.lemmas.SoundBonds.{finds_room}
use Rattle.cip_item.specs.Parts.{without_label_items, has_label_item}
use Rattle.cip_item.proofs.lemmas.Walking.{itself}
use Rattle.cip_item.proofs.lemmas.NoLabels.{no_label_item}
use Rattle.cip_ctfile.specs.Causes.{order_of}
use Rattle.cip_ctfile.specs.Fields.{number_in, one_based_index}
use Rattle.cip_v2000.specs.BondLine.{bond_of, mark_of}
use Rattle.cip_v2000.specs.Version.{is_v3000}
use Rattle.cip_edit.specs.Columns.{with_columns, Fits}
use Rattle.cip_edit.specs.Edits.{edited_contents}
use Rattle.cip_edit.specs.EditLaws.{IsEdited}
use Rattle.cip_edit.specs.EditedRows.{IsContentFor}
use Rattle.cip_edit.proofs.lemmas.EditedItems.{edits_keep_records}
use Rattle.cip_edit.proofs.lemmas.Lengths.{edits_grow_little}
use Rattle.cip_edit.proofs.lemmas.Fields.{field_written, field_before, field_behind, written_long}
use Rattle.cip_edit.proofs.lemmas.Numbers.{decimal_number, digits_printed}
use Rattle.cip_edit.proofs.lemmas.Written.{written_content, same_content}
use Rattle.cip_molfile.specs.Molecules.{read_molecule}
use Rattle.cip_edit.specs.Answers.{}
use Rattle.cip_edit.specs.Changed.{stereo_of, with_bond, are_drawn_alike, changed_line, changed_by, change_edit, changed_record, ChangesAreRead}
use Rattle.cip_mol.specs.Joins.{JoinAlike}
use Rattle.cip_edit.specs.Laws.{ChangesBond, GivesRows, rewritten}
use Rattle.cip_edit.proofs.lemmas.BondLines as bond_lines
use Rattle.cip_edit.proofs.lemmas.BondLines.{IsFreeBondLine, line_given}
use Rattle.cip_edit.proofs.lemmas.Grammar.{IsMolecule, parts}
use Rattle.cip_edit.proofs.lemmas.FewRows.{few_rows}
use Rattle.cip_edit.proofs.lemmas.Mirrored.{number_read}
use Rattle.cip_edit.proofs.lemmas.MirrorReads.{old_version, of_old, sound_read}
use Rattle.cip_mol.proofs.lemmas.Redrawn.{same_length, redrawn_at, sound_redrawn}
use Rattle.cip_edit.proofs.lemmas.Rewriting.{IsRewritten, rewritten_is}

-- the stereo field of a bond in range gives its mark

by_order : (order : ℕ) → 1 ≤ order → order ≤ 3 → order ≢ 2 → order ≢ 3 → order ≡ 1
by_order order some few not_2 not_3 = omega arith

mark_back : (order : ℕ) (mark : Mark) → 1 ≤ order → order ≤ 3
    → (order ≡ 2 → (mark ≡ Plain) ⊎ (mark ≡ Either)) → (order ≡ 3 → mark ≡ Plain)
    → mark_of order (Some (stereo_of order mark)) ≡ Some mark
mark_back order Plain some few two three = refl
mark_back order Up some few two three =
    let single : order ≡ 1 = by_order order some few
    (λ is. elim (two is) [ inl plain ↦ absurd cc | inr either ↦ absurd cc ]) (λ is. absurd (let e = three is in cc)) in
    rw single refl
mark_back order Down some few two three =
    let single : order ≡ 1 = by_order order some few
    (λ is. elim (two is) [ inl plain ↦ absurd cc | inr either ↦ absurd cc ]) (λ is. absurd (let e = three is in cc)) in
    rw single refl
mark_back order Either some few two three = elim (cases_eq order 2) [
  | inl double ↦ rw double refl
  | inr other ↦
      let single : order ≡ 1 = by_order order some few other (λ is. absurd (let e = three is in cc)) in
      rw single refl
]

stereo_small : (order : ℕ) (mark : Mark) → stereo_of order mark ≤ 6
stereo_small order Plain = omega arith
stereo_small order Up = omega arith
stereo_small order Down = omega arith
stereo_small order Either = grind arith

same_stereo : (one other : Mark) → (stereo_of 1 one == stereo_of 1 other) ≡ true → one ≡ other
same_stereo Plain Plain h = refl
same_stereo Up Up h = refl
same_stereo Down Down h = refl
same_stereo Either Either h = refl
same_stereo one other h = absurd cc

-- numbers right in three columns

fits_three : (first last n : ℕ) → 1 ≤ first → last ≡ first + 2 → n ≤ 999 → Fits first last (decimal n)
fits_three first last n some three few =
    let is = decimal_number n (omega (arith, few)) in
    record {
      begins = some;
      some = is.some;
      few = omega (arith, three, length-decimal-le 3 n (omega arith) (omega (arith, few)) (omega (arith, few)));
      printed = digits_printed (decimal n) is.digits;
    }

then_content : (one two three : List ℕ) → IsContentFor one two → IsContentFor two three
    → length three ≤ length one + 30 → IsContentFor one three
then_content one two three first second few =
    record { lines = λ h. second.lines (first.lines h); returns = λ h. second.returns (first.returns h); few = few }

-- a bond line with another bond

module _ (atoms : ℕ) (before news : List Bond) (line : List ℕ) (old new : Bond) (few : atoms ≤ 999)
    (range : IsBond new) (order : new.order ≡ old.order) (free : cause_of atoms news new ≡ None)
    (h : bond_of atoms before line ≡ Ok old) where
  is : IsFreeBondLine atoms before line old
  is = bond_lines.line_fields atoms before line old h

  bond_kept : are_drawn_alike old new ≡ true → ChangesBond atoms news line line new
  bond_kept alike =
      let tests = and_parts ((old.a == new.a) && (old.b == new.b))
      (stereo_of 1 old.mark == stereo_of 1 new.mark) alike in
      let ends = and_parts (old.a == new.a) (old.b == new.b) tests.0 in
      let a : old.a ≡ new.a = eqb-true old.a new.a ends.0 in
      let b : old.b ≡ new.b = eqb-true old.b new.b ends.1 in
      let mark : old.mark ≡ new.mark = same_stereo old.mark new.mark tests.1 in
      record {
        read = line_given atoms news line new (record {
          a = is.fields.a ∙ ap Some a;
          b = is.fields.b ∙ ap Some b;
          order = is.fields.order ∙ ap Some (sym order);
          mark = ap (λ n. mark_of n (number_in 6 (field 10 12 line))) order ∙ is.fields.mark ∙ ap Some mark;
        }) free;
        content = same_content line;
      }

  bond_written : ChangesBond atoms news line (with_bond new line) new
  unfolding with_bond
  bond_written =
      let room = finds_room atoms news new free in
      let code : ℕ = stereo_of new.order new.mark in
      let small : code ≤ 6 = stereo_small new.order new.mark in
      let first : List ℕ = with_columns 1 3 (decimal (new.a + 1)) line in
      let second : List ℕ = with_columns 4 6 (decimal (new.b + 1)) first in
      let third : List ℕ = with_columns 10 12 (decimal code) second in
      let fits_a : Fits 1 3 (decimal (new.a + 1)) =
      fits_three 1 3 (new.a + 1) (omega arith) (omega arith) (omega (arith, few, room.a)) in
      let fits_b : Fits 4 6 (decimal (new.b + 1)) =
      fits_three 4 6 (new.b + 1) (omega arith) (omega arith) (omega (arith, few, room.b)) in
      let fits_code : Fits 10 12 (decimal code) =
      fits_three 10 12 code (omega arith) (omega arith) (omega (arith, small)) in
      let field_a : field 1 3 third ≡ decimal (new.a + 1) =
      field_before 10 12 1 3 (decimal code) second (omega arith) (omega arith) (omega arith)
      ∙ field_before 4 6 1 3 (decimal (new.b + 1)) first (omega arith) (omega arith) (omega arith)
      ∙ field_written 1 3 (decimal (new.a + 1)) line fits_a in
      let field_b : field 4 6 third ≡ decimal (new.b + 1) =
      field_before 10 12 4 6 (decimal code) second (omega arith) (omega arith) (omega arith)
      ∙ field_written 4 6 (decimal (new.b + 1)) first fits_b in
      let field_order : field 7 9 third ≡ field 7 9 line =
      field_before 10 12 7 9 (decimal code) second (omega arith) (omega arith) (omega arith)
      ∙ field_behind 4 6 7 9 (decimal (new.b + 1)) first fits_b (omega arith)
      ∙ field_behind 1 3 7 9 (decimal (new.a + 1)) line fits_a (omega arith) in
      let long_a : length first ≡ 3 + (length line - 3) = written_long 1 3 (decimal (new.a + 1)) line fits_a in
      let long_b : length second ≡ 6 + (length first - 6) = written_long 4 6 (decimal (new.b + 1)) first fits_b in
      let long_code : length third ≡ 12 + (length second - 12) = written_long 10 12 (decimal code) second fits_code in
      let next_a : new.a + 1 ≡ suc new.a = omega arith in
      let next_b : new.b + 1 ≡ suc new.b = omega arith in
      record {
        read = line_given atoms news third new (record {
          a = ap (λ text. one_based_index (number_in atoms text)) field_a
              ∙ ap one_based_index (number_read atoms (new.a + 1) (omega (arith, room.a)) (omega (arith, few)))
              ∙ ap (λ n. one_based_index (Some n)) next_a;
          b = ap (λ text. one_based_index (number_in atoms text)) field_b
              ∙ ap one_based_index (number_read atoms (new.b + 1) (omega (arith, room.b)) (omega (arith, few)))
              ∙ ap (λ n. one_based_index (Some n)) next_b;
          order = ap (λ text. order_of (number_in 3 text)) field_order ∙ is.fields.order ∙ ap Some (sym order);
          mark = ap (λ text. mark_of new.order (number_in 6 text))
              (field_written 10 12 (decimal code) second fits_code)
              ∙ ap (mark_of new.order) (number_read 6 code small (omega arith))
              ∙ mark_back new.order new.mark range.some range.few range.double range.triple;
        }) free;
        content = then_content line second third
            (then_content line first second (written_content 1 3 (decimal (new.a + 1)) line fits_a (omega arith))
            (written_content 4 6 (decimal (new.b + 1)) first fits_b (omega arith)) (omega (arith, long_a, long_b)))
            (written_content 10 12 (decimal code) second fits_code (omega arith))
            (omega (arith, long_a, long_b, long_code));
      }

  by_alike : (k : Bool) → are_drawn_alike old new ≡ k → ChangesBond atoms news line (changed_line old new line) new
  by_alike true e = rw e (bond_kept e)
  by_alike false e = rw e bond_written

  pub bond_changed : ChangesBond atoms news line (changed_line old new line) new
  bond_changed = by_alike (are_drawn_alike old new) refl

-- a record

abbrev still : Vec3 → Vec3
still place = place

gives_changed : (lines : List (List ℕ)) (molecule : Drawing) (bonds : List Bond) → IsMolecule lines molecule
    → JoinAlike molecule.bonds bonds → All IsBond bonds
    → GivesRows molecule still bonds (λ line. line)
    (λ place line. changed_by (slice_get molecule.bonds place) (slice_get bonds place) line)
gives_changed lines molecule bonds m redrawn range = record {
  counted = same_length molecule.bonds bonds redrawn;
  atoms = λ k d line given lt same h. record { read = h; content = same_content line };
  rows = λ k d line lt h.
      let within : k < length bonds = subst (λ n. k < n) (sym (same_length molecule.bonds bonds redrawn)) lt in
      let old : slice_get molecule.bonds k ≡ Some (get_or molecule.bonds k d) =
      slice_get-get_or molecule.bonds k d lt in
      let new : slice_get bonds k ≡ Some (get_or bonds k d) = slice_get-get_or bonds k d within in
      rw (old, new) (bond_changed (length molecule.atoms) (take k molecule.bonds) (take k bonds) line
      (get_or molecule.bonds k d) (get_or bonds k d) (few_rows lines molecule m).few_atoms (range k d within)
      (redrawn_at molecule.bonds bonds k d redrawn lt).order
      ((sound_redrawn (length molecule.atoms) molecule.bonds bonds
      (sound_read lines molecule m) redrawn).each k within d) h);
}

-- what the edit makes of the lines of a molecule's record
module _ (lines : List (List ℕ)) (molecule : Drawing) (bonds : List Bond) (read : read_molecule lines ≡ Ok molecule)
    (old : is_v3000 lines ≡ false) (redrawn : JoinAlike molecule.bonds bonds) (range : All IsBond bonds) where
  is_rewritten : IsRewritten lines molecule (rewritten molecule still bonds) (change_edit molecule bonds)
  is_rewritten =
      let m : IsMolecule lines molecule = parts lines molecule (old_version lines molecule old read) in
      rewritten_is lines molecule still bonds (λ line. line)
      (λ place line. changed_by (slice_get molecule.bonds place) (slice_get bonds place) line) m
      (gives_changed lines molecule bonds m redrawn range)

pub changed_few : (bytes : List ℕ) (molecule : Drawing) (bonds : List Bond)
    → read_molecule (body_contents bytes) ≡ Ok molecule → is_v3000 (body_contents bytes) ≡ false
    → JoinAlike molecule.bonds bonds → All IsBond bonds
    → length (changed_record molecule bonds bytes) ≤ length bytes + 65536
changed_few bytes molecule bonds read old redrawn range =
    let is = is_rewritten (body_contents bytes) molecule bonds read old redrawn range in
    omega (arith, edits_grow_little (change_edit molecule bonds) 2002 bytes is.grows)

pub changes_are_read : ChangesAreRead
changes_are_read bytes molecule bonds read old redrawn range =
    let bare : List ℕ = without_label_items bytes in
    let lines : List (List ℕ) = body_contents bare in
    let text : List ℕ = changed_record molecule bonds bare in
    let is = is_rewritten lines molecule bonds read old redrawn range in
    let edit : IsEdited (change_edit molecule bonds) bare =
    edits_keep_records (change_edit molecule bonds) bare is.kinds in
    let free : has_label_item text ≡ false = edit.items ∙ no_label_item bytes in
    record {
      read = ap (λ bytes. read_molecule (body_contents bytes)) (itself text free)
          ∙ ap read_molecule edit.contents
          ∙ of_old (edited_contents (change_edit molecule bonds) 0 lines) (rewritten molecule still bonds)
          (is.version ∙ old) is.read
          ∙ ap (λ atoms. Ok (record { atoms = atoms; bonds = bonds })) (map-id molecule.atoms);
      free = free;
    }
