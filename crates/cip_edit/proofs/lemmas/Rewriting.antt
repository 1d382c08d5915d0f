-- What the grammar gives for edited rows.
use Rattle.std.proofs.Common.{◌≡◌, ◌<◌, ◌≤◌, ◌+◌, ◌-◌, ℕ, zero, suc, List, [], ◌∷◌, Option, Some, None, Ok, length, take, drop, map, get_or, refl, sym, ap, ◌∙◌, arith, inl, inr}
use Rattle.std.specs.Prelude.{slice_get}
use Rattle.std.specs.Option.{option_map}
use Rattle.std.proofs.lemmas.Bool.{cases_lt, lt-ltb, le-ltb}
use Rattle.std.proofs.lemmas.List.{length-map, get_or-map}
use Rattle.cip_text.specs.Columns.{field}
use Rattle.cip_num.specs.declared.plane.Vec3.{Vec3}
use Rattle.cip_mol.specs.Drawing.{Drawing}
use Rattle.cip_mol.specs.declared.graph.molecule.Atom.{Atom}
use Rattle.cip_mol.specs.Points.{no_atom}
use Rattle.cip_mol.specs.declared.graph.molecule.Bond.{Bond}
use Rattle.cip_mol.specs.declared.graph.molecule.Mark.TheVariants.{Plain}
use Rattle.cip_ctfile.specs.Reading.{read_at, in_turn}
use Rattle.cip_v2000.specs.declared.atoms.AtomLine.{AtomLine}
use Rattle.cip_v2000.specs.AtomLine.{atom_of}
use Rattle.cip_v2000.specs.BondLine.{bond_of}
use Rattle.cip_v2000.specs.CountsLine.{counts_of}
use Rattle.cip_v2000.specs.Grammar.{atom_row, bond_row, pairs_from, pairs_behind, molecule_of}
use Rattle.cip_v2000.specs.Version.{is_v3000, line_is_v3000}
use Rattle.cip_edit.specs.Edits.{Edit, edited_contents}
use Rattle.cip_edit.specs.EditedRows.{IsRow, IsRowFor, KeepsKind}
use Rattle.cip_edit.specs.EditLaws.{KeepsKinds, GrowsLittle}
use Rattle.cip_edit.proofs.lemmas.RowKinds.{integer_row, decimal_row}
use Rattle.cip_edit.specs.Rows.{row_edit}
use Rattle.cip_edit.specs.Laws.{moved, moved_line, MovesAtom, GivesRows, rewritten}
use Rattle.cip_edit.proofs.lemmas.FewRows.{AreFew, few_rows}
use Rattle.cip_ctfile.proofs.lemmas.InTurn.{in_turn_of}
use Rattle.cip_edit.proofs.lemmas.AtomLines as atom_lines
use Rattle.cip_edit.proofs.lemmas.BondLines as bond_lines
use Rattle.cip_edit.proofs.lemmas.Grammar.{IsReadAt, IsMolecule, HasRows, has_rows, whole, read_so, read_alike}
use Rattle.cip_edit.proofs.lemmas.Places.{settled_moved}

-- edited lines, by their numbers

pub got_edited : (edit : Edit) (number : ℕ) (contents : List (List ℕ)) (k : ℕ)
    → slice_get (edited_contents edit number contents) k ≡ option_map (edit (number + k)) (slice_get contents k)
got_edited edit number [] k = refl
got_edited edit number (content ∷ contents) zero =
    let same : number ≡ number + 0 = omega arith in ap (λ n. Some (edit n content)) same
got_edited edit number (content ∷ contents) (suc k) =
    let same : number + 1 + k ≡ number + suc k = omega arith in
    got_edited edit (number + 1) contents k ∙ ap (λ n. option_map (edit n) (slice_get contents k)) same

pub long_edited : (edit : Edit) (number : ℕ) (contents : List (List ℕ))
    → length (edited_contents edit number contents) ≡ length contents
long_edited edit number [] = refl
long_edited edit number (content ∷ contents) = ap suc (long_edited edit (number + 1) contents)

unedited : (edit : Edit) (number : ℕ) (contents : List (List ℕ))
    → ((k : ℕ) (content : List ℕ) → number ≤ k → edit k content ≡ content)
    → edited_contents edit number contents ≡ contents
unedited edit number [] same = refl
unedited edit number (content ∷ contents) same =
    rw (
      same number content (omega arith),
      unedited edit (number + 1) contents
          (λ k other le. same k other (omega (arith, le))),
    ) refl

pub drop_edited : (edit : Edit) (number place : ℕ) (contents : List (List ℕ))
    → ((k : ℕ) (content : List ℕ) → number + place ≤ k → edit k content ≡ content)
    → drop place (edited_contents edit number contents) ≡ drop place contents
drop_edited edit number zero contents same =
    unedited edit number contents (λ k content le. same k content (omega (arith, le)))
drop_edited edit number (suc place) [] same = refl
drop_edited edit number (suc place) (content ∷ contents) same =
    drop_edited edit (number + 1) place contents (λ k other le. same k other (omega (arith, le)))

edited_there : (edit : Edit) (contents : List (List ℕ)) (k : ℕ) (line : List ℕ) → slice_get contents k ≡ Some line
    → slice_get (edited_contents edit 0 contents) k ≡ Some (edit k line)
edited_there edit contents k line is =
    let same : 0 + k ≡ k = omega arith in
    got_edited edit 0 contents k ∙ ap (λ n. option_map (edit n) (slice_get contents k)) same
    ∙ ap (option_map (edit k)) is

-- which line is edited in which way

module _ (atoms bonds : ℕ) (atom : List ℕ → List ℕ) (bond : ℕ → List ℕ → List ℕ) where
  abbrev the_edit : Edit
  the_edit = row_edit atoms bonds atom bond

  pub edit_head : (number : ℕ) (content : List ℕ) → number < 4
      → row_edit atoms bonds atom bond number content ≡ content
  edit_head number content lt = rw (lt-ltb number 4 lt) refl

  pub edit_atom : (k : ℕ) (content : List ℕ) → k < atoms
      → row_edit atoms bonds atom bond (4 + k) content ≡ atom content
  edit_atom k content lt = rw (le-ltb (4 + k) 4 (omega arith), lt-ltb (4 + k) (4 + atoms) (omega (arith, lt))) refl

  pub edit_bond : (k : ℕ) (content : List ℕ) → k < bonds
      → row_edit atoms bonds atom bond (4 + atoms + k) content ≡ bond k content
  edit_bond k content lt =
      let back : 4 + atoms + k - (4 + atoms) ≡ k = omega arith in
      rw (
        le-ltb (4 + atoms + k) 4 (omega arith),
        le-ltb (4 + atoms + k) (4 + atoms) (omega arith),
        lt-ltb (4 + atoms + k) (4 + atoms + bonds) (omega (arith, lt)),
        back,
      ) refl

  pub edit_tail : (number : ℕ) (content : List ℕ) → 4 + atoms + bonds ≤ number
      → row_edit atoms bonds atom bond number content ≡ content
  edit_tail number content le =
      rw (
        le-ltb number 4 (omega (arith, le)),
        le-ltb number (4 + atoms) (omega (arith, le)),
        le-ltb number (4 + atoms + bonds) le,
      ) refl

abbrev no_bond : Bond
no_bond = record { a = 0; b = 0; order = 0; mark = Plain }

-- rows that were read are rows

atom_row_is : (line : List ℕ) (given : AtomLine) → atom_of line ≡ Ok given → IsRow line
atom_row_is line given h =
    decimal_row 10 line given.atom.at.x (atom_lines.line_fields line given h).x

bond_row_is : (atoms : ℕ) (before : List Bond) (line : List ℕ) (bond : Bond) → bond_of atoms before line ≡ Ok bond
    → IsRow line
bond_row_is atoms before line bond h =
    let is = bond_lines.line_fields atoms before line bond h in
    let number = bond_lines.named_number atoms bond.a (field 1 3 line) is.fields.a in
    integer_row 3 line number.0 number.1

kind_few : (old new : List ℕ) → KeepsKind old new → length new ≤ length old + 30
kind_few old new (inl same) = omega (arith, ap length same)
kind_few old new (inr row) = row.fits.few

-- the law

pub record IsRewritten (lines : List (List ℕ)) (molecule drawn : Drawing) (edit : Edit) : Type 0 where
  pub read : molecule_of (edited_contents edit 0 lines) ≡ Ok drawn
  pub kinds : KeepsKinds edit lines
  pub version : is_v3000 (edited_contents edit 0 lines) ≡ is_v3000 lines
  pub grows : GrowsLittle edit 2002 lines

module _ (lines : List (List ℕ)) (molecule : Drawing) (place : Vec3 → Vec3) (bonds : List Bond)
    (atom : List ℕ → List ℕ) (bond : ℕ → List ℕ → List ℕ) (m : IsMolecule lines molecule)
    (gives : GivesRows molecule place bonds atom bond) where
  abbrev edit : Edit
  edit = row_edit (length molecule.atoms) (length molecule.bonds) atom bond

  abbrev news : List (List ℕ)
  news = edited_contents edit 0 lines

  rows : HasRows lines molecule m.counts m.given
  rows = has_rows lines molecule m

  atom_moved : (k : ℕ) (d : AtomLine) (line : List ℕ) → k < length molecule.atoms
      → atom_of line ≡ Ok (get_or m.given k d)
      → MovesAtom place atom line (get_or m.given k d)
  atom_moved k d line lt h =
      let some : Atom = (get_or m.given k d).atom in
      gives.atoms k some line (get_or m.given k d) lt (rows.place k some d lt) h

  atoms_read : in_turn (atom_row news) [] m.counts.atoms 0 ≡ Ok (map (moved_line place) m.given)
  atoms_read =
      let long : length (map (moved_line place) m.given) ≡ m.counts.atoms =
      length-map m.given (moved_line place) ∙ rows.given_many ∙ sym rows.atoms_many in
      rw (← long) (in_turn_of (atom_row news) (map (moved_line place) m.given) [] 0 (record {
        each = λ k d lt.
            let within : k < length molecule.atoms = omega (arith, lt, long, rows.atoms_many) in
            let inside : k < length m.given = omega (arith, within, rows.given_many) in
            let one : IsReadAt lines (4 + k) atom_of (get_or m.given k d) = rows.atom k d within in
            let zero_more : 4 + (0 + k) ≡ 4 + k = omega arith in
            let there : slice_get news (4 + k) ≡ Some (atom one.line) =
            edited_there edit lines (4 + k) one.line one.there
            ∙ ap Some (edit_atom (length molecule.atoms) (length molecule.bonds) atom bond k one.line within) in
            ap (λ place. read_at news place atom_of) zero_more
            ∙ read_so news (4 + k) atom_of (atom one.line) (moved_line place (get_or m.given k d)) there
            (atom_moved k d one.line within one.gives).read
            ∙ ap Ok (sym (get_or-map (moved_line place) m.given k d d inside));
      }))

  bonds_read : in_turn (bond_row news m.counts.atoms) [] m.counts.bonds 0 ≡ Ok bonds
  bonds_read =
      let long : length bonds ≡ m.counts.bonds = gives.counted ∙ sym rows.bonds_many in
      rw (← long, rows.atoms_many) (in_turn_of (bond_row news (length molecule.atoms)) bonds [] 0 (record {
        each = λ k d lt.
            let within : k < length molecule.bonds = omega (arith, lt, gives.counted) in
            let one = rows.bond k d within in
            let zero_more : 4 + length molecule.atoms + (0 + k) ≡ 4 + length molecule.atoms + k = omega arith in
            let there : slice_get news (4 + length molecule.atoms + k) ≡ Some (bond k one.line) =
            edited_there edit lines (4 + length molecule.atoms + k) one.line one.there
            ∙ ap Some (edit_bond (length molecule.atoms) (length molecule.bonds) atom bond k one.line within) in
            ap (λ place. read_at news place (bond_of (length molecule.atoms) (take k bonds))) zero_more
            ∙ read_so news (4 + length molecule.atoms + k) (bond_of (length molecule.atoms) (take k bonds))
            (bond k one.line) (get_or bonds k d) there
            (gives.rows k d one.line within one.gives).read;
      }))

  long : length news ≡ length lines
  long = long_edited edit 0 lines

  head_same : (k : ℕ) → k < 4 → slice_get news k ≡ slice_get lines k
  head_same k lt =
      let same : 0 + k ≡ k = omega arith in
      got_edited edit 0 lines k ∙ ap (λ n. option_map (edit n) (slice_get lines k)) same
      ∙ unchanged (edit k) (slice_get lines k)
      (λ content. edit_head (length molecule.atoms) (length molecule.bonds) atom bond k content lt)
    where
      unchanged : (f : List ℕ → List ℕ) (found : Option (List ℕ)) → ((content : List ℕ) → f content ≡ content)
          → option_map f found ≡ found
      unchanged f None same = refl
      unchanged f (Some content) same = ap Some (same content)

  counts_read : read_at news 3 counts_of ≡ Ok m.counts
  counts_read = read_alike lines news 3 counts_of long (head_same 3 (omega arith)) ∙ m.counts_read

  pairs_read : pairs_behind m.counts.atoms (4 + (m.counts.atoms + m.counts.bonds)) news ≡ Ok m.pairs
  pairs_read =
      let behind = 4 + (m.counts.atoms + m.counts.bonds) in
      ap (λ rest. pairs_from (length news + 1) m.counts.atoms [] (behind + 1) rest)
      (drop_edited edit 0 behind lines (λ k content le.
      edit_tail (length molecule.atoms) (length molecule.bonds) atom bond k content
      (omega (arith, le, rows.atoms_many, rows.bonds_many))))
      ∙ ap (λ n. pairs_from (n + 1) m.counts.atoms [] (behind + 1) (drop behind lines)) long
      ∙ m.pairs_read

  read_again : molecule_of news ≡ Ok (rewritten molecule place bonds)
  read_again =
      whole news m.counts (map (moved_line place) m.given) bonds m.pairs counts_read atoms_read bonds_read pairs_read
      ∙ ap (λ atoms. Ok (record { atoms = atoms; bonds = bonds }))
      (settled_moved place m.pairs m.given ∙ ap (map (moved place)) (sym m.atoms))

  atom_kind : (k : ℕ) (content : List ℕ) → k < length molecule.atoms → slice_get lines (4 + k) ≡ Some content
      → IsRowFor content (atom content)
  atom_kind k content lt there =
      let some : AtomLine = record { atom = get_or molecule.atoms k no_atom; symbol_isotope = 0 } in
      let one = rows.atom k some lt in
      let same : one.line ≡ content = let h = sym one.there ∙ there in cc in
      let read : atom_of content ≡ Ok (get_or m.given k some) = ap atom_of (sym same) ∙ one.gives in
      let moves = atom_moved k some content lt read in
      record {
        was = atom_row_is content (get_or m.given k some) read;
        becomes = atom_row_is (atom content) (moved_line place (get_or m.given k some)) moves.read;
        fits = moves.content;
      }

  bond_kind : (k : ℕ) (content : List ℕ) → k < length molecule.bonds
      → slice_get lines (4 + length molecule.atoms + k) ≡ Some content
      → IsRowFor content (bond k content)
  bond_kind k content lt there =
      let one = rows.bond k no_bond lt in
      let same : one.line ≡ content = let h = sym one.there ∙ there in cc in
      let read : bond_of (length molecule.atoms) (take k molecule.bonds) content
      ≡ Ok (get_or molecule.bonds k no_bond) =
      ap (bond_of (length molecule.atoms) (take k molecule.bonds)) (sym same) ∙ one.gives in
      let changes = gives.rows k no_bond content lt read in
      record {
        was = bond_row_is (length molecule.atoms) (take k molecule.bonds) content
            (get_or molecule.bonds k no_bond) read;
        becomes = bond_row_is (length molecule.atoms) (take k bonds) (bond k content)
            (get_or bonds k no_bond) changes.read;
        fits = changes.content;
      }

  kind : (number : ℕ) (content : List ℕ) → slice_get lines number ≡ Some content
      → KeepsKind content (edit number content)
  kind number content there = elim (cases_lt number 4) [
    | inl head ↦ inl (edit_head (length molecule.atoms) (length molecule.bonds) atom bond number content head)
    | inr behind_head ↦ elim (cases_lt number (4 + length molecule.atoms)) [
      | inl among ↦
          let k : ℕ = number - 4 in
          let is : number ≡ 4 + k = omega (arith, behind_head) in
          let within : k < length molecule.atoms = omega (arith, among, is) in
          rw is (inr (rw (edit_atom (length molecule.atoms) (length molecule.bonds) atom bond k content within)
          (atom_kind k content within (rw is at there))))
      | inr behind_atoms ↦ elim (cases_lt number (4 + length molecule.atoms + length molecule.bonds)) [
        | inl among ↦
            let k : ℕ = number - (4 + length molecule.atoms) in
            let is : number ≡ 4 + length molecule.atoms + k = omega (arith, behind_atoms) in
            let within : k < length molecule.bonds = omega (arith, among, is) in
            rw is (inr (rw (edit_bond (length molecule.atoms) (length molecule.bonds) atom bond k content within)
            (bond_kind k content within (rw is at there))))
        | inr behind_bonds ↦ inl (edit_tail (length molecule.atoms)
            (length molecule.bonds) atom bond number content behind_bonds)
      ]
    ]
  ]

  few : AreFew (length molecule.atoms) (length molecule.bonds)
  few = few_rows lines molecule m

  pub rewritten_is : IsRewritten lines molecule (rewritten molecule place bonds)
      (row_edit (length molecule.atoms) (length molecule.bonds) atom bond)
  rewritten_is = record {
    read = read_again;
    kinds = kind;
    version = ap line_is_v3000 (head_same 3 (omega arith));
    grows = record {
      few = λ number content there. kind_few content (edit number content) (kind number content there);
      still = λ number content le.
          edit_tail (length molecule.atoms) (length molecule.bonds) atom bond number content
          (omega (arith, le, few.few_atoms, few.few_bonds));
    };
  }
