-- The parts of a molfile that gives a molecule.
use Rattle.std.proofs.Common.{◌≡◌, ◌<◌, ◌+◌, ℕ, List, [], ◌∷◌, Option, Some, None, Result, Ok, length, take, map, fold}
use Rattle.std.proofs.Common.{get_or, refl, sym, ap, ◌∙◌, arith}
use Rattle.std.specs.Prelude.{slice_get}
use Rattle.std.specs.Option.{option_map}
use Rattle.std.proofs.lemmas.List.{length-set, length-map}
use Rattle.std.proofs.lemmas.Option.{slice_get-get_or, get_or_from_slice_get}
use Rattle.cip_mol.specs.Drawing.{Drawing}
use Rattle.cip_mol.specs.declared.graph.molecule.Atom.{Atom}
use Rattle.cip_mol.specs.declared.graph.molecule.Bond.{Bond}
use Rattle.cip_mol.specs.declared.labels.refusal.ReadCause.{ReadCause}
use Rattle.cip_ctfile.specs.Reading.{read_line, read_at, in_turn}
use Rattle.cip_v2000.specs.declared.atoms.AtomLine.{AtomLine}
use Rattle.cip_v2000.specs.declared.counts.CountsLine.{CountsLine}
use Rattle.cip_v2000.specs.declared.atom_properties.Pair.{Pair}
use Rattle.cip_v2000.specs.AtomLine.{atom_of}
use Rattle.cip_v2000.specs.BondLine.{bond_of}
use Rattle.cip_v2000.specs.CountsLine.{counts_of}
use Rattle.cip_v2000.specs.Grammar.{atom_row, bond_row, pairs_behind, molecule_of}
use Rattle.cip_v2000.specs.LastStatements.{settled_atom}
use Rattle.cip_v2000.specs.Statements.{with_pair, settled, kept, state_charges, state_isotopes}
use Rattle.cip_v2000.proofs.lemmas.Settling.{atoms_settled}
use Rattle.cip_ctfile.proofs.lemmas.InTurn.{follows, rows_of}
use Rattle.cip_ctfile.proofs.lemmas.Given.{numbered_given}

-- one line

pub record IsReadAt {A : Type 0} (lines : List (List ℕ)) (place : ℕ) (read : List ℕ → Result A ReadCause)
    (given : A) : Type 0 where
  pub line : List ℕ
  pub there : slice_get lines place ≡ Some line
  pub gives : read line ≡ Ok given

line_read : {A : Type 0} (lines : List (List ℕ)) (past place : ℕ) (read : List ℕ → Result A ReadCause) (given : A)
    (found : Option (List ℕ)) → slice_get lines place ≡ found → read_line past place read found ≡ Ok given
    → IsReadAt lines place read given
line_read lines past place read given None is h = absurd cc
line_read lines past place read given (Some line) is h =
    record { line = line; there = is; gives = numbered_given (place + 1) (read line) given h }

pub read_there : {A : Type 0} (lines : List (List ℕ)) (place : ℕ) (read : List ℕ → Result A ReadCause) (given : A)
    → read_at lines place read ≡ Ok given → IsReadAt lines place read given
unfolding read_at
read_there lines place read given h =
    line_read lines (length lines + 1) place read given (slice_get lines place) refl h

pub read_so : {A : Type 0} (lines : List (List ℕ)) (place : ℕ) (read : List ℕ → Result A ReadCause) (line : List ℕ)
    (given : A)
    → slice_get lines place ≡ Some line → read line ≡ Ok given → read_at lines place read ≡ Ok given
unfolding read_at
read_so lines place read line given there is = rw (there, is) refl

pub read_alike : {A : Type 0} (lines others : List (List ℕ)) (place : ℕ) (read : List ℕ → Result A ReadCause)
    → length others ≡ length lines → slice_get others place ≡ slice_get lines place
    → read_at others place read ≡ read_at lines place read
unfolding read_at
read_alike lines others place read long same = rw (long, same) refl

-- the parts

pub record IsMolecule (lines : List (List ℕ)) (molecule : Drawing) : Type 0 where
  pub counts : CountsLine
  pub counts_read : read_at lines 3 counts_of ≡ Ok counts
  pub given : List AtomLine
  pub atoms_read : in_turn (atom_row lines) [] counts.atoms 0 ≡ Ok given
  pub bonds_read : in_turn (bond_row lines counts.atoms) [] counts.bonds 0 ≡ Ok molecule.bonds
  pub pairs : List Pair
  pub pairs_read : pairs_behind counts.atoms (4 + (counts.atoms + counts.bonds)) lines ≡ Ok pairs
  pub atoms : molecule.atoms ≡ settled pairs given

pub parts : (lines : List (List ℕ)) (molecule : Drawing) → molecule_of lines ≡ Ok molecule → IsMolecule lines molecule
unfolding molecule_of
parts lines molecule h =
    let counts = follows (read_at lines 3 counts_of) _ molecule h in
    let atoms = follows (in_turn (atom_row lines) [] counts.given.atoms 0) _ molecule counts.behind in
    let bonds = follows (in_turn (bond_row lines counts.given.atoms) [] counts.given.bonds 0) _ molecule atoms.behind in
    let pairs = follows (pairs_behind counts.given.atoms
    (4 + (counts.given.atoms + counts.given.bonds)) lines) _ molecule bonds.behind in
    let drawn : Drawing = record { atoms = settled pairs.given atoms.given; bonds = bonds.given } in
    let same : drawn ≡ molecule = let h = pairs.behind in cc in
    record {
      counts = counts.given;
      counts_read = counts.first;
      given = atoms.given;
      atoms_read = atoms.first;
      bonds_read = bonds.first ∙ ap (λ m. Ok m.bonds) same;
      pairs = pairs.given;
      pairs_read = pairs.first;
      atoms = sym (ap (λ m. m.atoms) same);
    }

pub whole : (lines : List (List ℕ)) (counts : CountsLine) (given : List AtomLine) (bonds : List Bond)
    (pairs : List Pair)
    → read_at lines 3 counts_of ≡ Ok counts → in_turn (atom_row lines) [] counts.atoms 0 ≡ Ok given
    → in_turn (bond_row lines counts.atoms) [] counts.bonds 0 ≡ Ok bonds
    → pairs_behind counts.atoms (4 + (counts.atoms + counts.bonds)) lines ≡ Ok pairs
    → molecule_of lines ≡ Ok (record { atoms = settled pairs given; bonds = bonds })
unfolding molecule_of
whole lines counts given bonds pairs c a b p = rw (c, a, b, p) refl

-- the rows

long_pair : (atoms : List Atom) (pair : Pair) (found : Option Atom) → slice_get atoms pair.atom ≡ found
    → length (with_pair atoms pair) ≡ length atoms
long_pair atoms pair None is = rw is refl
long_pair atoms pair (Some atom) is = rw is (length-set atoms pair.atom _)

long_pairs : (pairs : List Pair) (atoms : List Atom) → length (fold with_pair atoms pairs) ≡ length atoms
long_pairs [] atoms = refl
long_pairs (pair ∷ pairs) atoms = long_pairs pairs (with_pair atoms pair) ∙ long_pair atoms pair _ refl

pub length-settled : (pairs : List Pair) (lines : List AtomLine) → length (settled pairs lines) ≡ length lines
unfolding settled
length-settled pairs lines =
    long_pairs pairs (map (kept (state_charges pairs) (state_isotopes pairs)) lines)
    ∙ length-map lines (kept (state_charges pairs) (state_isotopes pairs))

pub place_settled : (pairs : List Pair) (lines : List AtomLine) (k : ℕ) (d : Atom) (e : AtomLine) → k < length lines
    → (get_or lines k e).atom.at ≡ (get_or (settled pairs lines) k d).at
place_settled pairs lines k d e lt =
    let found : slice_get (settled pairs lines) k ≡ Some (settled_atom pairs k (get_or lines k e)) =
    atoms_settled pairs lines k ∙ ap (option_map (settled_atom pairs k)) (slice_get-get_or lines k e lt) in
    sym (ap (λ atom. atom.at) (get_or_from_slice_get (settled pairs lines) k
    (settled_atom pairs k (get_or lines k e)) d found))

pub record HasRows (lines : List (List ℕ)) (molecule : Drawing) (counts : CountsLine)
    (given : List AtomLine) : Type 0 where
  pub atoms_many : counts.atoms ≡ length molecule.atoms
  pub bonds_many : counts.bonds ≡ length molecule.bonds
  pub given_many : length given ≡ length molecule.atoms
  pub atom : (k : ℕ) (d : AtomLine) → k < length molecule.atoms → IsReadAt lines (4 + k) atom_of (get_or given k d)
  pub place : (k : ℕ) (d : Atom) (e : AtomLine) → k < length molecule.atoms
      → (get_or given k e).atom.at ≡ (get_or molecule.atoms k d).at
  pub bond : (k : ℕ) (d : Bond) → k < length molecule.bonds → IsReadAt lines (4 + length molecule.atoms + k)
      (bond_of (length molecule.atoms) (take k molecule.bonds)) (get_or molecule.bonds k d)

pub has_rows : (lines : List (List ℕ)) (molecule : Drawing) (m : IsMolecule lines molecule)
    → HasRows lines molecule m.counts m.given
has_rows lines molecule m =
    let rows = rows_of (atom_row lines) m.counts.atoms [] 0 m.given m.atoms_read in
    let bonds = rows_of (bond_row lines m.counts.atoms) m.counts.bonds [] 0 molecule.bonds m.bonds_read in
    let given_long : length m.given ≡ m.counts.atoms = ap length rows.whole ∙ rows.counted in
    let bonds_long : length molecule.bonds ≡ m.counts.bonds = ap length bonds.whole ∙ bonds.counted in
    let many : length molecule.atoms ≡ length m.given = ap length m.atoms ∙ length-settled m.pairs m.given in
    let atoms_many : m.counts.atoms ≡ length molecule.atoms = omega (arith, given_long, many) in
    record {
      atoms_many = atoms_many;
      bonds_many = sym bonds_long;
      given_many = sym many;
      atom = λ k d lt.
          let zero_more : 4 + (0 + k) ≡ 4 + k = omega arith in
          let within : k < length rows.rows = omega (arith, lt, rows.counted, atoms_many) in
          let read : read_at lines (4 + k) atom_of ≡ Ok (get_or m.given k d) =
          ap (λ place. read_at lines place atom_of) (sym zero_more) ∙ rows.are.each k d within
          ∙ ap (λ rs. Ok (get_or rs k d)) (sym rows.whole) in
          read_there lines (4 + k) atom_of (get_or m.given k d) read;
      place = λ k d e lt.
          place_settled m.pairs m.given k d e (omega (arith, lt, many))
          ∙ ap (λ atoms. (get_or atoms k d).at) (sym m.atoms);
      bond = λ k d lt.
          let place : 4 + m.counts.atoms + (0 + k) ≡ 4 + length molecule.atoms + k = omega (arith, atoms_many) in
          let within : k < length bonds.rows = omega (arith, lt, bonds.counted, bonds_long) in
          let read : read_at lines (4 + length molecule.atoms + k)
          (bond_of (length molecule.atoms) (take k molecule.bonds)) ≡ Ok (get_or molecule.bonds k d) =
          ap (λ place. read_at lines place (bond_of (length molecule.atoms) (take k molecule.bonds))) (sym place)
          ∙ ap (λ n. read_at lines (4 + m.counts.atoms + (0 + k)) (bond_of n (take k molecule.bonds))) (sym atoms_many)
          ∙ ap (λ rs. read_at lines (4 + m.counts.atoms + (0 + k)) (bond_of m.counts.atoms (take k rs))) bonds.whole
          ∙ bonds.are.each k d within
          ∙ ap (λ rs. Ok (get_or rs k d)) (sym bonds.whole) in
          read_there lines (4 + length molecule.atoms + k) (bond_of (length molecule.atoms) (take k molecule.bonds))
          (get_or molecule.bonds k d) read;
    }
