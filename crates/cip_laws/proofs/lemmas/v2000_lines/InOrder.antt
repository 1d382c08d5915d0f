-- The lines of a molfile decide in order.
use Rattle.std.proofs.Common.{◌≡◌, ◌≢◌, ◌≤◌, ◌+◌, ◌-◌, ℕ, zero, suc, List, [], ◌∷◌, ◌++◌, length, drop, Result, Ok, Err, Bool, true, false, cond, refl, sym, ap, ◌∙◌, inl, inr, arith}
use Rattle.cip_text.specs.Kinds.{is_molecule_end}
use Rattle.cip_mol.specs.Drawing.{Drawing}
use Rattle.cip_mol.specs.declared.graph.molecule.Bond.{Bond}
use Rattle.cip_mol.specs.declared.labels.refusal.ReadCause.TheVariants.{Short, Property}
use Rattle.cip_mol.specs.declared.labels.refusal.ReadFault.{ReadFault}
use Rattle.cip_ctfile.specs.Laws.{Reader, IsDecidedInOrder}
use Rattle.cip_ctfile.specs.Reading.{◌>>=◌, read_at, in_turn, pushing}
use Rattle.cip_laws.proofs.lemmas.reading.InOrder.{DecidesSomewhere, Anywhere, IsLineAt, line_there, decided, gives, alike, mapped, one_after_another, there_decides, line_decides, rows_decide, drop_cases, in_order}
use Rattle.cip_v2000.specs.declared.atoms.AtomLine.{AtomLine}
use Rattle.cip_v2000.specs.declared.counts.CountsLine.{CountsLine}
use Rattle.cip_v2000.specs.declared.atom_properties.Pair.{Pair}
use Rattle.cip_v2000.specs.AtomLine.{atom_of}
use Rattle.cip_v2000.specs.BondLine.{bond_of}
use Rattle.cip_v2000.specs.CountsLine.{counts_of}
use Rattle.cip_v2000.specs.Grammar.{atom_row, bond_row, pairs_from, pairs_behind, molecule_of}
use Rattle.cip_v2000.specs.PropertyLines.{pairs_with}
use Rattle.cip_v2000.specs.Statements.{settled}
use Rattle.cip_laws.proofs.lemmas.v2000_lines.LineCauses.{counts_line, atom_line, bond_line}
use Rattle.cip_laws.proofs.lemmas.v2000_lines.PairFaults.{OnlyFails, pairs_with_fails}

-- a fault is reported at the line that decides
abbrev AtIt : ℕ → ℕ → Type 0
AtIt line decisive = line ≡ decisive

-- the property lines

abbrev pairs_at : ℕ → List Pair → ℕ → Reader (List Pair)
pairs_at atoms before place lines = pairs_from (length lines + 1) atoms before (place + 1) (drop place lines)

abbrev fault_at : ℕ → ReadFault
fault_at place = record { line = place + 1; cause = Property }

-- what is read from a property line on
abbrev from_line : ℕ → List Pair → ℕ → List ℕ → Reader (List Pair)
from_line atoms before place line lines = cond (is_molecule_end line) (Ok before)
    (pairs_with (fault_at place) atoms before line >>= λ pairs. pairs_at atoms pairs (place + 1) lines)

property_is_not_short : Property ≢ Short
property_is_not_short e = cc

pairs_at-is : (atoms : ℕ) (before : List Pair) (place : ℕ) (lines : List (List ℕ))
    → pairs_at atoms before place lines
    ≡ (line_there place lines >>= λ line. from_line atoms before place line lines)
unfolding pairs_from
pairs_at-is atoms before place lines = elim (drop_cases place lines) [
  | inl none ↦ rw (none.0, none.1) refl
  | inr some ↦ rw (some.1, some.2) refl
]

module _ (lines : List (List ℕ)) where
  abbrev PairsDecide : ℕ → ℕ → List Pair → Type 0
  PairsDecide atoms place pairs = DecidesSomewhere AtIt lines place Anywhere (pairs_at atoms pairs place)

  from_line_decides : (atoms : ℕ) (before : List Pair) (place : ℕ) → place + 1 ≤ length lines
      → ((pairs : List Pair) → PairsDecide atoms (place + 1) pairs)
      → (ends : Bool) (read : Result (List Pair) ReadFault)
      → OnlyFails (fault_at place) read
      → DecidesSomewhere AtIt lines (place + 1) Anywhere
      (λ ls. cond ends (Ok before) (read >>= λ pairs. pairs_at atoms pairs (place + 1) ls))
  from_line_decides atoms before place within each true read fails =
      gives AtIt lines (place + 1) Anywhere before within tt
  from_line_decides atoms before place within each false (Ok pairs) fails = each pairs
  from_line_decides atoms before place within each false (Err given) fails =
      decided AtIt lines (place + 1) Anywhere (Err given) (omega (arith, within))
      (λ fault e. let is : fault ≡ fault_at place = fails fault e in record {
        stated = ap (λ f. f.line) is;
        cause = λ short. property_is_not_short (sym (ap (λ f. f.cause) is) ∙ short);
      })
      (λ x e. tt)

  pairs_step : (atoms : ℕ) (before : List Pair) (place : ℕ) → place ≤ length lines
      → (place + 1 ≤ length lines → (pairs : List Pair) → PairsDecide atoms (place + 1) pairs)
      → PairsDecide atoms place before
  pairs_step atoms before place le each =
      alike AtIt lines place Anywhere _ (pairs_at atoms before place) (pairs_at-is atoms before place)
      (one_after_another AtIt lines place (IsLineAt lines place) Anywhere (line_there place)
      (from_line atoms before place) le (there_decides AtIt lines place place refl (omega arith) le)
      (λ line n is within. let at : n ≡ place + 1 = is.number in rw at (from_line_decides atoms before place
      (omega (arith, at, within)) (each (omega (arith, at, within))) (is_molecule_end line)
      (pairs_with (fault_at place) atoms before line) (pairs_with_fails (fault_at place) atoms before line))))

  pairs_decide : (atoms left : ℕ) (before : List Pair) (place : ℕ) → place + left ≡ length lines
      → PairsDecide atoms place before
  pairs_decide atoms zero before place at =
      pairs_step atoms before place (omega (arith, at)) (λ within. absurd (omega (arith, at, within)))
  pairs_decide atoms (suc left) before place at =
      pairs_step atoms before place (omega (arith, at)) (λ within pairs.
      pairs_decide atoms left pairs (place + 1) (omega (arith, at)))

-- the whole grammar

abbrev behind_bonds : CountsLine → List AtomLine → List Bond → Reader Drawing
behind_bonds counts atoms bonds lines = do
  pairs ← pairs_behind counts.atoms (4 + (counts.atoms + counts.bonds)) lines
  Ok (record { atoms = settled pairs atoms; bonds = bonds })

abbrev behind_atoms : CountsLine → List AtomLine → Reader Drawing
behind_atoms counts atoms lines = do
  bonds ← in_turn (bond_row lines counts.atoms) [] counts.bonds 0
  behind_bonds counts atoms bonds lines

abbrev behind_counts : CountsLine → Reader Drawing
behind_counts counts lines = do
  atoms ← in_turn (atom_row lines) [] counts.atoms 0
  behind_atoms counts atoms lines

module _ (lines : List (List ℕ)) where
  atom_decides : (before : List AtomLine) (number n : ℕ) → n ≡ 4 + number → n ≤ length lines
      → DecidesSomewhere AtIt lines n (λ x m. m ≡ 4 + (number + 1)) (λ ls. pushing (atom_row ls) before number)
  atom_decides before number n at le =
      mapped AtIt lines n (λ x m. m ≡ 4 + number + 1) (λ x m. m ≡ 4 + (number + 1))
      (λ ls. atom_row ls before number) (λ row. before ++ row ∷ []) le (λ x m is. omega (arith, is))
      (line_decides AtIt lines n (4 + number) atom_of (λ number. refl) atom_line (omega (arith, at)) le)

  bond_decides : (atoms : ℕ) (before : List Bond) (number n : ℕ) → n ≡ 4 + atoms + number → n ≤ length lines
      → DecidesSomewhere AtIt lines n (λ x m. m ≡ 4 + atoms + (number + 1))
      (λ ls. pushing (bond_row ls atoms) before number)
  bond_decides atoms before number n at le =
      mapped AtIt lines n (λ x m. m ≡ 4 + atoms + number + 1) (λ x m. m ≡ 4 + atoms + (number + 1))
      (λ ls. bond_row ls atoms before number) (λ row. before ++ row ∷ []) le (λ x m is. omega (arith, is))
      (line_decides AtIt lines n (4 + atoms + number) (bond_of atoms before) (λ number. refl) (bond_line atoms before)
      (omega (arith, at)) le)

  behind_bonds_decides : (counts : CountsLine) (atoms : List AtomLine) (bonds : List Bond) (n : ℕ)
      → n ≡ 4 + counts.atoms + counts.bonds → n ≤ length lines
      → DecidesSomewhere AtIt lines n Anywhere (behind_bonds counts atoms bonds)
  behind_bonds_decides counts atoms bonds n at le =
      let place : ℕ = 4 + (counts.atoms + counts.bonds) in
      let same : n ≡ place = omega (arith, at) in
      rw same (mapped AtIt lines place Anywhere Anywhere (pairs_at counts.atoms [] place)
      (λ pairs. record { atoms = settled pairs atoms; bonds = bonds }) (omega (arith, le, at)) (λ x m is. tt)
      (pairs_decide lines counts.atoms (length lines - place) [] place (omega (arith, le, at))))

  behind_atoms_decides : (counts : CountsLine) (atoms : List AtomLine) (n : ℕ) → n ≡ 4 + counts.atoms
      → n ≤ length lines → DecidesSomewhere AtIt lines n Anywhere (behind_atoms counts atoms)
  unfolding in_turn
  behind_atoms_decides counts atoms n at le =
      one_after_another AtIt lines n (λ x m. m ≡ 4 + counts.atoms + counts.bonds) Anywhere
      (λ ls. in_turn (bond_row ls counts.atoms) [] counts.bonds 0) (behind_bonds counts atoms) le
      (rows_decide AtIt lines (λ number m. m ≡ 4 + counts.atoms + number) (λ ls. pushing (bond_row ls counts.atoms))
      (bond_decides counts.atoms) counts.bonds [] 0 counts.bonds n (omega arith) (omega (arith, at)) le)
      (behind_bonds_decides counts atoms)

  behind_counts_decides : (counts : CountsLine) (n : ℕ) → n ≡ 4 → n ≤ length lines
      → DecidesSomewhere AtIt lines n Anywhere (behind_counts counts)
  unfolding in_turn
  behind_counts_decides counts n at le =
      one_after_another AtIt lines n (λ x m. m ≡ 4 + counts.atoms) Anywhere
      (λ ls. in_turn (atom_row ls) [] counts.atoms 0) (behind_atoms counts) le
      (rows_decide AtIt lines (λ number m. m ≡ 4 + number) (λ ls. pushing (atom_row ls))
      atom_decides counts.atoms [] 0 counts.atoms n (omega arith) (omega (arith, at)) le)
      (behind_atoms_decides counts)

  whole_decides : DecidesSomewhere AtIt lines 0 Anywhere
      (λ ls. read_at ls 3 counts_of >>= λ counts. behind_counts counts ls)
  whole_decides =
      one_after_another AtIt lines 0 (λ x m. m ≡ 4) Anywhere (λ ls. read_at ls 3 counts_of) behind_counts (omega arith)
      (line_decides AtIt lines 0 3 counts_of (λ number. refl) counts_line (omega arith) (omega arith))
      behind_counts_decides

pub molecule_in_order : IsDecidedInOrder (λ lines line decisive. line ≡ decisive) molecule_of
unfolding molecule_of
molecule_in_order lines = in_order (λ lines line decisive. line ≡ decisive) lines molecule_of (whole_decides lines)
