-- How many rows a record has.
use Rattle.std.proofs.Common.{◌≡◌, ◌≤◌, ℕ, ℤ, pos, negsuc, List, Bool, true, false, Option, Some, None, Ok, length, refl, ap, subst}
use Rattle.std.specs.Prelude.{nat_le}
use Rattle.std.specs.Option.{ok_or}
use Rattle.std.proofs.lemmas.Bool.{leb-true}
use Rattle.cip_text.specs.Columns.{field}
use Rattle.cip_text.specs.Numbers.{integer_of}
use Rattle.cip_mol.specs.Drawing.{Drawing}
use Rattle.cip_mol.specs.declared.labels.refusal.ReadCause.{ReadCause}
use Rattle.cip_mol.specs.declared.labels.refusal.ReadCause.TheVariants.{Counts, Version}
use Rattle.cip_ctfile.specs.Causes.{guard}
use Rattle.cip_ctfile.specs.Fields.{number_in, up_to, or_zero}
use Rattle.cip_v2000.specs.CountsLine.{counts_of}
use Rattle.cip_v2000.specs.Version.{is_v2000}
use Rattle.cip_v2000.specs.declared.counts.CountsLine.{CountsLine}
use Rattle.cip_edit.proofs.lemmas.Grammar.{IsMolecule, IsReadAt, has_rows, read_there}
use Rattle.cip_ctfile.proofs.lemmas.InTurn.{follows}

-- numbers of fields

up_to_small : (most n : ℕ) (number : Option ℤ) → up_to most number ≡ Some n → n ≤ most
up_to_small most n None h = absurd cc
up_to_small most n (Some (negsuc m)) h = absurd cc
up_to_small most n (Some (pos m)) h = by_size most n m (nat_le m most) refl h
  where
    by_size : (most n m : ℕ) (k : Bool) → nat_le m most ≡ k → up_to most (Some (pos m)) ≡ Some n → n ≤ most
    by_size most n m false e h = absurd (let none = rw e at h in cc)
    by_size most n m true e h = let same : m ≡ n = let some = rw e at h in cc in
        subst (λ n. n ≤ most) same (leb-true m most e)

pub number_small : (most n : ℕ) (text : List ℕ) → number_in most text ≡ Some n → n ≤ most
unfolding number_in
number_small most n text h = up_to_small most n (or_zero (integer_of text)) h

given_number : (number : Option ℕ) (cause : ReadCause) (n : ℕ) → ok_or number cause ≡ Ok n → number ≡ Some n
given_number None cause n h = absurd cc
given_number (Some m) cause n h = let same : m ≡ n = cc in ap Some same

-- n rows at most
pub record AreFew (atoms bonds : ℕ) : Type 0 where
  pub few_atoms : atoms ≤ 999
  pub few_bonds : bonds ≤ 999

counts_small : (line : List ℕ) (counts : CountsLine) → counts_of line ≡ Ok counts → AreFew counts.atoms counts.bonds
unfolding counts_of
counts_small line counts h =
    let version = follows (guard Version (is_v2000 line)) _ counts h in
    let atoms = follows (ok_or (number_in 999 (field 1 3 line)) Counts) _ counts version.behind in
    let bonds = follows (ok_or (number_in 999 (field 4 6 line)) Counts) _ counts atoms.behind in
    let read : CountsLine = record { atoms = atoms.given; bonds = bonds.given } in
    let same : read ≡ counts = let h = bonds.behind in cc in
    subst (λ c. AreFew c.atoms c.bonds) same (record {
      few_atoms = number_small 999 atoms.given (field 1 3 line)
          (given_number (number_in 999 (field 1 3 line)) Counts atoms.given atoms.first);
      few_bonds = number_small 999 bonds.given (field 4 6 line)
          (given_number (number_in 999 (field 4 6 line)) Counts bonds.given bonds.first);
    })

pub few_rows : (lines : List (List ℕ)) (molecule : Drawing) → IsMolecule lines molecule
    → AreFew (length molecule.atoms) (length molecule.bonds)
few_rows lines molecule m =
    let one : IsReadAt lines 3 counts_of m.counts = read_there lines 3 counts_of m.counts m.counts_read in
    let rows = has_rows lines molecule m in
    let few = counts_small one.line m.counts one.gives in
    record {
      few_atoms = subst (λ n. n ≤ 999) rows.atoms_many few.few_atoms;
      few_bonds = subst (λ n. n ≤ 999) rows.bonds_many few.few_bonds;
    }
