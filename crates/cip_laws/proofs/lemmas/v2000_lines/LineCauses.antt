-- No line is refused as Short: that cause is for missing lines alone.
use Rattle.std.proofs.Common.{ℕ, List}
use Rattle.cip_text.specs.Columns.{field}
use Rattle.cip_text.specs.Numbers.{decimal4_of}
use Rattle.cip_elem.specs.Symbols.{element_of}
use Rattle.cip_mol.specs.Bonds.{cause_of}
use Rattle.cip_mol.specs.declared.graph.molecule.Bond.{Bond}
use Rattle.cip_mol.specs.declared.labels.refusal.ReadCause.TheVariants.{Version, Counts, Symbol, AtomField, BondEnd, BondType, BondMark}
use Rattle.cip_ctfile.specs.Causes.{order_of}
use Rattle.cip_ctfile.specs.Fields.{number_in, one_based_index, signed_in}
use Rattle.cip_laws.proofs.lemmas.reading.LineCauses.{IsOfLine, given_is, ok_or_is, then_is, coordinate_is, guard_is, unless_refused_is}
use Rattle.cip_v2000.specs.AtomLine.{atom_of, charge_of, isotope_of, radical_of}
use Rattle.cip_v2000.specs.BondLine.{bond_of, mark_of}
use Rattle.cip_v2000.specs.CountsLine.{counts_of}
use Rattle.cip_v2000.specs.Version.{is_v2000}

pub counts_line : (line : List ℕ) → IsOfLine (counts_of line)
unfolding counts_of
counts_line line =
    then_is (guard_is Version (λ e. cc) (is_v2000 line)) (λ _.
    then_is (ok_or_is (number_in 999 (field 1 3 line)) Counts (λ e. cc)) (λ atoms.
    then_is (ok_or_is (number_in 999 (field 4 6 line)) Counts (λ e. cc)) (λ bonds.
    given_is (record { atoms = atoms; bonds = bonds }))))

pub atom_line : (line : List ℕ) → IsOfLine (atom_of line)
unfolding atom_of
atom_line line =
    then_is (coordinate_is (decimal4_of (field 1 10 line))) (λ x.
    then_is (coordinate_is (decimal4_of (field 11 20 line))) (λ y.
    then_is (coordinate_is (decimal4_of (field 21 30 line))) (λ z.
    then_is (ok_or_is (element_of (field 32 34 line)) Symbol (λ e. cc)) (λ element.
    then_is (ok_or_is (signed_in 3 4 (field 35 36 line)) AtomField (λ e. cc)) (λ difference.
    then_is (ok_or_is (number_in 7 (field 37 39 line)) AtomField (λ e. cc)) (λ code.
    then_is (ok_or_is (number_in 15 (field 49 51 line)) AtomField (λ e. cc)) (λ valence.
    given_is (record {
      atom = record {
        z = element.z;
        isotope = isotope_of element difference;
        charge = charge_of code;
        radical = radical_of code;
        valence_mark = valence;
        at = record { x = x; y = y; z = z };
      };
      symbol_isotope = element.isotope;
    }))))))))

pub bond_line : (atoms : ℕ) (before : List Bond) (line : List ℕ) → IsOfLine (bond_of atoms before line)
unfolding bond_of
bond_line atoms before line =
    then_is (ok_or_is (one_based_index (number_in atoms (field 1 3 line))) BondEnd (λ e. cc)) (λ a.
    then_is (ok_or_is (one_based_index (number_in atoms (field 4 6 line))) BondEnd (λ e. cc)) (λ b.
    then_is (ok_or_is (order_of (number_in 3 (field 7 9 line))) BondType (λ e. cc)) (λ order.
    then_is (ok_or_is (mark_of order (number_in 6 (field 10 12 line))) BondMark (λ e. cc)) (λ mark.
    let bond : Bond = record { a = a; b = b; order = order; mark = mark } in
    unless_refused_is bond (cause_of atoms before bond)))))
