-- No line is refused as Short: that cause is for missing lines alone.
use Rattle.std.proofs.Common.{ℕ, List, [], ◌∷◌, Result, Option, Some, None, Bool, true, false, cond, pos, length, drop, nat_eq, nat_lt, ◌==◌, ◌||◌}
use Rattle.std.specs.List.{list_any}
use Rattle.std.specs.Prelude.{codes}
use Rattle.std.specs.Str.{bytes_eq}
use Rattle.cip_text.specs.Numbers.{integer_of, decimal4_of}
use Rattle.cip_elem.specs.Symbols.{element_of}
use Rattle.cip_num.specs.declared.plane.Vec3.{Vec3}
use Rattle.cip_mol.specs.Bonds.{cause_of}
use Rattle.cip_mol.specs.declared.graph.molecule.Bond.{Bond}
use Rattle.cip_mol.specs.declared.graph.molecule.Mark.{Mark}
use Rattle.cip_mol.specs.declared.graph.molecule.Mark.TheVariants.{Plain}
use Rattle.cip_mol.specs.declared.labels.refusal.ReadCause.{ReadCause}
use Rattle.cip_mol.specs.declared.labels.refusal.ReadCause.TheVariants.{Frame, Counts, Index, Symbol, KeyValue, BondType, BondEnd, BondMark}
use Rattle.cip_ctfile.specs.Causes.{order_of}
use Rattle.cip_ctfile.specs.Fields.{parse_number, parse_signed}
use Rattle.cip_laws.proofs.lemmas.reading.LineCauses.{IsOfLine, given_is, cause_is, ok_or_is, then_is, coordinate_is, guard_is, unless_refused_is}
use Rattle.cip_v3000.specs.declared.values.keys.AtomKeys.{AtomKeys}
use Rattle.cip_v3000.specs.AtomLine.{word_at, unless_known, new_index, is_number, isotope_of, point_of, atom_by, atom_of}
use Rattle.cip_v3000.specs.BondLine.{mark_of, with_mark, place_of, bond_by, bond_of}
use Rattle.cip_v3000.specs.CountsLine.{is_counts, count_at, counts_of}
use Rattle.cip_ctfile.specs.Turns.{over}
use Rattle.cip_v3000.specs.Keys.{valence_of, with_value, with_key}
use Rattle.cip_v3000.specs.Words.{keyed}

cond_is : {A : Type 0} (test : Bool) {one other : Result A ReadCause} → IsOfLine one → IsOfLine other
    → IsOfLine (cond test one other)
cond_is true one other = one
cond_is false one other = other

over_is : {S X : Type 0} (step : S → X → Result S ReadCause) → ((state : S) (x : X) → IsOfLine (step state x))
    → (state : S) (xs : List X) → IsOfLine (over step state xs)
unfolding over
over_is step each state [] = given_is state
over_is step each state (x ∷ xs) = then_is (each state x) (λ now. over_is step each now xs)

index_is : (known : List ℕ) (word : List ℕ) → IsOfLine (new_index known word)
unfolding new_index
index_is known word = by_number (parse_number 1000000000 word)
  where
    by_number : (number : Option ℕ) → IsOfLine (unless_known known number)
    by_number None = cause_is Index (λ e. cc)
    by_number (Some index) =
        cond_is ((index == 0) || list_any (nat_eq index) known) (cause_is Index (λ e. cc)) (given_is index)

value_is : (keys : AtomKeys) (word : List ℕ × List ℕ) → IsOfLine (with_value keys word)
value_is keys word =
    cond_is (bytes_eq word.0 (codes "CHG"))
    (then_is (ok_or_is (parse_signed 15 15 word.1) KeyValue (λ e. cc)) (λ n. given_is (record keys { charge = n })))
    (cond_is (bytes_eq word.0 (codes "RAD"))
    (then_is (ok_or_is (parse_number 3 word.1) KeyValue (λ e. cc)) (λ n. given_is (record keys { radical = n })))
    (cond_is (bytes_eq word.0 (codes "MASS"))
    (then_is (ok_or_is (parse_number 400 word.1) KeyValue (λ e. cc)) (λ n. given_is (record keys { mass = n })))
    (cond_is (bytes_eq word.0 (codes "VAL"))
    (then_is (ok_or_is (parse_signed 1 14 word.1) KeyValue (λ e. cc))
    (λ n. given_is (record keys { valence_mark = valence_of n })))
    (given_is keys))))

key_is : (keys : AtomKeys) (word : List ℕ) → IsOfLine (with_key keys word)
unfolding with_key
key_is keys word = then_is (ok_or_is (keyed word) KeyValue (λ e. cc)) (value_is keys)

mark_is : (order : ℕ) (mark : Mark) (word : List ℕ) → IsOfLine (with_mark order mark word)
unfolding with_mark
mark_is order mark word =
    then_is (ok_or_is (keyed word) KeyValue (λ e. cc)) (λ parts.
    cond_is (bytes_eq parts.0 (codes "CFG"))
    (ok_or_is (mark_of order (parse_number 3 parts.1)) BondMark (λ e. cc)) (given_is mark))

pub counts_line : (words : List (List ℕ)) → IsOfLine (counts_of words)
unfolding counts_of
counts_line words =
    then_is (guard_is Frame (λ e. cc) (is_counts words)) (λ _.
    then_is (ok_or_is (count_at 16384 1 words) Counts (λ e. cc)) (λ atoms.
    then_is (ok_or_is (count_at 32768 2 words) Counts (λ e. cc)) (λ bonds.
    given_is (record { atoms = atoms; bonds = bonds }))))

point_is : (x y z : List ℕ) → IsOfLine (point_of x y z)
point_is x y z =
    then_is (coordinate_is (decimal4_of x)) (λ x.
    then_is (coordinate_is (decimal4_of y)) (λ y.
    then_is (coordinate_is (decimal4_of z)) (λ z.
    given_is (record { x = x; y = y; z = z }))))

atom_is : (symbol : List ℕ) (point : Result Vec3 ReadCause) (mapping : List ℕ) (keys : List (List ℕ))
    → IsOfLine point → IsOfLine (atom_by symbol point mapping keys)
unfolding atom_by
atom_is symbol point mapping keys is =
    then_is (ok_or_is (element_of symbol) Symbol (λ e. cc)) (λ element.
    then_is is (λ at.
    then_is (guard_is KeyValue (λ e. cc) (is_number (integer_of mapping))) (λ _.
    then_is (over_is with_key key_is (record { charge = pos 0; radical = 0; mass = 0; valence_mark = 0 }) keys)
    (λ keys.
    given_is (record {
      z = element.z;
      isotope = isotope_of element.isotope keys.mass;
      charge = keys.charge;
      radical = keys.radical;
      valence_mark = keys.valence_mark;
      at = at;
    })))))

pub atom_line : (known : List ℕ) (words : List (List ℕ)) → IsOfLine (atom_of known words)
unfolding atom_of
atom_line known words =
    then_is (guard_is Frame (λ e. cc) (nat_lt 5 (length words))) (λ _.
    then_is (index_is known (word_at words 0)) (λ index.
    then_is
    (atom_is (word_at words 1) (point_of (word_at words 2) (word_at words 3) (word_at words 4)) (word_at words 5)
    (drop 6 words) (point_is (word_at words 2) (word_at words 3) (word_at words 4))) (λ atom.
    given_is (record { index = index; atom = atom }))))

bond_is : (atoms : List ℕ) (order first second : Option ℕ) (keys : List (List ℕ))
    → IsOfLine (bond_by atoms order first second keys)
unfolding bond_by
bond_is atoms order first second keys =
    then_is (ok_or_is (order_of order) BondType (λ e. cc)) (λ order.
    then_is (ok_or_is (place_of atoms first) BondEnd (λ e. cc)) (λ a.
    then_is (ok_or_is (place_of atoms second) BondEnd (λ e. cc)) (λ b.
    then_is (over_is (with_mark order) (mark_is order) Plain keys) (λ mark.
    given_is (record { a = a; b = b; order = order; mark = mark })))))

pub bond_line : (atoms known : List ℕ) (before : List Bond) (words : List (List ℕ))
    → IsOfLine (bond_of atoms known before words)
unfolding bond_of
bond_line atoms known before words =
    then_is (guard_is Frame (λ e. cc) (nat_lt 3 (length words))) (λ _.
    then_is (index_is known (word_at words 0)) (λ index.
    then_is
    (bond_is atoms (parse_number 3 (word_at words 1)) (parse_number 1000000000 (word_at words 2))
    (parse_number 1000000000 (word_at words 3)) (drop 4 words)) (λ drawn.
    then_is (unless_refused_is drawn (cause_of (length atoms) before drawn)) (λ bond.
    given_is (record { index = index; bond = bond })))))
