-- What a table of neighbours becomes by one more bond.
use Rattle.std.proofs.Common.{◌≡◌, ◌≢◌, ◌<◌, ℕ, List, [], ◌∷◌, ◌++◌, length, Bool, true, false, cond, ◌||◌, ◌==◌, if◌then◌else◌, Some, None, refl, sym, ap, ◌∙◌, arith, inl, inr}
use Rattle.std.specs.List.{cons_option}
use Rattle.std.proofs.lemmas.List.{length-set, get_or-set_same, get_or-set_other, append-nil}
use Rattle.std.proofs.lemmas.List.Elements.{filter-append, filter_map-append}
use Rattle.std.proofs.lemmas.List.Sums.{length-filter}
use Rattle.std.proofs.lemmas.Bool.{cases_eq}
use Rattle.std.proofs.lemmas.Bool.Decides.{nat_tests}
use Rattle.cip_mol.specs.declared.graph.molecule.Bond.{Bond}
use Rattle.cip_mol.specs.Bonds.{cause_of, degree, touches}
use Rattle.cip_mol.specs.Neighbours.{AtAtom, HasRoom, at_atom, bonds_at, other_end, with_more}
use Rattle.cip_mol.specs.Tables.{IsFree, IsTable, row, with_entry, with_bond}
use Rattle.cip_mol.proofs.lemmas.OtherEnds.{length-neighbours}
use Rattle.cip_mol.proofs.lemmas.SoundBonds.{FindsRoom, finds_room}

-- an atom has as many bonds as its degree says
length-bonds_at : (atom : ℕ) (before : List Bond) → length (bonds_at atom before) ≡ degree atom before
length-bonds_at atom before = length-filter (touches atom) before

has_room : (atom : ℕ) (before : List Bond) → degree atom before < 8 → HasRoom (at_atom atom before)
has_room atom before room = record { neighbours = rw length-neighbours room; bonds = rw length-bonds_at room }

-- a bond at which no cause holds finds room
pub free : (atoms : ℕ) (before : List Bond) (table : List AtAtom) (bond : Bond) → IsTable atoms before table →
    cause_of atoms before bond ≡ None → IsFree table bond
free atoms before table bond is none =
    let f : FindsRoom atoms before bond = finds_room atoms before bond none in
    record {
      a = rw is.len f.a;
      b = rw is.len f.b;
      apart = f.apart;
      room_a = rw (is.each bond.a f.a) (has_room bond.a before f.room_a);
      room_b = rw (is.each bond.b f.b) (has_room bond.b before f.room_b);
    }

pub row-other : (table : List AtAtom) (atom other : ℕ) (bond : Bond) (k : ℕ) → k ≢ atom →
    row (with_entry atom other bond table) k ≡ row table k
row-other table atom other bond k apart = get_or-set_other table atom k (with_more other bond (row table atom)) _ apart

row-same : (table : List AtAtom) (atom other : ℕ) (bond : Bond) → atom < length table →
    row (with_entry atom other bond table) atom ≡ with_more other bond (row table atom)
row-same table atom other bond within = get_or-set_same table atom (with_more other bond (row table atom)) _ within

pub length-with_entry : (table : List AtAtom) (atom other : ℕ) (bond : Bond) →
    length (with_entry atom other bond table) ≡ length table
length-with_entry table atom other bond = length-set table atom (with_more other bond (row table atom))

pub length-with_bond : (bond : Bond) (table : List AtAtom) → length (with_bond bond table) ≡ length table
length-with_bond bond table =
    length-with_entry (with_entry bond.a bond.b bond table) bond.b bond.a bond
    ∙ length-with_entry table bond.a bond.b bond

-- what is at an atom after a bond
abbrev joined : Bond → ℕ → AtAtom → AtAtom
joined bond atom standing =
    if bond.a == atom then with_more bond.b bond standing
    else if bond.b == atom then with_more bond.a bond standing
    else standing

joined-a : (bond : Bond) (standing : AtAtom) → joined bond bond.a standing ≡ with_more bond.b bond standing
joined-a bond standing = grind (arith, nat_tests)

joined-b : (bond : Bond) (standing : AtAtom) → bond.a ≢ bond.b →
    joined bond bond.b standing ≡ with_more bond.a bond standing
joined-b bond standing apart = grind (arith, nat_tests)

joined-none : (bond : Bond) (atom : ℕ) (standing : AtAtom) → atom ≢ bond.a → atom ≢ bond.b →
    joined bond atom standing ≡ standing
joined-none bond atom standing not_a not_b = grind (arith, nat_tests)

row-with_bond : (bond : Bond) (table : List AtAtom) (atom : ℕ) → IsFree table bond →
    row (with_bond bond table) atom ≡ joined bond atom (row table atom)
row-with_bond bond table atom free =
    let half : List AtAtom = with_entry bond.a bond.b bond table in
    let b_half : bond.b < length half = omega (arith, free.b, length-with_entry table bond.a bond.b bond) in
    elim (cases_eq atom bond.b) [
      | inl same ↦ rw (same, joined-b bond (row table bond.b) free.apart)
          (row-same half bond.b bond.a bond b_half
          ∙ ap (with_more bond.a bond) (row-other table bond.a bond.b bond bond.b (λ e. free.apart (sym e))))
      | inr not_b ↦ row-other half bond.b bond.a bond atom not_b ∙ elim (cases_eq atom bond.a) [
        | inl same ↦ rw (same, joined-a bond (row table bond.a)) (row-same table bond.a bond.b bond free.a)
        | inr not_a ↦ rw (joined-none bond atom (row table atom) not_a not_b)
            (row-other table bond.a bond.b bond atom not_a)
      ]
    ]

by_end : (p q : Bool) (m n : ℕ) (standing : AtAtom) (bond : Bond) →
    record {
      neighbours = standing.neighbours ++ cons_option (cond p (Some m) (cond q (Some n) None)) [];
      bonds = standing.bonds ++ cond (p || q) (bond ∷ []) [];
    }
    ≡ cond p (with_more m bond standing) (cond q (with_more n bond standing) standing)
by_end true q m n standing bond = refl
by_end false true m n standing bond = refl
by_end false false m n standing bond = rw (append-nil standing.neighbours, append-nil standing.bonds) refl

at_atom-push : (atom : ℕ) (before : List Bond) (bond : Bond) →
    at_atom atom (before ++ bond ∷ []) ≡ joined bond atom (at_atom atom before)
at_atom-push atom before bond =
    rw (filter_map-append (other_end atom) before (bond ∷ []), filter-append (touches atom) before (bond ∷ []))
    (by_end (bond.a == atom) (bond.b == atom) bond.b bond.a (at_atom atom before) bond)

-- one more bond at which no cause holds
pub IsTable-with_bond : (atoms : ℕ) (before : List Bond) (table : List AtAtom) (bond : Bond) →
    IsTable atoms before table → cause_of atoms before bond ≡ None →
    IsTable atoms (before ++ bond ∷ []) (with_bond bond table)
IsTable-with_bond atoms before table bond is none =
    let f : IsFree table bond = free atoms before table bond is none in
    record {
      len = length-with_bond bond table ∙ is.len;
      each = λ atom within.
          row-with_bond bond table atom f
          ∙ ap (joined bond atom) (is.each atom within)
          ∙ sym (at_atom-push atom before bond);
    }
