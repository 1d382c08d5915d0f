-- What the neighbours of an atom say of the bonds that they come from.
use Rattle.std.proofs.Common.{◌≡◌, ◌≢◌, ◌+◌, ℕ, List, [], ◌∷◌, length, Bool, true, false, cond, ◌||◌, ◌&&◌, ◌==◌, Some, None, refl, ap, ◌∙◌, arith}
use Rattle.std.specs.List.{list_any, cons_option}
use Rattle.std.proofs.lemmas.List.Recursion.{is_count_by}
use Rattle.std.proofs.lemmas.Bool.Decides.{nat_tests}
use Rattle.cip_mol.specs.declared.graph.molecule.Bond.{Bond}
use Rattle.cip_mol.specs.Bonds.{touches, degree, joins_same}
use Rattle.cip_mol.specs.Neighbours.{neighbours, other_end}

either_counts : (x y : Bool) (m n : ℕ) (ns : List ℕ) →
    length (cons_option (cond x (Some m) (cond y (Some n) None)) ns) ≡ cond (x || y) (1 + length ns) (length ns)
either_counts true y m n ns = omega arith
either_counts false true m n ns = omega arith
either_counts false false m n ns = refl

-- an atom has as many neighbours as bonds
pub length-neighbours : (atom : ℕ) (bonds : List Bond) → length (neighbours atom bonds) ≡ degree atom bonds
length-neighbours atom =
    is_count_by (λ bonds. length (neighbours atom bonds)) (touches atom) refl
    (λ bond bonds. either_counts (bond.a == atom) (bond.b == atom) bond.b bond.a (neighbours atom bonds))

either_is : (a b x y : ℕ) (ns : List ℕ) →
    list_any (λ n. n == b) (cons_option (cond (x == a) (Some y) (cond (y == a) (Some x) None)) ns) ≡ ((((x == a) && (y == b)) || ((x == b) && (y == a))) || list_any (λ n. n == b) ns)
either_is a b x y ns = grind (arith, nat_tests)

-- a bond joins the same two atoms as an earlier one where one end is among the neighbours of the other
pub list_any-neighbours : (bond : Bond) (bonds : List Bond) →
    list_any (λ other. other == bond.b) (neighbours bond.a bonds) ≡ list_any (λ other. joins_same other bond) bonds
list_any-neighbours bond [] = refl
list_any-neighbours bond (other ∷ others) =
    either_is bond.a bond.b other.a other.b (neighbours bond.a others)
    ∙ ap (λ found. joins_same other bond || found) (list_any-neighbours bond others)

pub other_end-a : (bond : Bond) → other_end bond.a bond ≡ Some bond.b
other_end-a bond = grind (arith, nat_tests)

pub other_end-b : (bond : Bond) → bond.a ≢ bond.b → other_end bond.b bond ≡ Some bond.a
other_end-b bond apart = grind (arith, nat_tests)

pub other_end-none : (bond : Bond) (atom : ℕ) → atom ≢ bond.a → atom ≢ bond.b → other_end atom bond ≡ None
other_end-none bond atom not_a not_b = grind (arith, nat_tests)
