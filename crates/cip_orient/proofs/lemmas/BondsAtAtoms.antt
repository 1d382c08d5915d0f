-- What the bonds of an atom say of marks: the same as all bonds.
use Rattle.std.proofs.Common.{◌≡◌, ℕ, List, [], ◌∷◌, Bool, true, false, cond, ◌&&◌, ◌==◌, refl, ◌∙◌, ap, arith}
use Rattle.std.proofs.lemmas.Bool.{false≢true}
use Rattle.std.proofs.lemmas.Bool.Decides.{nat_tests}
use Rattle.std.proofs.lemmas.Map.Views.{any-filter_same}
use Rattle.cip_mol.specs.declared.graph.molecule.Bond.{Bond}
use Rattle.cip_mol.specs.Bonds.{touches}
use Rattle.cip_mol.specs.Neighbours.{bonds_at}
use Rattle.cip_mol.specs.Marks.{has_either, is_crossed, is_either, is_narrow_at, joins, mark_sign, mark_to}

pub has_either-at : (atom : ℕ) (bonds : List Bond) → has_either atom (bonds_at atom bonds) ≡ has_either atom bonds
has_either-at atom bonds =
    any-filter_same (λ bond. is_narrow_at atom bond && is_either bond.mark) (touches atom) true
    (λ bond narrow. grind (arith, nat_tests)) bonds

pub is_crossed-at : (a b : ℕ) (bonds : List Bond) → is_crossed a b (bonds_at a bonds) ≡ is_crossed a b bonds
is_crossed-at a b bonds =
    any-filter_same (λ bond. joins a b bond && is_either bond.mark) (touches a) true
    (λ bond joined. grind (arith, nat_tests)) bonds

never : {X : Type 0} (b : Bool) (x y : X) → (b ≡ true → false ≡ true) → y ≡ cond b x y
never true x y none = absurd (false≢true (none refl))
never false x y none = refl

module _ (atom neighbour : ℕ) where
  abbrev is_there : Bond → Bool
  is_there bond = is_narrow_at atom bond && (bond.b == neighbour)

  one_kept : (kept : Bool) (bond : Bond) (few all : List Bond) → (is_there bond ≡ true → kept ≡ true)
      → mark_to atom few neighbour ≡ mark_to atom all neighbour
      → mark_to atom (cond kept (bond ∷ few) few) neighbour ≡ mark_to atom (bond ∷ all) neighbour
  one_kept true bond few all within same = ap (λ rest. cond (is_there bond) (mark_sign bond.mark) rest) same
  one_kept false bond few all within same =
      same ∙ never (is_there bond) (mark_sign bond.mark) (mark_to atom all neighbour) within

  pub mark_to-at : (bonds : List Bond) → mark_to atom (bonds_at atom bonds) neighbour ≡ mark_to atom bonds neighbour
  mark_to-at [] = refl
  mark_to-at (bond ∷ bonds) =
      one_kept (touches atom bond) bond (bonds_at atom bonds) bonds (λ there. grind (arith, nat_tests))
      (mark_to-at bonds)
