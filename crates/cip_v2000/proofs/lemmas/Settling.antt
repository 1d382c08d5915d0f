-- What statements leave of an atom: the last of each kind on it, and where there is none what is kept of its line.
use Rattle.std.proofs.Common.{◌≡◌, ◌≢◌, ◌<◌, ℕ, ℤ, zero, suc, List, [], ◌∷◌, length, map, fold, Option, Some, None, Bool, true, false, cond, ◌==◌, refl, sym, ap, ◌∙◌, arith}
use Rattle.std.specs.Prelude.{slice_get, slice_set}
use Rattle.std.specs.Option.{option_map, option_or, unwrap_or}
use Rattle.std.proofs.lemmas.Bool.Decides.{nat_tests}
use Rattle.std.proofs.lemmas.List.{length-set, get_or-set_same}
use Rattle.std.proofs.lemmas.Option.{slice_get-get_or, slice_get_within, slice_get-map}
use Rattle.cip_mol.specs.declared.graph.molecule.Atom.{Atom}
use Rattle.cip_v2000.specs.declared.atom_properties.Pair.{Pair}
use Rattle.cip_v2000.specs.declared.atom_properties.AtomProperty.{AtomProperty}
use Rattle.cip_v2000.specs.declared.atom_properties.AtomProperty.TheVariants.{Charge, Radical, Isotope}
use Rattle.cip_v2000.specs.Statements.{kept, with_statement, with_pair, state_charges, state_isotopes, settled}
use Rattle.cip_v2000.specs.LastStatements.{charge_in, radical_in, isotope_in, last_of, AtomsAreSettled}

-- the atom at a place after one more pair

get-set_same : {A : Type 0} (xs : List A) (i : ℕ) (x y : A) → slice_get xs i ≡ Some x
    → slice_get (slice_set xs i y) i ≡ Some y
get-set_same xs i x y is =
    let within : i < length xs = slice_get_within xs i x is in
    slice_get-get_or (slice_set xs i y) i y (omega (arith, within, length-set xs i y))
    ∙ ap Some (get_or-set_same xs i y y within)

get-set_other : {A : Type 0} (xs : List A) (i j : ℕ) (y : A) → i ≢ j → slice_get (slice_set xs i y) j ≡ slice_get xs j
get-set_other [] i j y apart = refl
get-set_other (x ∷ xs) zero zero y apart = absurd (apart refl)
get-set_other (x ∷ xs) zero (suc j) y apart = refl
get-set_other (x ∷ xs) (suc i) zero y apart = refl
get-set_other (x ∷ xs) (suc i) (suc j) y apart = get-set_other xs i j y (λ same. apart (ap suc same))

get-named : (atoms : List Atom) (pair : Pair) (found : Option Atom) → slice_get atoms pair.atom ≡ found
    → slice_get (with_pair atoms pair) pair.atom ≡ option_map (with_statement pair.states) found
get-named atoms pair None is = rw is is
get-named atoms pair (Some atom) is = rw is (get-set_same atoms pair.atom atom _ is)

get-unnamed : (atoms : List Atom) (pair : Pair) (place : ℕ) (named : Option Atom) → slice_get atoms pair.atom ≡ named
    → pair.atom ≢ place → slice_get (with_pair atoms pair) place ≡ slice_get atoms place
get-unnamed atoms pair place None is apart = rw is refl
get-unnamed atoms pair place (Some atom) is apart = rw is (get-set_other atoms pair.atom place _ apart)

map-same : {A : Type 0} (found : Option A) → option_map (λ x. x) found ≡ found
map-same None = refl
map-same (Some x) = refl

abbrev stated_at : ℕ → Pair → Atom → Atom
stated_at place pair atom = cond (pair.atom == place) (with_statement pair.states atom) atom

get-by_test : (atoms : List Atom) (pair : Pair) (place : ℕ) (names : Bool) → (names ≡ true → pair.atom ≡ place)
    → (names ≡ false → pair.atom ≢ place) → slice_get (with_pair atoms pair) place
    ≡ option_map (λ atom. cond names (with_statement pair.states atom) atom) (slice_get atoms place)
get-by_test atoms pair place true same apart = rw (← same refl) (get-named atoms pair _ refl)
get-by_test atoms pair place false same apart = get-unnamed atoms pair place _ refl (apart refl)
    ∙ sym (map-same (slice_get atoms place))

get-with_pair : (atoms : List Atom) (pair : Pair) (place : ℕ)
    → slice_get (with_pair atoms pair) place ≡ option_map (stated_at place pair) (slice_get atoms place)
get-with_pair atoms pair place = get-by_test atoms pair place (pair.atom == place) (λ is. grind (arith, nat_tests))
    (λ is same. grind (arith, nat_tests))

-- the last statements on it

abbrev with_last : Option ℤ → Option ℕ → Option ℕ → Atom → Atom
with_last charge radical isotope atom = record atom {
  charge = unwrap_or charge atom.charge;
  radical = unwrap_or radical atom.radical;
  isotope = unwrap_or isotope atom.isotope;
}

or-else : {A : Type 0} (last earlier : Option A) (d : A)
    → unwrap_or (option_or last earlier) d ≡ unwrap_or last (unwrap_or earlier d)
or-else None earlier d = refl
or-else (Some x) earlier d = refl

earlier-by_test : (charge : Option ℤ) (radical isotope : Option ℕ) (names : Bool) (states : AtomProperty) (atom : Atom)
    → with_last charge radical isotope (cond names (with_statement states atom) atom)
    ≡ with_last (option_or charge (cond names (charge_in states) None))
    (option_or radical (cond names (radical_in states) None))
    (option_or isotope (cond names (isotope_in states) None)) atom
earlier-by_test charge radical isotope false states atom = simp or-else refl
earlier-by_test charge radical isotope true (Charge n) atom = simp or-else refl
earlier-by_test charge radical isotope true (Radical n) atom = simp or-else refl
earlier-by_test charge radical isotope true (Isotope n) atom = simp or-else refl

abbrev with_pairs : List Pair → ℕ → Atom → Atom
with_pairs pairs place = with_last (last_of charge_in place pairs) (last_of radical_in place pairs)
    (last_of isotope_in place pairs)

map-map : {A B C : Type 0} (f : A → B) (g : B → C) (h : A → C) (found : Option A) → ((x : A) → g (f x) ≡ h x)
    → option_map g (option_map f found) ≡ option_map h found
map-map f g h None same = refl
map-map f g h (Some x) same = ap Some (same x)

get-fold : (pairs : List Pair) (atoms : List Atom) (place : ℕ)
    → slice_get (fold with_pair atoms pairs) place ≡ option_map (with_pairs pairs place) (slice_get atoms place)
get-fold [] atoms place = sym (map-same (slice_get atoms place))
get-fold (pair ∷ pairs) atoms place =
    get-fold pairs (with_pair atoms pair) place
    ∙ ap (option_map (with_pairs pairs place)) (get-with_pair atoms pair place)
    ∙ map-map (stated_at place pair) (with_pairs pairs place) (with_pairs (pair ∷ pairs) place) (slice_get atoms place)
    (λ atom. earlier-by_test (last_of charge_in place pairs) (last_of radical_in place pairs)
    (last_of isotope_in place pairs) (pair.atom == place) pair.states atom)

pub atoms_settled : AtomsAreSettled
unfolding settled
atoms_settled pairs lines place =
    let keep = kept (state_charges pairs) (state_isotopes pairs) in
    get-fold pairs (map keep lines) place
    ∙ ap (option_map (with_pairs pairs place)) (slice_get-map keep lines place)
    ∙ map-map keep (with_pairs pairs place) _ (slice_get lines place) (λ line. refl)
