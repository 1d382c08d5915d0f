-- Clashes and places where two directions that follow each other in a list are exchanged. Plane geometry.
use Rattle.std.proofs.Common.{◌≡◌, arith, refl, ◌∙◌, ap, List, [], ◌∷◌, Bool, true, false}
use Rattle.std.specs.Prelude.{not, ◌||◌}
use Rattle.std.specs.List.{list_any}
use Rattle.cip_num.specs.declared.plane.Vec2.{Vec2}
use Rattle.cip_num.specs.Signs.{sign_of, is_zero}
use Rattle.cip_num.specs.Plane.{dot}
use Rattle.cip_num.specs.Around.{coincide, has_coincident, precedes, places}
use Rattle.cip_num.proofs.lemmas.Coincidence.{coincide_back}
use Rattle.cip_laws.proofs.lemmas.senses.Rounds.{meets, meets_back, meets_turned, three_places, four_places, places_of_three, places_of_four}
use Rattle.cip_laws.proofs.lemmas.senses.FourRound.{n021, n032, n102, n103}

pub or_exchanged : (a b r : Bool) → (b || (a || r)) ≡ (a || (b || r))
or_exchanged true true r = refl
or_exchanged true false r = refl
or_exchanged false b r = refl

pub or_back : (a b : Bool) → (b || a) ≡ (a || b)
or_back true true = refl
or_back true false = refl
or_back false true = refl
or_back false false = refl

pub list_any-exchanged : {X : Type 0} (p : X → Bool) (a b : X) (xs : List X) → list_any p (b ∷ a ∷ xs) ≡ list_any p (a ∷ b ∷ xs)
list_any-exchanged p a b xs = or_exchanged (p a) (p b) (list_any p xs)

pub clash_first : (a b : Vec2) (ds : List Vec2) → has_coincident (b ∷ a ∷ ds) ≡ has_coincident (a ∷ b ∷ ds)
clash_first a b ds =
    ap (λ c. (is_zero (sign_of (dot b b)) || (c || list_any (λ other. coincide b other) ds)) || has_coincident (a ∷ ds)) (coincide_back a b)
    ∙ both (is_zero (sign_of (dot a a))) (is_zero (sign_of (dot b b))) (coincide a b) (list_any (λ other. coincide a other) ds) (list_any (λ other. coincide b other) ds) (has_coincident ds)
  where
    both : (za zb ab ra rb r : Bool) → ((zb || (ab || rb)) || ((za || ra) || r)) ≡ ((za || (ab || ra)) || ((zb || rb) || r))
    both za zb ab ra rb r = grind arith

pub clash_later : (a b c : Vec2) (ds : List Vec2) → has_coincident (a ∷ c ∷ b ∷ ds) ≡ has_coincident (a ∷ b ∷ c ∷ ds)
clash_later a b c ds =
    ap (λ t. (is_zero (sign_of (dot a a)) || t) || has_coincident (c ∷ b ∷ ds)) (list_any-exchanged (λ other. coincide a other) b c ds)
    ∙ ap (λ t. (is_zero (sign_of (dot a a)) || list_any (λ other. coincide a other) (b ∷ c ∷ ds)) || t) (clash_first b c ds)

pub clash_last : (a b c d : Vec2) (ds : List Vec2) → has_coincident (a ∷ b ∷ d ∷ c ∷ ds) ≡ has_coincident (a ∷ b ∷ c ∷ d ∷ ds)
clash_last a b c d ds =
    ap (λ t. (is_zero (sign_of (dot a a)) || (coincide a b || t)) || has_coincident (b ∷ d ∷ c ∷ ds)) (list_any-exchanged (λ other. coincide a other) c d ds)
    ∙ ap (λ t. (is_zero (sign_of (dot a a)) || list_any (λ other. coincide a other) (b ∷ c ∷ d ∷ ds)) || t) (clash_later b c d ds)

module _ (a b c : Vec2) (clear : has_coincident (a ∷ b ∷ c ∷ []) ≡ false) where
  clear_first_of_three : has_coincident (b ∷ a ∷ c ∷ []) ≡ false
  clear_first_of_three = clash_first a b (c ∷ []) ∙ clear

  clear_last_of_three : has_coincident (a ∷ c ∷ b ∷ []) ≡ false
  clear_last_of_three = clash_later a b c [] ∙ clear

  pub places_first_of_three : places (b ∷ a ∷ c ∷ []) ≡ three_places (not (meets (a ∷ b ∷ c ∷ []) 0 1 2))
  unfolding meets
  places_first_of_three =
      places_of_three b a c clear_first_of_three
      ∙ ap three_places
      (meets_back (a ∷ b ∷ c ∷ []) clear 1 2 0 (omega arith) (omega arith) (omega arith) (λ e. omega arith)
      ∙ ap not (meets_turned (a ∷ b ∷ c ∷ []) clear 0 1 2 (omega arith) (omega arith) (omega arith) (λ e. omega arith) (λ e. omega arith) (λ e. omega arith)))

  pub places_last_of_three : places (a ∷ c ∷ b ∷ []) ≡ three_places (not (meets (a ∷ b ∷ c ∷ []) 0 1 2))
  unfolding meets
  places_last_of_three = places_of_three a c b clear_last_of_three ∙ ap three_places (meets_back (a ∷ b ∷ c ∷ []) clear 0 1 2 (omega arith) (omega arith) (omega arith) (λ e. omega arith))

module _ (a b c d : Vec2) (clear : has_coincident (a ∷ b ∷ c ∷ d ∷ []) ≡ false) where
  clear_first : has_coincident (b ∷ a ∷ c ∷ d ∷ []) ≡ false
  clear_first = clash_first a b (c ∷ d ∷ []) ∙ clear

  clear_middle : has_coincident (a ∷ c ∷ b ∷ d ∷ []) ≡ false
  clear_middle = clash_later a b c (d ∷ []) ∙ clear

  clear_last : has_coincident (a ∷ b ∷ d ∷ c ∷ []) ≡ false
  clear_last = clash_last a b c d [] ∙ clear

  pub places_first : places (b ∷ a ∷ c ∷ d ∷ []) ≡ four_places (not (meets (a ∷ b ∷ c ∷ d ∷ []) 0 1 2)) (not (meets (a ∷ b ∷ c ∷ d ∷ []) 0 1 3)) (meets (a ∷ b ∷ c ∷ d ∷ []) 1 2 3)
  unfolding meets
  places_first =
      places_of_four b a c d clear_first
      ∙ ap (λ x. four_places x (precedes b a d) (precedes b c d)) (n102 a b c d clear)
      ∙ ap (λ y. four_places (not (precedes a b c)) y (precedes b c d)) (n103 a b c d clear)

  pub places_middle : places (a ∷ c ∷ b ∷ d ∷ []) ≡ four_places (not (meets (a ∷ b ∷ c ∷ d ∷ []) 0 1 2)) (meets (a ∷ b ∷ c ∷ d ∷ []) 0 2 3) (meets (a ∷ b ∷ c ∷ d ∷ []) 0 1 3)
  unfolding meets
  places_middle = places_of_four a c b d clear_middle ∙ ap (λ x. four_places x (precedes a c d) (precedes a b d)) (n021 a b c d clear)

  pub places_last : places (a ∷ b ∷ d ∷ c ∷ []) ≡ four_places (meets (a ∷ b ∷ c ∷ d ∷ []) 0 1 3) (meets (a ∷ b ∷ c ∷ d ∷ []) 0 1 2) (not (meets (a ∷ b ∷ c ∷ d ∷ []) 0 2 3))
  unfolding meets
  places_last = places_of_four a b d c clear_last ∙ ap (λ z. four_places (precedes a b d) (precedes a b c) z) (n032 a b c d clear)
