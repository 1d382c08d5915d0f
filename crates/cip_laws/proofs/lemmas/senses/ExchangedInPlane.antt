-- Exchanging two ligands turns the sense of a centre drawn in the plane.
use Rattle.std.proofs.Common.{◌≡◌, ◌⊎◌, ◌%◌, ℕ, inl, inr, refl, sym, ◌∙◌, ap, List, [], ◌∷◌, Bool, true, false}
use Rattle.std.specs.Prelude.{not, ◌&&◌, ◌||◌, ◌==◌, if◌then◌else◌}
use Rattle.std.proofs.lemmas.Bool.{and_parts}
use Rattle.cip_num.specs.declared.plane.Sign.{Sign}
use Rattle.cip_num.specs.declared.plane.Sign.TheVariants.{Minus, Zero, Plus}
use Rattle.cip_num.specs.declared.plane.Vec2.{Vec2}
use Rattle.cip_num.specs.Signs.{is_zero}
use Rattle.cip_num.specs.Around.{has_coincident, places}
use Rattle.cip_laws.proofs.lemmas.senses.Rounds.{meets, three_places, four_places, places_of_three, places_of_four}
use Rattle.cip_laws.proofs.lemmas.senses.FourRound.{Round, as_numbered, last_before_third, last_before_second, third_before_second, second_behind_both, backwards, round_of_four}
use Rattle.cip_laws.proofs.lemmas.senses.Exchanges.{or_back, or_exchanged, clash_first, clash_later, clash_last, places_first_of_three, places_last_of_three, places_first, places_middle, places_last}
use Rattle.cip_mol.specs.declared.site.Cause.TheVariants.{Coincident}
use Rattle.cip_mol.specs.declared.site.Geometry.TheVariants.{Unknown}
use Rattle.cip_mol.specs.Senses.{other_way}
use Rattle.cip_mol.specs.FlatCentres.{turned_by_place, votes, has_plus, has_minus, lies_between, is_marked_inside, is_reentrant, inversions, by_votes, in_plane}
use Rattle.cip_laws.proofs.lemmas.senses.ReflectedCentres.{tests, tests-turned}

abbrev agree : Bool → Bool → Bool
agree true b = b
agree false b = not b

agree-same : (a b : Bool) → agree a b ≡ true → a ≡ b
agree-same true true e = refl
agree-same true false e = absurd cc
agree-same false true e = absurd cc
agree-same false false e = refl

either : (a b : Bool) → (a || b) ≡ true → (a ≡ true) ⊎ (b ≡ true)
either true b e = inl refl
either false b e = inr e

-- for every sign
abbrev every : (Sign → Bool) → Bool
every f = f Plus && (f Minus && f Zero)

every-true : (f : Sign → Bool) → every f ≡ true → (s : Sign) → f s ≡ true
every-true f e Plus = (and_parts (f Plus) (f Minus && f Zero) e).0
every-true f e Minus = (and_parts (f Minus) (f Zero) (and_parts (f Plus) (f Minus && f Zero) e).1).0
every-true f e Zero = (and_parts (f Minus) (f Zero) (and_parts (f Plus) (f Minus && f Zero) e).1).1

-- Whether a vote is Plus, one is Minus and the permutation is even, and the same of other votes: these show the other
-- sense, since the permutation is of the other kind, or since each vote is.
abbrev turn : Bool → Bool → Bool → Bool → Bool → Bool → Bool
turn p m e q n f = (agree q p && (agree n m && agree f (not e))) || (agree q m && (agree n p && agree f e))

tests-odd : (p m r e : Bool) → tests p m r (not e) ≡ other_way (tests p m r e)
unfolding tests
tests-odd true true r e = refl
tests-odd true false true e = refl
tests-odd true false false true = refl
tests-odd true false false false = refl
tests-odd false true true e = refl
tests-odd false true false true = refl
tests-odd false true false false = refl
tests-odd false false true e = refl
tests-odd false false false e = refl

tests-turn : (p m r e q n f : Bool) → turn p m e q n f ≡ true → tests q n r f ≡ other_way (tests p m r e)
tests-turn p m r e q n f t = by (either (agree q p && (agree n m && agree f (not e))) (agree q m && (agree n p && agree f e)) t)
  where
    by : ((agree q p && (agree n m && agree f (not e))) ≡ true) ⊎ ((agree q m && (agree n p && agree f e)) ≡ true) → tests q n r f ≡ other_way (tests p m r e)
    by (inl s) =
        let first : (agree q p ≡ true) × ((agree n m && agree f (not e)) ≡ true) = and_parts (agree q p) (agree n m && agree f (not e)) s in
        let rest : (agree n m ≡ true) × (agree f (not e) ≡ true) = and_parts (agree n m) (agree f (not e)) first.1 in
        rw (agree-same q p first.0, agree-same n m rest.0, agree-same f (not e) rest.1) (tests-odd p m r e)
    by (inr s) =
        let first : (agree q m ≡ true) × ((agree n p && agree f e) ≡ true) = and_parts (agree q m) (agree n p && agree f e) s in
        let rest : (agree n p ≡ true) × (agree f e ≡ true) = and_parts (agree n p) (agree f e) first.1 in
        rw (agree-same q m first.0, agree-same n p rest.0, agree-same f e rest.1) (tests-turned p m r e)

abbrev votes_turn : List ℕ → List Sign → List ℕ → List Sign → Bool
votes_turn ns vs ks ws = turn (has_plus vs) (has_minus vs) (inversions ns % 2 == 0) (has_plus ws) (has_minus ws) (inversions ks % 2 == 0)

by_votes-turn : (r : Bool) (ns : List ℕ) (vs : List Sign) (ks : List ℕ) (ws : List Sign) → votes_turn ns vs ks ws ≡ true → by_votes r ks ws ≡ other_way (by_votes r ns vs)
unfolding tests
by_votes-turn r ns vs ks ws t = tests-turn (has_plus vs) (has_minus vs) r (inversions ns % 2 == 0) (has_plus ws) (has_minus ws) (inversions ks % 2 == 0) t

-- whatever the marks of three or of four ligands, in one order and in another
abbrev three_turn : Bool → (Sign → Sign → Sign → List Sign) → Bool
three_turn x order = every (λ p. every (λ q. every (λ r. votes_turn (three_places x) (p ∷ q ∷ r ∷ []) (three_places (not x)) (order p q r))))

abbrev four_turn : Bool → Bool → Bool → Bool → Bool → Bool → (Sign → Sign → Sign → Sign → List Sign) → Bool
four_turn x y z u v w order = every (λ p. every (λ q. every (λ r. every (λ s. votes_turn (four_places x y z) (turned_by_place (four_places x y z) (p ∷ q ∷ r ∷ s ∷ [])) (four_places u v w) (turned_by_place (four_places u v w) (order p q r s))))))

every-three : (f : Sign → Sign → Sign → Bool) → every (λ p. every (λ q. every (λ r. f p q r))) ≡ true → (p q r : Sign) → f p q r ≡ true
every-three f e p q r = every-true (f p q) (every-true (λ q. every (λ r. f p q r)) (every-true (λ p. every (λ q. every (λ r. f p q r))) e p) q) r

every-four : (f : Sign → Sign → Sign → Sign → Bool) → every (λ p. every (λ q. every (λ r. every (λ s. f p q r s)))) ≡ true → (p q r s : Sign) → f p q r s ≡ true
every-four f e p = every-three (f p) (every-true (λ p. every (λ q. every (λ r. every (λ s. f p q r s)))) e p)

abbrev first : Sign → Sign → Sign → Sign → List Sign
first p q r s = q ∷ p ∷ r ∷ s ∷ []

abbrev middle : Sign → Sign → Sign → Sign → List Sign
middle p q r s = p ∷ r ∷ q ∷ s ∷ []

abbrev last : Sign → Sign → Sign → Sign → List Sign
last p q r s = p ∷ q ∷ s ∷ r ∷ []

first_turns : {x y z w : Bool} → Round x y z w → four_turn x y z (not x) (not y) w first ≡ true
first_turns as_numbered = refl
first_turns last_before_third = refl
first_turns last_before_second = refl
first_turns third_before_second = refl
first_turns second_behind_both = refl
first_turns backwards = refl

middle_turns : {x y z w : Bool} → Round x y z w → four_turn x y z (not x) z y middle ≡ true
middle_turns as_numbered = refl
middle_turns last_before_third = refl
middle_turns last_before_second = refl
middle_turns third_before_second = refl
middle_turns second_behind_both = refl
middle_turns backwards = refl

last_turns : {x y z w : Bool} → Round x y z w → four_turn x y z y x (not z) last ≡ true
last_turns as_numbered = refl
last_turns last_before_third = refl
last_turns last_before_second = refl
last_turns third_before_second = refl
last_turns second_behind_both = refl
last_turns backwards = refl

three_turns : (x : Bool) → (three_turn x (λ p q r. q ∷ p ∷ r ∷ []) ≡ true) × (three_turn x (λ p q r. p ∷ r ∷ q ∷ []) ≡ true)
three_turns true = (refl, refl)
three_turns false = (refl, refl)

in_three : (a b c : Vec2) (p q r : Sign) → has_coincident (a ∷ b ∷ c ∷ []) ≡ false → (x : Bool) → places (a ∷ b ∷ c ∷ []) ≡ three_places x → in_plane (a ∷ b ∷ c ∷ []) (p ∷ q ∷ r ∷ []) ≡ by_votes (is_reentrant (a ∷ b ∷ c ∷ []) (p ∷ q ∷ r ∷ [])) (three_places x) (p ∷ q ∷ r ∷ [])
in_three a b c p q r clear x is =
    ap (λ clash. if clash then Unknown Coincident else by_votes (is_reentrant (a ∷ b ∷ c ∷ []) (p ∷ q ∷ r ∷ [])) (places (a ∷ b ∷ c ∷ [])) (votes (places (a ∷ b ∷ c ∷ [])) (p ∷ q ∷ r ∷ []))) clear
    ∙ ap (λ ns. by_votes (is_reentrant (a ∷ b ∷ c ∷ []) (p ∷ q ∷ r ∷ [])) ns (votes ns (p ∷ q ∷ r ∷ []))) is

in_four : (a b c d : Vec2) (p q r s : Sign) → has_coincident (a ∷ b ∷ c ∷ d ∷ []) ≡ false → (x y z : Bool) → places (a ∷ b ∷ c ∷ d ∷ []) ≡ four_places x y z → in_plane (a ∷ b ∷ c ∷ d ∷ []) (p ∷ q ∷ r ∷ s ∷ []) ≡ by_votes false (four_places x y z) (turned_by_place (four_places x y z) (p ∷ q ∷ r ∷ s ∷ []))
in_four a b c d p q r s clear x y z is =
    ap (λ clash. if clash then Unknown Coincident else by_votes false (places (a ∷ b ∷ c ∷ d ∷ [])) (votes (places (a ∷ b ∷ c ∷ d ∷ [])) (p ∷ q ∷ r ∷ s ∷ []))) clear
    ∙ ap (λ ns. by_votes false ns (votes ns (p ∷ q ∷ r ∷ s ∷ []))) is

-- coincident directions, in whatever order
clashing : (ds es : List Vec2) (ms ks : List Sign) → has_coincident es ≡ has_coincident ds → (has_coincident ds ≡ false → has_coincident es ≡ false → in_plane es ks ≡ other_way (in_plane ds ms)) → in_plane es ks ≡ other_way (in_plane ds ms)
clashing ds es ms ks same clear = by (has_coincident ds) refl
  where
    by : (clash : Bool) → has_coincident ds ≡ clash → in_plane es ks ≡ other_way (in_plane ds ms)
    by true e = rw (same ∙ e, e) refl
    by false e = clear e (same ∙ e)

module _ (a b c d : Vec2) (p q r s : Sign) where
  pub first_four : in_plane (b ∷ a ∷ c ∷ d ∷ []) (q ∷ p ∷ r ∷ s ∷ []) ≡ other_way (in_plane (a ∷ b ∷ c ∷ d ∷ []) (p ∷ q ∷ r ∷ s ∷ []))
  first_four =
      clashing (a ∷ b ∷ c ∷ d ∷ []) (b ∷ a ∷ c ∷ d ∷ []) (p ∷ q ∷ r ∷ s ∷ []) (q ∷ p ∷ r ∷ s ∷ []) (clash_first a b (c ∷ d ∷ []))
      (λ clear other. in_four b a c d q p r s other (not (meets (a ∷ b ∷ c ∷ d ∷ []) 0 1 2)) (not (meets (a ∷ b ∷ c ∷ d ∷ []) 0 1 3)) (meets (a ∷ b ∷ c ∷ d ∷ []) 1 2 3) (places_first a b c d clear)
      ∙ by_votes-turn false (four_places (meets (a ∷ b ∷ c ∷ d ∷ []) 0 1 2) (meets (a ∷ b ∷ c ∷ d ∷ []) 0 1 3) (meets (a ∷ b ∷ c ∷ d ∷ []) 0 2 3)) (turned_by_place (four_places (meets (a ∷ b ∷ c ∷ d ∷ []) 0 1 2) (meets (a ∷ b ∷ c ∷ d ∷ []) 0 1 3) (meets (a ∷ b ∷ c ∷ d ∷ []) 0 2 3)) (p ∷ q ∷ r ∷ s ∷ [])) (four_places (not (meets (a ∷ b ∷ c ∷ d ∷ []) 0 1 2)) (not (meets (a ∷ b ∷ c ∷ d ∷ []) 0 1 3)) (meets (a ∷ b ∷ c ∷ d ∷ []) 1 2 3)) (turned_by_place (four_places (not (meets (a ∷ b ∷ c ∷ d ∷ []) 0 1 2)) (not (meets (a ∷ b ∷ c ∷ d ∷ []) 0 1 3)) (meets (a ∷ b ∷ c ∷ d ∷ []) 1 2 3)) (q ∷ p ∷ r ∷ s ∷ []))
      (every-four (λ p q r s. votes_turn (four_places (meets (a ∷ b ∷ c ∷ d ∷ []) 0 1 2) (meets (a ∷ b ∷ c ∷ d ∷ []) 0 1 3) (meets (a ∷ b ∷ c ∷ d ∷ []) 0 2 3)) (turned_by_place (four_places (meets (a ∷ b ∷ c ∷ d ∷ []) 0 1 2) (meets (a ∷ b ∷ c ∷ d ∷ []) 0 1 3) (meets (a ∷ b ∷ c ∷ d ∷ []) 0 2 3)) (p ∷ q ∷ r ∷ s ∷ [])) (four_places (not (meets (a ∷ b ∷ c ∷ d ∷ []) 0 1 2)) (not (meets (a ∷ b ∷ c ∷ d ∷ []) 0 1 3)) (meets (a ∷ b ∷ c ∷ d ∷ []) 1 2 3)) (turned_by_place (four_places (not (meets (a ∷ b ∷ c ∷ d ∷ []) 0 1 2)) (not (meets (a ∷ b ∷ c ∷ d ∷ []) 0 1 3)) (meets (a ∷ b ∷ c ∷ d ∷ []) 1 2 3)) (first p q r s))) (first_turns (round_of_four a b c d clear)) p q r s)
      ∙ ap other_way (sym (in_four a b c d p q r s clear (meets (a ∷ b ∷ c ∷ d ∷ []) 0 1 2) (meets (a ∷ b ∷ c ∷ d ∷ []) 0 1 3) (meets (a ∷ b ∷ c ∷ d ∷ []) 0 2 3) (places_of_four a b c d clear))))

  pub middle_four : in_plane (a ∷ c ∷ b ∷ d ∷ []) (p ∷ r ∷ q ∷ s ∷ []) ≡ other_way (in_plane (a ∷ b ∷ c ∷ d ∷ []) (p ∷ q ∷ r ∷ s ∷ []))
  middle_four =
      clashing (a ∷ b ∷ c ∷ d ∷ []) (a ∷ c ∷ b ∷ d ∷ []) (p ∷ q ∷ r ∷ s ∷ []) (p ∷ r ∷ q ∷ s ∷ []) (clash_later a b c (d ∷ []))
      (λ clear other. in_four a c b d p r q s other (not (meets (a ∷ b ∷ c ∷ d ∷ []) 0 1 2)) (meets (a ∷ b ∷ c ∷ d ∷ []) 0 2 3) (meets (a ∷ b ∷ c ∷ d ∷ []) 0 1 3) (places_middle a b c d clear)
      ∙ by_votes-turn false (four_places (meets (a ∷ b ∷ c ∷ d ∷ []) 0 1 2) (meets (a ∷ b ∷ c ∷ d ∷ []) 0 1 3) (meets (a ∷ b ∷ c ∷ d ∷ []) 0 2 3)) (turned_by_place (four_places (meets (a ∷ b ∷ c ∷ d ∷ []) 0 1 2) (meets (a ∷ b ∷ c ∷ d ∷ []) 0 1 3) (meets (a ∷ b ∷ c ∷ d ∷ []) 0 2 3)) (p ∷ q ∷ r ∷ s ∷ [])) (four_places (not (meets (a ∷ b ∷ c ∷ d ∷ []) 0 1 2)) (meets (a ∷ b ∷ c ∷ d ∷ []) 0 2 3) (meets (a ∷ b ∷ c ∷ d ∷ []) 0 1 3)) (turned_by_place (four_places (not (meets (a ∷ b ∷ c ∷ d ∷ []) 0 1 2)) (meets (a ∷ b ∷ c ∷ d ∷ []) 0 2 3) (meets (a ∷ b ∷ c ∷ d ∷ []) 0 1 3)) (p ∷ r ∷ q ∷ s ∷ []))
      (every-four (λ p q r s. votes_turn (four_places (meets (a ∷ b ∷ c ∷ d ∷ []) 0 1 2) (meets (a ∷ b ∷ c ∷ d ∷ []) 0 1 3) (meets (a ∷ b ∷ c ∷ d ∷ []) 0 2 3)) (turned_by_place (four_places (meets (a ∷ b ∷ c ∷ d ∷ []) 0 1 2) (meets (a ∷ b ∷ c ∷ d ∷ []) 0 1 3) (meets (a ∷ b ∷ c ∷ d ∷ []) 0 2 3)) (p ∷ q ∷ r ∷ s ∷ [])) (four_places (not (meets (a ∷ b ∷ c ∷ d ∷ []) 0 1 2)) (meets (a ∷ b ∷ c ∷ d ∷ []) 0 2 3) (meets (a ∷ b ∷ c ∷ d ∷ []) 0 1 3)) (turned_by_place (four_places (not (meets (a ∷ b ∷ c ∷ d ∷ []) 0 1 2)) (meets (a ∷ b ∷ c ∷ d ∷ []) 0 2 3) (meets (a ∷ b ∷ c ∷ d ∷ []) 0 1 3)) (middle p q r s))) (middle_turns (round_of_four a b c d clear)) p q r s)
      ∙ ap other_way (sym (in_four a b c d p q r s clear (meets (a ∷ b ∷ c ∷ d ∷ []) 0 1 2) (meets (a ∷ b ∷ c ∷ d ∷ []) 0 1 3) (meets (a ∷ b ∷ c ∷ d ∷ []) 0 2 3) (places_of_four a b c d clear))))

  pub last_four : in_plane (a ∷ b ∷ d ∷ c ∷ []) (p ∷ q ∷ s ∷ r ∷ []) ≡ other_way (in_plane (a ∷ b ∷ c ∷ d ∷ []) (p ∷ q ∷ r ∷ s ∷ []))
  last_four =
      clashing (a ∷ b ∷ c ∷ d ∷ []) (a ∷ b ∷ d ∷ c ∷ []) (p ∷ q ∷ r ∷ s ∷ []) (p ∷ q ∷ s ∷ r ∷ []) (clash_last a b c d [])
      (λ clear other. in_four a b d c p q s r other (meets (a ∷ b ∷ c ∷ d ∷ []) 0 1 3) (meets (a ∷ b ∷ c ∷ d ∷ []) 0 1 2) (not (meets (a ∷ b ∷ c ∷ d ∷ []) 0 2 3)) (places_last a b c d clear)
      ∙ by_votes-turn false (four_places (meets (a ∷ b ∷ c ∷ d ∷ []) 0 1 2) (meets (a ∷ b ∷ c ∷ d ∷ []) 0 1 3) (meets (a ∷ b ∷ c ∷ d ∷ []) 0 2 3)) (turned_by_place (four_places (meets (a ∷ b ∷ c ∷ d ∷ []) 0 1 2) (meets (a ∷ b ∷ c ∷ d ∷ []) 0 1 3) (meets (a ∷ b ∷ c ∷ d ∷ []) 0 2 3)) (p ∷ q ∷ r ∷ s ∷ [])) (four_places (meets (a ∷ b ∷ c ∷ d ∷ []) 0 1 3) (meets (a ∷ b ∷ c ∷ d ∷ []) 0 1 2) (not (meets (a ∷ b ∷ c ∷ d ∷ []) 0 2 3))) (turned_by_place (four_places (meets (a ∷ b ∷ c ∷ d ∷ []) 0 1 3) (meets (a ∷ b ∷ c ∷ d ∷ []) 0 1 2) (not (meets (a ∷ b ∷ c ∷ d ∷ []) 0 2 3))) (p ∷ q ∷ s ∷ r ∷ []))
      (every-four (λ p q r s. votes_turn (four_places (meets (a ∷ b ∷ c ∷ d ∷ []) 0 1 2) (meets (a ∷ b ∷ c ∷ d ∷ []) 0 1 3) (meets (a ∷ b ∷ c ∷ d ∷ []) 0 2 3)) (turned_by_place (four_places (meets (a ∷ b ∷ c ∷ d ∷ []) 0 1 2) (meets (a ∷ b ∷ c ∷ d ∷ []) 0 1 3) (meets (a ∷ b ∷ c ∷ d ∷ []) 0 2 3)) (p ∷ q ∷ r ∷ s ∷ [])) (four_places (meets (a ∷ b ∷ c ∷ d ∷ []) 0 1 3) (meets (a ∷ b ∷ c ∷ d ∷ []) 0 1 2) (not (meets (a ∷ b ∷ c ∷ d ∷ []) 0 2 3))) (turned_by_place (four_places (meets (a ∷ b ∷ c ∷ d ∷ []) 0 1 3) (meets (a ∷ b ∷ c ∷ d ∷ []) 0 1 2) (not (meets (a ∷ b ∷ c ∷ d ∷ []) 0 2 3))) (last p q r s))) (last_turns (round_of_four a b c d clear)) p q r s)
      ∙ ap other_way (sym (in_four a b c d p q r s clear (meets (a ∷ b ∷ c ∷ d ∷ []) 0 1 2) (meets (a ∷ b ∷ c ∷ d ∷ []) 0 1 3) (meets (a ∷ b ∷ c ∷ d ∷ []) 0 2 3) (places_of_four a b c d clear))))

is_marked_inside-back : (m : Sign) (inner one other : Vec2) → is_marked_inside m inner other one ≡ is_marked_inside m inner one other
is_marked_inside-back m inner one other = ap (λ lies. not (is_zero m) && lies) (or_back (lies_between one inner other) (lies_between other inner one))

reentrant_first : (a b c : Vec2) (p q r : Sign) → is_reentrant (b ∷ a ∷ c ∷ []) (q ∷ p ∷ r ∷ []) ≡ is_reentrant (a ∷ b ∷ c ∷ []) (p ∷ q ∷ r ∷ [])
reentrant_first a b c p q r =
    ap (λ third. is_marked_inside q b a c || (is_marked_inside p a b c || third)) (is_marked_inside-back r c a b)
    ∙ or_exchanged (is_marked_inside p a b c) (is_marked_inside q b a c) (is_marked_inside r c a b)

reentrant_last : (a b c : Vec2) (p q r : Sign) → is_reentrant (a ∷ c ∷ b ∷ []) (p ∷ r ∷ q ∷ []) ≡ is_reentrant (a ∷ b ∷ c ∷ []) (p ∷ q ∷ r ∷ [])
reentrant_last a b c p q r =
    ap (λ one. one || (is_marked_inside r c a b || is_marked_inside q b a c)) (is_marked_inside-back p a b c)
    ∙ ap (λ rest. is_marked_inside p a b c || rest) (or_back (is_marked_inside q b a c) (is_marked_inside r c a b))

module _ (a b c : Vec2) (p q r : Sign) where
  pub first_three : in_plane (b ∷ a ∷ c ∷ []) (q ∷ p ∷ r ∷ []) ≡ other_way (in_plane (a ∷ b ∷ c ∷ []) (p ∷ q ∷ r ∷ []))
  first_three =
      clashing (a ∷ b ∷ c ∷ []) (b ∷ a ∷ c ∷ []) (p ∷ q ∷ r ∷ []) (q ∷ p ∷ r ∷ []) (clash_first a b (c ∷ []))
      (λ clear other. in_three b a c q p r other (not (meets (a ∷ b ∷ c ∷ []) 0 1 2)) (places_first_of_three a b c clear)
      ∙ ap (λ reentrant. by_votes reentrant (three_places (not (meets (a ∷ b ∷ c ∷ []) 0 1 2))) (q ∷ p ∷ r ∷ [])) (reentrant_first a b c p q r)
      ∙ by_votes-turn (is_reentrant (a ∷ b ∷ c ∷ []) (p ∷ q ∷ r ∷ [])) (three_places (meets (a ∷ b ∷ c ∷ []) 0 1 2)) (p ∷ q ∷ r ∷ []) (three_places (not (meets (a ∷ b ∷ c ∷ []) 0 1 2))) (q ∷ p ∷ r ∷ [])
      (every-three (λ p q r. votes_turn (three_places (meets (a ∷ b ∷ c ∷ []) 0 1 2)) (p ∷ q ∷ r ∷ []) (three_places (not (meets (a ∷ b ∷ c ∷ []) 0 1 2))) (q ∷ p ∷ r ∷ [])) (three_turns (meets (a ∷ b ∷ c ∷ []) 0 1 2)).0 p q r)
      ∙ ap other_way (sym (in_three a b c p q r clear (meets (a ∷ b ∷ c ∷ []) 0 1 2) (places_of_three a b c clear))))

  pub last_three : in_plane (a ∷ c ∷ b ∷ []) (p ∷ r ∷ q ∷ []) ≡ other_way (in_plane (a ∷ b ∷ c ∷ []) (p ∷ q ∷ r ∷ []))
  last_three =
      clashing (a ∷ b ∷ c ∷ []) (a ∷ c ∷ b ∷ []) (p ∷ q ∷ r ∷ []) (p ∷ r ∷ q ∷ []) (clash_later a b c [])
      (λ clear other. in_three a c b p r q other (not (meets (a ∷ b ∷ c ∷ []) 0 1 2)) (places_last_of_three a b c clear)
      ∙ ap (λ reentrant. by_votes reentrant (three_places (not (meets (a ∷ b ∷ c ∷ []) 0 1 2))) (p ∷ r ∷ q ∷ [])) (reentrant_last a b c p q r)
      ∙ by_votes-turn (is_reentrant (a ∷ b ∷ c ∷ []) (p ∷ q ∷ r ∷ [])) (three_places (meets (a ∷ b ∷ c ∷ []) 0 1 2)) (p ∷ q ∷ r ∷ []) (three_places (not (meets (a ∷ b ∷ c ∷ []) 0 1 2))) (p ∷ r ∷ q ∷ [])
      (every-three (λ p q r. votes_turn (three_places (meets (a ∷ b ∷ c ∷ []) 0 1 2)) (p ∷ q ∷ r ∷ []) (three_places (not (meets (a ∷ b ∷ c ∷ []) 0 1 2))) (p ∷ r ∷ q ∷ [])) (three_turns (meets (a ∷ b ∷ c ∷ []) 0 1 2)).1 p q r)
      ∙ ap other_way (sym (in_three a b c p q r clear (meets (a ∷ b ∷ c ∷ []) 0 1 2) (places_of_three a b c clear))))
