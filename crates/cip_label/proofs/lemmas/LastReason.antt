-- Of some reasons the last one.
use Rattle.std.proofs.Common.{◌≡◌, ◌==◌, ◌&&◌, ◌||◌, ◌++◌, ◌∷◌, ◌∙◌, [], ℕ, Bool, true, false, List, Option, Some, None}
use Rattle.std.proofs.Common.{refl, sym, ap, arith, cond, fold, nat_lt, Equal}
use Rattle.std.proofs.lemmas.Bool.Decides.{nat_tests}
use Rattle.cip_mol.specs.declared.labels.outcome.Rule.TheVariants.{R1a}
use Rattle.cip_digraph.specs.declared.decisions.decision.Decision.{Decision}
use Rattle.cip_digraph.specs.units.Ranked.{Reason, later_reason, last_reason, turn_of}

abbrev pub later_of : Reason → Reason → Reason
later_of one other = later_reason one (Some (record { side = Equal; rule = other.rule; sphere = other.sphere }))

-- by turn, then by sphere
abbrev is_behind : ℕ → ℕ → ℕ → ℕ → Bool
is_behind t s u r = nat_lt t u || ((t == u) && nat_lt s r)

behind_all : (t s u r v q : ℕ) → is_behind t s u r ≡ true → is_behind u r v q ≡ true → is_behind t s v q ≡ true
behind_all t s u r v q a b = grind (arith, nat_tests)

before_all : (t s u r v q : ℕ) → is_behind t s u r ≡ false → is_behind u r v q ≡ false → is_behind t s v q ≡ false
before_all t s u r v q a b = grind (arith, nat_tests)

-- by which of three is after which
by_tests : {X : Type 0} (x y z : X) (a b c : Bool) → (a ≡ true → b ≡ true → c ≡ true) →
    (a ≡ false → b ≡ false → c ≡ false) →
    cond a (cond b z y) (cond c z x) ≡ cond b (cond c z x) (cond a y x)
by_tests x y z true true c up down = ap (λ c. cond c z x) (sym (up refl refl))
by_tests x y z true false c up down = refl
by_tests x y z false true c up down = refl
by_tests x y z false false c up down = ap (λ c. cond c z x) (down refl refl)

push_in : {X : Type 0} (f : X → Bool) (b : Bool) (z y x : X) →
    cond (f (cond b y x)) z (cond b y x) ≡ cond b (cond (f y) z y) (cond (f x) z x)
push_in f true z y x = refl
push_in f false z y x = refl

push_out : {X : Type 0} (f : X → Bool) (b : Bool) (z y x : X) →
    cond (f (cond b z y)) (cond b z y) x ≡ cond b (cond (f z) z x) (cond (f y) y x)
push_out f true z y x = refl
push_out f false z y x = refl

abbrev behind : Reason → Reason → Bool
behind one other = is_behind (turn_of one.rule) one.sphere (turn_of other.rule) other.sphere

one_after_other : (x y z : Reason) → later_of (later_of x y) z ≡ later_of x (later_of y z)
one_after_other x y z =
    push_in (λ r. behind r z) (behind x y) z y x
    ∙ by_tests x y z (behind x y) (behind y z) (behind x z)
    (behind_all (turn_of x.rule) x.sphere (turn_of y.rule) y.sphere (turn_of z.rule) z.sphere)
    (before_all (turn_of x.rule) x.sphere (turn_of y.rule) y.sphere (turn_of z.rule) z.sphere)
    ∙ sym (push_out (λ r. behind x r) (behind y z) z y x)

one_more : (x y : Reason) (decided : Option Decision) →
    later_reason (later_of x y) decided ≡ later_of x (later_reason y decided)
one_more x y None = refl
one_more x y (Some decided) = one_after_other x y (record { rule = decided.rule; sphere = decided.sphere })

all_more : (x y : Reason) (decisions : List (Option Decision)) →
    fold later_reason (later_of x y) decisions ≡ later_of x (fold later_reason y decisions)
all_more x y [] = refl
all_more x y (decided ∷ decisions) = ap (λ r. fold later_reason r decisions) (one_more x y decided)
    ∙ all_more x (later_reason y decided) decisions

least : (turn sphere : ℕ) → is_behind turn sphere 0 0 ≡ false
least turn sphere = grind (arith, nat_tests)

none_needed : (x : Reason) → later_of x (record { rule = R1a; sphere = 0 }) ≡ x
none_needed x = ap (λ b. cond b (record { rule = R1a; sphere = 0 }) x) (least (turn_of x.rule) x.sphere)

fold_on : (x : Reason) (one other : List (Option Decision)) →
    fold later_reason x (one ++ other) ≡ fold later_reason (fold later_reason x one) other
fold_on x [] other = refl
fold_on x (decided ∷ one) other = fold_on (later_reason x decided) one other

-- of two lists the later of their last reasons
pub last_of_two : (one other : List (Option Decision)) →
    last_reason (one ++ other) ≡ later_of (last_reason one) (last_reason other)
last_of_two one other =
    fold_on (record { rule = R1a; sphere = 0 }) one other
    ∙ ap (λ r. fold later_reason r other) (sym (none_needed (last_reason one)))
    ∙ all_more (last_reason one) (record { rule = R1a; sphere = 0 }) other
