-- Lists of which all elements but one pass a test.
use Rattle.std.proofs.Common.{◌≡◌, ◌≢◌, ◌<◌, ◌≤◌, ◌+◌, inl, inr, ℕ, suc, List, [], ◌∷◌, length, filter, map, refl, sym, ap, ◌∙◌, Bool, true, false, not, cond, ◌==◌, eq-eqb, arith}
use Rattle.std.specs.List.{AllByRecursion}
use Rattle.std.proofs.lemmas.Bool.{ne_eqb}
use Rattle.std.proofs.lemmas.List.{length-map}
use Rattle.std.proofs.lemmas.List.Filters.{length-filter_both}
use Rattle.cip_digraph.proofs.lemmas.lists.Elements.{Pairwise}
use Rattle.cip_symmetry.specs.Images.{Among}
use Rattle.cip_symmetry.proofs.lemmas.lists.Among.{among_all, among_filter}
use Rattle.cip_symmetry.proofs.lemmas.lists.CarriedLists.{filter_carried}

pub some_member : {X : Type 0} (xs : List X) (x : X) → Among x xs → 1 ≤ length xs
some_member [] x h = absurd h
some_member (y ∷ ys) x h = omega arith

pub two_members : {X : Type 0} (xs : List X) (x y : X) → Among x xs → Among y xs → x ≢ y → 1 < length xs
two_members [] x y h k differ = absurd h
two_members (z ∷ []) x y (inl p) (inl q) differ = absurd (differ (p ∙ sym q))
two_members (z ∷ []) x y (inr bad) k differ = absurd bad
two_members (z ∷ []) x y (inl p) (inr bad) differ = absurd bad
two_members (z ∷ w ∷ zs) x y h k differ = omega arith

-- one doesn't
pub one_fails : {X : Type 0} (test : X → Bool) (xs : List X) (x : X) → Among x xs → test x ≡ false
    → length (filter test xs) + 1 ≤ length xs
one_fails test xs x h e =
    let some = some_member (filter (λ x. not (test x)) xs) x (among_filter (λ x. not (test x)) x xs h (ap not e)) in
    let all = length-filter_both test (λ x. not (test x)) (λ x. refl) xs in
    omega (arith, some, all)

-- so all others do, where they are as many
pub others_pass : {X : Type 0} (test : X → Bool) (xs : List X) (x : X) → Among x xs → test x ≡ false
    → length (filter test xs) + 1 ≡ length xs → (y : X) → Among y xs → y ≢ x → test y ≡ true
others_pass test xs x h e same y k differ = by (test y) refl
  where
    by : (b : Bool) → test y ≡ b → b ≡ true
    by true f = refl
    by false f =
        let two =
        two_members (filter (λ x. not (test x)) xs) y x (among_filter (λ x. not (test x)) y xs k (ap not f))
        (among_filter (λ x. not (test x)) x xs h (ap not e)) differ in
        let all = length-filter_both test (λ x. not (test x)) (λ x. refl) xs in
        absurd (omega (arith, two, all, same))

pub same_kept : {X : Type 0} (one other : X → Bool) (xs : List X) → ((x : X) → Among x xs → one x ≡ other x)
    → filter one xs ≡ filter other xs
same_kept one other [] each = refl
same_kept one other (x ∷ xs) each =
    ap (λ b. cond b (x ∷ filter one xs) (filter one xs)) (each x (inl refl))
    ∙ ap (λ kept. cond (other x) (x ∷ kept) kept) (same_kept one other xs (λ y h. each y (inr h)))

pub kept_mapped : {X Y : Type 0} (f : X → Y) (test : Y → Bool) (xs : List X)
    → length (filter (λ x. test (f x)) xs) ≡ length (filter test (map f xs))
kept_mapped f test xs =
    sym (length-map (filter (λ x. test (f x)) xs) f)
    ∙ sym (ap length (filter_carried f (λ x. test (f x)) test (λ x. refl) xs))

none_equal : (v : ℕ) (vs : List ℕ) → AllByRecursion (λ w. v ≢ w) vs → filter (λ w. w == v) vs ≡ []
none_equal v [] all = refl
none_equal v (w ∷ vs) all = rw (ne_eqb w v (λ same. all.0 (sym same))) (none_equal v vs all.1)

-- of different numbers one is the given one
pub one_equal : (v : ℕ) (vs : List ℕ) → Pairwise ◌≢◌ vs → Among v vs → length (filter (λ w. w == v) vs) ≡ 1
one_equal v [] differ h = absurd h
one_equal v (w ∷ vs) differ (inl same) =
    rw (eq-eqb w v (sym same))
    (ap (λ v. suc (length (filter (λ u. u == v) vs))) same ∙ ap (λ kept. suc (length kept)) (none_equal w vs differ.0))
one_equal v (w ∷ vs) differ (inr h) =
    rw (ne_eqb w v (among_all (λ u. w ≢ u) v vs differ.0 h)) (one_equal v vs differ.1 h)

-- of different numbers all but one stay
pub all_but_one : (test : ℕ → Bool) (v : ℕ) (vs : List ℕ) → ((w : ℕ) → Among w vs → test w ≡ not (w == v))
    → Pairwise ◌≢◌ vs → Among v vs → length (filter test vs) + 1 ≡ length vs
all_but_one test v vs same differ h =
    let kept = ap length (same_kept test (λ w. not (w == v)) vs same) in
    let one = one_equal v vs differ h in
    let all = length-filter_both (λ w. w == v) (λ w. not (w == v)) (λ w. refl) vs in
    omega (arith, kept, one, all)
