-- The search for small rings finds one exactly where there is one.
use Rattle.std.proofs.Common.{◌≡◌, ◌≢◌, ◌⊎◌, ◌≤◌, ◌+◌, ◌-◌, ℕ, zero, suc, inl, inr, arith, refl, sym, ◌∙◌, ap, subst}
use Rattle.std.proofs.Common.{List, [], ◌∷◌, ◌++◌, length, length-append, Bool, true, false, cond, not, ◌==◌, ◌&&◌}
use Rattle.std.proofs.Common.{◌||◌, eqb-true, true≢false}
use Rattle.std.specs.List.{AllByRecursion, filter, flat_map}
use Rattle.std.proofs.lemmas.Bool.{or_parts, ne_eqb, eqb-false, eq-eqb, or_cases, or_left, or_right, not-true}
use Rattle.std.proofs.lemmas.Bool.{cases_Bool, and_right}
use Rattle.std.proofs.lemmas.List.Folds.{list_any-append}
use Rattle.std.proofs.Math.Bool.{or-false}
use Rattle.cip_digraph.specs.rings.Alternating.{is_in}
use Rattle.cip_digraph.specs.graph.Graph.{Graph, neighbours}
use Rattle.cip_digraph.specs.rings.RingsThrough.{Walks, IsRingThrough}
use Rattle.cip_digraph.specs.rings.SmallRings.{neighbours_aside, with_new, within_steps, is_in_small_ring}
use Rattle.cip_digraph.proofs.lemmas.lists.Elements.{Pairwise, pairwise_from_pairs, pairs_from_pairwise}

in_append : (x : ℕ) (xs ys : List ℕ) → is_in x (xs ++ ys) ≡ (is_in x xs || is_in x ys)
in_append x xs ys = list_any-append (λ other. other == x) xs ys

-- a vertex is among those with new ones exactly where it is among the one or the other
pub new_keeps : (x : ℕ) (xs ys : List ℕ) → is_in x xs ≡ true → is_in x (with_new xs ys) ≡ true
new_keeps x xs [] e = e
new_keeps x xs (y ∷ ys) e = new_keeps x (cond (is_in y xs) xs (xs ++ y ∷ [])) ys (by (is_in y xs))
  where
    by : (b : Bool) → is_in x (cond b xs (xs ++ y ∷ [])) ≡ true
    by true = e
    by false = in_append x xs (y ∷ []) ∙ or_left (is_in x xs) (is_in x (y ∷ [])) e

pub new_takes : (x : ℕ) (xs ys : List ℕ) → is_in x ys ≡ true → is_in x (with_new xs ys) ≡ true
new_takes x xs [] e = let bad : false ≡ true = e in cc
new_takes x xs (y ∷ ys) e =
    by (or_cases (y == x) (is_in x ys) e) (λ h. new_takes x (cond (is_in y xs) xs (xs ++ y ∷ [])) ys h)
  where
    here : (b : Bool) → is_in y xs ≡ b → y ≡ x → is_in x (cond b xs (xs ++ y ∷ [])) ≡ true
    here true h same = subst (λ z. is_in z xs ≡ true) same h
    here false h same = in_append x xs (y ∷ [])
        ∙ or_right (is_in x xs) (is_in x (y ∷ [])) (or_left (y == x) false (eq-eqb y x same))

    by : ((y == x) ≡ true) ⊎ (is_in x ys ≡ true) → (is_in x ys ≡ true → is_in x (with_new xs (y ∷ ys)) ≡ true)
        → is_in x (with_new xs (y ∷ ys)) ≡ true
    by (inl h) rest = new_keeps x (cond (is_in y xs) xs (xs ++ y ∷ [])) ys (here (is_in y xs) refl (eqb-true y x h))
    by (inr h) rest = rest h

pub new_gives : (x : ℕ) (xs ys : List ℕ) → is_in x (with_new xs ys) ≡ true → (is_in x xs ≡ true) ⊎ (is_in x ys ≡ true)
new_gives x xs [] e = inl e
new_gives x xs (y ∷ ys) e = by (is_in y xs) refl (new_gives x (cond (is_in y xs) xs (xs ++ y ∷ [])) ys e)
  where
    last : (is_in x xs ≡ true) ⊎ (is_in x (y ∷ []) ≡ true) → (is_in x xs ≡ true) ⊎ (is_in x (y ∷ ys) ≡ true)
    last (inl h) = inl h
    last (inr h) = inr (or_left (y == x) (is_in x ys) (sym (or-false (y == x)) ∙ h))

    by : (b : Bool) → is_in y xs ≡ b → (is_in x (cond b xs (xs ++ y ∷ [])) ≡ true) ⊎ (is_in x ys ≡ true)
        → (is_in x xs ≡ true) ⊎ (is_in x (y ∷ ys) ≡ true)
    by b h (inr g) = inr (or_right (y == x) (is_in x ys) g)
    by true h (inl g) = inl g
    by false h (inl g) = last (or_cases (is_in x xs) (is_in x (y ∷ [])) (sym (in_append x xs (y ∷ [])) ∙ g))

pub flat_takes : (f : ℕ → List ℕ) (x u : ℕ) (xs : List ℕ) → is_in u xs ≡ true → is_in x (f u) ≡ true
    → is_in x (flat_map f xs) ≡ true
flat_takes f x u [] e h = let bad : false ≡ true = e in cc
flat_takes f x u (y ∷ xs) e h = by (or_cases (y == u) (is_in u xs) e) (λ g. flat_takes f x u xs g h)
  where
    by : ((y == u) ≡ true) ⊎ (is_in u xs ≡ true) → (is_in u xs ≡ true → is_in x (flat_map f xs) ≡ true)
        → is_in x (f y ++ flat_map f xs) ≡ true
    by (inl g) rest = in_append x (f y) (flat_map f xs)
        ∙ or_left (is_in x (f y)) (is_in x (flat_map f xs)) (subst (λ z. is_in x (f z) ≡ true) (sym (eqb-true y u g)) h)
    by (inr g) rest = in_append x (f y) (flat_map f xs) ∙ or_right (is_in x (f y)) (is_in x (flat_map f xs)) (rest g)

pub flat_gives : (f : ℕ → List ℕ) (x : ℕ) (xs : List ℕ) → is_in x (flat_map f xs) ≡ true
    → (u : ℕ) × ((is_in u xs ≡ true) × (is_in x (f u) ≡ true))
flat_gives f x [] e = let bad : false ≡ true = e in cc
flat_gives f x (y ∷ xs) e =
    by (or_cases (is_in x (f y)) (is_in x (flat_map f xs)) (sym (in_append x (f y) (flat_map f xs)) ∙ e))
    (λ h. flat_gives f x xs h)
  where
    by : (is_in x (f y) ≡ true) ⊎ (is_in x (flat_map f xs) ≡ true)
        → (is_in x (flat_map f xs) ≡ true → (u : ℕ) × ((is_in u xs ≡ true) × (is_in x (f u) ≡ true)))
        → (u : ℕ) × ((is_in u (y ∷ xs) ≡ true) × (is_in x (f u) ≡ true))
    by (inl h) rest = (y, (or_left (y == y) (is_in y xs) (eq-eqb y y refl), h))
    by (inr h) rest = let found = rest h in
        (found.0, (or_right (y == found.0) (is_in (found.0) xs) found.1.0, found.1.1))

if_in : (x y : ℕ) (kept : Bool) (xs : List ℕ) → is_in x (cond kept (y ∷ xs) xs) ≡ true
    → ((y == x) ≡ true) × (kept ≡ true) ⊎ (is_in x xs ≡ true)
if_in x y true xs e = by (or_cases (y == x) (is_in x xs) e)
  where
    by : ((y == x) ≡ true) ⊎ (is_in x xs ≡ true) → ((y == x) ≡ true) × (true ≡ true) ⊎ (is_in x xs ≡ true)
    by (inl h) = inl (h, refl)
    by (inr h) = inr h
if_in x y false xs e = inr e

filter_gives : (test : ℕ → Bool) (x : ℕ) (xs : List ℕ) → is_in x (filter test xs) ≡ true
    → (is_in x xs ≡ true) × (test x ≡ true)
filter_gives test x [] e = let bad : false ≡ true = e in cc
filter_gives test x (y ∷ xs) e = by (if_in x y (test y) (filter test xs) e) (λ h. filter_gives test x xs h)
  where
    by : ((y == x) ≡ true) × (test y ≡ true) ⊎ (is_in x (filter test xs) ≡ true)
        → (is_in x (filter test xs) ≡ true → (is_in x xs ≡ true) × (test x ≡ true))
        → (is_in x (y ∷ xs) ≡ true) × (test x ≡ true)
    by (inl h) rest = (or_left (y == x) (is_in x xs) h.0, subst (λ z. test z ≡ true) (eqb-true y x h.0) h.1)
    by (inr h) rest = (or_right (y == x) (is_in x xs) (rest h).0, (rest h).1)

filter_takes : (test : ℕ → Bool) (x : ℕ) (xs : List ℕ) → is_in x xs ≡ true → test x ≡ true
    → is_in x (filter test xs) ≡ true
filter_takes test x [] e h = let bad : false ≡ true = e in cc
filter_takes test x (y ∷ xs) e h = by (test y) refl (or_cases (y == x) (is_in x xs) e) (λ g. filter_takes test x xs g h)
  where
    by : (b : Bool) → test y ≡ b → ((y == x) ≡ true) ⊎ (is_in x xs ≡ true)
        → (is_in x xs ≡ true → is_in x (filter test xs) ≡ true)
        → is_in x (cond b (y ∷ filter test xs) (filter test xs)) ≡ true
    by true k (inl g) rest = or_left (y == x) (is_in x (filter test xs)) g
    by true k (inr g) rest = or_right (y == x) (is_in x (filter test xs)) (rest g)
    by false k (inl g) rest = let bad : true ≡ false = sym h ∙ ap test (sym (eqb-true y x g)) ∙ k in cc
    by false k (inr g) rest = rest g

-- a walk by steps that a test admits
abbrev Way : (ℕ → ℕ → Bool) → ℕ → List ℕ → ℕ → Type 0
Way step at [] target = at ≡ target
Way step at (next ∷ others) target = (step at next ≡ true) × Way step next others target

way_longer : (step : ℕ → ℕ → Bool) (at middle target : ℕ) (others : List ℕ) → Way step at others middle
    → step middle target ≡ true → Way step at (others ++ target ∷ []) target
way_longer step at middle target [] way h = (subst (λ v. step v target ≡ true) (sym way) h, refl)
way_longer step at middle target (next ∷ others) way h = (way.0, way_longer step next middle target others way.1 h)

-- no vertex is met again
abbrev Once : ℕ → List ℕ → Type 0
Once at [] = Unit {0}
Once at (next ∷ others) = (is_in at (next ∷ others) ≡ false) × Once next others

record Short (step : ℕ → ℕ → Bool) (at : ℕ) (most : ℕ) (target : ℕ) : Type 0 where
  others : List ℕ
  few : length others ≤ most
  way : Way step at others target
  once : Once at others

from_there : (step : ℕ → ℕ → Bool) (at z : ℕ) (others : List ℕ) (target : ℕ) → Way step z others target → Once z others
    → ((z == at) ≡ true) ⊎ (is_in at others ≡ true) → Short step at (length others) target
from_there step at z others target way once (inl e) =
    let same : z ≡ at = eqb-true z at e in
    record {
      others = others;
      few = omega arith;
      way = rw (← same) way;
      once = rw (← same) once;
    }
from_there step at z [] target way once (inr e) = let bad : false ≡ true = e in cc
from_there step at z (u ∷ us) target way once (inr e) =
    let rest = from_there step at u us target way.1 once.1 (or_cases (u == at) (is_in at us) e) in
    let few = rest.few in
    record { others = rest.others; few = omega arith; way = rest.way; once = rest.once }

without_loops : (step : ℕ → ℕ → Bool) (at : ℕ) (others : List ℕ) (target : ℕ) → Way step at others target
    → Short step at (length others) target
without_loops step at [] target way = record { others = []; few = omega arith; way = way; once = tt }
without_loops step at (next ∷ others) target way =
    by (without_loops step next others target way.1)
    (cases_Bool (is_in at (next ∷ (without_loops step next others target way.1).others)))
  where
    by : (s : Short step next (length others) target)
        → (is_in at (next ∷ s.others) ≡ true) ⊎ (is_in at (next ∷ s.others) ≡ false)
        → Short step at (length (next ∷ others)) target
    by s (inl e) =
        let rest = from_there step at next s.others target s.way s.once (or_cases (next == at) (is_in at s.others) e) in
        let few = rest.few in
        let less = s.few in
        record { others = rest.others; few = omega arith; way = rest.way; once = rest.once }
    by s (inr e) = let less = s.few in
        record { others = next ∷ s.others; few = omega arith; way = (way.0, s.way); once = (e, s.once) }

off_list : (at : ℕ) (others : List ℕ) → is_in at others ≡ false → AllByRecursion (λ other. at ≢ other) others
off_list at [] e = tt
off_list at (next ∷ others) e = let p = or_parts (next == at) (is_in at others) e in
    ((λ same. eqb-false next at p.0 (sym same)), off_list at others p.1)

on_list : (at : ℕ) (others : List ℕ) → AllByRecursion (λ other. at ≢ other) others → is_in at others ≡ false
on_list at [] all = refl
on_list at (next ∷ others) all = rw (ne_eqb next at (λ same. all.0 (sym same))) (on_list at others all.1)

different_from_once : (at : ℕ) (others : List ℕ) → Once at others → Pairwise ◌≢◌ (at ∷ others)
different_from_once at [] once = (tt, tt)
different_from_once at (next ∷ others) once =
    (off_list at (next ∷ others) once.0, different_from_once next others once.1)

module _ (graph : Graph) (a b : ℕ) where
  abbrev aside : ℕ → ℕ → Bool
  aside vertex other = is_in other (neighbours_aside graph a b vertex)

  abbrev is_bond : ℕ → ℕ → Bool
  is_bond vertex other = ((vertex == a) && (other == b)) || ((vertex == b) && (other == a))

  reached : (steps target : ℕ) → is_in target (within_steps graph a b steps) ≡ true
      → (others : List ℕ) × ((length others ≤ steps) × Way aside a others target)
  reached zero target e = ([], (omega arith, only (or_cases (a == target) false e)))
    where
      only : ((a == target) ≡ true) ⊎ (false ≡ true) → a ≡ target
      only (inl h) = eqb-true a target h
      only (inr h) = let bad : false ≡ true = h in cc
  reached (suc steps) target e =
      let vertices = within_steps graph a b steps in
      by (new_gives target vertices (flat_map (neighbours_aside graph a b) vertices) e) (λ vertex. reached steps vertex)
    where
      by : (is_in target (within_steps graph a b steps) ≡ true) ⊎
          (is_in target (flat_map (neighbours_aside graph a b) (within_steps graph a b steps)) ≡ true)
          → ((vertex : ℕ) → is_in vertex (within_steps graph a b steps) ≡ true
          → (others : List ℕ) × ((length others ≤ steps) × Way aside a others vertex))
          → (others : List ℕ) × ((length others ≤ suc steps) × Way aside a others target)
      by (inl h) rest = let r = rest target h in (r.0, (let few = r.1.0 in omega arith, r.1.1))
      by (inr h) rest =
          let f = flat_gives (neighbours_aside graph a b) target (within_steps graph a b steps) h in
          let r = rest (f.0) f.1.0 in (
            r.0 ++ target ∷ [],
            (
              let few = r.1.0 in
                  omega (arith, length-append (r.0) (target ∷ []), few),
              way_longer aside a (f.0) target (r.0) r.1.1 f.1.1,
            ),
          )

  reaches_on : (steps vertex : ℕ) (others : List ℕ) (target : ℕ) → is_in vertex (within_steps graph a b steps) ≡ true
      → Way aside vertex others target
      → is_in target (within_steps graph a b (length others + steps)) ≡ true
  reaches_on steps vertex [] target e way =
      let same : 0 + steps ≡ steps = omega arith in
      rw (same, ← way) e
  reaches_on steps vertex (next ∷ others) target e way =
      let vertices = within_steps graph a b steps in
      let here : is_in next (within_steps graph a b (suc steps)) ≡ true =
      new_takes next vertices (flat_map (neighbours_aside graph a b) vertices)
      (flat_takes (neighbours_aside graph a b) next vertex vertices e way.0) in
      let more : length (next ∷ others) + steps ≡ length others + suc steps = omega arith in
      rw more (reaches_on (suc steps) next others target here way.1)

  stays_reached : (more steps target : ℕ) → is_in target (within_steps graph a b steps) ≡ true
      → is_in target (within_steps graph a b (more + steps)) ≡ true
  stays_reached zero steps target e =
      let same : 0 + steps ≡ steps = omega arith in
      rw same e
  stays_reached (suc more) steps target e =
      let here : is_in target (within_steps graph a b (suc steps)) ≡ true =
      new_keeps target (within_steps graph a b steps)
      (flat_map (neighbours_aside graph a b) (within_steps graph a b steps)) e in
      let sum : suc more + steps ≡ more + suc steps = omega arith in
      rw sum (stays_reached more (suc steps) target here)

  walk_of : (vertex : ℕ) (others : List ℕ) (target : ℕ) → Way aside vertex others target
      → Walks graph vertex others target
  walk_of vertex [] target way = way
  walk_of vertex (next ∷ others) target way = (
    (filter_gives (λ other. not (is_bond vertex other)) next (neighbours graph vertex) way.0).0,
    walk_of next others target way.1,
  )

  -- a way aside from the one end to the other has a vertex between them
  two_steps : a ≢ b → (others : List ℕ) → Way aside a others b → 2 ≤ length others
  two_steps differ [] way = absurd (differ way)
  two_steps differ (next ∷ []) way =
      let test = not-true (is_bond a next)
      (filter_gives (λ other. not (is_bond a other)) next (neighbours graph a) way.0).1 in
      let straight = (or_parts ((a == a) && (next == b)) _ test).0 in
      let bad : true ≡ false = sym (rw (eq-eqb a a refl, eq-eqb next b way.1) refl) ∙ straight in
      absurd (true≢false bad)
  two_steps differ (next ∷ more ∷ others) way = omega arith

  -- steps of a ring that begin elsewhere than at a don't lead along the bond
  not_bond : (vertex next : ℕ) → (vertex ≡ a → next ≢ b) → next ≢ a → is_bond vertex next ≡ false
  not_bond vertex next first back = by (vertex == a) refl
    where
      later : ((vertex == b) && (next == a)) ≡ false
      later = and_right (vertex == b) (next == a) (ne_eqb next a back)

      by : (p : Bool) → (vertex == a) ≡ p → ((p && (next == b)) || ((vertex == b) && (next == a))) ≡ false
      by true e = rw (ne_eqb next b (first (eqb-true vertex a e))) later
      by false e = later

  aside_later : (vertex : ℕ) (others : List ℕ) (target : ℕ) → Walks graph vertex others target → vertex ≢ a
      → AllByRecursion (λ other. a ≢ other) others → Way aside vertex others target
  aside_later vertex [] target way off all = way
  aside_later vertex (next ∷ others) target way off all = (
    filter_takes (λ other. not (is_bond vertex other)) next (neighbours graph vertex) way.0
        (ap not (not_bond vertex next (λ same. absurd (off same)) (λ same. all.0 (sym same)))),
    aside_later next others target way.1 (λ same. all.0 (sym same)) all.1,
  )

  -- the end of a walk that goes on differs from what all further vertices differ from
  end_off : (vertex at : ℕ) (others : List ℕ) → Walks graph at others b → vertex ≢ at
      → AllByRecursion (λ other. vertex ≢ other) others → vertex ≢ b
  end_off vertex at [] way off all = subst (λ v. vertex ≢ v) way off
  end_off vertex at (next ∷ others) way off all = end_off vertex next others way.1 all.0 all.1

  end_apart : (next : ℕ) (others : List ℕ) → Walks graph next others b → Pairwise ◌≢◌ (next ∷ others)
      → 1 ≤ length others → next ≢ b
  end_apart next [] way different some = absurd (omega arith)
  end_apart next (more ∷ others) way different some = end_off next more others way.1 different.0.0 different.0.1

  aside_first : (others : List ℕ) → Walks graph a others b → Pairwise ◌≢◌ (a ∷ others) → 2 ≤ length others
      → Way aside a others b
  aside_first [] way different some = absurd (omega arith)
  aside_first (next ∷ others) way different some = (
    filter_takes (λ other. not (is_bond a other)) next (neighbours graph a) way.0
        (ap not (not_bond a next (λ _. end_apart next others way.1 different.1 (omega arith))
        (λ same. different.0.0 (sym same)))),
    aside_later next others b way.1 (λ same. different.0.0 (sym same)) different.0.1,
  )

  pub ring_found : (steps : ℕ) → a ≢ b → is_in b (within_steps graph a b steps) ≡ true
      → (others : List ℕ) × (IsRingThrough graph a b others × (length others ≤ steps))
  ring_found steps differ e =
      let r = reached steps b e in
      let s = without_loops aside a (r.0) b r.1.1 in
      let few = r.1.0 in
      let less = s.few in (
        s.others,
        (
          record {
            way = walk_of a s.others b s.way;
            different = pairs_from_pairwise ◌≢◌ (a ∷ s.others) (different_from_once a s.others s.once);
            some = two_steps differ s.others s.way;
          },
          omega arith,
        ),
      )

  pub ring_finds : (steps : ℕ) → (others : List ℕ) × (IsRingThrough graph a b others × (length others ≤ steps))
      → is_in b (within_steps graph a b steps) ≡ true
  ring_finds steps given =
      let others = given.0 in
      let ring = given.1.0 in
      let few = given.1.1 in
      let way = aside_first others ring.way (pairwise_from_pairs ◌≢◌ (a ∷ others) ring.different) ring.some in
      let here : is_in b (within_steps graph a b (length others + 0)) ≡ true =
      reaches_on 0 a others b (or_left (a == a) false (eq-eqb a a refl)) way in
      let sum : (steps - length others) + (length others + 0) ≡ steps = omega arith in
      subst (λ n. is_in b (within_steps graph a b n) ≡ true) sum
      (stays_reached (steps - length others) (length others + 0) b here)

  pub small_ring_found : a ≢ b → is_in_small_ring graph a b ≡ true
      → (others : List ℕ) × (IsRingThrough graph a b others × (length others ≤ 6))
  small_ring_found = ring_found 6

  pub small_ring_finds : (others : List ℕ) × (IsRingThrough graph a b others × (length others ≤ 6))
      → is_in_small_ring graph a b ≡ true
  small_ring_finds = ring_finds 6
