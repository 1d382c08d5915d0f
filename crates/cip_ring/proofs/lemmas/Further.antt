-- Vertices added where they aren't there: in parts, after those that are there, and not twice.
use Rattle.std.proofs.Common.{◌≡◌, ◌<◌, ◌≤◌, ◌+◌, ℕ, zero, suc, Bool, true, false, cond, ◌||◌, ◌==◌, List, [], ◌∷◌, ◌++◌, length, length-append, take, get_or, append_assoc, refl, sym, ap, ◌∙◌, arith}
use Rattle.std.specs.Prelude.{flat_map}
use Rattle.std.specs.List.{AllByRecursion}
use Rattle.std.proofs.lemmas.Bool.{eq-eqb, or_left, or_right}
use Rattle.std.proofs.lemmas.List.{append-nil, flat_map_more, get_or_append_left, take_at, take_more}
use Rattle.cip_digraph.specs.rings.Alternating.{is_in}
use Rattle.cip_digraph.specs.graph.Graph.{Graph}
use Rattle.cip_digraph.specs.rings.SmallRings.{neighbours_aside, with_new, within_steps}
use Rattle.cip_digraph.proofs.lemmas.ways.Reached.{new_keeps}
use Rattle.cip_ring.specs.Neighbours.{next_within, NothingNew, within}

pub in_parts : (vertices xs ys : List ℕ) → with_new vertices (xs ++ ys) ≡ with_new (with_new vertices xs) ys
in_parts vertices [] ys = refl
in_parts vertices (x ∷ xs) ys = in_parts (cond (is_in x vertices) vertices (vertices ++ x ∷ [])) xs ys

-- what is added comes after what is there
record Extends (vertices more : List ℕ) : Type 0 where
  added : List ℕ
  is : more ≡ vertices ++ added

longer_by : (x : ℕ) (b : Bool) (vertices more : List ℕ) → Extends (cond b vertices (vertices ++ x ∷ [])) more
    → Extends vertices more
longer_by x true vertices more e = e
longer_by x false vertices more e = record { added = x ∷ e.added; is = e.is ∙ append_assoc vertices (x ∷ []) e.added }

extends : (vertices xs : List ℕ) → Extends vertices (with_new vertices xs)
extends vertices [] = record { added = []; is = sym (append-nil vertices) }
extends vertices (x ∷ xs) =
    longer_by x (is_in x vertices) vertices _ (extends (cond (is_in x vertices) vertices (vertices ++ x ∷ [])) xs)

pub no_shorter : (vertices xs : List ℕ) → length vertices ≤ length (with_new vertices xs)
no_shorter vertices xs = let e = extends vertices xs in omega (arith, ap length e.is, length-append vertices e.added)

pub no_shorter_now : (vertices xs now : List ℕ) → now ≡ with_new vertices xs → length vertices ≤ length now
no_shorter_now vertices xs now e = rw e (no_shorter vertices xs)

pub begins_so : (vertices xs : List ℕ) → take (length vertices) (with_new vertices xs) ≡ vertices
begins_so vertices xs = let e = extends vertices xs in ap (take (length vertices)) e.is
    ∙ take_at vertices e.added (length vertices) refl

pub same_there : (vertices xs : List ℕ) (k d : ℕ) → k < length vertices
    → get_or (with_new vertices xs) k d ≡ get_or vertices k d
same_there vertices xs k d lt = let e = extends vertices xs in ap (λ vs. get_or vs k d) e.is
    ∙ get_or_append_left vertices e.added d k lt

pub left_by : (here there more : Bool) → (there ≡ true → more ≡ true) → (here || there) ≡ true → (here || more) ≡ true
left_by true there more f e = refl
left_by false there more f e = f e

in_left : (x : ℕ) (xs ys : List ℕ) → is_in x xs ≡ true → is_in x (xs ++ ys) ≡ true
in_left x [] ys e = let bad : false ≡ true = e in cc
in_left x (z ∷ xs) ys e = left_by (z == x) (is_in x xs) (is_in x (xs ++ ys)) (in_left x xs ys) e

in_end : (x : ℕ) (xs : List ℕ) → is_in x (xs ++ x ∷ []) ≡ true
in_end x [] = or_left (x == x) false (eq-eqb x x refl)
in_end x (z ∷ xs) = or_right (z == x) _ (in_end x xs)

added_in : (x : ℕ) (vertices : List ℕ) (b : Bool) → is_in x vertices ≡ b
    → is_in x (cond b vertices (vertices ++ x ∷ [])) ≡ true
added_in x vertices true e = e
added_in x vertices false e = in_end x vertices

all_in : (vertices xs : List ℕ) → AllByRecursion (λ x. is_in x (with_new vertices xs) ≡ true) xs
all_in vertices [] = tt
all_in vertices (x ∷ xs) =
    let more = cond (is_in x vertices) vertices (vertices ++ x ∷ []) in
    (new_keeps x more xs (added_in x vertices (is_in x vertices) refl), all_in more xs)

none_new : (vertices xs : List ℕ) → AllByRecursion (λ x. is_in x vertices ≡ true) xs → with_new vertices xs ≡ vertices
none_new vertices [] all = refl
none_new vertices (x ∷ xs) all = rw (all.0) (none_new vertices xs all.1)

-- adding the same again adds nothing
pub not_twice : (vertices xs : List ℕ) → with_new (with_new vertices xs) xs ≡ with_new vertices xs
not_twice vertices xs = none_new (with_new vertices xs) xs (all_in vertices xs)

pub one_more : (step : ℕ → List ℕ) (old now more : List ℕ) (place vertex : ℕ) → place < length old
    → now ≡ with_new old (flat_map step (take place old)) → vertex ≡ get_or now place 0
    → more ≡ with_new now (step vertex)
    → more ≡ with_new old (flat_map step (take (place + 1) old))
one_more step old now more place vertex lt before at is =
    let first : List ℕ = flat_map step (take place old) in
    let here : vertex ≡ get_or old place 0 = at ∙ ap (λ vs. get_or vs place 0) before
    ∙ same_there old first place 0 lt in
    let both : first ++ step vertex ≡ flat_map step (take (place + 1) old) =
    ap (λ v. first ++ step v) here
    ∙ flat_map_more step [] (take place old) (get_or old place 0)
    ∙ ap (flat_map step) (sym (take_more old place 0 lt)) in
    is ∙ ap (λ vs. with_new vs (step vertex)) before ∙ sym (in_parts old first (step vertex)) ∙ ap (with_new old) both

pub next_done : (step : ℕ → List ℕ) (vertices : List ℕ)
    → NothingNew step (take (length vertices) (next_within step vertices)) (next_within step vertices)
next_done step vertices = record {
  same =
      ap (λ vs. with_new (next_within step vertices) (flat_map step vs)) (begins_so vertices (flat_map step vertices))
      ∙ not_twice vertices (flat_map step vertices);
}

-- aside of a bond that is what the definition of small rings says
pub within_aside : (graph : Graph) (a b steps : ℕ)
    → within (neighbours_aside graph a b) a steps ≡ within_steps graph a b steps
within_aside graph a b zero = refl
within_aside graph a b (suc steps) = ap (next_within (neighbours_aside graph a b)) (within_aside graph a b steps)
