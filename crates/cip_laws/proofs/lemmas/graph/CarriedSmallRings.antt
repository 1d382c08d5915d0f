-- Small rings of a renamed graph, and from the other end of a bond.
use Rattle.std.proofs.Common.{◌≡◌, ◌⊎◌, inl, inr, ℕ, zero, suc, List, [], ◌∷◌, ◌++◌, map, filter, flat_map, refl, sym, ap, subst, ◌∙◌, Bool, true, false, not, cond, ◌==◌, ◌||◌, ◌&&◌}
use Rattle.std.proofs.lemmas.List.Sorted.{IsPermutation-sym}
use Rattle.cip_digraph.specs.rings.Alternating.{is_in}
use Rattle.cip_digraph.specs.graph.Graph.{Graph, neighbours}
use Rattle.cip_digraph.specs.rings.SmallRings.{neighbours_aside, with_new, within_steps, is_in_small_ring}
use Rattle.cip_digraph.specs.graph.SoundGraphs.{IsSound}
use Rattle.cip_symmetry.specs.Images.{Among}
use Rattle.cip_symmetry.proofs.lemmas.lists.Among.{among_map, from_map, among_filter, from_filter, among_left, among_right, from_append, among_flat, from_flat, among_arranged, in_from_among, among_from_in}
use Rattle.cip_symmetry.proofs.lemmas.lists.CarriedLists.{mapped_twice, same_eq}
use Rattle.cip_symmetry.specs.Renamed.{Way, way, ways, IsRenamed}
use Rattle.cip_symmetry.proofs.lemmas.graph.CarriedPositions.{neighbours_moved}
use Rattle.cip_laws.proofs.lemmas.graph.WaySymmetry.{leads_back}
use Rattle.std.proofs.Math.Bool.{and_comm, or_comm}
use Rattle.cip_symmetry.proofs.lemmas.lists.Truths.{same_truth}

among_new : (x : ℕ) (others vertices : List ℕ) → Among x vertices ⊎ Among x others → Among x (with_new vertices others)
among_new x [] vertices (inl h) = h
among_new x [] vertices (inr h) = absurd h
among_new x (y ∷ ys) vertices h = by (is_in y vertices) refl (λ vs g. among_new x ys vs g)
  where
    by : (b : Bool) → is_in y vertices ≡ b → ((vs : List ℕ) → Among x vs ⊎ Among x ys → Among x (with_new vs ys))
        → Among x (with_new (cond b vertices (vertices ++ y ∷ [])) ys)
    by true e rest = rest vertices (move h)
      where
        move : Among x vertices ⊎ Among x (y ∷ ys) → Among x vertices ⊎ Among x ys
        move (inl g) = inl g
        move (inr (inl same)) = inl (subst (λ v. Among v vertices) (sym same) (among_from_in y vertices e))
        move (inr (inr g)) = inr g
    by false e rest = rest (vertices ++ y ∷ []) (move h)
      where
        move : Among x vertices ⊎ Among x (y ∷ ys) → Among x (vertices ++ y ∷ []) ⊎ Among x ys
        move (inl g) = inl (among_left x vertices (y ∷ []) g)
        move (inr (inl same)) = inl (among_right x vertices (y ∷ []) (inl same))
        move (inr (inr g)) = inr g

from_new : (x : ℕ) (others vertices : List ℕ) → Among x (with_new vertices others) → Among x vertices ⊎ Among x others
from_new x [] vertices h = inl h
from_new x (y ∷ ys) vertices h = by (is_in y vertices) h (λ vs g. from_new x ys vs g)
  where
    by : (b : Bool) → Among x (with_new (cond b vertices (vertices ++ y ∷ [])) ys)
        → ((vs : List ℕ) → Among x (with_new vs ys) → Among x vs ⊎ Among x ys) → Among x vertices ⊎ Among x (y ∷ ys)
    by true g rest = move (rest vertices g)
      where
        move : Among x vertices ⊎ Among x ys → Among x vertices ⊎ Among x (y ∷ ys)
        move (inl k) = inl k
        move (inr k) = inr (inr k)
    by false g rest = move (rest (vertices ++ y ∷ []) g)
      where
        last : Among x vertices ⊎ Among x (y ∷ []) → Among x vertices ⊎ Among x (y ∷ ys)
        last (inl k) = inl k
        last (inr (inl same)) = inr (inl same)
        last (inr (inr bad)) = absurd bad

        move : Among x (vertices ++ y ∷ []) ⊎ Among x ys → Among x vertices ⊎ Among x (y ∷ ys)
        move (inl k) = last (from_append x vertices (y ∷ []) k)
        move (inr k) = inr (inr k)

-- the vertices n steps from one, by whichever steps
module _ (next : ℕ → List ℕ) where
  abbrev pub steps_from : ℕ → ℕ → List ℕ
  steps_from start zero = start ∷ []
  steps_from start (suc steps) = with_new (steps_from start steps) (flat_map next (steps_from start steps))

  stays : (start steps x : ℕ) → Among x (steps_from start steps) → Among x (steps_from start (suc steps))
  stays start steps x h = among_new x (flat_map next (steps_from start steps)) (steps_from start steps) (inl h)

  goes : (start steps y x : ℕ) → Among y (steps_from start steps) → Among x (next y)
      → Among x (steps_from start (suc steps))
  goes start steps y x h k =
      among_new x (flat_map next (steps_from start steps)) (steps_from start steps)
      (inr (among_flat next y x (steps_from start steps) h k))

  first_step : (start steps y x : ℕ) → Among y (next start) → Among x (steps_from y steps)
      → Among x (steps_from start (suc steps))
  first_step start zero y x h (inl e) = goes start zero start x (inl refl) (subst (λ v. Among v (next start)) (sym e) h)
  first_step start zero y x h (inr bad) = absurd bad
  first_step start (suc steps) y x h k = elim (from_new x (flat_map next (steps_from y steps)) (steps_from y steps) k) [
    | inl g ↦ stays start (suc steps) x (first_step start steps y x h g)
    | inr g ↦ let found = from_flat next x (steps_from y steps) g in
        goes start (suc steps) found.0 x (first_step start steps y found.0 h found.1) found.2
  ]

  pub turned_steps : ((x y : ℕ) → Among y (next x) → Among x (next y)) → (start steps x : ℕ)
      → Among x (steps_from start steps) → Among start (steps_from x steps)
  turned_steps back start zero x (inl e) = inl (sym e)
  turned_steps back start zero x (inr bad) = absurd bad
  turned_steps back start (suc steps) x h =
      elim (from_new x (flat_map next (steps_from start steps)) (steps_from start steps) h) [
        | inl g ↦ stays x steps start (turned_steps back start steps x g)
        | inr g ↦
            let found = from_flat next x (steps_from start steps) g in
            first_step x steps found.0 start (back found.0 x found.2) (turned_steps back start steps found.0 found.1)
      ]

as_steps : (graph : Graph) (a b steps : ℕ)
    → within_steps graph a b steps ≡ steps_from (neighbours_aside graph a b) a steps
as_steps graph a b zero = refl
as_steps graph a b (suc steps) =
    ap (λ vs. with_new vs (flat_map (neighbours_aside graph a b) vs)) (as_steps graph a b steps)

module _ (graph : Graph) (sound : IsSound graph) where
  neighbour_back : (x y : ℕ) → Among y (neighbours graph x) → Among x (neighbours graph y)
  neighbour_back x y h =
      let found =
      from_map (λ (w : Way). w.to) y (ways graph x)
      (subst (Among y) (sym (mapped_twice (way x) (λ (w : Way). w.to) _)) h) in
      let back = (leads_back graph sound x found.0 found.1).back in
      subst (Among x) (mapped_twice (way y) (λ (w : Way). w.to) _)
      (subst (λ v. Among x (map (λ (w : Way). w.to) (ways graph v))) (sym found.2)
      (among_map (λ (w : Way). w.to) _ (ways graph found.0.to) back))

  abbrev crosses : ℕ → ℕ → ℕ → ℕ → Bool
  crosses a b x y = ((x == a) && (y == b)) || ((x == b) && (y == a))

  crosses_back : (p q s t : Bool) → ((p && q) || (s && t)) ≡ ((t && s) || (q && p))
  crosses_back p q s t = rw (and_comm p q, and_comm s t) (or_comm (q && p) (t && s))

  aside_back : (a b x y : ℕ) → Among y (neighbours_aside graph a b x) → Among x (neighbours_aside graph a b y)
  aside_back a b x y h =
      let kept = from_filter (λ other. not (crosses a b x other)) y (neighbours graph x) h in
      among_filter (λ other. not (crosses a b y other)) x (neighbours graph y) (neighbour_back x y kept.0)
      (ap not (crosses_back (y == a) (x == b) (y == b) (x == a)) ∙ kept.1)

  aside_same : (a b : ℕ) → neighbours_aside graph a b ≡ neighbours_aside graph b a
  aside_same a b i vertex =
      filter (λ other. not (or_comm ((vertex == a) && (other == b)) ((vertex == b) && (other == a)) i))
      (neighbours graph vertex)

  -- within n steps, from either end
  pub steps_turned : (steps a b : ℕ) → is_in b (within_steps graph a b steps) ≡ is_in a (within_steps graph b a steps)
  steps_turned steps a b =
      same_truth (is_in b (within_steps graph a b steps)) (is_in a (within_steps graph b a steps)) (one a b) (one b a)
    where
      one : (a b : ℕ) → is_in b (within_steps graph a b steps) ≡ true → is_in a (within_steps graph b a steps) ≡ true
      one a b e =
          let h : Among b (steps_from (neighbours_aside graph a b) a steps) =
          subst (Among b) (as_steps graph a b steps) (among_from_in b (within_steps graph a b steps) e) in
          in_from_among a (within_steps graph b a steps)
          (subst (Among a) (ap (λ next. steps_from next b steps) (aside_same a b) ∙ sym (as_steps graph b a steps))
          (turned_steps (neighbours_aside graph a b) (aside_back a b) a steps b h))

  pub small_ring_back : (a b : ℕ) → is_in_small_ring graph a b ≡ is_in_small_ring graph b a
  small_ring_back a b = steps_turned 6 a b

module _ (graph other : Graph) (image : ℕ → ℕ) (r : IsRenamed graph other image) where
  neighbour_there : (x y : ℕ) → Among y (neighbours graph x) → Among (image y) (neighbours other (image x))
  neighbour_there x y h =
      among_arranged (image y) (map image (neighbours graph x)) (neighbours other (image x))
      (neighbours_moved graph other image r x) (among_map image y (neighbours graph x) h)

  neighbour_from : (x z : ℕ) → Among z (neighbours other (image x))
      → (y : ℕ) × Among y (neighbours graph x) × (z ≡ image y)
  neighbour_from x z h =
      from_map image z (neighbours graph x)
      (among_arranged z (neighbours other (image x)) (map image (neighbours graph x))
      (IsPermutation-sym (map image (neighbours graph x)) (neighbours other (image x))
      (neighbours_moved graph other image r x)) h)

  crosses_carried : (a b x y : ℕ)
      → not (((image x == image a) && (image y == image b)) || ((image x == image b) && (image y == image a)))
      ≡ not (((x == a) && (y == b)) || ((x == b) && (y == a)))
  crosses_carried a b x y =
      rw (
        same_eq image r.injective x a,
        same_eq image r.injective y b,
        same_eq image r.injective x b,
        same_eq image r.injective y a,
      )

  steps_there : (a b steps x : ℕ) → Among x (within_steps graph a b steps)
      → Among (image x) (within_steps other (image a) (image b) steps)
  steps_there a b zero x (inl e) = inl (ap image e)
  steps_there a b zero x (inr bad) = absurd bad
  steps_there a b (suc steps) x h =
      let before = within_steps graph a b steps in
      let theirs = within_steps other (image a) (image b) steps in
      among_new (image x) (flat_map (neighbours_aside other (image a) (image b)) theirs) theirs
      (elim (from_new x (flat_map (neighbours_aside graph a b) before) before h) [
        | inl g ↦ inl (steps_there a b steps x g)
        | inr g ↦
            let found = from_flat (neighbours_aside graph a b) x before g in
            let kept =
            from_filter (λ to. not (((found.0 == a) && (to == b)) || ((found.0 == b) && (to == a)))) x
            (neighbours graph found.0) found.2 in
            inr
            (among_flat (neighbours_aside other (image a) (image b)) (image found.0) (image x) theirs
            (steps_there a b steps found.0 found.1)
            (among_filter _ (image x) (neighbours other (image found.0)) (neighbour_there found.0 x kept.0)
            (crosses_carried a b found.0 x ∙ kept.1)))
      ])

  steps_back : (a b steps z : ℕ) → Among z (within_steps other (image a) (image b) steps)
      → (x : ℕ) × Among x (within_steps graph a b steps) × (z ≡ image x)
  steps_back a b zero z (inl e) = (a, inl refl, e)
  steps_back a b zero z (inr bad) = absurd bad
  steps_back a b (suc steps) z h =
      let before = within_steps graph a b steps in
      let theirs = within_steps other (image a) (image b) steps in
      elim (from_new z (flat_map (neighbours_aside other (image a) (image b)) theirs) theirs h) [
        | inl g ↦ let found = steps_back a b steps z g in
            (found.0, among_new found.0 (flat_map (neighbours_aside graph a b) before) before (inl found.1), found.2)
        | inr g ↦
            let there = from_flat (neighbours_aside other (image a) (image b)) z theirs g in
            let nearer = steps_back a b steps there.0 there.1 in
            let kept =
            from_filter
            (λ to. not (((there.0 == image a) && (to == image b)) || ((there.0 == image b) && (to == image a)))) z
            (neighbours other there.0) there.2 in
            let found = neighbour_from nearer.0 z (subst (λ v. Among z (neighbours other v)) nearer.2 kept.0) in
            let passes : not (((nearer.0 == a) && (found.0 == b)) || ((nearer.0 == b) && (found.0 == a))) ≡ true =
            sym (crosses_carried a b nearer.0 found.0) ∙ rw (← nearer.2, ← found.2) kept.1 in (
              found.0,
              among_new found.0 (flat_map (neighbours_aside graph a b) before) before
                  (inr
                  (among_flat (neighbours_aside graph a b) nearer.0 found.0 before nearer.1
                  (among_filter _ found.0 (neighbours graph nearer.0) found.1 passes))),
              found.2,
            )
      ]

  pub steps_carried : (steps a b : ℕ)
      → is_in (image b) (within_steps other (image a) (image b) steps) ≡ is_in b (within_steps graph a b steps)
  steps_carried steps a b =
      same_truth (is_in (image b) (within_steps other (image a) (image b) steps))
      (is_in b (within_steps graph a b steps))
      (λ e.
      let found =
      steps_back a b steps (image b) (among_from_in (image b) (within_steps other (image a) (image b) steps) e) in
      in_from_among b (within_steps graph a b steps)
      (subst (λ v. Among v (within_steps graph a b steps)) (sym (r.injective b found.0 found.2)) found.1))
      (λ e. in_from_among (image b) (within_steps other (image a) (image b) steps)
      (steps_there a b steps b (among_from_in b (within_steps graph a b steps) e)))

  pub small_ring_carried : (a b : ℕ) → is_in_small_ring other (image a) (image b) ≡ is_in_small_ring graph a b
  small_ring_carried a b = steps_carried 6 a b
