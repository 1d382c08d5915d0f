-- Two atoms share an alternating ring exactly where the search finds a way that meets both.
use Rattle.std.proofs.Common.{◌≡◌, ◌⊎◌, ◌≤◌, ℕ, zero, suc, inl, inr, Bool, true, false, cond, not, ◌==◌, ◌||◌, ◌&&◌, List, [], ◌∷◌, length, refl, sym, ap, ◌∙◌, subst, arith, eqb-true}
use Rattle.std.specs.List.{AllByRecursion, list_any}
use Rattle.std.proofs.lemmas.Bool.{and_parts, and_from, eq-eqb, or_cases, or_left, or_right, not-true}
use Rattle.cip_digraph.specs.rings.Alternating.{is_in, is_alternating, partner, singles, goes_on}
use Rattle.cip_digraph.specs.rings.AlternatingRings.{Alternates, met, ring_of}
use Rattle.cip_digraph.specs.graph.Graph.{Graph}
use Rattle.cip_digraph.specs.graph.SoundGraphs.{IsSound}
use Rattle.cip_digraph.proofs.lemmas.ways.Alternating.{HasWay, Steps, any_from, any_gives, if_goes}
use Rattle.cip_digraph.proofs.lemmas.ways.Alternating.{ring_of_way, step_from, step_to, way_of_ring}
use Rattle.cip_mancude.specs.SharedRings.{ShareRing, SharedRingsAreFound, passes_through, reaches_by, ring_meets, share_alternating_ring}

-- a path and what a way after it meets
abbrev walked : Graph → List ℕ → List ℕ → List ℕ
walked graph path [] = path
walked graph path (next ∷ others) = walked graph (partner graph next ∷ next ∷ path) others

record HasWayBy (graph : Graph) (third target most : ℕ) (path : List ℕ) (at : ℕ) : Type 0 where
  round : HasWay graph target most path at
  meets : is_in third (walked graph path round.nexts) ≡ true

abbrev Further : Graph → ℕ → ℕ → ℕ → List ℕ → Type 0
Further graph third target most path =
    (next : ℕ) → reaches_by graph third target most (partner graph next ∷ next ∷ path) (partner graph next) ≡ true
    → HasWayBy graph third target most (partner graph next ∷ next ∷ path) (partner graph next)

here_by : (graph : Graph) (third target most : ℕ) (path : List ℕ) (at : ℕ)
    → ((at == target) && is_in third path) ≡ true → HasWayBy graph third target most path at
here_by graph third target most path at e =
    let p = and_parts (at == target) (is_in third path) e in
    record {
      round = record { nexts = []; few = omega arith; way = eqb-true at target p.0; steps = tt };
      meets = p.1;
    }

found_by : (graph : Graph) (third target most : ℕ) (path : List ℕ) (at : ℕ)
    → (((at == target) && is_in third path) ≡ true)
    ⊎ (list_any (passes_through graph third target most path) (singles graph at) ≡ true)
    → Further graph third target most path
    → HasWayBy graph third target (suc most) path at
found_by graph third target most path at (inl h) rest = here_by graph third target (suc most) path at h
found_by graph third target most path at (inr h) rest =
    let f = any_gives (passes_through graph third target most path) (singles graph at) h in
    let parts = if_goes (goes_on graph path (f.0)) _ f.1.1 in
    let w = rest (f.0) parts.1 in
    let few = w.round.few in
    record {
      round = record {
        nexts = f.0 ∷ w.round.nexts;
        few = omega arith;
        way = (f.1.0, w.round.way);
        steps = (step_from graph path (f.0) parts.0, w.round.steps);
      };
      meets = w.meets;
    }

found : (graph : Graph) (third target most : ℕ) (path : List ℕ) (at : ℕ)
    → reaches_by graph third target most path at ≡ true → HasWayBy graph third target most path at
found graph third target zero path at e = here_by graph third target zero path at e
found graph third target (suc most) path at e =
    found_by graph third target most path at
    (or_cases ((at == target) && is_in third path)
    (list_any (passes_through graph third target most path) (singles graph at)) e)
    (λ next. found graph third target most (partner graph next ∷ next ∷ path) (partner graph next))

finds : (graph : Graph) (third target most : ℕ) (path : List ℕ) (at : ℕ) (nexts : List ℕ) → length nexts ≤ most
    → Alternates graph at nexts target → Steps graph path nexts → is_in third (walked graph path nexts) ≡ true
    → reaches_by graph third target most path at ≡ true
finds graph third target zero path at [] few way steps meets =
    and_from (at == target) (is_in third path) (eq-eqb at target way) meets
finds graph third target zero path at (next ∷ others) few way steps meets = absurd (omega arith)
finds graph third target (suc most) path at [] few way steps meets =
    or_left ((at == target) && is_in third path) _
    (and_from (at == target) (is_in third path) (eq-eqb at target way) meets)
finds graph third target (suc most) path at (next ∷ others) few way steps meets =
    or_right ((at == target) && is_in third path) _
    (any_from (passes_through graph third target most path) (singles graph at) next way.0
    (ap (λ b. cond b (reaches_by graph third target most (partner graph next ∷ next ∷ path) (partner graph next)) false)
    (step_to graph path next steps.0)
    ∙ finds graph third target most (partner graph next ∷ next ∷ path) (partner graph next) others
    (omega arith) way.1 steps.1 meets))

-- what is met is on the path or after it

in_order : (a b p m : Bool) → ((a || (b || p)) || m) ≡ (p || (b || (a || m)))
in_order a b p m = grind arith

none_behind : (b : Bool) → b ≡ (b || false)
none_behind b = grind arith

walked_meets : (graph : Graph) (third : ℕ) (path nexts : List ℕ)
    → is_in third (walked graph path nexts) ≡ (is_in third path || is_in third (met graph nexts))
walked_meets graph third path [] = none_behind (is_in third path)
walked_meets graph third path (next ∷ others) =
    walked_meets graph third (partner graph next ∷ next ∷ path) others
    ∙ in_order (partner graph next == third) (next == third) (is_in third path) (is_in third (met graph others))

round_meets : (graph : Graph) (third vertex : ℕ) (nexts : List ℕ)
    → is_in third (walked graph (partner graph vertex ∷ vertex ∷ []) nexts) ≡ is_in third (ring_of graph vertex nexts)
round_meets graph third vertex nexts =
    walked_meets graph third (partner graph vertex ∷ vertex ∷ []) nexts
    ∙ in_order (partner graph vertex == third) (vertex == third) false (is_in third (met graph nexts))

-- all that is met alternates

abbrev AllAlternate : Graph → List ℕ → Type 0
AllAlternate graph atoms = AllByRecursion (λ atom. is_alternating graph atom ≡ true) atoms

walked_alternates : (graph : Graph) (path nexts : List ℕ) → AllAlternate graph path → Steps graph path nexts
    → AllAlternate graph (walked graph path nexts)
walked_alternates graph path [] all steps = all
walked_alternates graph path (next ∷ others) all steps =
    walked_alternates graph (partner graph next ∷ next ∷ path) others (steps.0.other, (steps.0.one, all)) steps.1

one_of : (graph : Graph) (third : ℕ) (atoms : List ℕ) → AllAlternate graph atoms → is_in third atoms ≡ true
    → is_alternating graph third ≡ true
one_of graph third [] all e = let bad : false ≡ true = e in cc
one_of graph third (atom ∷ atoms) all e = elim (or_cases (atom == third) (is_in third atoms) e) [
  | inl here ↦ subst (λ v. is_alternating graph v ≡ true) (eqb-true atom third here) all.0
  | inr later ↦ one_of graph third atoms all.1 later
]

-- what a search that finds a shared ring has found
record IsShared (graph : Graph) (vertex third : ℕ) : Type 0 where
  here : is_alternating graph vertex ≡ true
  beside : is_alternating graph (partner graph vertex) ≡ true
  other : ℕ
  single : is_in other (singles graph vertex) ≡ true
  differ : (other == partner graph vertex) ≡ false
  way : HasWayBy graph third other 11 (partner graph vertex ∷ vertex ∷ []) (partner graph vertex)

shared_parts : (graph : Graph) (vertex third : ℕ) → share_alternating_ring graph vertex third ≡ true → IsShared graph vertex third
unfolding share_alternating_ring
shared_parts graph vertex third e =
    let next = partner graph vertex in
    let p = and_parts _ (list_any (ring_meets graph 11 third vertex) (singles graph vertex)) e in
    let q = and_parts (is_alternating graph vertex) (is_alternating graph next) p.0 in
    let any = any_gives (ring_meets graph 11 third vertex) (singles graph vertex) p.1 in
    let r = and_parts _ (reaches_by graph third (any.0) 11 (next ∷ vertex ∷ []) next) any.1.1 in
    let s = and_parts (is_alternating graph (any.0)) (not (any.0 == next)) r.0 in
    record {
      here = q.0;
      beside = q.1;
      other = any.0;
      single = any.1.0;
      differ = not-true (any.0 == next) s.1;
      way = found graph third (any.0) 11 (next ∷ vertex ∷ []) next r.1;
    }

pub shared_alternates : (graph : Graph) (vertex third : ℕ) → share_alternating_ring graph vertex third ≡ true
    → is_alternating graph third ≡ true
shared_alternates graph vertex third e =
    let s = shared_parts graph vertex third e in
    let path = partner graph vertex ∷ vertex ∷ [] in
    one_of graph third (walked graph path s.way.round.nexts)
    (walked_alternates graph path s.way.round.nexts (s.beside, (s.here, tt)) s.way.round.steps) s.way.meets

shares : (graph : Graph) → IsSound graph → (vertex third : ℕ) → share_alternating_ring graph vertex third ≡ true
    → ShareRing graph vertex third
shares graph sound vertex third e =
    let s = shared_parts graph vertex third e in
    record {
      other = s.other;
      nexts = s.way.round.nexts;
      ring = ring_of_way graph sound vertex s.other s.here s.beside s.single s.differ s.way.round;
      holds = sym (round_meets graph third vertex s.way.round.nexts) ∙ s.way.meets;
    }

meets_by : (graph : Graph) (vertex third other : ℕ) → is_alternating graph other ≡ true
    → (other == partner graph vertex) ≡ false
    → reaches_by graph third other 11 (partner graph vertex ∷ vertex ∷ []) (partner graph vertex) ≡ true
    → ring_meets graph 11 third vertex other ≡ true
meets_by graph vertex third other last differ reached = rw (last, differ, reached) refl

shared_from : (graph : Graph) → IsSound graph → (vertex third : ℕ) → ShareRing graph vertex third
    → share_alternating_ring graph vertex third ≡ true
unfolding share_alternating_ring
shared_from graph sound vertex third s =
    let next = partner graph vertex in
    let round = way_of_ring graph sound vertex s.other s.nexts s.ring in
    let reached : reaches_by graph third s.other 11 (next ∷ vertex ∷ []) next ≡ true =
    finds graph third s.other 11 (next ∷ vertex ∷ []) next s.nexts round.few round.way round.steps
    (round_meets graph third vertex s.nexts ∙ s.holds) in
    let any : list_any (ring_meets graph 11 third vertex) (singles graph vertex) ≡ true =
    any_from (ring_meets graph 11 third vertex) (singles graph vertex) s.other round.single
    (meets_by graph vertex third s.other round.last round.differ reached) in
    and_from _ (list_any (ring_meets graph 11 third vertex) (singles graph vertex))
    (and_from (is_alternating graph vertex) (is_alternating graph next) round.here round.beside) any

pub shared_rings_are_found : SharedRingsAreFound
shared_rings_are_found graph sound vertex third = record {
  found = shares graph sound vertex third;
  finds = shared_from graph sound vertex third;
}
