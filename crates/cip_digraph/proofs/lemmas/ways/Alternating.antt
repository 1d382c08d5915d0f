-- The search for alternating rings finds one exactly where there is one.
use Rattle.std.proofs.Common.{◌≡◌, ◌≢◌, ◌⊎◌, ◌≤◌, ◌*◌, ℕ, zero, suc, inl, inr, arith, refl, sym, ◌∙◌, ap, subst, List}
use Rattle.std.proofs.Common.{[], ◌∷◌, length, Bool, true, false, cond, not, ◌==◌, ◌||◌, eqb-true}
use Rattle.std.specs.List.{AllByRecursion, list_any, filter}
use Rattle.std.proofs.lemmas.Bool.{and_parts, or_parts, ne_eqb, eqb-false, eq-eqb, or_cases, or_left, or_right}
use Rattle.std.proofs.lemmas.Bool.{not-true}
use Rattle.std.proofs.lemmas.List.Elements.{All-from_recursion}
use Rattle.cip_digraph.specs.rings.Alternating.{is_in, counted_at, is_one_double, is_alternating, partner_by, partner}
use Rattle.cip_digraph.specs.rings.Alternating.{singles, goes_on, reaches, closes_ring}
use Rattle.cip_digraph.specs.rings.AlternatingRings.{Alternates, met, ring_of, IsAlternatingRing}
use Rattle.cip_digraph.specs.declared.drawing.graph.Edge.{Edge}
use Rattle.cip_digraph.specs.graph.Graph.{Graph, edges_at, touches}
use Rattle.cip_digraph.specs.graph.SoundGraphs.{JoinsBelow, IsSound}
use Rattle.cip_digraph.proofs.lemmas.lists.Elements.{all_by, all_filtered, by_recursion, Pairwise, pairwise_from_pairs}
use Rattle.cip_digraph.proofs.lemmas.lists.Elements.{pairs_from_pairwise, all_each}
use Rattle.cip_digraph.proofs.lemmas.bonds.Neighbours.{sorted_all}

-- what some element of a list of numbers passes, and back
pub any_gives : (test : ℕ → Bool) (xs : List ℕ) → list_any test xs ≡ true
    → (z : ℕ) × ((is_in z xs ≡ true) × (test z ≡ true))
any_gives test [] e = let bad : false ≡ true = e in cc
any_gives test (x ∷ xs) e = by (or_cases (test x) (list_any test xs) e) (any_gives test xs)
  where
    by : (test x ≡ true) ⊎ (list_any test xs ≡ true)
        → (list_any test xs ≡ true → (z : ℕ) × ((is_in z xs ≡ true) × (test z ≡ true)))
        → (z : ℕ) × ((is_in z (x ∷ xs) ≡ true) × (test z ≡ true))
    by (inl h) rest = (x, (or_left (x == x) (is_in x xs) (eq-eqb x x refl), h))
    by (inr h) rest = let found = rest h in
        (found.0, (or_right (x == found.0) (is_in (found.0) xs) found.1.0, found.1.1))

pub any_from : (test : ℕ → Bool) (xs : List ℕ) (z : ℕ) → is_in z xs ≡ true → test z ≡ true → list_any test xs ≡ true
any_from test [] z e h = let bad : false ≡ true = e in cc
any_from test (x ∷ xs) z e h = by (or_cases (x == z) (is_in z xs) e) (λ g. any_from test xs z g h)
  where
    by : ((x == z) ≡ true) ⊎ (is_in z xs ≡ true) → (is_in z xs ≡ true → list_any test xs ≡ true)
        → (test x || list_any test xs) ≡ true
    by (inl g) rest = or_left (test x) (list_any test xs) (ap test (eqb-true x z g) ∙ h)
    by (inr g) rest = or_right (test x) (list_any test xs) (rest g)

-- a step from a path: both atoms alternate, and neither is on it
pub record IsStep (graph : Graph) (path : List ℕ) (next : ℕ) : Type 0 where
  pub one : is_alternating graph next ≡ true
  pub other : is_alternating graph (partner graph next) ≡ true
  pub new_one : is_in next path ≡ false
  pub new_other : is_in (partner graph next) path ≡ false

pub step_from : (graph : Graph) (path : List ℕ) (next : ℕ) → goes_on graph path next ≡ true → IsStep graph path next
step_from graph path next e =
    let p = and_parts _ (not (is_in (partner graph next) path)) e in
    let q = and_parts _ (not (is_in next path)) p.0 in
    let r = and_parts (is_alternating graph next) (is_alternating graph (partner graph next)) q.0 in
    record {
      one = r.0;
      other = r.1;
      new_one = not-true (is_in next path) q.1;
      new_other =
          not-true (is_in (partner graph next) path) p.1;
    }

pub step_to : (graph : Graph) (path : List ℕ) (next : ℕ) → IsStep graph path next → goes_on graph path next ≡ true
step_to graph path next s = rw (s.one, s.other, s.new_one, s.new_other) refl

-- a way that meets no atom of a path, nor any twice
abbrev pub Steps : Graph → List ℕ → List ℕ → Type 0
Steps graph path [] = Unit {0}
Steps graph path (next ∷ others) = IsStep graph path next × Steps graph (partner graph next ∷ next ∷ path) others

pub record HasWay (graph : Graph) (target most : ℕ) (path : List ℕ) (at : ℕ) : Type 0 where
  pub nexts : List ℕ
  pub few : length nexts ≤ most
  pub way : Alternates graph at nexts target
  pub steps : Steps graph path nexts

pub if_goes : (goes found : Bool) → cond goes found false ≡ true → (goes ≡ true) × (found ≡ true)
if_goes true found e = (refl, e)
if_goes false found e = let bad : false ≡ true = e in cc

abbrev goes : Graph → ℕ → ℕ → List ℕ → ℕ → Bool
goes graph target most path next =
    cond (goes_on graph path next)
    (reaches graph target most (partner graph next ∷ next ∷ path) (partner graph next)) false

abbrev Further : Graph → ℕ → ℕ → List ℕ → Type 0
Further graph target most path =
    (next : ℕ) → reaches graph target most (partner graph next ∷ next ∷ path) (partner graph next) ≡ true
    → HasWay graph target most (partner graph next ∷ next ∷ path) (partner graph next)

found_by : (graph : Graph) (target most : ℕ) (path : List ℕ) (at : ℕ)
    → ((at == target) ≡ true) ⊎ (list_any (goes graph target most path) (singles graph at) ≡ true)
    → Further graph target most path
    → HasWay graph target (suc most) path at
found_by graph target most path at (inl h) rest =
    record { nexts = []; few = omega arith; way = eqb-true at target h; steps = tt }
found_by graph target most path at (inr h) rest =
    let f = any_gives (goes graph target most path) (singles graph at) h in
    let parts = if_goes (goes_on graph path (f.0)) _ f.1.1 in
    let w = rest (f.0) parts.1 in
    let few = w.few in
    record {
      nexts = f.0 ∷ w.nexts;
      few = omega arith;
      way = (f.1.0, w.way);
      steps =
          (step_from graph path (f.0) parts.0, w.steps);
    }

found : (graph : Graph) (target most : ℕ) (path : List ℕ) (at : ℕ) → reaches graph target most path at ≡ true
    → HasWay graph target most path at
found graph target zero path at e = record { nexts = []; few = omega arith; way = eqb-true at target e; steps = tt }
found graph target (suc most) path at e =
    found_by graph target most path at
    (or_cases (at == target) (list_any (goes graph target most path) (singles graph at)) e)
    (λ next. found graph target most (partner graph next ∷ next ∷ path) (partner graph next))

finds : (graph : Graph) (target most : ℕ) (path : List ℕ) (at : ℕ) (nexts : List ℕ) → length nexts ≤ most
    → Alternates graph at nexts target
    → Steps graph path nexts → reaches graph target most path at ≡ true
finds graph target zero path at [] few way steps = eq-eqb at target way
finds graph target zero path at (next ∷ others) few way steps = absurd (omega arith)
finds graph target (suc most) path at [] few way steps = or_left (at == target) _ (eq-eqb at target way)
finds graph target (suc most) path at (next ∷ others) few way steps =
    or_right (at == target) _
    (any_from (goes graph target most path) (singles graph at) next way.0
    (ap (λ b. cond b (reaches graph target most (partner graph next ∷ next ∷ path) (partner graph next)) false)
    (step_to graph path next steps.0)
    ∙ finds graph target most (partner graph next ∷ next ∷ path) (partner graph next) others
    (omega arith) way.1 steps.1))

-- no atom is its own partner
other_by : (count vertex : ℕ) (edge : Edge) → JoinsBelow count edge → (b : Bool) → (edge.a == vertex) ≡ b
    → cond b edge.b edge.a ≢ vertex
other_by count vertex edge j true e same = j.differ (eqb-true edge.a vertex e ∙ sym same)
other_by count vertex edge j false e same = eqb-false edge.a vertex e same

partner_by_differs : (count vertex : ℕ) (edges : List Edge) → is_one_double edges ≡ true
    → AllByRecursion (JoinsBelow count) edges → partner_by vertex edges ≢ vertex
partner_by_differs count vertex [] e all = let bad : false ≡ true = e in cc
partner_by_differs count vertex (edge ∷ edges) e all = other_by count vertex edge all.0 (edge.a == vertex) refl

module _ (graph : Graph) (sound : IsSound graph) where
  partner_differs : (vertex : ℕ) → is_alternating graph vertex ≡ true → vertex ≢ partner graph vertex
  partner_differs vertex e same =
      let count = length graph.vertices in
      let at = edges_at graph vertex in
      let all : AllByRecursion (JoinsBelow count) (counted_at graph vertex) =
      all_filtered (JoinsBelow count) (λ edge. edge.counted) at
      (sorted_all (JoinsBelow count) vertex (filter (touches vertex) graph.edges)
      (all_filtered (JoinsBelow count) (touches vertex) graph.edges
      (by_recursion (JoinsBelow count) graph.edges sound.edges))) in
      partner_by_differs count vertex (counted_at graph vertex)
      (and_parts (is_one_double (counted_at graph vertex)) _ e).0 all (sym same)

  -- an atom that isn't on a path which ends with two atoms is none of them
  not_among : (atom one other : ℕ) (path : List ℕ) → is_in atom (one ∷ other ∷ path) ≡ false
      → (one ≢ atom) × (other ≢ atom) × (is_in atom path ≡ false)
  not_among atom one other path e =
      let p = or_parts (one == atom) _ e in
      let q = or_parts (other == atom) _ p.1 in
      (eqb-false one atom p.0, eqb-false other atom q.0, q.1)

  among_none : (atom one other : ℕ) (path : List ℕ) → one ≢ atom → other ≢ atom → is_in atom path ≡ false
      → is_in atom (one ∷ other ∷ path) ≡ false
  among_none atom one other path e f g = rw (ne_eqb one atom e, ne_eqb other atom f) g

  -- what the steps of a way say of the atoms that it meets
  record AreNew (path nexts : List ℕ) : Type 0 where
    alternating : AllByRecursion (λ atom. is_alternating graph atom ≡ true) (met graph nexts)
    off : AllByRecursion (λ atom. is_in atom path ≡ false) (met graph nexts)
    different : Pairwise ◌≢◌ (met graph nexts)

  new_from_steps : (path nexts : List ℕ) → Steps graph path nexts → AreNew path nexts
  new_from_steps path [] steps = record { alternating = tt; off = tt; different = tt }
  new_from_steps path (next ∷ others) steps =
      let other = partner graph next in
      let s = steps.0 in
      let rest = new_from_steps (other ∷ next ∷ path) others steps.1 in
      record {
        alternating = (s.one, (s.other, rest.alternating));
        off = (
          s.new_one,
          (
            s.new_other,
            all_by (λ atom. is_in atom (other ∷ next ∷ path) ≡ false) (λ atom. is_in atom path ≡ false)
                (λ atom e. (not_among atom other next path e).2) (met graph others) rest.off,
          ),
        );
        different = (
          (
            partner_differs next s.one,
            all_by (λ atom. is_in atom (other ∷ next ∷ path) ≡ false) (λ atom. next ≢ atom)
                (λ atom e. (not_among atom other next path e).1) (met graph others) rest.off,
          ),
          (
            all_by (λ atom. is_in atom (other ∷ next ∷ path) ≡ false) (λ atom. other ≢ atom)
                (λ atom e. (not_among atom other next path e).0) (met graph others) rest.off,
            rest.different,
          ),
        );
      }

  both_apart : (one other : ℕ) (path atoms : List ℕ) → AllByRecursion (λ atom. one ≢ atom) atoms
      → AllByRecursion (λ atom. other ≢ atom) atoms
      → AllByRecursion (λ atom. is_in atom path ≡ false) atoms
      → AllByRecursion (λ atom. is_in atom (one ∷ other ∷ path) ≡ false) atoms
  both_apart one other path [] p q r = tt
  both_apart one other path (atom ∷ atoms) p q r =
      (among_none atom one other path p.0 q.0 r.0, both_apart one other path atoms p.1 q.1 r.1)

  steps_from_new : (path nexts : List ℕ) → AreNew path nexts → Steps graph path nexts
  steps_from_new path [] n = tt
  steps_from_new path (next ∷ others) n =
      let other = partner graph next in (
        record { one = n.alternating.0; other = n.alternating.1.0; new_one = n.off.0; new_other = n.off.1.0 },
        steps_from_new (other ∷ next ∷ path) others (record {
          alternating = n.alternating.1.1;
          off = both_apart other next path (met graph others) n.different.1.0 n.different.0.1 n.off.1.1;
          different = n.different.1.1;
        }),
      )

  met_length : (nexts : List ℕ) → length (met graph nexts) ≡ 2 * length nexts
  met_length [] = refl
  met_length (next ∷ others) = let rest = met_length others in omega arith

  target_alternates : (at target : ℕ) (nexts : List ℕ) → Alternates graph at nexts target
      → is_alternating graph at ≡ true
      → AllByRecursion (λ atom. is_alternating graph atom ≡ true) (met graph nexts) → is_alternating graph target ≡ true
  target_alternates at target [] way here all = subst (λ atom. is_alternating graph atom ≡ true) way here
  target_alternates at target (next ∷ others) way here all =
      target_alternates (partner graph next) target others way.1 all.1.0 all.1.1

  some_met : (vertex other : ℕ) (nexts : List ℕ) → Alternates graph (partner graph vertex) nexts other
      → partner graph vertex ≢ other
      → 4 ≤ length (ring_of graph vertex nexts)
  some_met vertex other [] way differ = absurd (differ way)
  some_met vertex other (next ∷ others) way differ = omega arith

  -- the end of a way that goes anywhere is one of the atoms that it meets
  end_met : (P : ℕ → Type 0) (target next : ℕ) (others : List ℕ) → Alternates graph (partner graph next) others target
      → AllByRecursion P (met graph (next ∷ others)) → P target
  end_met P target next [] way all = subst P way all.1.0
  end_met P target next (more ∷ others) way all = end_met P target more others way.1 all.1.1

  end_differs : (vertex other : ℕ) (nexts : List ℕ) → Alternates graph (partner graph vertex) nexts other
      → 4 ≤ length (ring_of graph vertex nexts)
      → AllByRecursion (λ atom. partner graph vertex ≢ atom) (met graph nexts) → partner graph vertex ≢ other
  end_differs vertex other [] way some all = absurd (omega arith)
  end_differs vertex other (next ∷ others) way some all =
      end_met (λ atom. partner graph vertex ≢ atom) other next others way.1 all

  -- a way from the double bond of an alternating atom to another atom closes a ring
  pub ring_of_way : (vertex other : ℕ) → is_alternating graph vertex ≡ true
      → is_alternating graph (partner graph vertex) ≡ true
      → is_in other (singles graph vertex) ≡ true → (other == partner graph vertex) ≡ false
      → (w : HasWay graph other 11 (partner graph vertex ∷ vertex ∷ []) (partner graph vertex))
      → IsAlternatingRing graph vertex other w.nexts
  ring_of_way vertex other here beside single differ w =
      let next = partner graph vertex in
      let n = new_from_steps (next ∷ vertex ∷ []) w.nexts w.steps in
      let few = w.few in
      record {
        single = single;
        way = w.way;
        alternating =
            All-from_recursion (λ atom. is_alternating graph atom ≡ true) (ring_of graph vertex w.nexts)
            (here, (beside, n.alternating));
        different = pairs_from_pairwise ◌≢◌ (ring_of graph vertex w.nexts) (
          (
            partner_differs vertex here,
            all_by (λ atom. is_in atom (next ∷ vertex ∷ []) ≡ false) (λ atom. vertex ≢ atom)
                (λ atom e. (not_among atom next vertex [] e).1) (met graph w.nexts) n.off,
          ),
          (
            all_by (λ atom. is_in atom (next ∷ vertex ∷ []) ≡ false) (λ atom. next ≢ atom)
                (λ atom e. (not_among atom next vertex [] e).0) (met graph w.nexts) n.off,
            n.different,
          ),
        );
        some = some_met vertex other w.nexts w.way (λ same. eqb-false other next differ (sym same));
        few = omega (arith, met_length w.nexts, few);
      }

  pub ring_found : (vertex other : ℕ) → closes_ring graph vertex other ≡ true
      → (nexts : List ℕ) × IsAlternatingRing graph vertex other nexts
  ring_found vertex other e =
      let next = partner graph vertex in
      let p = and_parts _ (reaches graph other 11 (next ∷ vertex ∷ []) next) e in
      let o = and_parts _ (not (other == next)) p.0 in
      let q = and_parts _ (is_in other (singles graph vertex)) o.0 in
      let r = and_parts _ (is_alternating graph other) q.0 in
      let s = and_parts (is_alternating graph vertex) (is_alternating graph next) r.0 in
      let w = found graph other 11 (next ∷ vertex ∷ []) next p.1 in
      (w.nexts, ring_of_way vertex other s.0 s.1 q.1 (not-true (other == next) o.1) w)

  -- the way round a ring, and what its first atoms are
  pub record GoesRound (vertex other : ℕ) (nexts : List ℕ) : Type 0 where
    pub here : is_alternating graph vertex ≡ true
    pub beside : is_alternating graph (partner graph vertex) ≡ true
    pub last : is_alternating graph other ≡ true
    pub single : is_in other (singles graph vertex) ≡ true
    pub differ : (other == partner graph vertex) ≡ false
    pub few : length nexts ≤ 11
    pub way : Alternates graph (partner graph vertex) nexts other
    pub steps : Steps graph (partner graph vertex ∷ vertex ∷ []) nexts

  pub way_of_ring : (vertex other : ℕ) (nexts : List ℕ) → IsAlternatingRing graph vertex other nexts
      → GoesRound vertex other nexts
  way_of_ring vertex other nexts ring =
      let next = partner graph vertex in
      let all : AllByRecursion (λ atom. is_alternating graph atom ≡ true) (ring_of graph vertex nexts) =
      by_recursion (λ atom. is_alternating graph atom ≡ true) (ring_of graph vertex nexts) ring.alternating in
      let different : Pairwise ◌≢◌ (ring_of graph vertex nexts) =
      pairwise_from_pairs ◌≢◌ (ring_of graph vertex nexts) ring.different in
      let new : AreNew (next ∷ vertex ∷ []) nexts = record {
        alternating = all.1.1;
        off = both_apart next vertex [] (met graph nexts) different.1.0 different.0.1
            (all_each (λ atom. is_in atom [] ≡ false) (λ _. refl) (met graph nexts));
        different = different.1.1;
      } in
      let few = ring.few in
      let differs = end_differs vertex other nexts ring.way ring.some different.1.0 in
      record {
        here = all.0;
        beside = all.1.0;
        last = target_alternates next other nexts ring.way all.1.0 all.1.1;
        single = ring.single;
        differ = ne_eqb other next (λ same. differs (sym same));
        few = omega (arith, met_length nexts, few);
        way = ring.way;
        steps = steps_from_new (next ∷ vertex ∷ []) nexts new;
      }

  pub ring_finds : (vertex other : ℕ) → (nexts : List ℕ) × IsAlternatingRing graph vertex other nexts
      → closes_ring graph vertex other ≡ true
  ring_finds vertex other given =
      let next = partner graph vertex in
      let round = way_of_ring vertex other given.0 given.1 in
      let reached : reaches graph other 11 (next ∷ vertex ∷ []) next ≡ true =
      finds graph other 11 (next ∷ vertex ∷ []) next given.0 round.few round.way round.steps in
      rw (round.here, round.beside, round.last, round.single, round.differ, reached) refl
