-- The search for ways, a step at a time; one that goes further finds no less, and one has only alternating atoms.
use Rattle.std.proofs.Common.{◌≡◌, ◌<◌, ◌-◌, ◌+◌, ℕ, zero, suc, Bool, true, false, cond, ◌==◌, ◌||◌, ◌&&◌, List, [], ◌∷◌, refl, sym, ap, ◌∙◌, arith}
use Rattle.std.specs.List.{list_any}
use Rattle.std.proofs.lemmas.Bool.{or_left, or_right}
use Rattle.cip_digraph.specs.rings.Alternating.{goes_on, is_alternating, is_in, partner, reaches, singles}
use Rattle.cip_digraph.specs.graph.Graph.{Graph, edges_at}
use Rattle.cip_mancude.specs.Partners.{goes_through}
use Rattle.cip_mancude.specs.SharedRings.{passes_along, passes_through, reaches_by, share_alternating_ring}
use Rattle.cip_mancude.proofs.lemmas.SharedWays.{shared_alternates}
use Rattle.cip_ring.proofs.lemmas.Further.{left_by}

pub reaches_none : (graph : Graph) (third target more : ℕ) (path : List ℕ) (at : ℕ) → more ≡ 0
    → reaches_by graph third target more path at ≡ ((at == target) && is_in third path)
reaches_none graph third target zero path at none = refl
reaches_none graph third target (suc more) path at none = absurd (omega (arith, none))

pub reaches_some : (graph : Graph) (third target more : ℕ) (path : List ℕ) (at : ℕ) → 0 < more
    → reaches_by graph third target more path at
    ≡ (((at == target) && is_in third path)
    || passes_along graph third target (more - 1) path at (edges_at graph at))
reaches_some graph third target zero path at some = absurd (omega (arith, some))
reaches_some graph third target (suc more) path at some =
    let same : suc more - 1 ≡ more = omega arith in rw same refl

-- what passes one test passes another
any_more : (one other : ℕ → Bool) → ((n : ℕ) → one n ≡ true → other n ≡ true) → (ns : List ℕ) → list_any one ns ≡ true
    → list_any other ns ≡ true
any_more one other more [] e = e
any_more one other more (n ∷ ns) e = by (one n) (other n) refl refl (more n) (any_more one other more ns)
  where
    by : (b c : Bool) → one n ≡ b → other n ≡ c → (one n ≡ true → other n ≡ true)
        → (list_any one ns ≡ true → list_any other ns ≡ true) → (other n || list_any other ns) ≡ true
    by b true f g here rest = rw g refl
    by true false f g here rest = let bad : false ≡ true = sym g ∙ here f in cc
    by false false f g here rest = rw g (rest (rw f at e))

if_more : (goes found more : Bool) → (found ≡ true → more ≡ true) → cond goes found false ≡ true
    → cond goes more false ≡ true
if_more true found more f e = f e
if_more false found more f e = e

further : (graph : Graph) (third target more : ℕ) (path : List ℕ) (at : ℕ)
    → reaches_by graph third target more path at ≡ true → reaches_by graph third target (suc more) path at ≡ true
further graph third target zero path at e = or_left ((at == target) && is_in third path) _ e
further graph third target (suc more) path at e =
    left_by ((at == target) && is_in third path) _ _
    (any_more (passes_through graph third target more path) (passes_through graph third target (suc more) path)
    (λ next. if_more (goes_on graph path next) _ _
    (further graph third target more (partner graph next ∷ next ∷ path) (partner graph next))) (singles graph at))
    e

pub further_by : (graph : Graph) (third target more steps : ℕ) (path : List ℕ) (at : ℕ)
    → reaches_by graph third target more path at ≡ true → reaches_by graph third target (steps + more) path at ≡ true
further_by graph third target more zero path at e = let same : more ≡ 0 + more = omega arith in rw (← same) e
further_by graph third target more (suc steps) path at e =
    let same : suc (steps + more) ≡ suc steps + more = omega arith in
    rw (← same)
    (further graph third target (steps + more) path at (further_by graph third target more steps path at e))

-- each way meets an atom that is on its path from the first

and_with : (a b : Bool) → b ≡ true → (a && b) ≡ a
and_with true b e = e
and_with false b e = refl

any_same : (one other : ℕ → Bool) → ((n : ℕ) → one n ≡ other n) → (ns : List ℕ) → list_any one ns ≡ list_any other ns
any_same one other same [] = refl
any_same one other same (n ∷ ns) = let rest = any_same one other same ns in rw (same n, rest) refl

pub by_any : (graph : Graph) (third target more : ℕ) (path : List ℕ) (at : ℕ) → is_in third path ≡ true
    → reaches_by graph third target more path at ≡ reaches graph target more path at
by_any graph third target zero path at e = and_with (at == target) (is_in third path) e
by_any graph third target (suc more) path at e =
    let rest : list_any (passes_through graph third target more path) (singles graph at)
    ≡ list_any (goes_through graph target more path) (singles graph at) =
    any_same (passes_through graph third target more path) (goes_through graph target more path)
    (λ next. let other = partner graph next in
    ap (λ found. cond (goes_on graph path next) found false)
    (by_any graph third target more (other ∷ next ∷ path) other
    (or_right (other == third) (is_in third (next ∷ path)) (or_right (next == third) (is_in third path) e))))
    (singles graph at) in
    ap (λ b. b || list_any (passes_through graph third target more path) (singles graph at))
    (and_with (at == target) (is_in third path) e)
    ∙ ap (λ b. (at == target) || b) rest

-- an atom that doesn't alternate shares no ring

none_by : (b c : Bool) → (b ≡ true → c ≡ true) → c ≡ false → b ≡ false
none_by true c f e = sym (f refl) ∙ e
none_by false c f e = refl

pub none_shared : (graph : Graph) (vertex third : ℕ) → is_alternating graph third ≡ false
    → share_alternating_ring graph vertex third ≡ false
none_shared graph vertex third e =
    none_by (share_alternating_ring graph vertex third) (is_alternating graph third) (shared_alternates graph vertex third) e
