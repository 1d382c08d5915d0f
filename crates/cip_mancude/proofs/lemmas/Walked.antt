-- What the search for alternating rings reaches, a walk reaches too.
use Rattle.std.proofs.Common.{◌≡◌, ◌⊎◌, ℕ, zero, suc, inl, inr, Bool, true, false, not, ◌==◌, List, ◌∷◌, refl, sym, ◌∙◌, subst, eqb-true}
use Rattle.std.specs.Prelude.{flat_map}
use Rattle.std.specs.List.{list_any}
use Rattle.std.proofs.lemmas.Bool.{and_parts, eq-eqb, or_cases, or_left}
use Rattle.cip_digraph.specs.rings.Alternating.{goes_on, is_in, partner, reaches, singles}
use Rattle.cip_digraph.specs.graph.Graph.{Graph}
use Rattle.cip_digraph.proofs.lemmas.ways.Alternating.{any_gives, if_goes}
use Rattle.cip_digraph.proofs.lemmas.ways.Reached.{flat_gives, flat_takes, new_gives, new_keeps, new_takes}
use Rattle.cip_ring.specs.Neighbours.{within}
use Rattle.cip_mancude.specs.Partners.{goes_through}
use Rattle.cip_mancude.specs.Walks.{onward, onward_of}

module _ (step : ℕ → List ℕ) where
  here : (at steps : ℕ) → is_in at (within step at steps) ≡ true
  here at zero = or_left (at == at) false (eq-eqb at at refl)
  here at (suc steps) = new_keeps at (within step at steps) (flat_map step (within step at steps)) (here at steps)

  one_on : (at vertex target steps : ℕ) → is_in vertex (within step at steps) ≡ true
      → is_in target (step vertex) ≡ true → is_in target (within step at (suc steps)) ≡ true
  one_on at vertex target steps e h =
      let vertices = within step at steps in
      new_takes target vertices (flat_map step vertices) (flat_takes step target vertex vertices e h)

  -- what is reached from where a step leads is reached with that step
  pub step_before : (at head : ℕ) → is_in head (step at) ≡ true → (steps target : ℕ)
      → is_in target (within step head steps) ≡ true
      → is_in target (within step at (suc steps)) ≡ true
  step_before at head e zero target h = only (or_cases (head == target) false h)
    where
      only : ((head == target) ≡ true) ⊎ (false ≡ true) → is_in target (within step at (suc zero)) ≡ true
      only (inl g) =
          one_on at at target zero (here at zero) (subst (λ v. is_in v (step at) ≡ true) (eqb-true head target g) e)
      only (inr g) = let bad : false ≡ true = g in cc
  step_before at head e (suc steps) target h =
      by (new_gives target (within step head steps) (flat_map step (within step head steps)) h)
      (λ vertex. step_before at head e steps vertex)
    where
      by : (is_in target (within step head steps) ≡ true) ⊎
          (is_in target (flat_map step (within step head steps)) ≡ true)
          → ((vertex : ℕ) → is_in vertex (within step head steps) ≡ true
          → is_in vertex (within step at (suc steps)) ≡ true)
          → is_in target (within step at (suc (suc steps))) ≡ true
      by (inl g) rest =
          new_keeps target (within step at (suc steps)) (flat_map step (within step at (suc steps))) (rest target g)
      by (inr g) rest =
          let f = flat_gives step target (within step head steps) g in
          one_on at (f.0) target (suc steps) (rest (f.0) f.1.0) f.1.1

-- a step of the search is one of the walk
onward_in : (graph : Graph) (path : List ℕ) (next : ℕ) → goes_on graph path next ≡ true
    → is_in (partner graph next) (onward_of graph next) ≡ true
onward_in graph path next e =
    let p = and_parts _ (not (is_in (partner graph next) path)) e in
    let q = and_parts _ (not (is_in next path)) p.0 in
    rw (q.0) (or_left (partner graph next == partner graph next) false
    (eq-eqb (partner graph next) (partner graph next) refl))

pub walk_found : (graph : Graph) (target more : ℕ) (path : List ℕ) (at : ℕ) → reaches graph target more path at ≡ true
    → is_in target (within (onward graph) at more) ≡ true
walk_found graph target zero path at e = e' (eqb-true at target e)
  where
    e' : at ≡ target → is_in target (within (onward graph) at zero) ≡ true
    e' same = subst (λ v. is_in v (within (onward graph) at zero) ≡ true) same (here (onward graph) at zero)
walk_found graph target (suc more) path at e =
    by (or_cases (at == target) (list_any (goes_through graph target more path) (singles graph at)) e)
    (λ next. walk_found graph target more (partner graph next ∷ next ∷ path) (partner graph next))
  where
    by : ((at == target) ≡ true) ⊎ (list_any (goes_through graph target more path) (singles graph at) ≡ true)
        → ((next : ℕ) → reaches graph target more (partner graph next ∷ next ∷ path) (partner graph next) ≡ true
        → is_in target (within (onward graph) (partner graph next) more) ≡ true)
        → is_in target (within (onward graph) at (suc more)) ≡ true
    by (inl h) rest =
        subst (λ v. is_in v (within (onward graph) at (suc more)) ≡ true) (eqb-true at target h)
        (here (onward graph) at (suc more))
    by (inr h) rest =
        let f = any_gives (goes_through graph target more path) (singles graph at) h in
        let parts = if_goes (goes_on graph path (f.0)) _ f.1.1 in
        step_before (onward graph) at (partner graph (f.0))
        (flat_takes (onward_of graph) (partner graph (f.0)) (f.0) (singles graph at) f.1.0
        (onward_in graph path (f.0) parts.0))
        more target (rest (f.0) parts.1)

none_by : (b : Bool) → (b ≡ true → false ≡ true) → false ≡ b
none_by true f = f refl
none_by false f = refl

pub no_ring : (graph : Graph) (target more : ℕ) (path : List ℕ) (at : ℕ)
    → is_in target (within (onward graph) at more) ≡ false → false ≡ reaches graph target more path at
no_ring graph target more path at none =
    none_by (reaches graph target more path at) (λ e. sym none ∙ walk_found graph target more path at e)
