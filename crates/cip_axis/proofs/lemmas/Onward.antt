-- The double bonds that lead on along a chain, one edge at a time.
use Rattle.std.proofs.Common.{◌≡◌, ◌<◌, ◌+◌, ℕ, Bool, true, false, cond, not, ◌==◌, ◌&&◌, List, ◌∷◌, length, drop, get_or, map, refl, sym, ap, ◌∙◌, arith}
use Rattle.std.specs.Prelude.{filter, slice_index_or}
use Rattle.std.proofs.lemmas.List.{drop_more}
use Rattle.cip_digraph.specs.declared.drawing.graph.Edge.{Edge}
use Rattle.cip_digraph.specs.graph.Graph.{other_end}

abbrev pub onward_along : ℕ → ℕ → List Edge → List ℕ
onward_along before at edges =
    filter (λ other. not (other == before)) (map (other_end at) (filter (λ edge. edge.order == 2) edges))

abbrev pub leads : ℕ → ℕ → Edge → Bool
leads before at edge = (edge.order == 2) && not (other_end at edge == before)

pub one_on : (before at : ℕ) (edge : Edge) (edges : List Edge)
    → onward_along before at (edge ∷ edges)
    ≡ cond (leads before at edge) (other_end at edge ∷ onward_along before at edges) (onward_along before at edges)
one_on before at edge edges = by (edge.order == 2)
  where
    by : (a : Bool)
        → filter (λ other. not (other == before))
        (map (other_end at) (cond a (edge ∷ filter (λ e. e.order == 2) edges) (filter (λ e. e.order == 2) edges)))
        ≡ cond (a && not (other_end at edge == before)) (other_end at edge ∷ onward_along before at edges)
        (onward_along before at edges)
    by true = refl
    by false = refl

pub onward_next : (before at : ℕ) (items edges : List Edge) (k : ℕ) (d : Edge) (count step total : ℕ)
    → items ≡ edges → k < length items
    → count + length (onward_along before at (drop k edges)) ≡ total
    → step ≡ cond (leads before at (get_or items k d)) 1 0
    → (count + step) + length (onward_along before at (drop (k + 1) edges)) ≡ total
onward_next before at items edges k d count step total same lt sum is =
    let within : k < length edges = rw (← same) lt in
    let edge = get_or edges k d in
    let here : drop k edges ≡ edge ∷ drop (k + 1) edges = drop_more edges k d within in
    let there : step ≡ cond (leads before at edge) 1 0 =
    is ∙ ap (λ es. cond (leads before at (get_or es k d)) 1 0) same in
    let split : onward_along before at (drop k edges)
    ≡ cond (leads before at edge) (other_end at edge ∷ onward_along before at (drop (k + 1) edges))
    (onward_along before at (drop (k + 1) edges)) =
    ap (onward_along before at) here ∙ one_on before at edge (drop (k + 1) edges) in
    by (leads before at edge) there (ap length split)
  where
    by : (b : Bool) → step ≡ cond b 1 0
        → length (onward_along before at (drop k edges))
        ≡ length (cond b (other_end at (get_or edges k d) ∷ onward_along before at (drop (k + 1) edges))
        (onward_along before at (drop (k + 1) edges)))
        → (count + step) + length (onward_along before at (drop (k + 1) edges)) ≡ total
    by true e f = omega (arith, e, f, sum)
    by false e f = omega (arith, e, f, sum)

-- where an edge doesn't lead on, the first that does is after it
pub first_next : (before at : ℕ) (items edges : List Edge) (k : ℕ) (d : Edge) (first : ℕ)
    → items ≡ edges → k < length items
    → slice_index_or (onward_along before at (drop k edges)) 0 at ≡ first
    → leads before at (get_or items k d) ≡ false
    → slice_index_or (onward_along before at (drop (k + 1) edges)) 0 at ≡ first
first_next before at items edges k d first same lt before_is stays =
    let within : k < length edges = rw (← same) lt in
    let edge = get_or edges k d in
    let here : drop k edges ≡ edge ∷ drop (k + 1) edges = drop_more edges k d within in
    let none : leads before at edge ≡ false = ap (λ es. leads before at (get_or es k d)) (sym same) ∙ stays in
    sym
    (ap (λ ns. slice_index_or ns 0 at)
    (ap (onward_along before at) here ∙ one_on before at edge (drop (k + 1) edges)
    ∙ ap
    (λ b. cond b (other_end at edge ∷ onward_along before at (drop (k + 1) edges))
    (onward_along before at (drop (k + 1) edges))) none))
    ∙ before_is
