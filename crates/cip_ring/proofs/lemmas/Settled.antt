-- Where a step reaches nothing new, no further one does.
use Rattle.std.proofs.Common.{◌≡◌, ◌<◌, ◌≤◌, ◌+◌, ◌-◌, ℕ, zero, suc, false, List, length, take, sym, ap, ◌∙◌, arith, inl, inr}
use Rattle.std.specs.Prelude.{flat_map}
use Rattle.std.proofs.lemmas.Bool.{cases_lt}
use Rattle.std.proofs.lemmas.List.{take_all}
use Rattle.cip_digraph.specs.rings.Alternating.{is_in}
use Rattle.cip_digraph.specs.rings.SmallRings.{with_new}
use Rattle.cip_ring.specs.Neighbours.{IsOutside, next_within, NothingNew, within}

stays : (step : ℕ → List ℕ) (from steps : ℕ) → next_within step (within step from steps) ≡ within step from steps
    → (more : ℕ) → within step from (more + steps) ≡ within step from steps
stays step from steps e zero = let same : 0 + steps ≡ steps = omega arith in ap (within step from) same
stays step from steps e (suc more) =
    let same : suc more + steps ≡ suc (more + steps) = omega arith in
    ap (within step from) same ∙ ap (next_within step) (stays step from steps e more) ∙ e

pub outside_all : (step : ℕ → List ℕ) (from target most taken done : ℕ) (vertices : List ℕ)
    → vertices ≡ within step from taken
    → NothingNew step (take done vertices) vertices → length vertices ≤ done → is_in target vertices ≡ false
    → ((k : ℕ) → k < taken → is_in target (within step from k) ≡ false) → IsOutside step from target most
outside_all step from target most taken done vertices is nothing all out before =
    let same : next_within step vertices ≡ vertices =
    ap (λ vs. with_new vertices (flat_map step vs)) (sym (take_all done vertices all)) ∙ nothing.same in
    let settled : next_within step (within step from taken) ≡ within step from taken = rw (← is) same in
    let here : is_in target (within step from taken) ≡ false = ap (is_in target) (sym is) ∙ out in
    record {
      each = λ k le. elim (cases_lt k taken) [
        | inl lt ↦ before k lt
        | inr far ↦
            let sum : k ≡ (k - taken) + taken = omega (arith, far) in
            ap (λ n. is_in target (within step from n)) sum
            ∙ ap (is_in target) (stays step from taken settled (k - taken)) ∙ here
      ];
    }
