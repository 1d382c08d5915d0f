-- A target is reached in n steps exactly where the least number of steps is known.
use Rattle.std.proofs.Common.{◌≡◌, ◌+◌, ◌-◌, ℕ, List, zero, suc, true, sym, ap, ◌∙◌, subst, arith, length}
use Rattle.std.specs.Prelude.{flat_map, Some, None, is_some}
use Rattle.std.specs.declared.option.Option.{Option}
use Rattle.cip_digraph.specs.rings.Alternating.{is_in}
use Rattle.cip_digraph.specs.graph.Graph.{Graph}
use Rattle.cip_digraph.specs.rings.SmallRings.{is_in_small_ring, neighbours_aside}
use Rattle.cip_digraph.proofs.lemmas.ways.Reached.{new_keeps}
use Rattle.cip_ring.specs.AnyRings.{is_in_ring}
use Rattle.cip_ring.specs.Neighbours.{TellsLeast, within}
use Rattle.cip_ring.proofs.lemmas.Further.{within_aside}

stays : (step : ℕ → List ℕ) (from target steps : ℕ) → is_in target (within step from steps) ≡ true
    → (more : ℕ) → is_in target (within step from (more + steps)) ≡ true
stays step from target steps e zero =
    let same : steps ≡ 0 + steps = omega arith in
    subst (λ n. is_in target (within step from n) ≡ true) same e
stays step from target steps e (suc more) =
    let same : suc (more + steps) ≡ suc more + steps = omega arith in
    subst (λ n. is_in target (within step from n) ≡ true) same
    (new_keeps target (within step from (more + steps)) (flat_map step (within step from (more + steps)))
    (stays step from target steps e more))

node_data : (step : ℕ → List ℕ) (from target most : ℕ) (steps : Option ℕ) → TellsLeast step from target most steps
    → is_some steps ≡ is_in target (within step from most)
node_data step from target most (Some steps) least =
    let sum : (most - steps) + steps ≡ most = let few = least.few in omega (arith, few) in
    sym (subst (λ n. is_in target (within step from n) ≡ true) sum
    (stays step from target steps least.reached (most - steps)))
node_data step from target most None out = sym (out.each most (omega arith))

pub found_ring : (graph : Graph) (a b most : ℕ) (steps : Option ℕ) → most ≡ length graph.vertices
    → TellsLeast (neighbours_aside graph a b) a b most steps → is_some steps ≡ is_in_ring graph a b
found_ring graph a b most steps all least =
    node_data (neighbours_aside graph a b) a b most steps least
    ∙ ap (is_in b) (ap (within (neighbours_aside graph a b) a) all ∙ within_aside graph a b (length graph.vertices))

pub found_small_ring : (graph : Graph) (a b : ℕ) (steps : Option ℕ)
    → TellsLeast (neighbours_aside graph a b) a b 6 steps → is_some steps ≡ is_in_small_ring graph a b
found_small_ring graph a b steps least =
    node_data (neighbours_aside graph a b) a b 6 steps least ∙ ap (is_in b) (within_aside graph a b 6)
