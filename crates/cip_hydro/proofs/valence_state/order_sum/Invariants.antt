use Rattle.std.proofs.Common.{◌≡◌, ◌≤◌, ◌*◌, map, take}
use Rattle.std.specs.Prelude.{sum}
use Rattle.cip_hydro.proofs.valence_state.order_sum.Given as goal

abbrev pub invariant-loop-bond : goal.invariant-loop-bond
invariant-loop-bond l = record {
  value : l.orders ≡ sum (map (λ bond. bond.order) (take l.bond-index l.bonds));
  few : l.orders ≤ 255 * l.bond-index;
}
