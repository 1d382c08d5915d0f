use Rattle.std.proofs.Common.{◌≡◌, ◌≤◌, map, All, vec_capacity, vec_len}
use Rattle.std.specs.List.{range_with_len}
use Rattle.cip_hydro.specs.Carriers.{HasFew}
use Rattle.cip_hydro.specs.ValenceState.{surroundings_at}
use Rattle.cip_hydro.proofs.valence_state.surroundings_of.Given as goal

abbrev pub invariant-loop-atom : goal.invariant-loop-atom
invariant-loop-atom l = record {
  value : l.all.items ≡ map (surroundings_at l.molecule) (range_with_len 0 l.atom);
  few : All HasFew l.all.items;
  count : vec_len l.all ≡ l.atom;
  room : l.count ≤ vec_capacity l.all;
}
