use Rattle.std.proofs.Common.{◌≡◌, ◌≤◌, ◌+◌, ◌*◌, drop, length}
use Rattle.cip_hydro.specs.Carriers.{carriers_from}
use Rattle.cip_hydro.proofs.valence_state.hydrogen_count.Given as goal

abbrev pub invariant-loop-around : goal.invariant-loop-around
invariant-loop-around l = record {
  value : l.count + length (carriers_from l.around-index (drop l.around-index l.surroundings))
      ≡ length (carriers_from 0 l.surroundings);
  few : l.count ≤ 255 * l.around-index;
}
