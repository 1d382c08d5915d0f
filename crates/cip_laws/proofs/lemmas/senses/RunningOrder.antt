-- Turning from the first direction, each is met before those after it in the counterclockwise order.
use Rattle.std.proofs.Common.{◌≡◌, ◌<◌, ◌+◌, ◌-◌, ℕ, zero, suc, arith, sym, ◌∙◌, List, length, get_or, true, false}
use Rattle.std.specs.Prelude.{◌≢◌}
use Rattle.cip_num.specs.declared.plane.Vec2.{Vec2}
use Rattle.cip_num.specs.Around.{has_coincident, direction_at, precedes, IsCounterclockwise}
use Rattle.cip_num.proofs.lemmas.Permutations.{permutation_length, permutation_below, permutation_apart}
use Rattle.cip_laws.proofs.lemmas.senses.Rounds.{meets, first_met, meets_on, meets_turned}

module _ (ds : List Vec2) (ns : List ℕ) (clear : has_coincident ds ≡ false) (p : IsCounterclockwise ds ns) where
  below : (k : ℕ) → k < length ds → get_or ns k 0 < length ds
  below k lt = permutation_below (length ds) ns p.each k (let l = permutation_length (length ds) ns p.each in omega arith)

  apart : (k l : ℕ) → k < l → l < length ds → get_or ns k 0 ≢ get_or ns l 0
  apart k l lt within = permutation_apart (length ds) ns p.each k l lt (let e = permutation_length (length ds) ns p.each in omega arith)

  not_first : (k : ℕ) → 0 < k → k < length ds → 0 ≢ get_or ns k 0
  not_first k some lt e = apart 0 k some lt (p.first ∙ e)

  -- one direction and the next
  runs_on : (k : ℕ) → k + 1 < length ds → meets ds 0 (get_or ns k 0) (get_or ns (k + 1) 0) ≡ true
  unfolding meets
  runs_on zero lt = rw p.first (first_met ds clear 0 (get_or ns 1 0) (omega arith) (below 1 lt) (not_first 1 (omega arith) lt))
  runs_on (suc k) lt =
      sym (meets_turned ds clear 0 (get_or ns (suc k) 0) (get_or ns (suc k + 1) 0) (omega arith) (below (suc k) (omega arith)) (below (suc k + 1) lt) (not_first (suc k) (omega arith) (omega arith)) (not_first (suc k + 1) (omega arith) lt) (apart (suc k) (suc k + 1) (omega arith) lt))
      ∙ p.next (suc k) 0 lt (omega arith) (not_first (suc k) (omega arith) (omega arith)) (not_first (suc k + 1) (omega arith) lt)

  runs : (i k : ℕ) → i + k + 1 < length ds → meets ds 0 (get_or ns i 0) (get_or ns (i + k + 1) 0) ≡ true
  runs i zero lt = let e : i + 0 + 1 ≡ i + 1 = omega arith in rw e (runs_on i (omega arith))
  runs i (suc k) lt =
      let e : i + suc k + 1 ≡ (i + k + 1) + 1 = omega arith in
      rw e (meets_on ds clear 0 (get_or ns i 0) (get_or ns (i + k + 1) 0) (get_or ns ((i + k + 1) + 1) 0) (omega arith) (runs i k (omega arith)) (runs_on (i + k + 1) (omega arith)))

  pub order_runs : (i j : ℕ) → i < j → j < length ds → precedes (direction_at ds 0) (direction_at ds (get_or ns i 0)) (direction_at ds (get_or ns j 0)) ≡ true
  unfolding meets
  order_runs i j lt within =
      let e : i + (j - i - 1) + 1 ≡ j = omega arith in
      rw e at (runs i (j - i - 1) (omega arith))
