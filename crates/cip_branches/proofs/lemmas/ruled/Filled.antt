-- Columns of one item, and flags that are all set.
use Rattle.std.proofs.Common.{◌≡◌, ◌<◌, ◌+◌, ◌++◌, ◌∷◌, [], ℕ, zero, suc, true, replicate, refl, arith}
use Rattle.std.proofs.lemmas.List.{replicate-append-replicate}
use Rattle.cip_partition.specs.Parting.{has_flag}

pub filled_more : {T : Type 0} (n : ℕ) (item : T) → replicate n item ++ item ∷ [] ≡ replicate (n + 1) item
filled_more n item = replicate-append-replicate n 1 item

pub all_set : (n k : ℕ) → k < n → has_flag (replicate n true) k ≡ true
all_set zero k lt = absurd (omega (arith, lt))
all_set (suc n) zero lt = refl
all_set (suc n) (suc k) lt = all_set n k (omega (arith, lt))
