-- Where all nodes are requested.
use Rattle.std.proofs.Common.{◌≡◌, ◌<◌, ℕ, zero, suc, true, List, length, replicate, refl, arith, Result, Ok, Err, OnOk}
use Rattle.cip_aux.specs.DescriptorsInside.{AreWanted, flag_at}

-- with a flag at each node all are requested
pub wanted_at : (count k : ℕ) → k < count → flag_at (replicate count true) k ≡ true
wanted_at zero k h = absurd (omega arith)
wanted_at (suc count) zero h = refl
wanted_at (suc count) (suc k) h = wanted_at count k (omega arith)

pub all_wanted : (parents : List ℕ) (count : ℕ) → count ≡ length parents → AreWanted parents (replicate count true)
all_wanted parents count e = record { below = λ number some within parent_place. wanted_at count number (omega arith) }

pub on_by : {T E : Type 0} (P Q : Type 0) (result : Result T E) → (P → Q) → OnOk result P → OnOk result Q
on_by P Q (Ok value) f p = f p
on_by P Q (Err cause) f p = tt
