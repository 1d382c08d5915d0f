-- What lines give, once they are read.
use Rattle.std.proofs.Common.{◌≡◌, Result, Ok, Err}
use Rattle.std.specs.Result.{result_map_both}
use Rattle.cip_stereogroups.specs.declared.faults.GroupFault.{GroupFault}
use Rattle.cip_stereogroups.specs.declared.faults.GroupRefusal.{GroupRefusal}
use Rattle.cip_stereogroups.specs.Reading.{Gives}

pub ended_gives : {U A : Type 0} (found : A) (requested : Result A GroupFault) (read : Result U GroupRefusal)
    → (answer : Result A GroupRefusal) → answer ≡ result_map_both (λ _. found) (λ refusal. refusal) read
    → Gives (λ _. found) read requested → Gives (λ groups. groups) answer requested
ended_gives found requested (Ok x) answer is gives = rw is gives
ended_gives found requested (Err refusal) answer is gives = rw is gives
