-- A refusal that is passed on.
use Rattle.std.proofs.Common.{◌≡◌, Option, Some, None, Result, Err, sym}
use Rattle.cip_mol.specs.declared.labels.refusal.ReadFault.{ReadFault}
use Rattle.cip_mol.specs.declared.labels.refusal.ReadRefusal.{ReadRefusal}
use Rattle.cip_ctfile.specs.Reading.{Fails, fault_in}
use Rattle.cip_ctfile.specs.Refusals.{FailsBy}

-- where a fault of the one is a fault of the other, so is a refusal
pub fails_by_alike : {A B F : Type 0} (fault : Option F) (read : Result A F) (total : Result B F)
    → FailsBy fault read → ((f : F) → Err f ≡ read → total ≡ Err f) → FailsBy fault total
fails_by_alike None read total fails alike = tt
fails_by_alike (Some fault) read total fails alike = alike fault (sym fails)

pub fails_alike : {A B : Type 0} (refusal : ReadRefusal) (read : Result A ReadFault) (total : Result B ReadFault)
    → Fails refusal read → ((fault : ReadFault) → Err fault ≡ read → total ≡ Err fault) → Fails refusal total
fails_alike refusal read total fails alike = fails_by_alike (fault_in refusal) read total fails alike
