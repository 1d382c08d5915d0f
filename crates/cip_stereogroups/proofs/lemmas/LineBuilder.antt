-- Causes that are reported with the line of a fault.
use Rattle.std.proofs.Common.{◌≡◌, ℕ, Option, Some, None, Result, Ok, Err, refl, sym, ap, ◌∙◌}
use Rattle.cip_ctfile.specs.Refusals.{FailsBy}
use Rattle.cip_stereogroups.specs.declared.faults.GroupCause.{GroupCause}
use Rattle.cip_stereogroups.specs.declared.faults.GroupFault.{GroupFault}
use Rattle.cip_stereogroups.specs.Reading.{told_at}

abbrev given : {A : Type 0} → A → Result A GroupFault
given x = Ok x

abbrev fails_with : {A : Type 0} → GroupFault → Result A GroupFault
fails_with fault = Err fault

ok_is_no_fault : {A : Type 0} (x : A) (fault : GroupFault) → given x ≡ fails_with fault → ⊥
ok_is_no_fault x fault e = absurd cc

same_given : {A : Type 0} (x y : A) → given x ≡ given y → x ≡ y
same_given x y e = cc

same_fault : {A : Type 0} (one other : GroupFault) → fails_with {A = A} one ≡ fails_with other → one ≡ other
same_fault one other e = cc

pub read_from_told : {A : Type 0} (number : ℕ) (read : Result A GroupCause) (x : A)
    → told_at number read ≡ Ok x → Ok x ≡ read
read_from_told number (Ok y) x e = let same : y ≡ x = same_given y x e in (λ i. Ok (sym same i))
read_from_told {A} number (Err cause) x e =
    absurd (ok_is_no_fault {A = A} x (record { line = number; cause = cause }) (sym e))

-- where a cause of the one is a cause of the other, so is a refusal
pub refused_alike : {A B : Type 0} (refusal : Option GroupFault) (number : ℕ) (read : Result A GroupCause)
    (total : Result B GroupCause) → FailsBy refusal (told_at number read)
    → ((cause : GroupCause) → Err cause ≡ read → Err cause ≡ total) → FailsBy refusal (told_at number total)
refused_alike None number read total fails alike = tt
refused_alike (Some fault) number (Ok x) total fails alike = absurd (ok_is_no_fault x fault fails)
refused_alike {A} {B} (Some fault) number (Err cause) total fails alike =
    let same : record { line = number; cause = cause } ≡ fault =
    same_fault {A = A} (record { line = number; cause = cause }) fault fails in
    ap (told_at {A = B} number) (sym (alike cause refl)) ∙ (λ i. Err (same i))
