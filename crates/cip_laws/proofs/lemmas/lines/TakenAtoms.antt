-- Atoms that are taken one after the other.
use Rattle.std.proofs.Common.{◌≡◌, ℕ, List, [], ◌∷◌, ◌++◌, ◌||◌, Bool, true, false, Ok, Err, refl, sym, ap, ◌∙◌}
use Rattle.std.specs.Prelude.{nat_eq}
use Rattle.std.specs.List.{list_any}
use Rattle.std.proofs.lemmas.Bool.{or_from, or_parts}
use Rattle.std.proofs.lemmas.List.{append-nil, append_assoc}
use Rattle.cip_ctfile.specs.Turns.{over}
use Rattle.cip_ctfile.proofs.lemmas.Given.{given_of}
use Rattle.cip_stereogroups.specs.declared.faults.GroupCause.TheVariants.{Repeated}
use Rattle.cip_stereogroups.specs.AtomLists.{with_taken, all_taken}
use Rattle.cip_laws.specs.GroupLines.{repeats}

-- atoms after others that repeat none
pub repeats_behind : (before atoms more : List ℕ) → repeats before atoms ≡ false
    → repeats before (atoms ++ more) ≡ repeats (before ++ atoms) more
repeats_behind before [] more e = ap (λ atoms. repeats atoms more) (sym (append-nil before))
repeats_behind before (atom ∷ atoms) more e =
    let parts = or_parts (list_any (nat_eq atom) before) (repeats (before ++ atom ∷ []) atoms) e in
    ap (λ b. b || repeats (before ++ atom ∷ []) (atoms ++ more)) parts.0
    ∙ repeats_behind (before ++ atom ∷ []) atoms more parts.1
    ∙ ap (λ all. repeats all more) (append_assoc before (atom ∷ []) atoms)

-- what was taken, none of which was there
pub record AreTaken (before atoms now : List ℕ) : Type 0 where
  pub all : now ≡ before ++ atoms
  pub free : repeats before atoms ≡ false

pub record IsTaken (before : List ℕ) (atom : ℕ) (now : List ℕ) : Type 0 where
  pub all : now ≡ before ++ atom ∷ []
  pub free : list_any (nat_eq atom) before ≡ false

pub taken_by : (before : List ℕ) (atom : ℕ) (now : List ℕ) (b : Bool) → list_any (nat_eq atom) before ≡ b
    → with_taken before atom ≡ Ok now → IsTaken before atom now
taken_by before atom now true is e = absurd (let no : (Err Repeated) ≡ Ok now = rw is at e in cc)
taken_by before atom now false is e = record { all = (let same : Ok (before ++ atom ∷ []) ≡ Ok now = rw is at e in cc); free = is }

pub taken_once : (before atoms now : List ℕ) → all_taken before atoms ≡ Ok now → AreTaken before atoms now
unfolding over
taken_once before [] now e = record { all = (let same : now ≡ before = cc in same ∙ sym (append-nil before)); free = refl }
taken_once before (atom ∷ atoms) now e =
    let first = given_of (with_taken before atom) (λ taken. all_taken taken atoms) now e in
    let one = taken_by before atom first.was (list_any (nat_eq atom) before) refl first.read_as in
    let rest = taken_once first.was atoms now first.gives in
    record {
      all = rest.all ∙ ap (λ taken. taken ++ atoms) one.all ∙ append_assoc before (atom ∷ []) atoms;
      free = or_from (list_any (nat_eq atom) before) (repeats (before ++ atom ∷ []) atoms) one.free
          (ap (λ taken. repeats taken atoms) (sym one.all) ∙ rest.free);
    }
