-- One atom more of a group line.
use Rattle.std.proofs.Common.{◌≡◌, ℕ, List, [], ◌∷◌, ◌++◌, Ok, Err, true, false, refl, nat_eq}
use Rattle.std.specs.List.{list_any}
use Rattle.cip_stereogroups.specs.declared.faults.GroupCause.{GroupCause}
use Rattle.cip_stereogroups.specs.declared.faults.GroupCause.TheVariants.{Repeated}
use Rattle.cip_stereogroups.specs.AtomLists.{atom_of, with_atom, with_taken}

pub atom_read : (indices before name : List ℕ) (atom : ℕ) → Ok atom ≡ atom_of indices name
    → Ok (before ++ atom ∷ []) ≡ with_atom indices before name
atom_read indices before name atom is = rw (← is) refl

pub atom_refused : (indices before name : List ℕ) (cause : GroupCause) → Err cause ≡ atom_of indices name
    → Err cause ≡ with_atom indices before name
atom_refused indices before name cause is = rw (← is) refl

pub taken_again : (taken : List ℕ) (atom : ℕ) → list_any (nat_eq atom) taken ≡ true
    → Err Repeated ≡ with_taken taken atom
taken_again taken atom is = rw is refl

pub taken_first : (taken : List ℕ) (atom : ℕ) → list_any (nat_eq atom) taken ≡ false
    → Ok (taken ++ atom ∷ []) ≡ with_taken taken atom
taken_first taken atom is = rw is refl
