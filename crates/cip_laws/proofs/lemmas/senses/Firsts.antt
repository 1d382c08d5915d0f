-- The first bond with a fault, one bond after the other.
use Rattle.std.proofs.Common.{◌≡◌, ◌<◌, ◌+◌, ℕ, List, [], ◌∷◌, length, take, get_or, None, Some, Option, sym, ◌∙◌, ap, below_more, arith}
use Rattle.std.proofs.lemmas.List.{get_or_default}
use Rattle.cip_mol.specs.declared.graph.molecule.Bond.{Bond}
use Rattle.cip_mol.specs.declared.faults.BondCause.{BondCause}
use Rattle.cip_mol.specs.Bonds.{cause_of, IsFirstFault, IsSound}

-- what is known of the bond at a place, whatever stands for a bond past the last
cause_at_place : (atoms : ℕ) (bonds : List Bond) (place : ℕ) (e : Bond) (r : Option BondCause) →
    place < length bonds → r ≡ cause_of atoms (take place bonds) (get_or bonds place e) → (d : Bond) →
    cause_of atoms (take place bonds) (get_or bonds place d) ≡ r
cause_at_place atoms bonds place e r within stated d =
    ap (λ bond. cause_of atoms (take place bonds) bond) (get_or_default bonds place d e within) ∙ sym stated

-- no cause holds up to a bond, where none holds before it and none there
pub sound_more : (atoms : ℕ) (bonds : List Bond) (place : ℕ) (e : Bond) → place < length bonds →
    ((k : ℕ) → k < place → (d : Bond) → cause_of atoms (take k bonds) (get_or bonds k d) ≡ None) →
    None ≡ cause_of atoms (take place bonds) (get_or bonds place e) → (k : ℕ) → k < place + 1 → (d : Bond) →
    cause_of atoms (take k bonds) (get_or bonds k d) ≡ None
sound_more atoms bonds place e within before stated =
    below_more (λ k. (d : Bond) → cause_of atoms (take k bonds) (get_or bonds k d) ≡ None) place before
    (cause_at_place atoms bonds place e None within stated)

pub first_fault : (atoms : ℕ) (bonds : List Bond) (place : ℕ) (e : Bond) (cause : BondCause) → place < length bonds →
    ((k : ℕ) → k < place → (d : Bond) → cause_of atoms (take k bonds) (get_or bonds k d) ≡ None) →
    Some cause ≡ cause_of atoms (take place bonds) (get_or bonds place e) → IsFirstFault atoms bonds place cause
first_fault atoms bonds place e cause within before stated = record {
  within = within;
  here = cause_at_place atoms bonds place e (Some cause) within stated;
  before = before;
}

-- bonds without a fault have no first fault
pub none_is_first : (atoms : ℕ) (bonds : List Bond) (place : ℕ) (cause : BondCause) →
    IsFirstFault atoms bonds place cause → IsSound atoms bonds → ⊥
none_is_first atoms [] place cause fault sound = omega (arith, fault.within)
none_is_first atoms (bond ∷ bonds) place cause fault sound =
    let here = fault.here bond in
    let none = sound.each place fault.within bond in
    cc
