-- Flags of nodes that are set one after the other, and go down from a node to all below it.
use Rattle.std.proofs.Common.{◌≡◌, ◌<◌, ℕ, Bool, true, false, List, length, refl, ap, ◌∙◌, if◌then◌else◌, inl, inr}
use Rattle.std.specs.List.{slice_set}
use Rattle.std.proofs.lemmas.Bool.{cases_eq}
use Rattle.std.proofs.lemmas.List.{get_or-set_same, get_or-set_other, length-set}
use Rattle.cip_aux.specs.DescriptorsInside.{flag_at}

-- a flag that is set stays so
pub set_stays : (flags : List Bool) (node n : ℕ) (b : Bool) → node < length flags → flag_at flags n ≡ true
    → flag_at (if b then slice_set flags node true else flags) n ≡ true
set_stays flags node n true h e = elim (cases_eq n node) [
  | inl same ↦ ap (flag_at (slice_set flags node true)) same ∙ get_or-set_same flags node true false h
  | inr differ ↦ get_or-set_other flags node n true false differ ∙ e
]
set_stays flags node n false h e = e

-- and the one that is requested is set
pub set_there : (flags : List Bool) (node : ℕ) (b : Bool) → node < length flags → b ≡ true
    → flag_at (if b then slice_set flags node true else flags) node ≡ true
set_there flags node true h e = get_or-set_same flags node true false h
set_there flags node false h e = let bad : false ≡ true = e in cc

-- others are as they were
pub set_others : (flags : List Bool) (node n : ℕ) (b : Bool) → (n ≡ node → ⊥)
    → flag_at (if b then slice_set flags node true else flags) n ≡ flag_at flags n
set_others flags node n true differ = get_or-set_other flags node n true false differ
set_others flags node n false differ = refl

pub set_len : (flags : List Bool) (node : ℕ) (b : Bool)
    → length (if b then slice_set flags node true else flags) ≡ length flags
set_len flags node true = length-set flags node true
set_len flags node false = refl
