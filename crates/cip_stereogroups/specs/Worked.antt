-- Worked collections, on which the definitions are tried: joined lines after the bonds of four atoms. Own.
use Rattle.std.specs.Prelude.{◌≡◌, ℕ, ◌+◌, List, [], ◌∷◌, ◌++◌, codes, Result, Ok, Err}
use Rattle.cip_v3000.specs.JoinedLines.{LogicalLine}
use Rattle.cip_stereogroups.specs.declared.faults.GroupCause.{GroupCause}
use Rattle.cip_stereogroups.specs.declared.faults.GroupCause.TheVariants.{Frame, Name, Word, Atom, Repeated}
use Rattle.cip_stereogroups.specs.declared.faults.GroupFault.{GroupFault}
use Rattle.cip_stereogroups.specs.declared.groups.Group.{Group}
use Rattle.cip_stereogroups.specs.declared.kinds.GroupKind.TheVariants.{Absolute, Racemic, Relative}
use Rattle.cip_stereogroups.specs.Collections.{nothing, groups_from}

abbrev pub numbered : ℕ → List (List ℕ) → List LogicalLine
numbered number [] = []
numbered number (text ∷ texts) =
    record { parts = (codes "M  V30 " ++ text) ∷ []; number = number } ∷ numbered (number + 1) texts

-- with these lines from line 25 on, after atoms of the indices 5, 3, 9 and 1
abbrev pub groups_with : List (List ℕ) → Result (List Group) GroupFault
groups_with texts =
    groups_from (5 ∷ 3 ∷ 9 ∷ 1 ∷ []) nothing (numbered 25 (texts ++ codes "END CTAB" ∷ codes "any" ∷ []))

-- in one collection
abbrev pub in_collection : List (List ℕ) → List (List ℕ)
in_collection texts = codes "BEGIN COLLECTION" ∷ texts ++ codes "END COLLECTION" ∷ []

abbrev pub refused : ℕ → GroupCause → Result (List Group) GroupFault
refused number cause = Err (record { line = number; cause = cause })

pub record AreFound : Type 0 where
  pub one : groups_with (in_collection (codes "MDLV30/STERAC1 ATOMS=(1 3)" ∷ []))
      ≡ Ok (record { kind = Racemic 1; line = 26; atoms = 1 ∷ [] } ∷ [])
  pub of_one_name : groups_with (in_collection
      (codes "MDLV30/STEREL2 ATOMS=(2 1 3)" ∷ codes "MDLV30/STEABS ATOMS=(1 5)"
      ∷ codes "MDLV30/STEREL02 X ATOMS=( 1  9 )" ∷ codes "OTHER ATOMS=x" ∷ []))
      ≡ Ok (record { kind = Relative 2; line = 26; atoms = 3 ∷ 1 ∷ 2 ∷ [] }
      ∷ record { kind = Absolute; line = 27; atoms = 0 ∷ [] } ∷ [])
  pub outside : groups_with (codes "MDLV30/STERAC1 ATOMS=(1 7)" ∷ []) ≡ Ok []
  pub no_index : groups_with (in_collection (codes "MDLV30/STERAC1 ATOMS=(1 7)" ∷ [])) ≡ refused 26 Atom
  pub wrong_count : groups_with (in_collection (codes "MDLV30/STERAC1 ATOMS=(1 7) ATOMS=(2 7)" ∷ [])) ≡ refused 26 Word
  pub no_number : groups_with (in_collection (codes "MDLV30/STERAC ATOMS=(2 7)" ∷ [])) ≡ refused 26 Name
  pub repeated : groups_with
      (in_collection (codes "MDLV30/STERAC1 ATOMS=(1 1)" ∷ codes "MDLV30/STEABS ATOMS=(1 1)" ∷ []))
      ≡ refused 27 Repeated
  pub not_ended : groups_with (codes "BEGIN COLLECTION" ∷ codes "MDLV30/STERAC1 ATOMS=(1 1)" ∷ []) ≡ refused 27 Frame
