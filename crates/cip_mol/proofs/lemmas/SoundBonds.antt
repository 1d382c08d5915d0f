-- What bonds without a fault keep: one more free bond leaves them so, and an atom has at most eight neighbours.
use Rattle.std.proofs.Common.{◌≡◌, ◌≢◌, ◌<◌, ◌≤◌, ℕ, zero, suc, List, [], ◌∷◌, ◌++◌, length, take, get_or, All, None, subst, add-one, arith, inl, inr}
use Rattle.std.specs.List.{cons_option}
use Rattle.std.proofs.Math.Seq.{take-length, take-append_seam, get_or-append_seam}
use Rattle.std.proofs.lemmas.Bool.{cases_eq, cases_lt}
use Rattle.std.proofs.lemmas.Bool.Decides.{nat_tests}
use Rattle.std.proofs.lemmas.List.{take_more, take-append-le, get_or_append_left, length-append, append-nil}
use Rattle.std.proofs.lemmas.List.Elements.{All-push, filter_map-append}
use Rattle.cip_mol.specs.declared.graph.molecule.Bond.{Bond}
use Rattle.cip_mol.specs.Bonds.{cause_of, degree, IsSound}
use Rattle.cip_mol.specs.Neighbours.{other_end, neighbours}
use Rattle.cip_mol.proofs.lemmas.OtherEnds.{length-neighbours, other_end-a, other_end-b, other_end-none}

-- one more bond at which no cause holds
pub sound_push : (atoms : ℕ) (bonds : List Bond) (bond : Bond) → IsSound atoms bonds →
    cause_of atoms bonds bond ≡ None → IsSound atoms (bonds ++ bond ∷ [])
sound_push atoms bonds bond sound none = record {
  each = λ k within d. elim (cases_lt k (length bonds)) [
    | inl before ↦ rw (take-append-le k bonds (bond ∷ []) (omega (arith, before)), get_or_append_left bonds (bond ∷ []) d k before) (sound.each k before d)
    | inr behind ↦
        let last : k ≡ length bonds = omega (arith, within, behind, length-append bonds (bond ∷ [])) in
        rw (last, take-append_seam bonds (bond ∷ []), get_or-append_seam bonds bond [] d) none
  ];
}

-- the ends are atoms, and have room for one more bond
pub record FindsRoom (atoms : ℕ) (before : List Bond) (bond : Bond) : Type 0 where
  pub a : bond.a < atoms
  pub b : bond.b < atoms
  pub apart : bond.a ≢ bond.b
  pub room_a : degree bond.a before < 8
  pub room_b : degree bond.b before < 8

pub finds_room : (atoms : ℕ) (before : List Bond) (bond : Bond) → cause_of atoms before bond ≡ None →
    FindsRoom atoms before bond
unfolding cause_of
finds_room atoms before bond none = record {
  a = grind (arith, nat_tests);
  b = grind (arith, nat_tests);
  apart = λ same. grind (arith, nat_tests);
  room_a = grind (arith, nat_tests);
  room_b = grind (arith, nat_tests);
}

-- at most eight of n atoms
pub record AreFew (atoms : ℕ) (others : List ℕ) : Type 0 where
  pub within : All (λ other. other < atoms) others
  pub few : length others ≤ 8

few_more : (atoms : ℕ) (others : List ℕ) (other : ℕ) → AreFew atoms others → length others < 8 → other < atoms →
    AreFew atoms (others ++ other ∷ [])
few_more atoms others other are room within = record {
  within = All-push (λ n. n < atoms) others other are.within within;
  few = omega (arith, room, length-append others (other ∷ []));
}

few_with : (atoms atom : ℕ) (before : List Bond) (bond : Bond) → FindsRoom atoms before bond →
    AreFew atoms (neighbours atom before) →
    AreFew atoms (neighbours atom before ++ cons_option (other_end atom bond) [])
few_with atoms atom before bond f are =
    elim (cases_eq atom bond.b) [
      | inl same ↦ rw (same, other_end-b bond f.apart) (few_more atoms _ bond.a (rw same at are) (omega (arith, f.room_b, length-neighbours bond.b before)) f.a)
      | inr not_b ↦ elim (cases_eq atom bond.a) [
        | inl same ↦ rw (same, other_end-a bond) (few_more atoms _ bond.b (rw same at are) (omega (arith, f.room_a, length-neighbours bond.a before)) f.b)
        | inr not_a ↦ rw (other_end-none bond atom not_a not_b, append-nil) are
      ]
    ]

few_upto : (atoms atom : ℕ) (bonds : List Bond) → IsSound atoms bonds → (d : Bond) (k : ℕ) → k ≤ length bonds →
    AreFew atoms (neighbours atom (take k bonds))
few_upto atoms atom bonds sound d zero le = record { within = λ k e lt. absurd (omega (arith, lt)); few = omega arith }
few_upto atoms atom bonds sound d (suc k) le =
    let within : k < length bonds = omega (arith, le) in
    let last : Bond = get_or bonds k d in
    rw (← add-one k, take_more bonds k d within, filter_map-append (other_end atom) (take k bonds) (last ∷ []))
    (few_with atoms atom (take k bonds) last (finds_room _ _ _ (sound.each k within d)) (few_upto atoms atom bonds sound d k (omega (arith, le))))

-- the neighbours of an atom along bonds without a fault
pub neighbours_few : (atoms atom : ℕ) (bonds : List Bond) → IsSound atoms bonds → AreFew atoms (neighbours atom bonds)
neighbours_few atoms atom [] sound = record { within = λ k e lt. absurd (omega (arith, lt)); few = omega arith }
neighbours_few atoms atom (bond ∷ bonds) sound = subst (λ bs. AreFew atoms (neighbours atom bs)) (take-length (bond ∷ bonds)) (few_upto atoms atom (bond ∷ bonds) sound bond (length (bond ∷ bonds)) (omega arith))
