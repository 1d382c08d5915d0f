-- Open branches are fewer than the unresolved ones, and no further one is distinguished among them.
use Rattle.std.proofs.Common.{◌≡◌, ◌<◌, ◌+◌, ℕ, zero, suc, Bool, true, false, List, [], ◌∷◌, length, slice_index, slice_set, refl, sym, ap, ◌∙◌, subst, arith, inl, inr}
use Rattle.std.proofs.lemmas.List.{get_or-set_same, get_or-set_other}
use Rattle.cip_branches.specs.Closing.{TiesWith, IsOpen, FlagOpen}
use Rattle.cip_branches.specs.Deciding.{FlagsOpen}
use Rattle.cip_partition.specs.Parting.{has_flag}
use Rattle.cip_partition.proofs.lemmas.Cases.{cases_flag, cases_same}
use Rattle.cip_branches.specs.Ruled.{WantsFewer}

-- a flag that is set is within the flags
pub flag_within : (flags : List Bool) (n : ℕ) → has_flag flags n ≡ true → n < length flags
flag_within [] n has = let bad : false ≡ true = has in cc
flag_within (f ∷ flags) zero has = omega arith
flag_within (f ∷ flags) (suc n) has = let lt = flag_within flags n has in omega (arith, lt)

pub open_fewer : (numbers : List ℕ) (unresolved flags : List Bool) → length flags ≡ length unresolved
    → FlagOpen numbers unresolved (length unresolved) flags → WantsFewer unresolved flags
open_fewer numbers unresolved flags len flagged = record {
  each = λ branch has.
      let lt = flag_within flags branch has in
      (flagged.open_only branch (omega (arith, lt, len)) has).chosen;
}

-- among open branches all are open
module _ (numbers : List ℕ) (unresolved flags : List Bool) (chosen : FlagsOpen numbers unresolved flags) where
  -- what an open branch ties with is open
  open_too : (branch other : ℕ) → has_flag flags branch ≡ true → TiesWith numbers unresolved branch other
      → has_flag flags other ≡ true
  open_too branch other has ties =
      let was = chosen.fewer.each branch has in
      chosen.flagged.all_open other ties.within (record {
        chosen = ties.chosen;
        other = branch;
        ties = record {
          within = flag_within unresolved branch was;
          chosen = was;
          apart = λ e. ties.apart (sym e);
          tie = sym ties.tie;
        };
      })

  pub open_again : FlagsOpen numbers flags flags
  open_again = record {
    len = refl;
    flagged = record {
      open_only = λ branch lt has.
          let is = chosen.flagged.open_only branch (subst (λ n. branch < n) chosen.len lt) has in
          record {
            chosen = has;
            other = is.other;
            ties = record {
              within = subst (λ n. is.other < n) (sym chosen.len) is.ties.within;
              chosen = open_too branch is.other has is.ties;
              apart = is.ties.apart;
              tie = is.ties.tie;
            };
          };
      all_open = λ branch lt is. is.chosen;
    };
    fewer = record { each = λ branch has. has };
  }

-- the same by other numbers, where those of the unresolved branches are unchanged
pub open_still : (numbers new : List ℕ) (unresolved : List Bool)
    → ((branch : ℕ) → has_flag unresolved branch ≡ true → slice_index new branch ≡ slice_index numbers branch)
    → FlagsOpen numbers unresolved unresolved → FlagsOpen new unresolved unresolved
open_still numbers new unresolved same tie = record {
  len = refl;
  flagged = record {
    open_only = λ branch lt has.
        let was = tie.flagged.open_only branch lt has in
        record {
          chosen = has;
          other = was.other;
          ties = record {
            within = was.ties.within;
            chosen = was.ties.chosen;
            apart = was.ties.apart;
            tie = same was.other was.ties.chosen ∙ was.ties.tie ∙ sym (same branch has);
          };
        };
    all_open = λ branch lt is. is.chosen;
  };
  fewer = record { each = λ branch has. has };
}

-- one more branch has its flag
pub flag_next : (numbers : List ℕ) (unresolved flags : List Bool) (branch : ℕ) (flag : Bool) → branch < length flags
    → (flag ≡ true → IsOpen numbers unresolved branch) → (flag ≡ false → IsOpen numbers unresolved branch → ⊥)
    → FlagOpen numbers unresolved branch flags → FlagOpen numbers unresolved (branch + 1) (slice_set flags branch flag)
flag_next numbers unresolved flags branch flag lt node_data none so_far = record {
  open_only = λ other below has. elim (cases_same branch other) [
    | inl here ↦ subst (IsOpen numbers unresolved) here (node_data (sym (get_or-set_same flags branch flag false lt)
        ∙ ap (has_flag (slice_set flags branch flag)) here ∙ has))
    | inr differ ↦ so_far.open_only other (omega (arith, below, differ))
        (sym (get_or-set_other flags branch other flag false (λ e. differ (sym e))) ∙ has)
  ];
  all_open = λ other below is. elim (cases_same branch other) [
    | inl here ↦ elim (cases_flag flag) [
      | inl set ↦ ap (has_flag (slice_set flags branch flag)) (sym here)
          ∙ get_or-set_same flags branch flag false lt ∙ set
      | inr not ↦ absurd (none not (subst (IsOpen numbers unresolved) (sym here) is))
    ]
    | inr differ ↦ get_or-set_other flags branch other flag false (λ e. differ (sym e))
        ∙ so_far.all_open other (omega (arith, below, differ)) is
  ];
}
