-- Flags of branches and of their copies, and that each of both ties with the other one.
use Rattle.std.proofs.Common.{◌≡◌, ◌<◌, ◌≤◌, ◌+◌, ◌-◌, ◌++◌, ◌⊎◌, ℕ, Bool, true, false, List, length, replicate, slice_index, refl, sym, ap, ◌∙◌, subst, arith, inl, inr}
use Rattle.std.proofs.lemmas.Bool.{cases_lt}
use Rattle.std.proofs.lemmas.List.{length-append, length-replicate, get_or_append_left, get_or-append-add, get_or_past}
use Rattle.cip_branches.specs.Closing.{IsOpen}
use Rattle.cip_branches.specs.Deciding.{FlagsOpen}
use Rattle.cip_partition.specs.Parting.{has_flag}
use Rattle.cip_partition.specs.Twins.{twin_wanted}
use Rattle.cip_partition.proofs.lemmas.TwinPlaces.{no_flags}
use Rattle.cip_branches.proofs.lemmas.ruled.Open.{flag_within}

module _ (count : ℕ) (unresolved : List Bool) (tops : length unresolved ≤ count) where
  abbrev unset : List Bool
  unset = replicate (count - length unresolved) false

  front_len : length (unresolved ++ unset) ≡ count
  front_len =
      let len = length-replicate (count - length unresolved) false in
      let all = length-append unresolved unset in
      omega (arith, tops, len, all)

  pub flag_first : (x : ℕ) → x < count → has_flag (twin_wanted count unresolved) x ≡ has_flag unresolved x
  flag_first x lt =
      let all = front_len in
      let in_it = get_or_append_left (unresolved ++ unset) unresolved false x (omega (arith, lt, all)) in
      elim (cases_lt x (length unresolved)) [
        | inl low ↦ in_it ∙ get_or_append_left unresolved unset false x low
        | inr high ↦
            let sum : x ≡ length unresolved + (x - length unresolved) = omega (arith, high) in
            in_it ∙ ap (has_flag (unresolved ++ unset)) sum
            ∙ get_or-append-add unresolved unset (x - length unresolved) false
            ∙ no_flags (count - length unresolved) (x - length unresolved)
            ∙ sym (get_or_past unresolved x false high)
      ]

  pub flag_second : (k : ℕ) → has_flag (twin_wanted count unresolved) (count + k) ≡ has_flag unresolved k
  flag_second k = ap (λ n. has_flag (twin_wanted count unresolved) (n + k)) (sym front_len)
      ∙ get_or-append-add (unresolved ++ unset) unresolved k false

  pub no_flag : (k : ℕ) → count ≤ k → has_flag unresolved k ≡ false
  no_flag k le = get_or_past unresolved k false (omega (arith, le, tops))

  pub twin_wanted_len : length (twin_wanted count unresolved) ≡ count + length unresolved
  twin_wanted_len = length-append (unresolved ++ unset) unresolved ∙ ap (λ n. n + length unresolved) front_len

  -- a flag that is set is that of an unresolved branch, or of its copy
  pub record IsFlagged (x : ℕ) : Type 0 where
    pub branch : ℕ
    pub chosen : has_flag unresolved branch ≡ true
    pub low : branch < length unresolved
    pub which : (x ≡ branch) ⊎ (x ≡ count + branch)

  pub is_flagged : (x : ℕ) → has_flag (twin_wanted count unresolved) x ≡ true → IsFlagged x
  is_flagged x has = elim (cases_lt x count) [
    | inl low ↦ let flag = sym (flag_first x low) ∙ has in
        record { branch = x; chosen = flag; low = flag_within unresolved x flag; which = inl refl }
    | inr high ↦
        let at : x ≡ count + (x - count) = omega (arith, high) in
        let flag = sym (flag_second (x - count)) ∙ ap (has_flag (twin_wanted count unresolved)) (sym at) ∙ has in
        record { branch = x - count; chosen = flag; low = flag_within unresolved (x - count) flag; which = inr at }
  ]

  module _ (numbers : List ℕ) (same : (branch : ℕ) → has_flag unresolved branch ≡ true
      → slice_index numbers branch ≡ slice_index numbers (count + branch)) where
    flagged_first : (k : ℕ) → k < length unresolved → has_flag unresolved k ≡ true
        → has_flag (twin_wanted count unresolved) k ≡ true
    flagged_first k lt flag = flag_first k (omega (arith, lt, tops)) ∙ flag

    open_one : (x : ℕ) → IsFlagged x → IsOpen numbers (twin_wanted count unresolved) x
    open_one x one =
        let low = one.low in
        let len = twin_wanted_len in
        elim one.which [
          | inl e ↦ subst (IsOpen numbers (twin_wanted count unresolved)) (sym e) (record {
            chosen = flagged_first one.branch low one.chosen;
            other = count + one.branch;
            ties = record {
              within = omega (arith, low, len);
              chosen = flag_second one.branch ∙ one.chosen;
              apart = λ same_one. absurd (omega (arith, same_one, low, tops));
              tie = sym (same one.branch one.chosen);
            };
          })
          | inr e ↦ subst (IsOpen numbers (twin_wanted count unresolved)) (sym e) (record {
            chosen = flag_second one.branch ∙ one.chosen;
            other = one.branch;
            ties = record {
              within = omega (arith, low, len);
              chosen = flagged_first one.branch low one.chosen;
              apart = λ same_one. absurd (omega (arith, same_one, low, tops));
              tie = same one.branch one.chosen;
            };
          })
        ]

    -- where an unresolved branch and its copy have the same number
    pub twins_tie : FlagsOpen numbers (twin_wanted count unresolved) (twin_wanted count unresolved)
    twins_tie = record {
      len = refl;
      flagged = record {
        open_only = λ x lt has. open_one x (is_flagged x has);
        all_open = λ x lt is. is.chosen;
      };
      fewer = record { each = λ x has. has };
    }
