-- Which nodes are strictly below another one, and the descriptors that count there.
use Rattle.std.proofs.Common.{◌≡◌, ◌<◌, ◌≤◌, ◌==◌, ℕ, zero, suc, false, cond, List, length, slice_index, slice_index_or, refl, sym, ap, ◌∙◌, arith, None, eq-eqb, ne_eqb, inl, inr}
use Rattle.std.specs.List.{range_with_len}
use Rattle.std.specs.declared.option.Option.{Option}
use Rattle.std.proofs.lemmas.Bool.{cases_Bool, cases_order}
use Rattle.std.proofs.lemmas.List.{get_or-map, length-map}
use Rattle.std.proofs.lemmas.List.FromFn.{length-range_with_len, get_or-range_with_len}
use Rattle.cip_mol.specs.declared.labels.descriptor.Descriptor.{Descriptor}
use Rattle.cip_rank.specs.Tree.{IsTree}
use Rattle.cip_rank.specs.View.{on_way}
use Rattle.cip_aux.specs.Below.{is_below, descriptor_below}
use Rattle.cip_aux_rank.specs.NodeDescriptors.{descriptors_below}
use Rattle.cip_aux_rank.proofs.lemmas.HangingPlaces.{way_itself, way_low, way_same}

module _ (ps : List ℕ) (tree : IsTree ps) (from : ℕ) where
  no_way : (n : ℕ) → n < length ps → n < from → on_way ps n from ≡ false
  no_way n h lt = elim (cases_Bool (on_way ps n from)) [
    | inl on ↦ let le = way_low ps tree n from h on in absurd (omega (arith, le, lt))
    | inr off ↦ off
  ]

  -- as far as a number that is at most the other one
  pub met : (n : ℕ) → n < length ps → n ≤ from → on_way ps n from ≡ (n == from)
  met n h le = elim (cases_order n from) [
    | inl same ↦ ap (λ x. on_way ps n x) (sym same) ∙ way_itself ps tree n ∙ sym (eq-eqb n from same)
    | inr (inl less) ↦ no_way n h less ∙ sym (ne_eqb n from (λ e. absurd (omega (arith, e, less))))
    | inr (inr more) ↦ absurd (omega (arith, le, more))
  ]

  -- a node after it is below it, where the other one is on the way
  pub below_behind : (n : ℕ) → n < length ps → from < n → is_below ps from n ≡ on_way ps n from
  below_behind n h lt =
      ap (λ b. cond b false (on_way ps (slice_index ps n) from)) (ne_eqb n 0 (λ e. absurd (omega (arith, e, lt))))
      ∙ sym (way_same ps tree n from (omega (arith, lt)) h (λ e. absurd (omega (arith, e, lt))))

  pub none_before : (n : ℕ) → n < length ps → n ≤ from → is_below ps from n ≡ false
  none_before zero h le = refl
  none_before (suc k) h le =
      let behind : slice_index ps (suc k) < suc k = tree.behind (suc k) (omega arith) h in
      ap (λ b. cond b false (on_way ps (slice_index ps (suc k)) from))
      (ne_eqb (suc k) 0 (λ e. absurd (omega (arith, e))))
      ∙ no_way (slice_index ps (suc k)) (omega (arith, behind, h)) (omega (arith, behind, le))

pub descriptors_len : (ps : List ℕ) (from : ℕ) (descriptors : List (Option Descriptor))
    → length (descriptors_below ps from descriptors) ≡ length ps
descriptors_len ps from descriptors = length-map (range_with_len 0 (length ps)) (descriptor_below ps from descriptors)
    ∙ length-range_with_len 0 (length ps)

pub descriptor_is : (ps : List ℕ) (from : ℕ) (descriptors : List (Option Descriptor)) (node : ℕ)
    → node < length (descriptors_below ps from descriptors)
    → slice_index_or (descriptors_below ps from descriptors) node None ≡ descriptor_below ps from descriptors node
descriptor_is ps from descriptors node h =
    let count = length ps in
    let few : node < count = omega (arith, h, descriptors_len ps from descriptors) in
    get_or-map (descriptor_below ps from descriptors) (range_with_len 0 count) node 0 None
    (omega (arith, length-range_with_len 0 count, few))
    ∙ ap (descriptor_below ps from descriptors) (get_or-range_with_len 0 count node 0 few ∙ omega arith)
