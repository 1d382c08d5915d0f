-- There is one counterclockwise order: from each direction on, the next one is known.
use Rattle.std.proofs.Common.{◌≡◌, ◌⊎◌, ◌<◌, ◌+◌, ℕ, inl, inr, arith, sym, ◌∙◌, List, length, get_or, false}
use Rattle.std.specs.Prelude.{zero, suc, ◌≢◌}
use Rattle.std.proofs.lemmas.Bool.{cases_eq}
use Rattle.std.proofs.lemmas.Grind.{same_number_lists}
use Rattle.cip_num.specs.declared.plane.Vec2.{Vec2}
use Rattle.cip_num.specs.Around.{has_coincident, direction_at, IsCounterclockwise}
use Rattle.cip_num.proofs.lemmas.StrictOrder.{not_both_before}
use Rattle.cip_num.proofs.lemmas.Permutations.{permutation_length, permutation_below, permutation_apart}
use Rattle.cip_num.proofs.lemmas.Clashes.{has_length}

module _ (ds : List Vec2) (clear : has_coincident ds ≡ false) where
  long : (ns : List ℕ) → IsCounterclockwise ds ns → length ns ≡ length ds
  long ns p = permutation_length (length ds) ns p.each

  below : (ns : List ℕ) → IsCounterclockwise ds ns → (k : ℕ) → k < length ds → get_or ns k 0 < length ds
  below ns p k lt = permutation_below (length ds) ns p.each k (let l = long ns p in omega arith)

  apart : (ns : List ℕ) → IsCounterclockwise ds ns → (k : ℕ) → k + 1 < length ds → get_or ns k 0 ≢ get_or ns (k + 1) 0
  apart ns p k lt = permutation_apart (length ds) ns p.each k (k + 1) (omega arith) (let l = long ns p in omega arith)

  module _ (ns ms : List ℕ) (p : IsCounterclockwise ds ns) (q : IsCounterclockwise ds ms) where
    same_next : (k : ℕ) → k + 1 < length ds → get_or ns k 0 ≡ get_or ms k 0 → get_or ns (k + 1) 0 ≡ get_or ms (k + 1) 0
    same_next k lt same = by (cases_eq (get_or ns (k + 1) 0) (get_or ms (k + 1) 0))
      where
        by : (get_or ns (k + 1) 0 ≡ get_or ms (k + 1) 0) ⊎ (get_or ns (k + 1) 0 ≢ get_or ms (k + 1) 0) → get_or ns (k + 1) 0 ≡ get_or ms (k + 1) 0
        by (inl e) = e
        by (inr far) =
            let one = p.next k (get_or ms (k + 1) 0) lt (below ms q (k + 1) lt) (λ e. apart ms q k lt (sym same ∙ sym e)) (λ e. far (sym e)) in
            let other = q.next k (get_or ns (k + 1) 0) lt (below ns p (k + 1) lt) (λ e. apart ns p k lt (same ∙ sym e)) far in
            absurd (not_both_before (direction_at ds (get_or ns k 0)) (direction_at ds (get_or ns (k + 1) 0)) (direction_at ds (get_or ms (k + 1) 0))
            (has_length ds (get_or ns k 0) clear (below ns p k (omega arith))) one (rw same other))

    same_at : (k : ℕ) → k < length ds → get_or ns k 0 ≡ get_or ms k 0
    same_at zero lt = p.first ∙ sym q.first
    same_at (suc k) lt = let one_more : suc k ≡ k + 1 = omega arith in rw one_more (same_next k (omega arith) (same_at k (omega arith)))

    pub one_order : ns ≡ ms
    one_order = same_number_lists ns ms (long ns p ∙ sym (long ms q)) (λ k lt. same_at k (let l = long ns p in omega arith))
