-- Ties and matches of branches: each follows from the other.
use Rattle.std.proofs.Common.{◌≡◌, ℕ, zero, suc, ℤ, List, [], ◌∷◌, refl, sym, ◌∙◌}
use Rattle.std.specs.declared.cmp.Ordering.{Ordering}
use Rattle.std.specs.declared.cmp.Ordering.TheVariants.{Less, Equal, Greater}
use Rattle.std.specs.Cmp.{IsTotalOrder}
use Rattle.std.specs.Ordering.{int_cmp}
use Rattle.std.specs.Cmp.Lexicographic.{slice_cmp}
use Rattle.cip_rank.specs.Comparison.{sorted_down, sets, comparison}
use Rattle.cip_rank.specs.Matching.{InPairs, AreAlike, SameBranch}
use Rattle.cip_rank.proofs.lemmas.Descending.{same_from_tied, sorted_tie}
use Rattle.cip_rank.proofs.lemmas.Permuted.{permuted_ties, sorted_permutes}
use Rattle.cip_rank.proofs.lemmas.RestOnTies.{both_tie, then_tie}
use Rattle.cip_rank.proofs.lemmas.TotalOrder.{comparison_total}

pairs_from_tie : {N : Type 0} (compare : N → N → Ordering) (ns ms : List N) → slice_cmp compare ns ms ≡ Equal
    → InPairs (λ n m. compare n m ≡ Equal) ns ms
pairs_from_tie compare [] [] h = tt
pairs_from_tie compare [] (m ∷ ms) h = let bad : Less ≡ Equal = h in cc
pairs_from_tie compare (n ∷ ns) [] h = let bad : Greater ≡ Equal = h in cc
pairs_from_tie compare (n ∷ ns) (m ∷ ms) h = let t = both_tie (compare n m) (slice_cmp compare ns ms) h in
    (t.0, pairs_from_tie compare ns ms t.1)

tie_from_pairs : {N : Type 0} (compare : N → N → Ordering) (ns ms : List N) → InPairs (λ n m. compare n m ≡ Equal) ns ms
    → slice_cmp compare ns ms ≡ Equal
tie_from_pairs compare [] [] h = refl
tie_from_pairs compare [] (m ∷ ms) h = absurd h
tie_from_pairs compare (n ∷ ns) [] h = absurd h
tie_from_pairs compare (n ∷ ns) (m ∷ ms) h = then_tie (compare n m) (slice_cmp compare ns ms) h.0
    (tie_from_pairs compare ns ms h.1)

pub pairs_by : {N : Type 0} {R S : N → N → Type 0} → ((n m : N) → R n m → S n m) → (ns ms : List N) → InPairs R ns ms
    → InPairs S ns ms
pairs_by f [] [] h = tt
pairs_by f [] (m ∷ ms) h = h
pairs_by f (n ∷ ns) [] h = h
pairs_by f (n ∷ ns) (m ∷ ms) h = (f n m h.0, pairs_by f ns ms h.1)

module _ {N : Type 0} (children : N → List N) {earlier : N → N → Ordering} (o : IsTotalOrder earlier) (key : N → ℤ)
  where
    alike_from_tie : (depth : ℕ) (a b : N) → comparison children earlier key depth a b ≡ Equal → AreAlike earlier key
        a b
    unfolding comparison
    alike_from_tie zero a b h = both_tie (earlier a b) (int_cmp (key a) (key b)) h
    alike_from_tie (suc depth) a b h =
        alike_from_tie depth a b (both_tie (comparison children earlier key depth a b)
        (sets children (comparison children earlier key depth) a b) h).0

    less_deep : (depth : ℕ) (a b : N) → SameBranch children earlier key (suc depth) a b → SameBranch children earlier
        key
        depth a b
    less_deep zero a b h = h.0
    less_deep (suc depth) a b h = (
      h.0,
      record {
        one = h.1.one;
        other = h.1.other;
        of_one = h.1.of_one;
        of_other = h.1.of_other;
        pairs = pairs_by (less_deep depth) h.1.one h.1.other h.1.pairs;
      },
    )

    pub match_from_tie : (depth : ℕ) (a b : N) → comparison children earlier key depth a b ≡ Equal → SameBranch children
        earlier key depth a b
    unfolding comparison sets
    match_from_tie zero a b h = both_tie (earlier a b) (int_cmp (key a) (key b)) h
    match_from_tie (suc depth) a b h =
        let compare = comparison children earlier key depth in
        let t = both_tie (compare a b) (sets children compare a b) h in (
          alike_from_tie depth a b t.0,
          record {
            one = sorted_down compare (children a);
            other = sorted_down compare (children b);
            of_one = sorted_permutes compare (children a);
            of_other = sorted_permutes compare (children b);
            pairs = pairs_by (match_from_tie depth) (sorted_down compare (children a))
                (sorted_down compare (children b))
                (pairs_from_tie compare (sorted_down compare (children a)) (sorted_down compare (children b)) t.1);
          },
        )

    pub tie_from_match : (depth : ℕ) (a b : N) → SameBranch children earlier key depth a b → comparison children earlier
        key depth a b ≡ Equal
    unfolding comparison sets
    tie_from_match zero a b h = then_tie (earlier a b) (int_cmp (key a) (key b)) h.0 h.1
    tie_from_match (suc depth) a b h =
        let compare = comparison children earlier key depth in
        let total = comparison_total children key o depth in
        let m = h.1 in
        let ties : slice_cmp compare m.one m.other ≡ Equal = tie_from_pairs compare m.one m.other
        (pairs_by (tie_from_match depth) m.one m.other m.pairs) in
        then_tie (compare a b) (sets children compare a b) (tie_from_match depth a b (less_deep depth a b h))
        (sorted_tie total (children a) (children b) (λ n.
        permuted_ties compare (children a) m.one m.of_one n ∙ same_from_tied total m.one m.other ties n
        ∙ sym (permuted_ties compare (children b) m.other m.of_other n)))
