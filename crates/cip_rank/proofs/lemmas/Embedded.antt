-- A tree found in another compares there as it does alone, n spheres down as are there.
use Rattle.std.proofs.Common.{◌≡◌, ℕ, zero, suc, ℤ, List, map, sym, ap, ◌∙◌}
use Rattle.std.specs.declared.cmp.Ordering.{Ordering}
use Rattle.std.specs.declared.cmp.Ordering.TheVariants.{Equal}
use Rattle.std.specs.Cmp.{IsTotalOrder}
use Rattle.std.specs.Ordering.{ordering_then, int_cmp}
use Rattle.std.specs.Cmp.Lexicographic.{slice_cmp}
use Rattle.std.proofs.lemmas.Cmp.{alike_right, lists_total}
use Rattle.cip_rank.specs.Comparison.{sorted_down, sets, comparison}
use Rattle.cip_rank.specs.Embedding.{Embeds}
use Rattle.cip_rank.proofs.lemmas.Carried.{sets_carried}
use Rattle.cip_rank.proofs.lemmas.Permuted.{permuted_tie}
use Rattle.cip_rank.proofs.lemmas.TotalOrder.{comparison_total}

module _ {N M : Type 0} (image : N → M) (HasSpheres : ℕ → N → Type 0) (children : N → List N) (others : M → List M)
    (earlier : N → N → Ordering) (their_earlier : M → M → Ordering) (key : N → ℤ) (their_key : M → ℤ)
    (e : Embeds image HasSpheres children others earlier their_earlier key their_key) (o : IsTotalOrder their_earlier)
  where
    pub embedded_comparison : (depth : ℕ) (a b : N) → HasSpheres depth a → HasSpheres depth b
        → comparison others their_earlier their_key depth (image a) (image b) ≡ comparison children earlier key depth
        a b
    unfolding comparison sets
    embedded_comparison zero a b of_a of_b =
        ap (λ r. ordering_then r (int_cmp (their_key (image a)) (their_key (image b)))) (e.orders a b of_a of_b)
        ∙ ap (λ k. ordering_then (earlier a b) (int_cmp k (their_key (image b)))) (e.keys a of_a)
        ∙ ap (λ k. ordering_then (earlier a b) (int_cmp (key a) k)) (e.keys b of_b)
    embedded_comparison (suc depth) a b of_a of_b =
        let compare = comparison children earlier key depth in
        let theirs = comparison others their_earlier their_key depth in
        let total = comparison_total others their_key o depth in
        let lists = lists_total total in
        let at_a : slice_cmp theirs (sorted_down theirs (map image (children a)))
        (sorted_down theirs (others (image a)))
        ≡ Equal =
        permuted_tie total _ _ (e.moved depth a of_a) in
        let at_b : slice_cmp theirs (sorted_down theirs (map image (children b)))
        (sorted_down theirs (others (image b)))
        ≡ Equal =
        permuted_tie total _ _ (e.moved depth b of_b) in
        ap (λ r. ordering_then r (slice_cmp theirs (sorted_down theirs (others (image a)))
        (sorted_down theirs (others (image b)))))
        (embedded_comparison depth a b (e.less depth a of_a) (e.less depth b of_b))
        ∙ ap (ordering_then (compare a b)) (sym (lists.congr _ _ _ at_a) ∙ sym (alike_right lists _ _ _ at_b)
        ∙ sets_carried (HasSpheres depth) image compare theirs (λ x y p q. embedded_comparison depth x y p q)
        (children a) (children b) (e.below depth a of_a) (e.below depth b of_b))
