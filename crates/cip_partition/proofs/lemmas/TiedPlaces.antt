-- Places that tie compare alike, where each compares so with the first one of its class.
use Rattle.std.proofs.Common.{◌≡◌, ◌<◌, ◌≤◌, ◌∙◌, ℕ, List, slice_index, refl, ap, subst, arith}
use Rattle.std.specs.declared.cmp.Ordering.{Ordering}
use Rattle.std.specs.declared.cmp.Ordering.TheVariants.{Equal}
use Rattle.std.specs.Cmp.{IsTotalOrder}
use Rattle.std.specs.Ordering.{ordering_reverse}
use Rattle.cip_partition.specs.Parting.{TieAlike}
use Rattle.cip_partition.specs.Rows.{AreClassed, number_in}
use Rattle.cip_partition.proofs.lemmas.ClassInSphere.{num_head, num_high, num_low}

module _ (compare : ℕ → ℕ → Ordering) (o : IsTotalOrder compare) (rows numbers : List ℕ) (from to : ℕ) where
  pub tie_all : ((k : ℕ) → from ≤ k → k < to → compare (slice_index rows (number_in rows numbers k))
      (slice_index rows k) ≡ Equal) → TieAlike compare rows numbers from to
  tie_all each = record {
    each = λ a b p q tie.
        let first = slice_index rows (slice_index numbers a) in
        let of_a : compare first a ≡ Equal = subst (λ x. compare (slice_index rows (slice_index numbers x)) x ≡ Equal)
        p.here (each p.row p.low p.high) in
        let of_b : compare (slice_index rows (slice_index numbers b)) b ≡ Equal =
        subst (λ x. compare (slice_index rows (slice_index numbers x)) x ≡ Equal) q.here (each q.row q.low q.high) in
        o.congr a first b (o.antisymm a first ∙ ap ordering_reverse of_a)
        ∙ ap (λ n. compare (slice_index rows n) b) tie ∙ of_b;
  }

  pub first_ties : AreClassed rows numbers from to → TieAlike compare rows numbers from to → (k : ℕ) → from ≤ k → k < to
      → compare (slice_index rows (number_in rows numbers k)) (slice_index rows k) ≡ Equal
  first_ties classed alike k low high =
      let first = number_in rows numbers k in
      let below = num_high rows numbers from to classed k low high in
      alike.each (slice_index rows first) (slice_index rows k)
      (record {
        row = first;
        low = num_low rows numbers from to classed k low high;
        high = omega (arith, below, high);
        here = refl;
      })
      (record { row = k; low = low; high = high; here = refl })
      (num_head rows numbers from to classed k low high)
