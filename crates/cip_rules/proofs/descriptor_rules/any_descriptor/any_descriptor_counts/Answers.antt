use Rattle.std.proofs.Common.{◌≡◌, arith, inl, inr, pos, slice_index, subst, sym, true}
use Rattle.std.proofs.lemmas.Bool.{cases_lt}
use Rattle.cip_partition.specs.Parting.{has_flag}
use Rattle.cip_rules.specs.Counting.{key_of_descriptor_at}
use Rattle.cip_rules.proofs.descriptor_rules.any_descriptor.any_descriptor_counts.Goals as goal

pub loop-place-preserved : goal.loop-place-preserved
loop-place-preserved g c = λ k lt flag.
    let now = c.args.branches.now in
    elim (cases_lt k c.loop-place.place) [
      | inl less ↦ c.loop-place.invariant k less flag
      | inr more ↦
          let same : c.loop-place.place ≡ k = omega (arith, lt, more) in
          subst (λ n. key_of_descriptor_at (g.M.DescriptorMap.descriptors c.args.descriptors.now) true c.args.rule now n ≡ pos 0) same
          (c.is_counted.ensures.none c.if-is_counted.false
          (subst (λ n. has_flag now.unresolved (slice_index now.layers.place_tree.branches n) ≡ true) (sym same) flag))
    ]

pub returns-then-is_counted-clause-some : goal.returns-then-is_counted-clause-some
returns-then-is_counted-clause-some g c = λ yes. record {
  place = c.loop-place.place;
  within = let lt = c.loop-place-test.true in omega (arith, lt, c.count-count.ensures.count);
  flagged = c.is_counted.ensures.unresolved c.if-is_counted.true;
  counts = c.is_counted.ensures.counts c.if-is_counted.true;
}

pub returns-clause-none : goal.returns-clause-none
returns-clause-none g c = λ no. record {
  each = λ t place p.
      let lt = c.count-count.ensures.below t place p.at in
      let done = c.loop-place-test.false in
      c.loop-place.invariant place (omega (arith, lt, done)) p.chosen;
}

pub is_counted-requires-clause-keyed : goal.is_counted-requires-clause-keyed
is_counted-requires-clause-keyed g c = c.requires.keyed
