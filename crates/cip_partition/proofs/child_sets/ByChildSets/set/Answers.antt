use Rattle.std.proofs.Common.{◌≡◌, ◌-◌, ◌∙◌, sym, ap, arith, slice_index, take, drop}
use Rattle.cip_rank.proofs.lemmas.Parts.{part_is}
use Rattle.cip_partition.proofs.child_sets.ByChildSets.set.Goals as goal

pub returns : goal.returns
returns c =
    let by = c.args.self.now in
    let first = slice_index by.family.now.firsts c.args.place in
    let count = slice_index by.family.now.counts c.args.place in
    let at = c.children-first.ensures.first in
    let behind = c.children-first.ensures.past in
    let within = c.children-first.ensures.within in
    let len = by.len in
    let many : c.children-first.result.1 - c.children-first.result.0 ≡ count = omega (arith, at, behind) in
    ap (λ n. take n (drop c.children-first.result.0 by.sets.now)) many
    ∙ ap (λ n. take count (drop n by.sets.now)) at
    ∙ sym (part_is by.sets.now first count (omega (arith, behind, within, len)))
