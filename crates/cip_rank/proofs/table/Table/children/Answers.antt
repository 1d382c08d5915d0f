use Rattle.std.proofs.Common.{◌≡◌, ◌<◌, ◌∙◌, length, slice_index, ap, arith}
use Rattle.std.proofs.lemmas.Grind.{get_or_default_zero}
use Rattle.cip_rank.proofs.table.Table.children.Goals as goal

pub overflow_add-result : goal.overflow_add-result
overflow_add-result c =
    let held = c.self.invariant in
    let node = c.args.node in
    let below : node < length c.self.inside.parents.items =
    omega (arith, c.requires, ap (λ tree. length tree.parents) c.self.view_is) in
    let first : c.index-first.result.now ≡ slice_index c.self.inside.firsts.items node =
    c.index-first.ensures ∙ get_or_default_zero c.self.inside.firsts.items node _ (omega (arith, below, held.ranges.firsts_len)) in
    let count : c.index.result.now ≡ slice_index c.self.inside.counts.items node =
    c.index.ensures ∙ get_or_default_zero c.self.inside.counts.items node _ (omega (arith, below, held.ranges.counts_len)) in
    omega (arith, first, count, held.ranges.within node below, held.fits, held.bound)
