use Rattle.std.proofs.Common.{ap, arith}
use Rattle.cip_tree.specs.Branches.{Branch, count, depth}
use Rattle.cip_tree.proofs.lemmas.Depths.{count_parts, depth_parts}
use Rattle.cip_tree.proofs.+height.Goals as goal

pub reading::depth_of-overflow_add-height : goal.reading::depth_of-overflow_add-height
reading::depth_of-overflow_add-height t c =
    let parts = depth_parts c.args.branches.now c.first-item.result c.in-len1-up.len_at_least in
    let below = ap (λ (b : Branch). depth b.below) c.first-item.is in
    omega (arith, c.height.ensures, below, parts, c.requires)

pub reading::depth_of-height-requires : goal.reading::depth_of-height-requires
reading::depth_of-height-requires t c =
    let first = c.first-item.result in
    let few = count_parts c.args.branches.now first c.in-len1-up.len_at_least in
    let parts = depth_parts c.args.branches.now first c.in-len1-up.len_at_least in
    let below = ap (λ (b : Branch). depth b.below) c.first-item.is in
    let fewer = ap (λ (b : Branch). count b.below) c.first-item.is in
    (omega (arith, fewer, few), omega (arith, below, parts, c.requires))

pub reading::depth_of-depth_of-requires : goal.reading::depth_of-depth_of-requires
reading::depth_of-depth_of-requires t c =
    let first = c.first-item.result in
    let few = count_parts c.args.branches.now first c.in-len1-up.len_at_least in
    let parts = depth_parts c.args.branches.now first c.in-len1-up.len_at_least in
    (omega (arith, few), omega (arith, parts, c.requires))
