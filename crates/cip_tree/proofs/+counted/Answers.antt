use Rattle.std.proofs.Common.{arith}
use Rattle.cip_tree.proofs.lemmas.Depths.{count_parts}
use Rattle.cip_tree.proofs.+counted.Goals as goal

pub reading::counted-counted-requires : goal.reading::counted-counted-requires
reading::counted-counted-requires t c =
    let parts = count_parts c.args.branches.now c.first-item.result c.in-len1-up.len_at_least in
    (omega (arith, parts), tt)
