use Rattle.std.proofs.Common.{◌<◌, length, rules, slice_index, subst, ap, ◌∙◌, arith}
use Rattle.cip_branches.specs.Deciding.{Branched}
use Rattle.cip_branches.proofs.branches.Branches.count.Goals as goal

pub returns-clause-may : goal.returns-clause-may
returns-clause-may c = search rules

pub returns-clause-below : goal.returns-clause-below
returns-clause-below c t place p =
    let spheres = c.requires.followed.ranked.spheres in
    let last = spheres.ends t p.row p.low p.high in
    let end = spheres.within t last in
    let same = ap (λ (b : Branched). length b.layers.ranked.rows) c.self.view_is in
    let within : p.row < length c.self.inside.spheres.ranked.rows = omega (arith, p.high, end, same) in
    subst (λ n. n < c.count.result)
    (ap (λ (b : Branched). slice_index b.layers.ranked.rows p.row) c.self.view_is ∙ p.here)
    (c.count.ensures.below p.row within)
