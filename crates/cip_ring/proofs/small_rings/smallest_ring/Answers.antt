use Rattle.std.proofs.Common.{rules, ◌≡◌, None, Some}
use Rattle.cip_ring.proofs.lemmas.Smallest.{told_none, told_some}
use Rattle.cip_ring.proofs.small_rings.smallest_ring.Goals as goal

pub returns-in-Ok-Some : goal.returns-in-Ok-Some
returns-in-Ok-Some c =
    let is : c.in-Ok-Some.field-0 ≡ Some c.in-Ok-Some.steps = search rules in
    told_some c.args.graph.now c.edges.ensures.sound c.edges.result.now c.args.edge c.edges.ensures.value c.requires
    c.in-Ok-Some.steps (rw is at c.in-Ok-Some.ensures.value)

pub returns-in-Ok-None : goal.returns-in-Ok-None
returns-in-Ok-None c =
    let is : c.in-Ok-None.field-0 ≡ None = search rules in
    told_none c.args.graph.now c.edges.ensures.sound c.edges.result.now c.args.edge c.edges.ensures.value c.requires
    (rw is at c.in-Ok-None.ensures.value)
