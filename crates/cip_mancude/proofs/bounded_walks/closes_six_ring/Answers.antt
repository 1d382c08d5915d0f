use Rattle.std.proofs.Common.{◌≡◌, ◌+◌, ◌-◌, ◌∙◌, sym, subst, true, arith}
use Rattle.cip_mancude.specs.SharedRings.{reaches_by}
use Rattle.cip_mancude.proofs.lemmas.WaySteps.{further_by}
use Rattle.cip_mancude.proofs.bounded_walks.closes_six_ring.Goals as goal

pub returns-clause-found : goal.returns-clause-found
returns-clause-found c found =
    let first = c.min.result in
    let sum : (c.args.more - first) + first ≡ c.args.more = omega (arith, c.min.ensures) in
    subst (λ more. reaches_by c.args.alternation.now c.args.aim.third c.args.aim.target more c.args.path.now c.args.at
    ≡ true) sum
    (further_by c.args.alternation.now c.args.aim.third c.args.aim.target first (c.args.more - first) c.args.path.now
    c.args.at (sym c.reaches_by.ensures.value ∙ found))
