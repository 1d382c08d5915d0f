use Rattle.std.proofs.Common.{◌∙◌, ◌∷◌, [], sym, arith, rules}
use Rattle.std.proofs.lemmas.Grind.{common_steps}
use Rattle.cip_mancude.proofs.lemmas.Searched.{begun_with}
use Rattle.cip_mancude.proofs.lemmas.Walked.{no_ring}
use Rattle.cip_mancude.proofs.search.goes_round.Goals as goal

pub returns-then-closes_six_ring : goal.returns-then-closes_six_ring
returns-then-closes_six_ring c =
    sym (c.closes_six_ring.ensures.found c.if-closes_six_ring.true)
    ∙ begun_with c.args.alternation.now c.args.aim.third c.args.next c.args.aim.target c.args.most _ c.requires.begun

pub returns-in-Ok-false : goal.returns-in-Ok-false
returns-in-Ok-false c =
    no_ring c.args.alternation.now c.args.aim.target c.args.most (c.args.next ∷ c.args.aim.third ∷ []) c.args.next
    (search rules)

pub returns-in-Ok-true : goal.returns-in-Ok-true
returns-in-Ok-true c =
    c.reaches_by.ensures.value
    ∙ begun_with c.args.alternation.now c.args.aim.third c.args.next c.args.aim.target c.args.most _
    (c.closes_six_ring.ensures.path ∙ c.requires.begun)

pub reaches_by-requires : goal.reaches_by-requires
reaches_by-requires c = grind (arith, common_steps)
