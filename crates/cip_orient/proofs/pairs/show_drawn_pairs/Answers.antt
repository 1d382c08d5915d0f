use Rattle.std.proofs.Common.{arith, ◌∙◌}
use Rattle.cip_mol.specs.Pairs.{by_pairs}
use Rattle.cip_orient.specs.PairSigns.{pair_sign}
use Rattle.std.proofs.lemmas.Grind.{common_steps}
use Rattle.cip_orient.proofs.pairs.show_drawn_pairs.Goals as goal

pub returns : goal.returns
returns c =
    let firsts = c.as_slice.ensures.value ∙ c.steps-firsts.ensures.value in
    let seconds = c.as_slice-2.ensures.value ∙ c.steps-seconds.ensures.value in
    c.show_pairs.ensures
    ∙ (λ i. by_pairs (pair_sign c.args.sign (c.step_between-between.ensures.value i)) (firsts i) (seconds i))

pub steps-seconds-requires-clause-within : goal.steps-seconds-requires-clause-within
steps-seconds-requires-clause-within c = grind (arith, common_steps)

pub show_pairs-requires-clause-first : goal.show_pairs-requires-clause-first
show_pairs-requires-clause-first c = grind (arith, common_steps)

pub show_pairs-requires-clause-second : goal.show_pairs-requires-clause-second
show_pairs-requires-clause-second c = grind (arith, common_steps)

pub show_pairs-requires-clause-seconds : goal.show_pairs-requires-clause-seconds
show_pairs-requires-clause-seconds c = grind (arith, common_steps)

pub show_pairs-requires-clause-firsts : goal.show_pairs-requires-clause-firsts
show_pairs-requires-clause-firsts c = grind (arith, common_steps)

pub steps-firsts-requires-clause-within : goal.steps-firsts-requires-clause-within
steps-firsts-requires-clause-within c = grind (arith, common_steps)
