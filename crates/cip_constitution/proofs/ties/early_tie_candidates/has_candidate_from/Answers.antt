use Rattle.std.proofs.Common.{arith}
use Rattle.std.proofs.lemmas.Grind.{common_steps}
use Rattle.cip_constitution.proofs.ties.early_tie_candidates.has_candidate_from.Goals as goal

pub are_candidates-requires-clause-grown : goal.are_candidates-requires-clause-grown
are_candidates-requires-clause-grown c = c.requires.grown

pub are_candidates-requires-clause-keyed : goal.are_candidates-requires-clause-keyed
are_candidates-requires-clause-keyed c = c.requires.keyed

pub are_candidates-requires-clause-room : goal.are_candidates-requires-clause-room
are_candidates-requires-clause-room c =
    let room = c.requires.room in let kept = c.loop-rest.invariant.room in omega (arith, room, kept)

pub loop-rest-preserved : goal.loop-rest-preserved
loop-rest-preserved c = grind (arith, common_steps)

pub returns-clause-anew : goal.returns-clause-anew
returns-clause-anew c = grind (arith, common_steps)
