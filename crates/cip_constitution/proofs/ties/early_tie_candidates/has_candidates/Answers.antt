use Rattle.std.proofs.Common.{rules, ◌<◌, ◌∙◌, sym, arith}
use Rattle.std.proofs.lemmas.Grind.{common_steps}
use Rattle.cip_constitution.proofs.lemmas.anew.GoingOn.{each_anew}
use Rattle.cip_constitution.proofs.ties.early_tie_candidates.has_candidates.Goals as goal

pub returns-then-have_distinct_vertices-clause-anew : goal.returns-then-have_distinct_vertices-clause-anew
returns-then-have_distinct_vertices-clause-anew c none =
    let setting = c.args.trial.now.setting in
    let arena = c.args.trial.now.arena.now in
    let grown = c.requires.grown in
    let further : 1 < arena.sphere = search rules in
    each_anew setting.graph.now setting.positions.now arena grown.holds grown.some grown.sound grown.fits grown.last
    c.args.trial.now.branches.now c.requires.followed setting.rules setting.units.now further
    (c.all_go_on.ensures.elsewhere c.if-all_go_on.true) setting.ligands.now
    (sym c.have_distinct_vertices.ensures ∙ c.if-have_distinct_vertices.true)

pub all_go_on-requires-clause-grown : goal.all_go_on-requires-clause-grown
all_go_on-requires-clause-grown c = c.requires.grown

pub all_go_on-requires-clause-keyed : goal.all_go_on-requires-clause-keyed
all_go_on-requires-clause-keyed c = c.requires.keyed

pub has_candidate_from-requires-clause-grown : goal.has_candidate_from-requires-clause-grown
has_candidate_from-requires-clause-grown c = c.requires.grown

pub has_candidate_from-requires-clause-keyed : goal.has_candidate_from-requires-clause-keyed
has_candidate_from-requires-clause-keyed c = c.requires.keyed

pub has_candidate_from-requires-clause-room : goal.has_candidate_from-requires-clause-room
has_candidate_from-requires-clause-room c =
    let room = c.requires.room in let kept = c.loop-rest.invariant.room in omega (arith, room, kept)

pub loop-rest-preserved : goal.loop-rest-preserved
loop-rest-preserved c = grind (arith, common_steps)

pub returns-clause-anew : goal.returns-clause-anew
returns-clause-anew c = grind (arith, common_steps)
