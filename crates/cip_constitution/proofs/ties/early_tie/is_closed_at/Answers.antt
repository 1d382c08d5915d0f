use Rattle.std.proofs.Common.{sym}
use Rattle.cip_constitution.proofs.lemmas.closed.Ligands.{lone_closed, branch_closed}
use Rattle.cip_constitution.proofs.ties.early_tie.is_closed_at.Goals as goal

pub returns-in-None-clause-closed : goal.returns-in-None-clause-closed
returns-in-None-clause-closed c =
    let s = c.args.trial.now.setting in
    let grown = c.requires.grown in
    sym (lone_closed s.rules s.graph.now s.positions.now s.units.now c.args.trial.now.arena.now grown.holds grown.some
    grown.sound c.args.ligand.now (sym c.in-None.ensures.number))

pub returns-in-Some-clause-closed : goal.returns-in-Some-clause-closed
returns-in-Some-clause-closed c =
    let s = c.args.trial.now.setting in
    let grown = c.requires.grown in
    branch_closed s.rules s.graph.now s.positions.now s.units.now c.args.trial.now.arena.now grown.holds grown.some
    grown.sound c.args.ligand.now c.in-Some.top (sym c.in-Some.ensures.number) c.is_closed.result
    c.is_closed.ensures.closed c.is_closed.ensures.opened

pub returns-in-Some-clause-room : goal.returns-in-Some-clause-room
returns-in-Some-clause-room c = c.is_closed.ensures.room
