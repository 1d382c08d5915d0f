use Rattle.std.proofs.Common.{◌-◌, map, ap, ◌∙◌}
use Rattle.cip_mol.specs.declared.labels.outcome.Rule.TheVariants.{R1a}
use Rattle.cip_digraph.specs.Asking.{with_found, found_between}
use Rattle.cip_constitution.proofs.lemmas.followed.Pairs.{notes_next}
use Rattle.cip_constitution.proofs.steps.recording.record_sphere.Goals as goal

pub returns : goal.returns
returns c setting pairs followed noted =
    let a = c.args.arena.now in
    notes_next setting.graph setting.positions a.root a.bound a.sphere c.args.branches.now followed c.requires pairs
    c.args.noted.now c.record_decisions.new.pairs noted
    (c.record_decisions.ensures ∙ ap (λ s. map (with_found (found_between c.args.branches.now.layers.ranked.numbers R1a (s - 1)))
    c.args.noted.now) c.sphere.ensures)
