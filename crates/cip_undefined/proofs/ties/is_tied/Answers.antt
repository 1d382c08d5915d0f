use Rattle.std.proofs.Common.{◌∙◌, ap}
use Rattle.cip_digraph.specs.units.Ends.{end_at}
use Rattle.cip_label.specs.Labelling.{ranked_root}
use Rattle.cip_undefined.specs.Ties.{is_tie}
use Rattle.cip_undefined.proofs.ties.is_tied.Goals as goal

pub returns-clause-tied : goal.returns-clause-tied
returns-clause-tied g c =
    c.is_tie.ensures
    ∙ ap is_tie
    (c.in_ok-ranked.ensures.ranked
    ∙ ap (λ ligands. ranked_root c.args.setting.now c.args.labeller.now (end_at c.args.pair.now.at ligands))
    c.ligands-ligands.ensures)
