use Rattle.std.proofs.Common.{ap, ◌++◌, ◌∙◌}
use Rattle.std.specs.Prelude.{codes, decimal}
use Rattle.cip_print.specs.Tallies.{Counts, units_part}
use Rattle.cip_print.proofs.lemmas.Summaries.{summed}
use Rattle.cip_print.proofs.tally.Tally.line.Goals as goal

pub returns-in-Ok-format : goal.returns-in-Ok-format
returns-in-Ok-format c =
    let counts = c.self.inside in
    ap (λ bytes. bytes.items) c.into_bytes.ensures.value ∙ c.in-Ok-format.ensures.ok
    ∙ ap (λ part. codes "records " ++ (decimal counts.records ++ (codes " refused " ++ (decimal counts.refused ++ part))))
    c.in-Ok.ensures
    ∙ ap (λ (output : Counts). codes "records " ++ (decimal output.records ++ (codes " refused " ++ (decimal output.refused
    ++ units_part c.args.self.now)))) c.self.view_is
    ∙ summed c.args.self.now
