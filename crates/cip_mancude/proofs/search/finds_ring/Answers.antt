use Rattle.std.proofs.Common.{◌∙◌, ◌∷◌, ap}
use Rattle.cip_mancude.proofs.search.finds_ring.Goals as goal

pub goes_round-requires-clause-begun : goal.goes_round-requires-clause-begun
goes_round-requires-clause-begun c =
    c.push-2.ensures
    ∙ ap (λ path. c.args.next ∷ path) (c.push.ensures ∙ ap (λ path. c.args.aim.third ∷ path) c.new-path.ensures)
