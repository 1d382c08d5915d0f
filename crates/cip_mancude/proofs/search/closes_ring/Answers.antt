use Rattle.std.proofs.Common.{sym, ◌∙◌}
use Rattle.std.proofs.lemmas.Result.{IfOk-weaker}
use Rattle.cip_mancude.proofs.lemmas.Searched.{closes_is}
use Rattle.cip_mancude.proofs.search.closes_ring.Goals as goal

pub returns-then-can_close : goal.returns-then-can_close
returns-then-can_close c =
    IfOk-weaker c.finds_ring.result _ _
    (λ found is.
    closes_is c.args.alternation.now c.args.vertex c.args.other c.in-Some.next found c.in-Some.ensures
    (sym c.if-can_close.true ∙ c.can_close.ensures) is) c.finds_ring.ensures
