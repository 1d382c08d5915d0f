use Rattle.std.proofs.Common.{◌∙◌, List, ap, arith, length}
use Rattle.std.proofs.lemmas.List.{with_items_is}
use Rattle.cip_batch.proofs.jobs.pool.PoolWorkers.answer.Goals as goal

pub returns : goal.returns
returns g c = c.map_batch.ensures.answers

pub invariant_of-self : goal.invariant_of-self
invariant_of-self g c =
    let many = c.map_batch.ensures.workers ∙ ap (λ (ws : List _). length ws) c.deref_mut.ensures.value in
    rw (with_items_is c.self.inside.workers c.map_batch.new.workers (c.map_batch.ensures.workers
    ∙ c.deref_mut.ensures.len))
    (omega (arith, c.self.invariant.0, many), omega (arith, c.self.invariant.1, many))
