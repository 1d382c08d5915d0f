use Rattle.std.proofs.Common.{arith, rules, ◌≡◌, ◌+◌, length, map, subst, sym, ap}
use Rattle.std.proofs.lemmas.Grind.{common_steps}
use Rattle.cip_batch.specs.Batches.{Gathered, told_from, output_of}
use Rattle.cip_batch.proofs.lemmas.Batches.{told_pushed}
use Rattle.cip_batch.proofs.jobs.batch.Batch.push.Goals as goal

pub invariant_of-self-2 : goal.invariant_of-self-2
invariant_of-self-2 g c =
    let expected = g.T.RecordProcessor.expected c.self.inside.processor.now in
    let number : c.self.inside.first + c.len.result ≡ c.self.inside.first + length c.self.inside.waiting.items =
    search rules in
    subst (λ jobs. map (λ w. output_of (g.T.RecordProcessor.expected w.processor.now) w.number w.bytes) jobs
    ≡ told_from expected c.self.inside.first (map (λ w. w.bytes) jobs)) (sym c.in_ok-push.ensures.items)
    (told_pushed expected c.self.inside.first (λ w. output_of (g.T.RecordProcessor.expected w.processor.now) w.number w.bytes)
    (λ w. w.bytes) c.self.inside.waiting.items _ c.self.invariant
    (ap (λ n. output_of expected n c.args.bytes) number))

pub returns-clause-pushed : goal.returns-clause-pushed
returns-clause-pushed g c = grind (arith, common_steps)

pub overflow_add-number : goal.overflow_add-number
overflow_add-number g c = grind (arith, common_steps)

pub invariant_of-self : goal.invariant_of-self
invariant_of-self g c =
    let expected = g.T.RecordProcessor.expected c.self.inside.processor.now in
    subst (λ jobs. map (λ w. output_of (g.T.RecordProcessor.expected w.processor.now) w.number w.bytes) jobs
    ≡ told_from expected c.self.inside.first (map (λ w. w.bytes) jobs)) (sym c.in_err-push.ensures.items)
    c.self.invariant

pub returns-clause-processor : goal.returns-clause-processor
returns-clause-processor g c = ap (λ (batch : Gathered _). batch.processor) c.self.view_is
