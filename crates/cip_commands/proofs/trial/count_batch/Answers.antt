use Rattle.std.proofs.Common.{arith, rules, length, map, ap, ◌+◌, ◌∙◌, ◌≡◌}
use Rattle.std.proofs.lemmas.List.{length-map}
use Rattle.cip_commands.specs.Trying.{answer_of, answers_to}
use Rattle.cip_commands.proofs.lemmas.Counting.{batch_counted}
use Rattle.cip_commands.proofs.trial.count_batch.Goals as goal

pub add_all-requires : goal.add_all-requires
add_all-requires g c =
    let jobs = c.in-Ok.jobs.items in
    let answers = c.in-Ok-answers.answers.items in
    let same : c.deref.result.now ≡ jobs = search rules in
    let found : answers ≡ map answer_of jobs = c.in-Ok-answers.ensures.answers ∙ ap (map answer_of) same in
    let here : c.deref-in-Ok-answers.result.now ≡ answers = search rules in
    let many : length c.deref-in-Ok-answers.result.now ≡ length jobs =
    ap length here ∙ ap length found ∙ length-map jobs answer_of in
    record { few = omega (arith, c.requires.records, many, c.in-Ok.ensures.few) }

pub returns-in-Ok-answers-clause-counted : goal.returns-in-Ok-answers-clause-counted
returns-in-Ok-answers-clause-counted g c =
    let trial = c.args.trial.now in
    let jobs = c.in-Ok.jobs.items in
    let answers = c.in-Ok-answers.answers.items in
    let same : c.deref.result.now ≡ jobs = search rules in
    let found : answers ≡ map answer_of jobs = c.in-Ok-answers.ensures.answers ∙ ap (map answer_of) same in
    batch_counted (answers_to trial.series trial.labelling c.args.done) answers
    (answers_to trial.series trial.labelling (c.args.done + c.len-more.result)) jobs
    c.args.count.now c.add_all.new.self c.requires.so_far (search rules) found (search rules)

pub returns-in-Ok-answers-clause-records : goal.returns-in-Ok-answers-clause-records
returns-in-Ok-answers-clause-records g c =
    let jobs = c.in-Ok.jobs.items in
    let answers = c.in-Ok-answers.answers.items in
    let same : c.deref.result.now ≡ jobs = search rules in
    let found : answers ≡ map answer_of jobs = c.in-Ok-answers.ensures.answers ∙ ap (map answer_of) same in
    let here : c.deref-in-Ok-answers.result.now ≡ answers = search rules in
    let many : length c.deref-in-Ok-answers.result.now ≡ length jobs =
    ap length here ∙ ap length found ∙ length-map jobs answer_of in
    omega (arith, c.add_all.ensures.records, c.requires.records, many, c.len-more.ensures)

pub overflow_cast-more : goal.overflow_cast-more
overflow_cast-more g c = omega (arith, c.len-more.ensures, c.in-Ok.ensures.few)

pub returns-in-Ok-answers-clause-some : goal.returns-in-Ok-answers-clause-some
returns-in-Ok-answers-clause-some g c = omega (arith, c.len-more.ensures, c.in-Ok.ensures.some)

pub returns-in-Ok-answers-clause-within : goal.returns-in-Ok-answers-clause-within
returns-in-Ok-answers-clause-within g c = omega (arith, c.len-more.ensures, c.in-Ok.ensures.within)

pub returns-in-Ok-answers-clause-clerks : goal.returns-in-Ok-answers-clause-clerks
returns-in-Ok-answers-clause-clerks g c = c.map_batch-answers.ensures.workers

pub returns-in-Err-clause-clerks : goal.returns-in-Err-clause-clerks
returns-in-Err-clause-clerks g c = c.map_batch-answers.ensures.workers
