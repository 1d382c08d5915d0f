use Rattle.cip_batch.proofs.lemmas.Faults.{ended_limit, ended_read}
use Rattle.cip_batch.proofs.lemmas.Halting.{front_room}
use Rattle.cip_batch.proofs.lemmas.Tails.{below, less_room}
use Rattle.cip_batch.proofs.streams.stream.answer_halted.Goals as goal

pub process_tail-requires-clause-small : goal.process_tail-requires-clause-small
process_tail-requires-clause-small g c κs within =
    below c.args.inflow.now.framer.limit c.finish.result c.requires.limit c.finish.ensures.small

pub process_tail-requires-clause-room : goal.process_tail-requires-clause-room
process_tail-requires-clause-room g c κs within =
    front_room c.args.batch.now.first c.args.batch.now.records c.args.inflow.now.framer.waiting c.requires.room

pub process_batch-requires-clause-room : goal.process_batch-requires-clause-room
process_batch-requires-clause-room g c κs within =
    less_room _
    (front_room c.args.batch.now.first c.args.batch.now.records c.args.inflow.now.framer.waiting c.requires.room)

pub process_remaining-requires-clause-limit : goal.process_remaining-requires-clause-limit
process_remaining-requires-clause-limit g c κs within = c.requires.limit

pub process_remaining-requires-clause-room : goal.process_remaining-requires-clause-room
process_remaining-requires-clause-room g c κs within = less_room _ c.requires.room

pub returns-in-End : goal.returns-in-End
returns-in-End g c = record {
  answered = rw c.in-End.is
      (c.process_tail.ensures.answered c.args.inflow.now.framer.open_bytes c.finish.ensures.tail);
  fault = c.process_tail.ensures.fault;
}

pub returns-in-Fault : goal.returns-in-Fault
returns-in-Fault g c = record {
  answered = rw c.in-Fault.is (record {
    answered = c.process_batch.result;
    grew = c.process_batch.ensures.answered;
    ended = c.ended_by.ensures;
  });
  fault = rw c.ended_by.ensures (ended_read c.process_batch.result c.process_batch.ensures.fault);
}

pub returns-in-Limit : goal.returns-in-Limit
returns-in-Limit g c = record {
  answered = rw c.in-Limit.is (record {
    answered = c.process_remaining.result;
    grew = c.process_remaining.ensures.answered;
    ended = c.ended_by-in-Limit.ensures;
  });
  fault = rw c.ended_by-in-Limit.ensures (ended_limit c.process_remaining.result c.process_remaining.ensures.fault);
}
