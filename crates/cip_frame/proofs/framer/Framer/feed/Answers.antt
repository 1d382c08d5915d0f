use Rattle.std.proofs.Common.{rules, ◌≡◌}
use Rattle.cip_frame.proofs.lemmas.Holding.{holds_more, passed_more, front_more}
use Rattle.cip_frame.proofs.framer.Framer.feed.Goals as goal

pub returns-in-Err-clause-passed : goal.returns-in-Err-clause-passed
returns-in-Err-clause-passed c = λ given fed h e.
    let waiting : c.self-in-None.inside.waiting.items ≡ c.take_piece.new.self.waiting = search rules in
    let limit : c.self-in-None.inside.limit ≡ c.args.self.now.limit = search rules in
    passed_more given fed c.args.piece.now c.args.self.now c.take_piece.new.self _ h
    (c.in-Err.ensures.too_long e) waiting limit

pub returns-in-Err-clause-memory : goal.returns-in-Err-clause-memory
returns-in-Err-clause-memory c = λ given fed h e.
    let waiting : c.self-in-None.inside.waiting.items ≡ c.take_piece.new.self.waiting = search rules in
    rw waiting (front_more given fed c.args.piece.now c.args.self.now c.take_piece.new.self.waiting h
    (c.in-Err.ensures.memory e))

pub returns-in-Ok-clause-fed : goal.returns-in-Ok-clause-fed
returns-in-Ok-clause-fed c = λ given fed h.
    holds_more given fed c.args.piece.now c.args.self.now c.take_piece.new.self h c.in-Ok.ensures.taken
