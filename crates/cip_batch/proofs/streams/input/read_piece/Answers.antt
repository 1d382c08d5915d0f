use Rattle.std.proofs.Common.{rules, ◌≡◌, ap, subst, Ok, arith, refl, take, min, inl, inr}
use Rattle.std.specs.Io.KnownBytes.{Consumes}
use Rattle.cip_batch.proofs.lemmas.Progressing.{keeps_is}
use Rattle.cip_batch.proofs.lemmas.Turning.{IsFed, IsOverfed, end_no_fault, failed_no_fault, feeds, limit_no_fault, overfeeds, overflows, piece_no_fault, took, took_none, wants_memory}
use Rattle.cip_batch.proofs.streams.input.read_piece.Goals as goal

pub returns-in_default : goal.returns-in_default
returns-in_default g c =
    let none = keeps_is _ _ c.in_default.ensures.failed in
    record {
      brought = record { source = none; framer = refl };
      limit = refl;
      bounded = took_none _ _ _ none;
      later = c.pull_into.ensures.later;
      fault = λ is. c.in_default.ensures.fault;
    }

pub returns-then-count-eq0 : goal.returns-then-count-eq0
returns-then-count-eq0 g c =
    let none = subst (λ n. Consumes (g.S.Source.left c.args.source.now) (g.S.Source.left c.pull_into.new.source)
    (take n c.pull_into.new.piece)) c.if-count-eq0.true c.in-Ok.ensures.taken in
    record {
      brought = record {
        still = record { source = none; framer = refl };
        end = c.in-Ok.ensures.end c.if-count-eq0.true;
      };
      limit = refl;
      bounded = took_none _ _ _ none;
      later = c.pull_into.ensures.later;
      fault = end_no_fault;
    }

pub returns-in-Err : goal.returns-in-Err
returns-in-Err g c = record {
  brought = wants_memory c.args.room c.in-Err.stop _ _ _ _ c.in-Err.ensures.memory;
  limit = c.feed.ensures.limit;
  bounded = took c.in-Ok.count c.args.room c.pull_into.new.piece _ _ c.in-Ok.ensures.few c.in-Ok.ensures.taken;
  later = c.pull_into.ensures.later;
  fault = failed_no_fault c.in-Err.stop;
}

pub returns-in-Ok-TooLong : goal.returns-in-Ok-TooLong
returns-in-Ok-TooLong g c =
    let same : c.front.result.now ≡ take (min c.in-Ok.count c.args.room) c.pull_into.new.piece = search rules in
    let fed : IsOverfed c.front.result.now c.args.framer.now c.feed.new.framer =
    λ given before h. c.in-Ok-TooLong.ensures.too_long given before h (ap Ok c.in-Ok-TooLong.field-0-is) in
    record {
      brought = inl (overfeeds c.in-Ok.count c.args.room c.pull_into.new.piece _ _ _ _ c.in-Ok.ensures.within
          c.in-Ok.ensures.taken (subst (λ bytes. IsOverfed bytes c.args.framer.now c.feed.new.framer) same fed));
      limit = c.feed.ensures.limit;
      bounded = took c.in-Ok.count c.args.room c.pull_into.new.piece _ _ c.in-Ok.ensures.few c.in-Ok.ensures.taken;
      later = c.pull_into.ensures.later;
      fault = limit_no_fault;
    }

pub returns-then-count-room : goal.returns-then-count-room
returns-then-count-room g c =
    let same : c.front.result.now ≡ take (min c.in-Ok.count c.args.room) c.pull_into.new.piece = search rules in
    let fed : IsFed c.front.result.now c.args.framer.now c.feed.new.framer =
    λ given before h. c.in-Ok-Fits.ensures.fits given before h (ap Ok c.in-Ok-Fits.field-0-is) in
    record {
      brought = feeds c.in-Ok.count c.args.room c.pull_into.new.piece _ _ _ _ (omega arith)
          (omega arith) c.in-Ok.ensures.within c.in-Ok.ensures.taken
          (subst (λ bytes. IsFed bytes c.args.framer.now c.feed.new.framer) same fed);
      limit = c.feed.ensures.limit;
      bounded = took c.in-Ok.count c.args.room c.pull_into.new.piece _ _ c.in-Ok.ensures.few c.in-Ok.ensures.taken;
      later = c.pull_into.ensures.later;
      fault = piece_no_fault c.in-Ok.count;
    }

pub returns-else-count-room : goal.returns-else-count-room
returns-else-count-room g c =
    let same : c.front.result.now ≡ take (min c.in-Ok.count c.args.room) c.pull_into.new.piece = search rules in
    let fed : IsFed c.front.result.now c.args.framer.now c.feed.new.framer =
    λ given before h. c.in-Ok-Fits.ensures.fits given before h (ap Ok c.in-Ok-Fits.field-0-is) in
    record {
      brought = inr (overflows c.in-Ok.count c.args.room c.pull_into.new.piece _ _ _ _
          (omega arith) c.in-Ok.ensures.few c.in-Ok.ensures.within c.in-Ok.ensures.taken
          (subst (λ bytes. IsFed bytes c.args.framer.now c.feed.new.framer) same fed));
      limit = c.feed.ensures.limit;
      bounded = took c.in-Ok.count c.args.room c.pull_into.new.piece _ _ c.in-Ok.ensures.few c.in-Ok.ensures.taken;
      later = c.pull_into.ensures.later;
      fault = limit_no_fault;
    }
