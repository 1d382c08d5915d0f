-- What a run over a stream keeps from turn to turn.
use Rattle.std.proofs.Common.{◌≡◌, ◌≤◌, ◌<◌, ◌+◌, ◌-◌, ◌^◌, ℕ, List, [], ◌++◌, length, Option, Some, None, Ok, refl, sym, ◌∙◌, ap, arith, append-nil, length-append, subst}
use Rattle.std.specs.Io.KnownBytes.{Consumes, Keeps}
use Rattle.cip_frame.specs.Records.{cut_of}
use Rattle.cip_frame.specs.Framing.{Framing, Holds}
use Rattle.cip_batch.specs.declared.limits.Limits.{Limits}
use Rattle.cip_batch.specs.declared.streams.input.ReadStep.{ReadStep}
use Rattle.cip_batch.specs.declared.streams.input.ReadStep.TheVariants.{Piece}
use Rattle.cip_batch.specs.declared.status.StreamStatus.{StreamStatus}
use Rattle.cip_batch.specs.ExpectedOutput.{ExpectedOutput}
use Rattle.cip_batch.specs.Verdicts.{clear, joined}
use Rattle.cip_batch.specs.Batches.{Advances}
use Rattle.cip_batch.specs.Reading.{Brings, Feeds}
use Rattle.cip_batch.proofs.lemmas.Batches.{none_yet, gathers, advances_both, same_next}
use Rattle.cip_batch.proofs.lemmas.Bounds.{consumes_both}
use Rattle.cip_batch.proofs.lemmas.Counting.{few_closed}
use Rattle.cip_batch.proofs.lemmas.Turning.{piece_came}

-- At the head of a turn: what was taken was fed, its closed records were answered but for those that are gathered, and
-- the framer holds none.
pub record Progress {N : Type 0} (expected : ExpectedOutput N) (limits : Limits) (room : ℕ) (verdict : StreamStatus N)
    (left rest old new : Option (List ℕ)) (framer : Framing) (first : ℕ) (batch : List (List ℕ)) : Type 0 where
  pub fed : List ℕ
  pub taken : Consumes left rest fed
  pub holds : Holds (cut_of fed).whole fed framer
  pub empty : framer.waiting ≡ []
  pub count : length fed + room ≡ limits.input
  pub limit : framer.limit ≡ limits.record
  pub came : Advances expected 1 (cut_of fed).whole first batch verdict old new

-- nothing taken

consumes_none : (left : Option (List ℕ)) → Consumes left left []
consumes_none None = tt
consumes_none (Some bytes) = refl

pub keeps_is : (left rest : Option (List ℕ)) → Keeps left rest → Consumes left rest []
keeps_is None rest same = tt
keeps_is (Some bytes) None same = absurd same
keeps_is (Some bytes) (Some others) same = sym same

begun_so : {N : Type 0} (expected : ExpectedOutput N) (limits : Limits) (left old : Option (List ℕ)) (framer : Framing)
    → Holds [] [] framer → framer.waiting ≡ [] → framer.limit ≡ limits.record
    → Progress expected limits limits.input clear left left old old framer 1 []
begun_so expected limits left old framer holds empty limit = record {
  fed = [];
  taken = consumes_none left;
  holds = holds;
  empty = empty;
  count = omega arith;
  limit = limit;
  came = none_yet expected 1 [] old;
}

pub begun : {N : Type 0} (expected : ExpectedOutput N) (limits : Limits) (verdict : StreamStatus N) (left old : Option (List ℕ))
    (framer : Framing) (first : ℕ) (batch : List (List ℕ)) → verdict ≡ clear → first ≡ 1 → batch ≡ []
    → Holds [] [] framer → framer.waiting ≡ [] → framer.limit ≡ limits.record
    → Progress expected limits limits.input verdict left left old old framer first batch
begun expected limits verdict left old framer first batch none one no_batch holds empty limit =
    rw (none, one, no_batch) (begun_so expected limits left old framer holds empty limit)

-- the numbers of the records that are gathered

pub room_between : {N : Type 0} (expected : ExpectedOutput N) (limits : Limits) (room : ℕ) (verdict : StreamStatus N)
    (left rest old new : Option (List ℕ)) (framer : Framing) (first : ℕ) (batch : List (List ℕ))
    → Progress expected limits room verdict left rest old new framer first batch → limits.input < 2 ^ 63
    → first + length batch ≤ 2 ^ 63
room_between expected limits room verdict left rest old new framer first batch before few =
    let next = same_next expected 1 first (cut_of before.fed).whole batch verdict old new before.came in
    omega (arith, next, few_closed before.fed, before.count, few)

-- a turn that brought a piece

-- the records that wait in the framer go on from those that are gathered
pub record Fed {N : Type 0} (expected : ExpectedOutput N) (limits : Limits) (room : ℕ) (verdict : StreamStatus N)
    (left rest old new : Option (List ℕ)) (framer : Framing) (first : ℕ) (gathered : List (List ℕ)) : Type 0 where
  pub fed : List ℕ
  pub taken : Consumes left rest fed
  pub holds : Holds (cut_of fed).whole fed (record framer { waiting = [] })
  pub count : length fed + room ≡ limits.input
  pub limit : framer.limit ≡ limits.record
  pub came : Advances expected 1 (cut_of fed).whole first gathered verdict old new

fed_piece : {N : Type 0} (expected : ExpectedOutput N) (limits : Limits) (room count : ℕ) (verdict : StreamStatus N)
    (left middle rest old new : Option (List ℕ)) (framer now : Framing) (first : ℕ) (batch : List (List ℕ))
    → Progress expected limits room verdict left middle old new framer first batch
    → Feeds count room middle rest framer now → now.limit ≡ framer.limit
    → Fed expected limits (room - count) verdict left rest old new now first (batch ++ now.waiting)
fed_piece expected limits room count verdict left middle rest old new framer now first batch before feeds limit =
    let holds = feeds.fed (cut_of before.fed).whole before.fed before.holds in
    record {
      fed = before.fed ++ feeds.bytes;
      taken = consumes_both left middle rest before.fed feeds.bytes before.taken feeds.taken;
      holds = record {
        records = append-nil (cut_of (before.fed ++ feeds.bytes)).whole;
        open_bytes = holds.open_bytes;
        within = holds.within;
        fault = holds.fault;
      };
      count = rw (length-append before.fed feeds.bytes) (omega (arith, before.count, feeds.counted, feeds.few));
      limit = limit ∙ before.limit;
      came = subst (λ records. Advances expected 1 records first (batch ++ now.waiting) verdict old new) holds.records
          (gathers expected 1 first (cut_of before.fed).whole batch now.waiting verdict old new before.came);
    }

pub fed_turn : {N : Type 0} (expected : ExpectedOutput N) (limits : Limits) (room count : ℕ) (verdict : StreamStatus N)
    (left middle rest old new : Option (List ℕ)) (framer now : Framing) (first : ℕ) (batch : List (List ℕ))
    (turn : ReadStep) → turn ≡ Piece count → Progress expected limits room verdict left middle old new framer first batch
    → Brings room (Ok turn) middle rest framer now → now.limit ≡ framer.limit
    → Fed expected limits (room - count) verdict left rest old new now first (batch ++ now.waiting)
fed_turn expected limits room count verdict left middle rest old new framer now first batch turn is before came limit =
    fed_piece expected limits room count verdict left middle rest old new framer now first batch before
    (piece_came room count turn middle rest framer now is came) limit

pub room_fed : {N : Type 0} (expected : ExpectedOutput N) (limits : Limits) (room : ℕ) (verdict : StreamStatus N)
    (left rest old new : Option (List ℕ)) (framer : Framing) (first : ℕ) (gathered : List (List ℕ))
    → Fed expected limits room verdict left rest old new framer first gathered → limits.input < 2 ^ 63
    → first + length gathered < 2 ^ 64
room_fed expected limits room verdict left rest old new framer first gathered fed few =
    let next = same_next expected 1 first (cut_of fed.fed).whole gathered verdict old new fed.came in
    omega (arith, next, few_closed fed.fed, fed.count, few)

pub turned : {N : Type 0} (expected : ExpectedOutput N) (limits : Limits) (room : ℕ) (verdict more : StreamStatus N)
    (left rest old half new : Option (List ℕ)) (framer next : Framing) (first later : ℕ)
    (gathered batch : List (List ℕ)) → Fed expected limits room verdict left rest old half framer first gathered
    → Advances expected first gathered later batch more half new → next ≡ record framer { waiting = [] }
    → Progress expected limits room (joined verdict more) left rest old new next later batch
turned expected limits room verdict more left rest old half new framer next first later gathered batch fed came same =
    record {
      fed = fed.fed;
      taken = fed.taken;
      holds = subst (Holds (cut_of fed.fed).whole fed.fed) (sym same) fed.holds;
      empty = ap (λ (f : Framing). f.waiting) same;
      count = fed.count;
      limit = ap (λ (f : Framing). f.limit) same ∙ fed.limit;
      came = subst (λ records. Advances expected 1 (cut_of fed.fed).whole later records (joined verdict more) old new)
          (append-nil batch)
          (advances_both expected 1 first later (cut_of fed.fed).whole gathered [] batch verdict more old half new
          (subst (λ records. Advances expected 1 (cut_of fed.fed).whole first records verdict old half)
          (sym (append-nil gathered)) fed.came) came);
    }
