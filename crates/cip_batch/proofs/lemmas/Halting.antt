-- A run over a source, from its turns.
use Rattle.std.proofs.Common.{◌≡◌, ◌<◌, ◌+◌, ◌-◌, ◌^◌, ◌++◌, [], ℕ, List, length, Option, Some, None, Result, Ok, Err, IfSome, refl, subst, sym, ◌∙◌, ap, append-nil, length-append, arith}
use Rattle.std.specs.Prelude.{IsErrOf}
use Rattle.cip_frame.specs.Framing.{Framing}
use Rattle.cip_frame.specs.Records.{cut_of}
use Rattle.cip_batch.specs.declared.limits.Limits.{Limits}
use Rattle.cip_batch.specs.declared.streams.input.InputEnd.{InputEnd}
use Rattle.cip_batch.specs.declared.streams.input.InputEnd.TheVariants.{End, Fault, Limit}
use Rattle.cip_batch.specs.declared.error.StreamError.{StreamError}
use Rattle.cip_batch.specs.declared.error.StreamError.TheVariants as stops
use Rattle.cip_batch.specs.declared.status.StreamStatus.{StreamStatus}
use Rattle.cip_batch.specs.Batches.{Answers, AnswersTail}
use Rattle.cip_batch.specs.Endings.{EndsAs}
use Rattle.cip_batch.specs.Halting.{AnswersHalted, AnswersSource, ended_by}
use Rattle.cip_batch.specs.ExpectedOutput.{ExpectedOutput}
use Rattle.cip_batch.specs.Reading.{Brings, Halts, StandsStill, TakesAtMost}
use Rattle.cip_batch.specs.Verdicts.{joined_result}
use Rattle.cip_batch.proofs.lemmas.Ending.{bounded, ended, limit_met, limited, read_fault, room_met, still_fed, stopped_at_limit, stopped_fed, turn_failed}
use Rattle.cip_batch.proofs.lemmas.Progressing.{Fed, Progress, room_between}
use Rattle.cip_batch.proofs.lemmas.Tails.{never_read_fault, no_read_fault}

-- there is room for those that are gathered alone
pub front_room : (first : ℕ) (records more : List (List ℕ)) → first + length (records ++ more) < 2 ^ 64 - 1
    → first + length records < 2 ^ 64 - 1
front_room first records more room = omega (arith, length-append records more, room)

unread : {N : Type 0} (expected : ExpectedOutput N) (limits : Limits) (left old new : Option (List ℕ))
    → IfSome left (EndsAs expected limits (Err stops.ReadFault) old new)
unread expected limits None old new = tt
unread expected limits (Some bytes) old new = tt

abbrev failed_by : {N : Type 0} → StreamError → Result (StreamStatus N) StreamError
failed_by stop = Err stop

-- a limit is no read fault
limit_no_read_fault : {N : Type 0} (expected : ExpectedOutput N) (verdict : StreamStatus N) (answered : Result (StreamStatus N) StreamError)
    (first : ℕ) (records : List (List ℕ)) (old new : Option (List ℕ)) → Answers expected first records answered old new
    → joined_result verdict (ended_by stops.Limit answered) ≡ failed_by stops.ReadFault → ⊥
limit_no_read_fault expected verdict (Ok behind) first records old new answers is = cc
limit_no_read_fault expected verdict (Err stop) first records old new answers is =
    never_read_fault expected first records stop old new answers is

end_no_read_fault : {N : Type 0} (expected : ExpectedOutput N) (verdict : StreamStatus N) (result : Result (StreamStatus N) StreamError)
    (first : ℕ) (records : List (List ℕ)) (rest : List ℕ) (old new : Option (List ℕ))
    → AnswersTail expected first records rest result old new
    → joined_result verdict result ≡ failed_by stops.ReadFault → ⊥
end_no_read_fault expected verdict (Ok behind) first records rest old new answers is = cc
end_no_read_fault expected verdict (Err stop) first records rest old new answers is =
    no_read_fault expected first records rest stop old new answers is

-- only a fault of the source ends a run as one
pub halted_by_fault : {N : Type 0} (expected : ExpectedOutput N) (halt : InputEnd) (verdict : StreamStatus N)
    (result : Result (StreamStatus N) StreamError) (first : ℕ) (records : List (List ℕ)) (framer : Framing)
    (old new : Option (List ℕ)) → AnswersHalted expected halt first records framer result old new
    → IsErrOf (joined_result verdict result) stops.ReadFault → halt ≡ Fault
halted_by_fault expected End verdict result first records framer old new answers is =
    absurd (end_no_read_fault expected verdict result first records framer.open_bytes old new answers is)
halted_by_fault expected Fault verdict result first records framer old new answers is = refl
halted_by_fault expected Limit verdict result first records framer old new answers is =
    absurd (limit_no_read_fault expected verdict answers.answered first (records ++ framer.waiting) old new answers.grew
    (rw answers.ended at is))

module _ {N : Type 0} (expected : ExpectedOutput N) (limits : Limits) (room : ℕ) (verdict : StreamStatus N) where
  -- records stopped it
  pub stopped : (stop : StreamError) (left rest old half new : Option (List ℕ)) (framer : Framing) (first : ℕ)
      (gathered : List (List ℕ)) → Fed expected limits room verdict left rest old half framer first gathered
      → Answers expected first gathered (Err stop) half new → TakesAtMost (limits.input + 1) left rest
      → AnswersSource expected limits (Err stop) left rest old new
  stopped stop left rest old half new framer first gathered fed answers within = record {
    ended = stopped_fed expected limits room verdict stop left rest old half new framer first gathered fed answers;
    whole = λ is. absurd (cc);
    read_fault = λ is. absurd (never_read_fault expected first gathered stop half new answers is);
    bounded = within;
  }

  module _ (left middle rest old half : Option (List ℕ)) (framer now : Framing) (first : ℕ) (batch : List (List ℕ))
      (before : Progress expected limits room verdict left middle old half framer first batch)
      (takes : TakesAtMost (room + 1) middle rest) where
    within : TakesAtMost (limits.input + 1) left rest
    within = bounded expected limits room verdict left middle rest old half framer first batch before takes

    room_still : StandsStill middle rest framer now → limits.input < 2 ^ 63
        → first + length (batch ++ now.waiting) < 2 ^ 64 - 1
    room_still still few =
        let none : now.waiting ≡ [] = ap (λ (f : Framing). f.waiting) still.framer ∙ before.empty in
        rw (none, append-nil batch)
        (omega (
          arith,
          room_between expected limits room verdict left middle old half framer first
              batch before few,
        ))

    -- a turn failed
    pub failed : (stop : StreamError) → Brings room (Err stop) middle rest framer now
        → AnswersSource expected limits (Err stop) left rest old half
    failed stops.Memory brought = record {
      ended = turn_failed expected limits room verdict stops.Memory left middle rest old half framer now first batch
          before brought;
      whole = λ is. absurd (cc);
      read_fault = λ is. absurd (cc);
      bounded = within;
    }
    failed stops.ReadFault brought = absurd brought
    failed stops.WriteFault brought = absurd brought
    failed stops.Limit brought = absurd brought

    -- the end of the source

    at_end : (result : Result (StreamStatus N) StreamError) (new : Option (List ℕ)) → Halts End room middle rest framer now
        → AnswersTail expected first batch (cut_of before.fed).rest result half new
        → AnswersSource expected limits (joined_result verdict result) left rest old new
    at_end (Ok behind) new came answers = record {
      ended = ended expected limits room verdict (Ok behind) left middle rest old half new framer now first batch before
          came
          answers;
      whole = λ is. came.end;
      read_fault = λ is. absurd (cc);
      bounded = within;
    }
    at_end (Err stop) new came answers = record {
      ended = ended expected limits room verdict (Err stop) left middle rest old half new framer now first batch before
          came
          answers;
      whole = λ is. absurd (cc);
      read_fault = λ is. absurd (no_read_fault expected first batch (cut_of before.fed).rest stop half new answers is);
      bounded = within;
    }

    -- a read fault
    at_fault : (answered : Result (StreamStatus N) StreamError) (new : Option (List ℕ)) → Halts Fault room middle rest framer now
        → Answers expected first batch answered half new
        → AnswersSource expected limits (joined_result verdict (ended_by stops.ReadFault answered)) left rest old new
    at_fault (Ok behind) new still answers = record {
      ended = unread expected limits left old new;
      whole = λ is. absurd (cc);
      read_fault = λ is. read_fault expected limits room verdict behind left middle rest old half new framer now first
          batch
          before still answers;
      bounded = within;
    }
    at_fault (Err stop) new still answers = record {
      ended = stopped_fed expected limits room verdict stop left middle old half new framer first batch
          (still_fed expected limits room verdict left middle old half framer first batch before) answers;
      whole = λ is. absurd (cc);
      read_fault = λ is. absurd (never_read_fault expected first batch stop half new answers is);
      bounded = within;
    }

    -- a limit
    at_limit : (answered : Result (StreamStatus N) StreamError) (new : Option (List ℕ)) → Halts Limit room middle rest framer now
        → now.limit ≡ framer.limit → Answers expected first (batch ++ now.waiting) answered half new
        → AnswersSource expected limits (joined_result verdict (ended_by stops.Limit answered)) left rest old new
    at_limit (Ok behind) new came limit answers = record {
      ended = limited expected limits verdict behind left rest old half new first (batch ++ now.waiting)
          (limit_met expected limits room verdict left middle rest old half framer now first batch before came limit)
          answers;
      whole = λ is. absurd (cc);
      read_fault = λ is. absurd (cc);
      bounded = within;
    }
    at_limit (Err stop) new came limit answers = record {
      ended = stopped_at_limit expected limits verdict stop left rest old half new first (batch ++ now.waiting)
          (limit_met expected limits room verdict left middle rest old half framer now first batch before came limit)
          answers;
      whole = λ is. absurd (cc);
      read_fault = λ is. absurd (never_read_fault expected first (batch ++ now.waiting) stop half new answers is);
      bounded = within;
    }

    -- the numbers of the records that are gathered
    pub room_halted : (halt : InputEnd) → Halts halt room middle rest framer now → now.limit ≡ framer.limit
        → limits.input < 2 ^ 63 → first + length (batch ++ now.waiting) < 2 ^ 64 - 1
    room_halted End came limit few = room_still came.still few
    room_halted Fault still limit few = room_still still few
    room_halted Limit came limit few =
        omega (
          arith,
          room_met expected limits verdict left rest old half first (batch ++ now.waiting)
              (limit_met expected limits room verdict left middle rest old half framer now first batch before came limit) few,
        )

    -- at the end of the source the framer has no fault
    pub sound_halted : (halt : InputEnd) → Halts halt room middle rest framer now → halt ≡ End → now.fault ≡ None
    sound_halted End came is = ap (λ (f : Framing). f.fault) came.still.framer ∙ before.holds.fault
    sound_halted Fault still is = absurd (cc)
    sound_halted Limit came is = absurd (cc)

    -- nothing more was read, and the records that are gathered were answered
    pub halted : (halt : InputEnd) (result : Result (StreamStatus N) StreamError) (new : Option (List ℕ))
        → Halts halt room middle rest framer now → now.limit ≡ framer.limit
        → AnswersHalted expected halt first batch now result half new
        → AnswersSource expected limits (joined_result verdict result) left rest old new
    halted End result new came limit answers =
        at_end result new came (subst (λ rest. AnswersTail expected first batch rest result half new)
        (ap (λ (f : Framing). f.open_bytes) came.still.framer ∙ before.holds.open_bytes) answers)
    halted Fault result new came limit answers =
        subst (λ r. AnswersSource expected limits (joined_result verdict r) left rest old new) (sym answers.ended)
        (at_fault answers.answered new came answers.grew)
    halted Limit result new came limit answers =
        subst (λ r. AnswersSource expected limits (joined_result verdict r) left rest old new) (sym answers.ended)
        (at_limit answers.answered new came limit answers.grew)
