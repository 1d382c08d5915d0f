-- Counts of faults over two calls, and results that blame none of them.
use Rattle.std.proofs.Common.{◌≤◌, ℕ, List, Option, Result, Ok, Err, arith}
use Rattle.std.specs.Prelude.{IsErrOf}
use Rattle.cip_frame.specs.Framing.{Framing}
use Rattle.cip_io.specs.Faults.{Rose}
use Rattle.cip_batch.specs.declared.error.StreamError.{StreamError}
use Rattle.cip_batch.specs.declared.error.StreamError.TheVariants as stops
use Rattle.cip_batch.specs.declared.status.StreamStatus.{StreamStatus}
use Rattle.cip_batch.specs.Batches.{Answers}
use Rattle.cip_batch.specs.Halting.{ended_by}
use Rattle.cip_batch.specs.ExpectedOutput.{ExpectedOutput}
use Rattle.cip_batch.specs.Reading.{Brings}
use Rattle.cip_batch.specs.Verdicts.{joined_result}

pub stays : (count : ℕ) → count ≤ count
stays count = omega arith

pub later_twice : (before between now : ℕ) → before ≤ between → between ≤ now → before ≤ now
later_twice before between now first second = omega arith

pub rose_later : (before between now : ℕ) → before ≤ between → Rose between now → Rose before now
rose_later before between now later rose = omega (arith, rose)

abbrev output : {T : Type 0} → T → Result T StreamError
output x = Ok x

abbrev failed : {T : Type 0} → StreamError → Result T StreamError
failed stop = Err stop

pub told_no_fault : {T P : Type 0} (x : T) → IsErrOf (output x) stops.WriteFault → P
told_no_fault x is = absurd (cc)

pub memory_no_fault : {T P : Type 0} → IsErrOf (failed {T = T} stops.Memory) stops.WriteFault → P
memory_no_fault is = absurd (cc)

pub memory_no_read_fault : {T P : Type 0} → IsErrOf (failed {T = T} stops.Memory) stops.ReadFault → P
memory_no_read_fault is = absurd (cc)

-- the cause for which it ends after records is no write fault
pub ended_read : {N P : Type 0} (answered : Result (StreamStatus N) StreamError) → (IsErrOf answered stops.WriteFault → P)
    → IsErrOf (ended_by stops.ReadFault answered) stops.WriteFault → P
ended_read (Ok verdict) fault is = absurd (cc)
ended_read (Err stop) fault is = fault is

pub ended_limit : {N P : Type 0} (answered : Result (StreamStatus N) StreamError) → (IsErrOf answered stops.WriteFault → P)
    → IsErrOf (ended_by stops.Limit answered) stops.WriteFault → P
ended_limit (Ok verdict) fault is = absurd (cc)
ended_limit (Err stop) fault is = fault is

-- records that were answered before blame nothing
pub joined_fault : {N P : Type 0} (verdict : StreamStatus N) (behind : Result (StreamStatus N) StreamError) (stop : StreamError)
    → (IsErrOf behind stop → P) → IsErrOf (joined_result verdict behind) stop → P
joined_fault verdict (Ok output) stop fault is = absurd (cc)
joined_fault verdict (Err cause) stop fault is = fault is

-- records that are answered blame no reading
pub answered_no_read_fault : {N P T : Type 0} (expected : ExpectedOutput N) (number : ℕ) (records : List (List ℕ)) (stop : StreamError)
    (old new : Option (List ℕ)) → Answers expected number records (Err stop) old new
    → IsErrOf (failed {T = T} stop) stops.ReadFault → P
answered_no_read_fault expected number records stops.ReadFault old new answers is = absurd answers
answered_no_read_fault expected number records stops.WriteFault old new answers is = absurd (cc)
answered_no_read_fault expected number records stops.Memory old new answers is = absurd (cc)
answered_no_read_fault expected number records stops.Limit old new answers is = absurd answers

-- where reading fails itself, it is for want of memory
pub brought_no_read_fault : {P T : Type 0} (room : ℕ) (stop : StreamError) (left rest : Option (List ℕ)) (old new : Framing)
    → Brings room (Err stop) left rest old new → IsErrOf (failed {T = T} stop) stops.ReadFault → P
brought_no_read_fault room stops.ReadFault left rest old new brings is = absurd brings
brought_no_read_fault room stops.WriteFault left rest old new brings is = absurd brings
brought_no_read_fault room stops.Memory left rest old new brings is = absurd (cc)
brought_no_read_fault room stops.Limit left rest old new brings is = absurd brings

pub brought_no_fault : {P T : Type 0} (room : ℕ) (stop : StreamError) (left rest : Option (List ℕ)) (old new : Framing)
    → Brings room (Err stop) left rest old new → IsErrOf (failed {T = T} stop) stops.WriteFault → P
brought_no_fault room stops.ReadFault left rest old new brings is = absurd brings
brought_no_fault room stops.WriteFault left rest old new brings is = absurd brings
brought_no_fault room stops.Memory left rest old new brings is = absurd (cc)
brought_no_fault room stops.Limit left rest old new brings is = absurd brings
