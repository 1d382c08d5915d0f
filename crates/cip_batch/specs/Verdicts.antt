-- What records add to the end of a run, one after the other. Own.
use Rattle.std.specs.Prelude.{◌||◌, false, Some, None, Result, Ok, Err}
use Rattle.std.specs.declared.option.Option.{Option}
use Rattle.cip_batch.specs.declared.error.StreamError.{StreamError}
use Rattle.cip_batch.specs.declared.status.StreamStatus.{StreamStatus}

-- none is flagged, and there is no note
abbrev pub clear : {N : Type 0} → StreamStatus N
clear = record { flagged = false; note = None }

-- the first of two notes
abbrev pub first_note : {N : Type 0} → Option N → Option N → Option N
first_note (Some note) behind = Some note
first_note None behind = behind

-- of records, and of others after them
abbrev pub joined : {N : Type 0} → StreamStatus N → StreamStatus N → StreamStatus N
joined one behind = record {
  flagged = one.flagged || behind.flagged;
  note = first_note one.note behind.note;
}

-- the same result, with what records before add
abbrev pub joined_result : {N : Type 0} → StreamStatus N → Result (StreamStatus N) StreamError → Result (StreamStatus N) StreamError
joined_result verdict (Ok behind) = Ok (joined verdict behind)
joined_result verdict (Err stop) = Err stop
