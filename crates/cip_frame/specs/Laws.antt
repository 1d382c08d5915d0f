-- What records are, in plain words. Own.
use Rattle.std.specs.Prelude.{◌≡◌, ◌++◌, ℕ, List}
use Rattle.std.specs.List.{concat}
use Rattle.cip_frame.specs.Records.{records_of, blank_tail}

-- the records in order, and the blank tail after them, are the stream
abbrev pub RecordsJoin : Type 0
RecordsJoin = (bytes : List ℕ) → concat (records_of bytes) ++ blank_tail bytes ≡ bytes
