-- The numbers of the exit statuses. Own.
use Rattle.std.specs.Prelude.{ℕ}

-- what was asked for is done, and no record is flagged
abbrev pub DONE : ℕ
DONE = 0

-- what was asked for is done; a record is refused, or a digraph of it is larger than the bound
abbrev pub FLAGGED : ℕ
FLAGGED = 1

-- the words are those of no command
abbrev pub WORDS_REFUSED : ℕ
WORDS_REFUSED = 2

abbrev pub READ_FAULT : ℕ
READ_FAULT = 3

abbrev pub WRITE_FAULT : ℕ
WRITE_FAULT = 4

abbrev pub OUT_OF_MEMORY : ℕ
OUT_OF_MEMORY = 5

-- a record or the input is longer than its limit
abbrev pub LIMIT : ℕ
LIMIT = 6

-- all records are written, but what was to be changed wasn't
abbrev pub NOT_CHANGED : ℕ
NOT_CHANGED = 8
