-- What a call answers in place of a count of bytes, and what is out of its range. Own.
use Rattle.std.specs.Prelude.{ℕ, ℤ, negsuc}

-- negsuc 0 is -1

-- memory was refused
abbrev pub NO_MEMORY : ℤ
NO_MEMORY = negsuc 0

abbrev pub NULL_POINTER : ℤ
NULL_POINTER = negsuc 1

-- the labeller was given back, or couldn't be made
abbrev pub NOT_MADE : ℤ
NOT_MADE = negsuc 2

abbrev pub BOUND_OUTSIDE : ℤ
BOUND_OUTSIDE = negsuc 3

abbrev pub WORDING_UNKNOWN : ℤ
WORDING_UNKNOWN = negsuc 4

abbrev pub RECORD_TOO_LONG : ℤ
RECORD_TOO_LONG = negsuc 5

-- the largest bound on the nodes of a digraph
abbrev pub MOST_NODES : ℕ
MOST_NODES = 1000000

-- the longest record, in bytes
abbrev pub LONGEST : ℕ
LONGEST = 2147483647
