-- The numbers in the fields and words of a molfile. CTfile Formats; that a field or word must hold a number of its
-- range is own.
use Rattle.std.specs.Prelude.{ℕ, zero, suc, ℤ, pos, negsuc, List, Some, None, Result, Ok, Err, nat_lt, nat_le, if◌then◌else◌}
use Rattle.std.specs.declared.option.Option.{Option}
use Rattle.cip_text.specs.Numbers.{integer_of}
use Rattle.cip_text.specs.declared.numbers.NumberFault.{NumberFault}
use Rattle.cip_text.specs.declared.numbers.NumberFault.TheVariants.{Empty, NotANumber, OutOfRange}

-- an empty field is 0, and one that is no number is nothing
abbrev pub or_zero : Result ℤ NumberFault → Option ℤ
or_zero (Ok number) = Some number
or_zero (Err Empty) = Some (pos 0)
or_zero (Err NotANumber) = None
or_zero (Err OutOfRange) = None

-- a word that is no number is nothing, also where it is empty
abbrev pub stated : Result ℤ NumberFault → Option ℤ
stated (Ok number) = Some number
stated (Err _) = None

abbrev pub up_to : ℕ → Option ℤ → Option ℕ
up_to most None = None
up_to most (Some (pos n)) = if nat_le n most then Some n else None
up_to most (Some (negsuc n)) = None

abbrev pub between : ℕ → ℕ → Option ℤ → Option ℤ
between low high None = None
between low high (Some (pos n)) = if nat_le n high then Some (pos n) else None
between low high (Some (negsuc n)) = if nat_lt n low then Some (negsuc n) else None

-- the number of a field, from 0 to a most
unfoldable pub number_in : ℕ → List ℕ → Option ℕ
number_in most field = up_to most (or_zero (integer_of field))

-- the number of a field, from `-low` to `high`
unfoldable pub signed_in : ℕ → ℕ → List ℕ → Option ℤ
signed_in low high field = between low high (or_zero (integer_of field))

-- the number of a word, from 0 to a most
unfoldable pub parse_number : ℕ → List ℕ → Option ℕ
parse_number most word = up_to most (stated (integer_of word))

-- the number of a word, from `-low` to `high`
unfoldable pub parse_signed : ℕ → ℕ → List ℕ → Option ℤ
parse_signed low high word = between low high (stated (integer_of word))

-- the place, from 0, of what a number names from 1
abbrev pub one_based_index : Option ℕ → Option ℕ
one_based_index None = None
one_based_index (Some zero) = None
one_based_index (Some (suc n)) = Some n
