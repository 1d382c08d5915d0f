-- The numbers in fields. CTfile Formats; ranges and the forms of a decimal are own.
use Rattle.std.specs.Prelude.{ℕ, ℤ, pos, neg_ℤ, List, [], ◌+◌, ◌-◌, ◌*◌, Bool, ◌==◌, ◌&&◌, ◌||◌, nat_lt, nat_le, length, take, drop, fold, position, slice_index_or, Some, None, Ok, Err, Result, if◌then◌else◌}
use Rattle.std.specs.declared.option.Option.{Option}
use Rattle.std.specs.List.{list_all}
use Rattle.cip_text.specs.Lines.{starts_with_byte}
use Rattle.cip_text.specs.declared.numbers.NumberFault.{NumberFault}
use Rattle.cip_text.specs.declared.numbers.NumberFault.TheVariants.{Empty, NotANumber, OutOfRange}

-- digits

abbrev pub is_digit : ℕ → Bool
is_digit b = nat_le 48 b && nat_le b 57

-- the number that digits spell
abbrev pub value : List ℕ → ℕ
value digits = fold (λ n d. 10 * n + (d - 48)) 0 digits

-- the digit at a place, 0 past the last
abbrev pub digit : List ℕ → ℕ → ℕ
digit digits place = slice_index_or digits place 48 - 48

-- the number that at least one digit, and nothing else, spells
abbrev pub whole : List ℕ → Option ℕ
whole text = if list_all is_digit text && nat_lt 0 (length text) then Some (value text) else None

-- decimals, in ten-thousandths

abbrev pub is_point : ℕ → Bool
is_point b = b == 46

-- digits before a point and digits after it, at least one in all; those past the fourth place are dropped
abbrev pub parts : List ℕ → List ℕ → Option ℕ
parts before behind =
    if list_all is_digit before && list_all is_digit behind && nat_lt 0 (length before + length behind)
    then Some (10000 * value before
    + (1000 * digit behind 0 + (100 * digit behind 1 + (10 * digit behind 2 + digit behind 3))))
    else None

abbrev pub cut_at : List ℕ → Option ℕ → Option ℕ
cut_at text None = parts text []
cut_at text (Some place) = parts (take place text) (drop (place + 1) text)

-- with a point or without
abbrev pub decimal : List ℕ → Option ℕ
decimal text = cut_at text (position is_point text)

-- signs and ranges

abbrev pub is_negative : List ℕ → Bool
is_negative field = starts_with_byte 45 field

-- what follows the sign, where there is one
abbrev pub without_sign : List ℕ → List ℕ
without_sign field = if starts_with_byte 45 field || starts_with_byte 43 field then drop 1 field else field

-- a number with its sign, at most so large
abbrev pub signed : ℕ → Bool → Option ℕ → Result ℤ NumberFault
signed most negative None = Err NotANumber
signed most negative (Some n) = if nat_le n most then Ok (if negative then neg_ℤ (pos n) else pos n) else Err OutOfRange

-- the whole number of a field, or the one reason why it has none
unfoldable pub integer_of : List ℕ → Result ℤ NumberFault
integer_of field =
    if length field == 0 then Err Empty
    else signed 1000000000 (is_negative field) (whole (without_sign field))

-- the decimal of a field, in ten-thousandths, or the one reason why it has none
unfoldable pub decimal4_of : List ℕ → Result ℤ NumberFault
decimal4_of field =
    if length field == 0 then Err Empty
    else signed 500000000 (is_negative field) (decimal (without_sign field))
