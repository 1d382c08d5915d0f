-- Texts that are written right in their columns, and numbers as they are written there. CTfile Formats; that a
-- coordinate has four decimals is own.
use Rattle.std.specs.Prelude.{ℕ, ℤ, List, [], ◌++◌, ◌-◌, ◌/◌, ◌%◌, codes, decimal, length, replicate, unsigned_abs, if◌then◌else◌}
use Rattle.std.specs.Int.{is_negative}

-- a text that ends in the last of n columns
unfoldable pub right : ℕ → List ℕ → List ℕ
right width text = replicate (width - length text) 32 ++ text

-- the last four digits of a number
abbrev pub four_digits : ℕ → List ℕ
four_digits size =
    decimal (size / 1000 % 10) ++ (decimal (size / 100 % 10) ++ (decimal (size / 10 % 10) ++ decimal (size % 10)))

-- ten-thousandths with four decimals
unfoldable pub coordinate : ℤ → List ℕ
coordinate value =
    (if is_negative value then codes "-" else [])
    ++ (decimal (unsigned_abs value / 10000) ++ (codes "." ++ four_digits (unsigned_abs value)))
