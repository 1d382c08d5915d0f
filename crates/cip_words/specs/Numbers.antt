-- Numbers as words: digits without a sign, the first of them 0 only where it is alone. Own.
use Rattle.std.specs.Prelude.{ℕ, List, Bool, ◌==◌, ◌||◌, nat_lt, length, slice_index_or, None, if◌then◌else◌}
use Rattle.std.specs.declared.option.Option.{Option}
use Rattle.cip_text.specs.Numbers.{whole}

-- the first digit, 0 where there is none
abbrev pub lead_of : List ℕ → ℕ
lead_of word = slice_index_or word 0 48

-- no 0 leads it, but where it is alone
abbrev pub is_plain : List ℕ → Bool
is_plain word = length word == 1 || nat_lt 48 (lead_of word)

abbrev pub number_of : List ℕ → Option ℕ
number_of word = if is_plain word then whole word else None
