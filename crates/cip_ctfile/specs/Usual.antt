-- Numbers as most programs write them. Own.
use Rattle.std.specs.Prelude.{◌≡◌, ◌≤◌, ◌<◌, ℕ, ℤ, List, ◌+◌, ◌*◌, Bool, true, nat_lt, length, drop, slice_index, take, Some, Ok, if◌then◌else◌}
use Rattle.std.specs.List.{list_all}
use Rattle.cip_text.specs.Columns.{without_spaces_before, trim_end_spaces}
use Rattle.cip_text.specs.Lines.{starts_with_byte}
use Rattle.cip_text.specs.Numbers.{is_digit, value, digit, decimal, decimal4_of}

-- a text without the spaces around it
abbrev pub trimmed : List ℕ → List ℕ
trimmed text = trim_end_spaces (without_spaces_before text)

-- what follows a minus, where there is one
abbrev pub unsigned : List ℕ → List ℕ
unsigned text = if starts_with_byte 45 text then drop 1 text else text

-- digits alone, one at least, that spell a number below a million
pub record Spells (text : List ℕ) (number : ℕ) : Type 0 where
  pub digits : list_all is_digit text ≡ true
  pub some : 0 < length text
  pub value : value text ≡ number
  pub few : number ≤ 999999

-- digits after a point, in ten-thousandths
pub record ArePlaces (text : List ℕ) (number : ℕ) : Type 0 where
  pub digits : list_all is_digit text ≡ true
  pub some : 0 < length text
  pub value : 1000 * digit text 0 + (100 * digit text 1 + (10 * digit text 2 + digit text 3)) ≡ number
  pub few : number ≤ 9999

-- the number before the first point of a text, digits alone, and the place of that point
pub record IsWholePart (text : List ℕ) (part : ℕ × ℕ) : Type 0 where
  pub within : part.1 < length text
  pub point : slice_index text part.1 ≡ 46
  pub spells : Spells (take part.1 text) part.0

-- a decimal that begins with a digit, in ten-thousandths
pub record IsDecimal (text : List ℕ) (size : ℕ) : Type 0 where
  pub some : 0 < length text
  pub begun : is_digit (slice_index text 0) ≡ true
  pub spelt : decimal text ≡ Some size

-- none of the bytes that part words, or begin or end a part of one, is above the closing bracket
abbrev pub is_high : ℕ → Bool
is_high b = nat_lt 41 b

-- a decimal without a sign is the word that begins a text and ends at this place
pub record IsSizeBegun (text : List ℕ) (found : ℕ × ℕ) : Type 0 where
  pub decimal : IsDecimal (take found.1 text) found.0
  pub plain : list_all is_high (take found.1 text) ≡ true
  pub within : found.1 ≤ length text
  pub space : found.1 < length text → slice_index text found.1 ≡ 32

-- the same with a minus at most
pub record IsDecimalBegun (text : List ℕ) (found : ℤ × ℕ) : Type 0 where
  pub decimal : decimal4_of (take found.1 text) ≡ Ok found.0
  pub plain : list_all is_high (take found.1 text) ≡ true
  pub some : 0 < found.1
  pub within : found.1 ≤ length text
  pub space : found.1 < length text → slice_index text found.1 ≡ 32
