-- Lines that are rows of a block: they begin with a number, and so none of them begins or ends anything. Own.
use Rattle.std.specs.Prelude.{◌≡◌, ◌≤◌, ◌+◌, ℕ, List, false, ◌⊎◌, length}
use Rattle.cip_text.specs.Lines.{carriage_return, ends_with_byte, starts_with_byte}
use Rattle.cip_text.specs.Laws.{has_line_feed}
use Rattle.cip_text.specs.Kinds.{is_blank}

-- a line that isn't blank, and is no heading, no terminator line and no end of a molecule
pub record IsRow (content : List ℕ) : Type 0 where
  pub filled : is_blank content ≡ false
  pub no_heading : starts_with_byte 62 content ≡ false
  pub no_terminator : starts_with_byte 36 content ≡ false
  pub no_end : starts_with_byte 77 content ≡ false

-- what is written for the content of a line can be the content of a line there
pub record IsContentFor (old new : List ℕ) : Type 0 where
  pub lines : has_line_feed old ≡ false → has_line_feed new ≡ false
  pub returns : ends_with_byte carriage_return old ≡ false → ends_with_byte carriage_return new ≡ false
  pub few : length new ≤ length old + 30

-- a row is written for a row
pub record IsRowFor (old new : List ℕ) : Type 0 where
  pub was : IsRow old
  pub becomes : IsRow new
  pub fits : IsContentFor old new

abbrev pub KeepsKind : List ℕ → List ℕ → Type 0
KeepsKind old new = (new ≡ old) ⊎ IsRowFor old new
