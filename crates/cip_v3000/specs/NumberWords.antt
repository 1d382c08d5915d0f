-- Numbers of few digits that begin a text, as they are read. Own.
use Rattle.std.specs.Prelude.{◌≡◌, ◌≤◌, ◌<◌, ℕ, List, ◌++◌, length, take, drop, slice_index}
use Rattle.cip_ctfile.specs.Usual.{Spells}
use Rattle.cip_v3000.specs.Words.{ended, words_of}

-- a number of few digits begins a text, and ends at this place
pub record IsNumberBegun (text : List ℕ) (found : ℕ × ℕ) : Type 0 where
  pub spells : Spells (take found.1 text) found.0
  pub cut : words_of text ≡ ended (take found.1 text) ++ words_of (drop found.1 text)
  pub within : found.1 ≤ length text
  pub space : found.1 < length text → slice_index text found.1 ≡ 32
