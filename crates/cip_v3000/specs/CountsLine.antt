-- The counts line. CTfile Formats, V3000; the limits are own.
use Rattle.std.specs.Prelude.{◌≤◌, ℕ, List, [], ◌∷◌, Bool, false, codes, slice_get, Some, None, Result, Ok}
use Rattle.std.specs.declared.option.Option.{Option}
use Rattle.std.specs.Option.{ok_or}
use Rattle.std.specs.Str.{bytes_eq}
use Rattle.cip_mol.specs.declared.labels.refusal.ReadCause.{ReadCause}
use Rattle.cip_mol.specs.declared.labels.refusal.ReadCause.TheVariants.{Counts, Frame}
use Rattle.cip_ctfile.specs.Causes.{guard}
use Rattle.cip_ctfile.specs.Fields.{parse_number}
use Rattle.cip_ctfile.specs.Reading.{◌>>=◌}
use Rattle.cip_v3000.specs.declared.values.counts.CountsLine.{CountsLine}

abbrev pub is_counts : List (List ℕ) → Bool
is_counts [] = false
is_counts (word ∷ words) = bytes_eq word (codes "COUNTS")

abbrev pub stated_by : ℕ → Option (List ℕ) → Option ℕ
stated_by most None = None
stated_by most (Some word) = parse_number most word

-- the number of a word that may be missing
unfoldable pub count_at : ℕ → ℕ → List (List ℕ) → Option ℕ
count_at most place words = stated_by most (slice_get words place)

unfoldable pub counts_of : List (List ℕ) → Result CountsLine ReadCause
counts_of words = do
  _ ← guard Frame (is_counts words)
  atoms ← ok_or (count_at 16384 1 words) Counts
  bonds ← ok_or (count_at 32768 2 words) Counts
  Ok (record { atoms = atoms; bonds = bonds })

pub record AreCounts (counts : CountsLine) : Type 0 where
  pub atoms : counts.atoms ≤ 16384
  pub bonds : counts.bonds ≤ 32768
