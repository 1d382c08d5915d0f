-- The version of a molfile, in columns 34 to 39 of its fourth line. CTfile Formats; that an empty version is V2000
-- is own.
use Rattle.std.specs.Prelude.{ℕ, List, length, slice_get, codes, Bool, false, ◌==◌, ◌||◌, Some, None}
use Rattle.std.specs.declared.option.Option.{Option}
use Rattle.std.specs.Str.{bytes_eq}
use Rattle.cip_text.specs.Columns.{field}

abbrev pub version : List ℕ → List ℕ
version line = field 34 39 line

-- nothing at all, or `V2000`
abbrev pub is_v2000 : List ℕ → Bool
is_v2000 line = (length (version line) == 0) || bytes_eq (version line) (codes "V2000")

abbrev pub line_is_v3000 : Option (List ℕ) → Bool
line_is_v3000 None = false
line_is_v3000 (Some line) = bytes_eq (version line) (codes "V3000")

-- the fourth of these lines, where there is one, has the version V3000
abbrev pub is_v3000 : List (List ℕ) → Bool
is_v3000 lines = line_is_v3000 (slice_get lines 3)
