-- What a line of a record is for, by its content. CTfile Formats, SDfile data items; the name of the label item is own.
use Rattle.std.specs.Prelude.{ℕ, List, [], ◌∷◌, Bool, false, ◌==◌, ◌&&◌, ◌||◌, codes, drop, position, take, Some, None}
use Rattle.std.specs.declared.option.Option.{Option}
use Rattle.std.specs.List.{list_any}
use Rattle.std.specs.Str.{bytes_eq}
use Rattle.cip_text.specs.Lines.{starts_with_byte}

abbrev pub is_opening : ℕ → Bool
is_opening b = b == 60

abbrev pub closes_behind : List ℕ → Option ℕ → Bool
closes_behind content None = false
closes_behind content (Some place) = list_any (λ b. b == 62) (drop place content)

-- the heading of a data item: it begins with `>`, and holds `<` and after it `>`
abbrev pub is_heading : List ℕ → Bool
is_heading content = starts_with_byte 62 content && closes_behind content (position is_opening content)

abbrev pub label_name : List ℕ
label_name = codes "<CIP_LABELS>"

abbrev pub holds_label_name : List ℕ → Bool
holds_label_name [] = false
holds_label_name (b ∷ bs) = bytes_eq (take 12 (b ∷ bs)) label_name || holds_label_name bs

-- the heading of a label item: it begins with `>` and holds `<CIP_LABELS>`
abbrev pub is_label_heading : List ℕ → Bool
is_label_heading content = starts_with_byte 62 content && holds_label_name content
