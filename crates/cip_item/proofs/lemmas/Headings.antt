-- The headings of items.
use Rattle.std.proofs.Common.{◌≡◌, ℕ, List, [], ◌∷◌, true, false, ◌==◌, refl, arith, length, nat_lt, position}
use Rattle.std.proofs.lemmas.Bool.{and_parts, eqb-true}
use Rattle.cip_text.specs.Kinds.{is_blank}
use Rattle.cip_text.specs.Lines.{starts_with_byte}
use Rattle.cip_item.specs.Kinds.{closes_behind, is_opening, is_heading, holds_label_name, is_label_heading}

filled : (content : List ℕ) → starts_with_byte 62 content ≡ true → is_blank content ≡ false
filled [] h = absurd (grind (arith, h))
filled (b ∷ bs) h =
    let first : b ≡ 62 = eqb-true b 62 (and_parts (nat_lt 0 (length (b ∷ bs))) (b == 62) h).1 in
    rw first refl

-- a heading isn't blank

pub heading_filled : (content : List ℕ) → is_heading content ≡ true → is_blank content ≡ false
heading_filled content h = filled content (and_parts (starts_with_byte 62 content)
    (closes_behind content (position is_opening content)) h).0

pub label_heading_filled : (content : List ℕ) → is_label_heading content ≡ true → is_blank content ≡ false
label_heading_filled content h = filled content (and_parts (starts_with_byte 62 content) (holds_label_name content) h).0
