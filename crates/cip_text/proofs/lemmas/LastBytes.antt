-- The last byte of a line, and the content that its end leaves.
use Rattle.std.proofs.Common.{◌≡◌, ◌<◌, ◌+◌, ◌-◌, ◌++◌, ℕ, List, [], ◌∷◌, Bool, true, false, ◌==◌, nat_lt, refl, sym, ◌∙◌, ap, arith, length, get_or, append_assoc, length-append}
use Rattle.std.specs.List.{list_any}
use Rattle.std.proofs.lemmas.Bool.{or_parts}
use Rattle.std.proofs.lemmas.Grind.{common_steps}
use Rattle.std.proofs.Math.Seq.{take-append_seam, get_or-append_seam, get_or-append_right}
use Rattle.cip_text.specs.Lines.{ends_with_byte, without_last, without_return, content_of}
use Rattle.cip_text.specs.Laws.{has_line_feed, is_ended}
use Rattle.cip_text.specs.Lines.{lf, crlf}
use Rattle.cip_text.proofs.lemmas.Ended.{end_as}

pub last_place : (text : List ℕ) (b : ℕ) → length (text ++ b ∷ []) - 1 ≡ length text
last_place text b = rw (length-append text (b ∷ [])) (omega arith)

pub last_is : (text : List ℕ) (b c : ℕ) → ends_with_byte c (text ++ b ∷ []) ≡ (b == c)
last_is text b c =
    let some : nat_lt 0 (length (text ++ b ∷ [])) ≡ true = rw (length-append text (b ∷ [])) (grind arith) in
    let last : get_or (text ++ b ∷ []) (length text) 0 ≡ b = get_or-append_seam text b [] 0 in
    rw (some, last_place text b, last) refl

pub before_last : (text : List ℕ) (b : ℕ) → without_last (text ++ b ∷ []) ≡ text
before_last text b = rw (last_place text b) (take-append_seam text (b ∷ []))

-- the last byte of two texts is that of the second one
pub last_behind : (c : ℕ) (before behind : List ℕ) → 0 < length behind
    → ends_with_byte c (before ++ behind) ≡ ends_with_byte c behind
last_behind c before behind some =
    let n : length (before ++ behind) ≡ length before + length behind = length-append before behind in
    let whole : nat_lt 0 (length (before ++ behind)) ≡ true = rw n (grind (arith, some)) in
    let part : nat_lt 0 (length behind) ≡ true = grind (arith, some) in
    let last : get_or (before ++ behind) (length (before ++ behind) - 1) 0 ≡ get_or behind (length behind - 1) 0 =
    get_or-append_right before behind (length (before ++ behind) - 1) 0 (omega (arith, n, some))
    ∙ ap (λ i. get_or behind i 0) (omega (arith, n, some)) in
    rw (whole, part, last) refl

-- a byte that a text lacks isn't its last one
pub last_lacks : (c : ℕ) (text : List ℕ) → list_any (λ b. b == c) text ≡ false → ends_with_byte c text ≡ false
last_lacks c [] h = refl
last_lacks c (b ∷ []) h = rw (or_parts (b == c) false h).0 refl
last_lacks c (b ∷ d ∷ ds) h = last_behind c (b ∷ []) (d ∷ ds) (omega arith)
    ∙ last_lacks c (d ∷ ds) (or_parts (b == c) (list_any (λ b. b == c) (d ∷ ds)) h).1

-- the last byte of a line with its end is LF

last_byte : (b : ℕ) (bs : List ℕ) (k : Bool) → (b == 10) ≡ k → is_ended (b ∷ bs) ≡ true
    → (is_ended bs ≡ true → ends_with_byte 10 bs ≡ true) → ends_with_byte 10 (b ∷ bs) ≡ true
last_byte b [] true e h more = rw e refl
last_byte b (d ∷ ds) true e h more = absurd (grind (arith, common_steps, rw e at h))
last_byte b [] false e h more = absurd (grind (arith, common_steps, rw e at h))
last_byte b (d ∷ ds) false e h more = last_behind 10 (b ∷ []) (d ∷ ds) (omega arith) ∙ more (rw e at h)

pub last_ended : (line : List ℕ) → is_ended line ≡ true → ends_with_byte 10 line ≡ true
last_ended [] h = absurd (grind (arith, h))
last_ended (b ∷ bs) h = last_byte b bs (b == 10) refl h (last_ended bs)

-- the content of a line

pub content_of_open : (line : List ℕ) → has_line_feed line ≡ false → content_of line ≡ line
content_of_open line h = rw (last_lacks 10 line h) refl

content_before_lf : (text : List ℕ) → content_of (text ++ lf) ≡ without_return text
content_before_lf text = rw (last_is text 10 10, before_last text 10) refl

pub content_before_crlf : (text : List ℕ) → content_of (text ++ crlf) ≡ text
content_before_crlf text =
    ap content_of (sym (append_assoc text (13 ∷ []) (10 ∷ []))) ∙ content_before_lf (text ++ 13 ∷ [])
    ∙ rw (last_is text 13 13, before_last text 13) refl

-- a text that doesn't end with CR is the content before any end
pub content_before_end : (text : List ℕ) (returns : Bool) → ends_with_byte 13 text ≡ false
    → content_of (text ++ end_as returns) ≡ text
content_before_end text true h = content_before_crlf text
content_before_end text false h = content_before_lf text ∙ rw h refl

pub content_of_end : (returns : Bool) → content_of (end_as returns) ≡ []
content_of_end true = refl
content_of_end false = refl
