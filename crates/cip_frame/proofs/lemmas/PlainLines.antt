-- Whole lines without a dollar sign end no record.
use Rattle.std.proofs.Common.{◌≡◌, ◌<◌, ◌+◌, ◌-◌, nat_lt, ℕ, zero, suc, List, [], ◌∷◌, ◌++◌, Bool, true, false, ◌==◌, refl, sym, ◌∙◌, ap, arith, append_assoc, append-nil, length, slice_index, take}
use Rattle.std.specs.List.{list_any}
use Rattle.std.proofs.lemmas.Bool.{or_parts}
use Rattle.std.proofs.lemmas.List.Folds.{list_any-append}
use Rattle.std.proofs.lemmas.List.{take_more, take-take}
use Rattle.std.proofs.Math.Bool.{and-false}
use Rattle.bstr.specs.Find.{Nowhere, Passes, is_byte}
use Rattle.cip_text.specs.Lines.{starts_with_byte, ends_with_byte, without_return}
use Rattle.cip_text.specs.Kinds.{is_terminator}
use Rattle.cip_text.proofs.lemmas.LastBytes.{last_behind}
use Rattle.cip_frame.specs.Following.{closes, cut_behind}
use Rattle.cip_frame.specs.Records.{open_line}
use Rattle.cip_frame.specs.Taking.{ArePlain}
use Rattle.cip_frame.proofs.lemmas.Cutting.{cut_open, last_is, open_line_end, open_line_more}

-- no dollar sign is before this place
abbrev NoneTo : List ℕ → ℕ → Type 0
NoneTo text place = Nowhere (Passes (is_byte 36) text) 0 place

abbrev LacksDollar : List ℕ → Type 0
LacksDollar text = list_any (λ b. b == 36) text ≡ false

lacks_front : (count : ℕ) (text : List ℕ) → LacksDollar text → LacksDollar (take count text)
lacks_front zero text lacks = refl
lacks_front (suc count) [] lacks = refl
lacks_front (suc count) (b ∷ bs) lacks =
    let each = or_parts (b == 36) (list_any (λ c. c == 36) bs) lacks in
    rw (each.0, lacks_front count bs each.1) refl

-- what is before the first one
dollar_behind : (b : ℕ) (bs : List ℕ) (place : ℕ) (k : Bool) → (b == 36) ≡ k → NoneTo (b ∷ bs) (suc place)
    → (NoneTo bs place → LacksDollar (take place bs)) → LacksDollar (take (suc place) (b ∷ bs))
dollar_behind b bs place true e none more = absurd (none 0 (omega arith) (omega arith) e)
dollar_behind b bs place false e none more =
    rw e (more (λ k low high. none (suc k) (omega arith) (omega (arith, high))))

pub lacks_before : (text : List ℕ) (place : ℕ) → NoneTo text place → LacksDollar (take place text)
lacks_before text zero none = refl
lacks_before [] (suc place) none = refl
lacks_before (b ∷ bs) (suc place) none = dollar_behind b bs place (b == 36) refl none (lacks_before bs place)

-- whole lines before it
pub plain_to : (text before : List ℕ) (place : ℕ) → before ≡ take (length before) text → LacksDollar before
    → place < length before → (slice_index before place == 10) ≡ true → ArePlain (take (place + 1) text)
plain_to text before place front lacks few feed =
    let short : take (place + 1) text ≡ take (place + 1) before =
    sym (ap (take (place + 1)) front ∙ take-take (place + 1) (length before) text (omega (arith, few))) in
    let last : take (place + 1) before ≡ take place before ++ slice_index before place ∷ [] =
    take_more before place 0 few in
    record {
      ended = rw (short, last) (last_is (take place before) (slice_index before place) ∙ feed);
      plain = rw short (lacks_front (place + 1) before lacks);
    }

begins_otherwise : (text : List ℕ) → LacksDollar text → starts_with_byte 36 text ≡ false
begins_otherwise [] lacks = refl
begins_otherwise (b ∷ bs) lacks =
    rw (or_parts (b == 36) (list_any (λ c. c == 36) bs) lacks).0 (and-false (nat_lt 0 (length (b ∷ bs))))

no_terminator : (text : List ℕ) → LacksDollar text → is_terminator text ≡ false
no_terminator text lacks = rw (begins_otherwise text lacks) refl

without_return_by : (text : List ℕ) (k : Bool) → ends_with_byte 13 text ≡ k → LacksDollar text
    → is_terminator (without_return text) ≡ false
without_return_by text true e lacks =
    rw e (no_terminator (take (length text - 1) text) (lacks_front (length text - 1) text lacks))
without_return_by text false e lacks = rw e (no_terminator text lacks)

ends_none : (front : List ℕ) (b : ℕ) → LacksDollar (open_line front) → closes front b ≡ false
ends_none front b lacks =
    rw (without_return_by (open_line front) (ends_with_byte 13 (open_line front)) refl lacks) (and-false (b == 10))

open_line_lacks : (front : List ℕ) (b : ℕ) (k : Bool) → (b == 10) ≡ k → (b == 36) ≡ false
    → LacksDollar (open_line front) → LacksDollar (open_line (front ++ b ∷ []))
open_line_lacks front b true e other lacks = rw (open_line_end front b e) refl
open_line_lacks front b false e other lacks =
    rw (open_line_more front b e, list_any-append (λ c. c == 36) (open_line front) (b ∷ []), lacks, other) refl

-- they are put after the front
pub plain_cut : (front lines behind : List ℕ) → LacksDollar (open_line front) → LacksDollar lines
    → cut_behind front (lines ++ behind) ≡ cut_behind (front ++ lines) behind
plain_cut front [] behind open_lacks lacks = ap (λ whole. cut_behind whole behind) (sym (append-nil front))
plain_cut front (b ∷ bs) behind open_lacks lacks =
    let each = or_parts (b == 36) (list_any (λ c. c == 36) bs) lacks in
    cut_open front b (bs ++ behind) (ends_none front b open_lacks)
    ∙ plain_cut (front ++ b ∷ []) bs behind (open_line_lacks front b (b == 10) refl each.0 open_lacks) each.1
    ∙ ap (λ whole. cut_behind whole behind) (append_assoc front (b ∷ []) bs)

-- no line is open after a text that ends one
pub none_open : (front lines : List ℕ) → ends_with_byte 10 lines ≡ true → open_line (front ++ lines) ≡ []
none_open front [] ended = absurd (grind (arith, ended))
none_open front (b ∷ []) ended = open_line_end front b (sym (last_is [] b) ∙ ended)
none_open front (b ∷ c ∷ cs) ended =
    ap open_line (sym (append_assoc front (b ∷ []) (c ∷ cs)))
    ∙ none_open (front ++ b ∷ []) (c ∷ cs) (sym (last_behind 10 (b ∷ []) (c ∷ cs) (omega arith)) ∙ ended)
