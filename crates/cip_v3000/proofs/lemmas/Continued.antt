-- Lines that go on in the next, by their last byte.
use Rattle.std.proofs.Common.{◌≡◌, ◌==◌, ◌<◌, ◌+◌, ◌-◌, ◌++◌, ℕ, List, [], ◌∷◌, false, nat_eq, codes, refl, sym, ◌∙◌, ap, inl, inr, arith, length, take, drop, get_or}
use Rattle.std.specs.List.{ends_with}
use Rattle.std.proofs.lemmas.Bool.{cases_lt}
use Rattle.std.proofs.lemmas.Bool.Decides.{nat_tests}
use Rattle.std.proofs.lemmas.List.{take_more, take_all, drop_all, drop_at, get_or-drop, length-drop, length_push}
use Rattle.cip_text.specs.Columns.{trim_end_spaces}
use Rattle.cip_ctfile.proofs.lemmas.UsualNumbers.{none_behind}
use Rattle.cip_v3000.specs.JoinedLines.{is_continued}

-- a text that ends in another byte than a space or a minus
ends_otherwise : (front : List ℕ) (b : ℕ) → 45 < b
    → ends_with nat_eq (trim_end_spaces (front ++ b ∷ [])) (codes "-") ≡ false
ends_otherwise front b above =
    let no_space : (b == 32) ≡ false = grind (arith, nat_tests, above) in
    let other : nat_eq 45 b ≡ false = grind (arith, nat_tests, above) in
    let last : drop (length (front ++ b ∷ []) - 1) (front ++ b ∷ []) ≡ b ∷ [] =
    drop_at front (b ∷ []) (length (front ++ b ∷ []) - 1) (omega (arith, length_push front b)) in
    rw (none_behind front b no_space, last, other) refl

body_ends : (text : List ℕ) → 0 < length text → 45 < get_or text (length text - 1) 0
    → ends_with nat_eq (trim_end_spaces text) (codes "-") ≡ false
body_ends text some above =
    let place : length text - 1 + 1 ≡ length text = omega (arith, some) in
    let split : text ≡ take (length text - 1) text ++ get_or text (length text - 1) 0 ∷ [] =
    sym (take_all (length text) text (omega arith)) ∙ ap (λ n. take n text) (sym place)
    ∙ take_more text (length text - 1) 0 (omega (arith, some)) in
    ap (λ t. ends_with nat_eq (trim_end_spaces t) (codes "-")) split
    ∙ ends_otherwise (take (length text - 1) text) (get_or text (length text - 1) 0) above

pub other_end : (line : List ℕ) → 0 < length line → 45 < get_or line (length line - 1) 0 → is_continued line ≡ false
other_end line some above = elim (cases_lt 7 (length line)) [
  | inl long ↦ (let left = length-drop 7 line in
      let place : 7 + (length (drop 7 line) - 1) ≡ length line - 1 = omega (arith, left, long) in
      let last : get_or (drop 7 line) (length (drop 7 line) - 1) 0 ≡ get_or line (length line - 1) 0 =
      get_or-drop 7 line (length (drop 7 line) - 1) 0 ∙ ap (λ n. get_or line n 0) place in
      body_ends (drop 7 line) (omega (arith, left, long)) (rw last above))
  | inr short ↦ (let none : drop 7 line ≡ [] = drop_all 7 line short in rw none refl)
]
