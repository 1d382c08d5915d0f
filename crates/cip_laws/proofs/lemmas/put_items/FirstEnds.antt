-- The line ends of an item are those of the record's first line, and its gap is that after other items.
use Rattle.std.proofs.Common.{◌≡◌, ℕ, List, [], ◌∷◌, Bool, true, false, not, ◌==◌, refl, sym, ◌∙◌, arith}
use Rattle.std.specs.List.{take_while}
use Rattle.std.proofs.lemmas.List.Sums.{take_while-cons}
use Rattle.cip_text.specs.Kinds.{is_blank, is_molecule_end}
use Rattle.cip_text.specs.Lines.{ends_with_byte}
use Rattle.cip_text.proofs.lemmas.LastBytes.{last_behind}
use Rattle.cip_item.specs.Laws.{behind_molecule, ends_filled, GapsFollowOtherItems, LineEndsAreOfTheFirstLine}
use Rattle.cip_item.specs.Putting.{has_returns, needs_gap}

last_later : (b c : ℕ) (cs : List ℕ) → ends_with_byte 13 (b ∷ c ∷ cs) ≡ ends_with_byte 13 (c ∷ cs)
last_later b c cs = last_behind 13 (b ∷ []) (c ∷ cs) (omega arith)

first_by : (b c : ℕ) (cs : List ℕ) (k : Bool) → (c == 10) ≡ k
    → has_returns (c == 13) cs ≡ ends_with_byte 13 (c ∷ take_while (λ b. not (b == 10)) cs)
    → has_returns (b == 13) (c ∷ cs) ≡ ends_with_byte 13 (b ∷ take_while (λ b. not (b == 10)) (c ∷ cs))
first_by b c cs true k more = rw (take_while-cons (λ b. not (b == 10)) c cs, k) refl
first_by b c cs false k more = rw (take_while-cons (λ b. not (b == 10)) c cs, k)
    (more ∙ sym (last_later b c (take_while (λ b. not (b == 10)) cs)))

first_from : (b : ℕ) (bs : List ℕ)
    → has_returns (b == 13) bs ≡ ends_with_byte 13 (b ∷ take_while (λ b. not (b == 10)) bs)
first_from b [] = refl
first_from b (c ∷ cs) = first_by b c cs (c == 10) refl (first_from c cs)

first_of : (b : ℕ) (bs : List ℕ) (k : Bool) → (b == 10) ≡ k
    → has_returns false (b ∷ bs) ≡ ends_with_byte 13 (take_while (λ b. not (b == 10)) (b ∷ bs))
first_of b bs true k = rw (take_while-cons (λ b. not (b == 10)) b bs, k) refl
first_of b bs false k = rw (take_while-cons (λ b. not (b == 10)) b bs, k) (first_from b bs)

pub of_first_line : LineEndsAreOfTheFirstLine
of_first_line [] = refl
of_first_line (b ∷ bs) = first_of b bs (b == 10) refl

-- lines after the molecule

filled_by : (content : List ℕ) (contents : List (List ℕ)) (filled : Bool)
    → needs_gap true filled (content ∷ contents) ≡ ends_filled (content ∷ contents)
filled_by content [] filled = refl
filled_by content (next ∷ contents) filled = filled_by next contents (not (is_blank content))

behind_end : (contents : List (List ℕ)) → needs_gap true false contents ≡ ends_filled contents
behind_end [] = refl
behind_end (content ∷ contents) = filled_by content contents false

behind_by : (content : List ℕ) (contents : List (List ℕ)) (k : Bool) → is_molecule_end content ≡ k
    → needs_gap false false contents ≡ ends_filled (behind_molecule contents)
    → needs_gap false false (content ∷ contents) ≡ ends_filled (behind_molecule (content ∷ contents))
behind_by content contents true k more = rw k (behind_end contents)
behind_by content contents false k more = rw k more

pub behind_items : GapsFollowOtherItems
behind_items [] = refl
behind_items (content ∷ contents) = behind_by content contents (is_molecule_end content) refl (behind_items contents)
