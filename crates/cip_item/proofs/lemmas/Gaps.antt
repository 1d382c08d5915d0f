-- Whether a gap is needed, by the last line and those before it.
use Rattle.std.proofs.Common.{◌≡◌, ◌<◌, ◌+◌, ◌-◌, ◌++◌, ℕ, List, [], ◌∷◌, Bool, true, false, ◌&&◌, not, refl, sym, ◌∙◌, ap, arith, length, take, get_or, Bor}
use Rattle.std.specs.List.{list_any}
use Rattle.std.proofs.lemmas.List.{map-append, take_all, take_more}
use Rattle.cip_text.specs.Slices.{texts}
use Rattle.cip_text.specs.Kinds.{is_blank, is_molecule_end}
use Rattle.cip_item.specs.Putting.{needs_gap}

behind_end : (before : List (List ℕ)) (last : List ℕ) (filled : Bool)
    → needs_gap true filled (before ++ last ∷ []) ≡ not (is_blank last)
behind_end [] last filled = refl
behind_end (content ∷ before) last filled = behind_end before last (not (is_blank content))

abbrev IsToldByLast : List (List ℕ) → List ℕ → Type 0
IsToldByLast before last =
    needs_gap false false (before ++ last ∷ []) ≡ (list_any is_molecule_end before && not (is_blank last))

by_line : (content : List ℕ) (before : List (List ℕ)) (last : List ℕ) (k : Bool) → is_molecule_end content ≡ k
    → IsToldByLast before last → IsToldByLast (content ∷ before) last
by_line content before last true e more = rw e (behind_end before last false)
by_line content before last false e more = rw e more

told_by_last : (before : List (List ℕ)) (last : List ℕ) → IsToldByLast before last
told_by_last [] last = refl
told_by_last (content ∷ before) last =
    by_line content before last (is_molecule_end content) refl (told_by_last before last)

-- the last line is asked first
pub last_tells : (contents : List (Bor (List ℕ))) (other : Bor (List ℕ)) → 0 < length contents
    → needs_gap false false (texts contents) ≡
    (list_any is_molecule_end (texts (take (length contents - 1) contents))
    && not (is_blank (get_or contents (length contents - 1) other).now))
last_tells contents other some =
    let before : List (Bor (List ℕ)) = take (length contents - 1) contents in
    let last : Bor (List ℕ) = get_or contents (length contents - 1) other in
    let all : take (length contents - 1 + 1) contents ≡ contents =
    take_all (length contents - 1 + 1) contents (omega (arith, some)) in
    let cut : contents ≡ before ++ last ∷ [] =
    sym all ∙ take_more contents (length contents - 1) other (omega (arith, some)) in
    ap (λ lines. needs_gap false false (texts lines)) cut
    ∙ ap (needs_gap false false) (map-append (λ line. line.now) before (last ∷ []))
    ∙ told_by_last (texts before) last.now
