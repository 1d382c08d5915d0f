-- Records with the same first lines.
use Rattle.std.proofs.Common.{◌≡◌, ◌≤◌, ◌<◌, ◌+◌, ℕ, zero, suc, List, [], ◌∷◌, length, take, refl, sym, ap, ◌∙◌, arith}
use Rattle.std.specs.Prelude.{slice_get}
use Rattle.std.proofs.lemmas.List.{take_all, take-take, length-take}

pub take_fewer : {A : Type 0} (few many : ℕ) (others lines : List A) → few ≤ many
    → take many others ≡ take many lines → take few others ≡ take few lines
take_fewer few many others lines le same =
    sym (take-take few many others le) ∙ ap (take few) same ∙ take-take few many lines le

slice_get-take : {A : Type 0} (place n : ℕ) (lines : List A) → place < n
    → slice_get (take n lines) place ≡ slice_get lines place
slice_get-take place zero lines lt = absurd (omega (arith, lt))
slice_get-take place (suc n) [] lt = refl
slice_get-take zero (suc n) (line ∷ lines) lt = refl
slice_get-take (suc place) (suc n) (line ∷ lines) lt = slice_get-take place n lines (omega (arith, lt))

pub line_alike : {A : Type 0} (place : ℕ) (others lines : List A)
    → take (place + 1) others ≡ take (place + 1) lines → slice_get others place ≡ slice_get lines place
line_alike place others lines same =
    sym (slice_get-take place (place + 1) others (omega arith))
    ∙ ap (λ ls. slice_get ls place) same ∙ slice_get-take place (place + 1) lines (omega arith)

-- more lines than there are
pub all_alike : {A : Type 0} (n : ℕ) (others lines : List A) → length lines < n
    → take n others ≡ take n lines → others ≡ lines
all_alike n others lines lt same =
    let here : take n lines ≡ lines = take_all n lines (omega (arith, lt)) in
    let few : length others < n = omega (arith, lt, length-take n others, ap length (same ∙ here)) in
    sym (take_all n others (omega (arith, few))) ∙ same ∙ here
