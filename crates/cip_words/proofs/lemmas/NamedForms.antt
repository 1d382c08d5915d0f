-- What words ask for, by the form that the first of them names.
use Rattle.std.proofs.Common.{◌≡◌, ◌<◌, ◌≤◌, ◌-◌, ℕ, List, [], ◌∷◌, length, take, drop, get_or, refl, ap, ◌∙◌, arith, String, Global, Some, None}
use Rattle.std.specs.Prelude.{string_bytes}
use Rattle.std.proofs.lemmas.List.{take_rest}
use Rattle.cip_words.specs.Choices.{◌>>=◌}
use Rattle.cip_words.specs.Forms.{CommandSpec, forms}
use Rattle.cip_words.specs.Settings.{asked_by, form_of, settings_of}

pub no_words : (words : List (String Global)) → length words < 1 → None ≡ settings_of words
unfolding settings_of
no_words [] short = refl
no_words (one ∷ words) short = absurd (omega (arith, short))

pub no_form : (name : List ℕ) (words : List (String Global)) (word : String Global)
    → 1 ≤ length words → word ≡ get_or words 0 word → name ≡ string_bytes word → None ≡ form_of name forms
    → None ≡ settings_of words
unfolding settings_of
no_form name [] word long w n is = absurd (omega (arith, long))
no_form name (one ∷ words) word long w n is =
    ap (λ form. form >>= (λ found. asked_by found.1 found.2 words))
    (is ∙ ap (λ bytes. form_of bytes forms) (n ∙ ap (λ x. string_bytes x) w))

pub form_found : (name : List ℕ) (words : List (String Global)) (word : String Global) (form : CommandSpec)
    → 1 ≤ length words → word ≡ get_or words 0 word → name ≡ string_bytes word → Some form ≡ form_of name forms
    → asked_by form.1 form.2 (take (length words - 1) (drop 1 words)) ≡ settings_of words
unfolding settings_of
form_found name [] word form long w n is = absurd (omega (arith, long))
form_found name (one ∷ words) word form long w n is =
    ap (λ rest. asked_by form.1 form.2 rest) (take_rest (one ∷ words) 1)
    ∙ ap (λ form. form >>= (λ found. asked_by found.1 found.2 words))
    (is ∙ ap (λ bytes. form_of bytes forms) (n ∙ ap (λ x. string_bytes x) w))
