-- The words of options, two at a time.
use Rattle.std.proofs.Common.{◌≡◌, ◌==◌, ◌<◌, ◌≤◌, ◌-◌, ℕ, List, [], ◌∷◌, Bool, true, false, length, take, drop, get_or, refl, sym, ap, ◌∙◌, arith, String, Global, Some, None}
use Rattle.std.specs.Prelude.{string_bytes}
use Rattle.std.specs.Str.{bytes_eq}
use Rattle.std.proofs.lemmas.List.{take_rest}
use Rattle.cip_words.specs.Choices.{first_given, is_name, are_name_value_pairs}
use Rattle.cip_words.specs.Options.{NamedOption}

-- a name and its value that come first

pub given_first : (name here there : List ℕ) (words : List (String Global)) (word value : String Global) (same : Bool)
    → 2 ≤ length words → word ≡ get_or words 0 word → value ≡ get_or words 1 value → here ≡ string_bytes word
    → there ≡ string_bytes value → same ≡ bytes_eq here name → same ≡ true
    → Some (there, take (length words - 2) (drop 2 words)) ≡ first_given name words
given_first name here there [] word value same long w v h t is tested = absurd (omega (arith, long))
given_first name here there (one ∷ []) word value same long w v h t is tested = absurd (omega (arith, long))
given_first name here there (one ∷ two ∷ words) word value same long w v h t is tested =
    let test : bytes_eq (string_bytes one) name ≡ true =
    ap (λ x. bytes_eq (string_bytes x) name) (sym w) ∙ ap (λ bytes. bytes_eq bytes name) (sym h) ∙ sym is ∙ tested in
    rw (take_rest (one ∷ two ∷ words) 2, test, t, v) refl

pub given_behind : (name here : List ℕ) (words : List (String Global)) (word : String Global) (same : Bool)
    → 2 ≤ length words → word ≡ get_or words 0 word → here ≡ string_bytes word → same ≡ bytes_eq here name
    → same ≡ false → first_given name (take (length words - 2) (drop 2 words)) ≡ first_given name words
given_behind name here [] word same long w h is tested = absurd (omega (arith, long))
given_behind name here (one ∷ []) word same long w h is tested = absurd (omega (arith, long))
given_behind name here (one ∷ two ∷ words) word same long w h is tested =
    let test : bytes_eq (string_bytes one) name ≡ false =
    ap (λ x. bytes_eq (string_bytes x) name) (sym w) ∙ ap (λ bytes. bytes_eq bytes name) (sym h) ∙ sym is ∙ tested in
    rw (take_rest (one ∷ two ∷ words) 2, test) refl

pub none_given : (name : List ℕ) (words : List (String Global)) → length words < 2 → None ≡ first_given name words
none_given name [] short = refl
none_given name (one ∷ []) short = refl
none_given name (one ∷ two ∷ words) short = absurd (omega (arith, short))

-- the same where each name is tested

pub unnamed : (options : List NamedOption) (here : List ℕ) (words : List (String Global)) (word : String Global) (is : Bool)
    → 2 ≤ length words → word ≡ get_or words 0 word → here ≡ string_bytes word → is ≡ is_name options here
    → is ≡ false → false ≡ are_name_value_pairs options words
unnamed options here [] word is long w h e tested = absurd (omega (arith, long))
unnamed options here (one ∷ []) word is long w h e tested = absurd (omega (arith, long))
unnamed options here (one ∷ two ∷ words) word is long w h e tested =
    let test : is_name options (string_bytes one) ≡ false =
    ap (λ x. is_name options (string_bytes x)) (sym w) ∙ ap (is_name options) (sym h) ∙ sym e ∙ tested in
    rw test refl

pub named : (options : List NamedOption) (here : List ℕ) (words : List (String Global)) (word : String Global) (is : Bool)
    → 2 ≤ length words → word ≡ get_or words 0 word → here ≡ string_bytes word → is ≡ is_name options here
    → is ≡ true → are_name_value_pairs options (take (length words - 2) (drop 2 words)) ≡ are_name_value_pairs options words
named options here [] word is long w h e tested = absurd (omega (arith, long))
named options here (one ∷ []) word is long w h e tested = absurd (omega (arith, long))
named options here (one ∷ two ∷ words) word is long w h e tested =
    let test : is_name options (string_bytes one) ≡ true =
    ap (λ x. is_name options (string_bytes x)) (sym w) ∙ ap (is_name options) (sym h) ∙ sym e ∙ tested in
    rw (take_rest (one ∷ two ∷ words) 2, test) refl

pub pairs_end : (options : List NamedOption) (words : List (String Global)) → length words < 2
    → (length words == 0) ≡ are_name_value_pairs options words
pairs_end options [] short = refl
pairs_end options (one ∷ []) short = refl
pairs_end options (one ∷ two ∷ words) short = absurd (omega (arith, short))
