-- The first word of a text, and the words after it.
use Rattle.std.proofs.Common.{◌≡◌, ◌==◌, ◌≤◌, ◌<◌, ◌+◌, ◌-◌, ◌++◌, ℕ, zero, suc, List, [], ◌∷◌, Bool, true, false, refl, sym, ◌∙◌, ap, subst, arith, length, take, drop, get_or, append-nil}
use Rattle.std.proofs.lemmas.Bool.Decides.{nat_tests}
use Rattle.std.proofs.lemmas.List.{take_more, take_all, take_rest, drop_more, drop_all, length-take-le, length-drop, nil_from_length}
use Rattle.cip_text.specs.Columns.{without_spaces_before}
use Rattle.cip_v3000.specs.declared.lines.word_splitter.QuoteState.{QuoteState}
use Rattle.cip_v3000.specs.declared.lines.word_splitter.QuoteState.TheVariants.{Plain, Bracket, Quote}
use Rattle.cip_v3000.specs.Words.{after, ends_word, ended, words_from, words_of}

-- no byte after the closing bracket begins or ends a part
pub state_stays : (within : QuoteState) (b : ℕ) → 41 < b → within ≡ after within b
state_stays Plain b high =
    let no_bracket : (b == 40) ≡ false = grind (arith, high) in
    let no_quote : (b == 34) ≡ false = grind (arith, high) in
    rw (no_bracket, no_quote) refl
state_stays Bracket b high =
    let no_bracket : (b == 41) ≡ false = grind (arith, high) in
    rw no_bracket refl
state_stays Quote b high =
    let no_quote : (b == 34) ≡ false = grind (arith, high) in
    rw no_quote refl

-- spaces before it

words_byte : (b : ℕ) (bs : List ℕ) (k : Bool) → (b == 32) ≡ k
    → words_of (without_spaces_before bs) ≡ words_of bs
    → words_of (without_spaces_before (b ∷ bs)) ≡ words_of (b ∷ bs)
unfolding words_of
words_byte b bs true e more = rw e more
words_byte b bs false e more = rw e (rw e refl)

pub words_behind_spaces : (text : List ℕ) → words_of (without_spaces_before text) ≡ words_of text
words_behind_spaces [] = refl
words_behind_spaces (b ∷ bs) = words_byte b bs (b == 32) refl (words_behind_spaces bs)

nothing : words_of [] ≡ []
unfolding words_of
nothing = refl

pub no_words : (text begun : List ℕ) → begun ≡ without_spaces_before text → length begun ≡ 0 → words_of text ≡ []
no_words text begun e none =
    sym (words_behind_spaces text) ∙ ap words_of (sym e ∙ nil_from_length begun none) ∙ nothing

written_byte : (b : ℕ) (bs : List ℕ) (k : Bool) → (b == 32) ≡ k
    → (0 < length (without_spaces_before bs) → (get_or (without_spaces_before bs) 0 0 == 32) ≡ false)
    → 0 < length (without_spaces_before (b ∷ bs)) → (get_or (without_spaces_before (b ∷ bs)) 0 0 == 32) ≡ false
written_byte b bs true e more some = rw e (more (rw e at some))
written_byte b bs false e more some = rw (e, e) refl

begins_written : (text : List ℕ) → 0 < length (without_spaces_before text)
    → (get_or (without_spaces_before text) 0 0 == 32) ≡ false
begins_written [] some = absurd (omega (arith, some))
begins_written (b ∷ bs) some = written_byte b bs (b == 32) refl (begins_written bs) some

shorter_byte : (b : ℕ) (bs : List ℕ) (k : Bool) → (b == 32) ≡ k
    → length (without_spaces_before bs) ≤ length bs → length (without_spaces_before (b ∷ bs)) ≤ length (b ∷ bs)
shorter_byte b bs true e more = rw e (omega (arith, more))
shorter_byte b bs false e more = rw e (omega arith)

no_longer : (text : List ℕ) → length (without_spaces_before text) ≤ length text
no_longer [] = omega arith
no_longer (b ∷ bs) = shorter_byte b bs (b == 32) refl (no_longer bs)

-- a byte of it more

pub begun_goes_on : (total : List (List ℕ)) (within : QuoteState) (text : List ℕ) (at : ℕ) → at < length text
    → ends_word within (get_or text at 0) ≡ false → words_from within (take at text) (drop at text) ≡ total
    → words_from (after within (get_or text at 0)) (take (at + 1) text) (drop (at + 1) text) ≡ total
begun_goes_on total within text at lt stays is =
    let one : words_from within (take at text) (drop at text)
    ≡ words_from (after within (get_or text at 0)) (take (at + 1) text) (drop (at + 1) text)
    = rw (drop_more text at 0 lt, stays, take_more text at 0 lt) refl in
    sym one ∙ is

-- such a byte that ends no word, and begins and ends no part
pub plain_goes_on : (total : List (List ℕ)) (text : List ℕ) (at : ℕ) → at < length text → 41 < get_or text at 0
    → words_from Plain (take at text) (drop at text) ≡ total
    → words_from Plain (take (at + 1) text) (drop (at + 1) text) ≡ total
plain_goes_on total text at lt high is =
    let stays : ends_word Plain (get_or text at 0) ≡ false = grind (arith, nat_tests, high) in
    subst (λ (within : QuoteState). words_from within (take (at + 1) text) (drop (at + 1) text) ≡ total)
    (sym (state_stays Plain (get_or text at 0) high)) (begun_goes_on total Plain text at lt stays is)

-- its end

cut_byte : (within : QuoteState) (b : ℕ) → ends_word within b ≡ true → b ≡ 32
cut_byte Plain b cuts = grind (arith, nat_tests)
cut_byte Bracket b cuts = absurd (grind (arith, cuts))
cut_byte Quote b cuts = absurd (grind (arith, cuts))

pub cut_is_space : (within : QuoteState) (text : List ℕ) (at : ℕ) → ends_word within (get_or text at 0) ≡ true
    → get_or text at 0 ≡ 32
cut_is_space within text at cuts = cut_byte within (get_or text at 0) cuts

pub begun_ends : (within : QuoteState) (text : List ℕ) (at : ℕ) → at < length text
    → ends_word within (get_or text at 0) ≡ true → words_from within (take at text) (drop at text) ≡ words_of text
    → words_of text ≡ ended (take at text) ++ words_of (drop at text)
unfolding words_of
begun_ends within text at lt cuts is =
    let space : get_or text at 0 ≡ 32 = cut_is_space within text at cuts in
    let next = drop_more text at 0 lt in
    let here : words_from within (take at text) (drop at text)
    ≡ ended (take at text) ++ words_from Plain [] (drop (at + 1) text) = rw (next, cuts) refl in
    let behind : words_from Plain [] (drop at text) ≡ words_from Plain [] (drop (at + 1) text)
    = rw (next, space) refl in
    sym is ∙ here ∙ ap (λ words. ended (take at text) ++ words) (sym behind)

pub begun_runs_out : (within : QuoteState) (text : List ℕ) (at : ℕ) → length text ≤ at
    → words_from within (take at text) (drop at text) ≡ words_of text
    → words_of text ≡ ended (take (length text) text) ++ words_of (drop (length text) text)
unfolding words_of
begun_runs_out within text at past is =
    let none : drop at text ≡ [] = drop_all at text past in
    let nothing : drop (length text) text ≡ [] = drop_all (length text) text (omega arith) in
    let all : take at text ≡ text = take_all at text past in
    let whole : take (length text) text ≡ text = take_all (length text) text (omega arith) in
    let here : words_from within (take at text) (drop at text) ≡ ended text = rw (none, all) refl in
    sym is ∙ here ∙ rw (nothing, whole) (sym (append-nil (ended text)))

some_end : (begun : List ℕ) (end : ℕ) → 0 < length begun → (get_or begun 0 0 == 32) ≡ false
    → (end < length begun → get_or begun end 0 ≡ 32) → 0 < end
some_end begun zero some written space = absurd (let here = space some in grind (arith, nat_tests, here, written))
some_end begun (suc n) some written space = omega arith

-- what is known of a text and its first word
pub record IsFirst (text word rest : List ℕ) : Type 0 where
  pub words : words_of text ≡ word ∷ words_of rest
  pub shorter : length rest < length text

pub first_word : (text begun : List ℕ) (end : ℕ) → begun ≡ without_spaces_before text → 0 < length begun
    → words_of begun ≡ ended (take end begun) ++ words_of (drop end begun) → end ≤ length begun
    → (end < length begun → get_or begun end 0 ≡ 32)
    → IsFirst text (take end begun) (take (length begun - end) (drop end begun))
first_word text begun end e some cut within space =
    let written = rw (← e) at (begins_written text (rw e at some)) in
    let past : 0 < end = some_end begun end some written space in
    let long : length (take end begun) ≡ end = length-take-le end begun within in
    let one : (length (take end begun) == 0) ≡ false = grind (arith, nat_tests, long, past) in
    let whole : ended (take end begun) ≡ take end begun ∷ [] = rw one refl in
    let few : length begun ≤ length text = rw e (no_longer text) in
    record {
      words = rw (take_rest begun end) (sym (words_behind_spaces text) ∙ ap words_of (sym e) ∙ cut
          ∙ ap (λ words. words ++ words_of (drop end begun)) whole);
      shorter = rw (take_rest begun end) (omega (arith, length-drop end begun, few, past, within, some));
    }
