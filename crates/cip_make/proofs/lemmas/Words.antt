-- The words that a generator gives one after the other.
use Rattle.std.proofs.Common.{◌≡◌, ℕ, zero, suc, ◌<◌, ◌+◌, ◌-◌, ◌≤◌, ◌++◌, List, [], ◌∷◌, Some, None, length, refl, ap, sym, ◌∙◌, append_assoc, arith}
use Rattle.std.specs.declared.option.Option.{Option}
use Rattle.std.proofs.lemmas.List.{length-append, append-nil}
use Rattle.rand_core.specs.Steps.{first_words}
use Rattle.rand_pcg.specs.Lcg.{Lcg}
use Rattle.rand_pcg.specs.Pcg.{pcg32}
use Rattle.cip_make.specs.declared.chain.Branch.{Branch}
use Rattle.cip_make.specs.Chains.{branch_of, with_branch, branches}

pub first_word : (count : ℕ) (generator : Lcg) →
    first_words pcg32 (suc count) generator ≡ (pcg32 generator).0 ∷ first_words pcg32 count (pcg32 generator).1
unfolding first_words
first_word count generator = refl

pub no_word : (generator : Lcg) → first_words pcg32 zero generator ≡ []
unfolding first_words
no_word generator = refl

-- the next word says what the next chain atom carries
one_more : (chain at : ℕ) (generator : Lcg) → at < chain →
    branches at (first_words pcg32 (chain - at) generator)
    ≡ with_branch (branch_of at (pcg32 generator).0)
    (branches (at + 1) (first_words pcg32 (chain - (at + 1)) (pcg32 generator).1))
one_more chain at generator inner =
    let left : chain - at ≡ suc (chain - (at + 1)) = omega arith in
    ap (λ count. branches at (first_words pcg32 count generator)) left
    ∙ ap (branches at) (first_word (chain - (at + 1)) generator)

apart : (branch : Option Branch) (rest : List Branch) → with_branch branch rest ≡ with_branch branch [] ++ rest
apart None rest = refl
apart (Some branch) rest = refl

-- what was found so far with what the words after a word say
pub next : (chain at word : ℕ) (before after : Lcg) (found now all : List Branch) →
    at < chain → (word, after) ≡ pcg32 before →
    now ≡ found ++ with_branch (branch_of at word) [] →
    found ++ branches at (first_words pcg32 (chain - at) before) ≡ all →
    now ++ branches (at + 1) (first_words pcg32 (chain - (at + 1)) after) ≡ all
next chain at word before after found now all inner step added whole =
    let rest = branches (at + 1) (first_words pcg32 (chain - (at + 1)) after) in
    let stepped : with_branch (branch_of at word) rest ≡ branches at (first_words pcg32 (chain - at) before) =
    ap (λ (p : ℕ × Lcg). with_branch (branch_of at p.0) (branches (at + 1) (first_words pcg32 (chain - (at + 1)) p.1)))
    step
    ∙ sym (one_more chain at before inner) in
    ap (λ branches. branches ++ rest) added
    ∙ append_assoc found (with_branch (branch_of at word) []) rest
    ∙ ap (λ branches. found ++ branches) (sym (apart (branch_of at word) rest) ∙ stepped)
    ∙ whole

pub few_more : (branch : Option Branch) (found : List Branch) →
    length (found ++ with_branch branch []) ≤ length found + 1
few_more None found = omega (arith, length-append found [])
few_more (Some branch) found = omega (arith, length-append found (branch ∷ []))

-- after the last inner atom no word is left
pub last : (chain at : ℕ) (generator : Lcg) (found all : List Branch) → chain ≤ at →
    found ++ branches at (first_words pcg32 (chain - at) generator) ≡ all → found ≡ all
last chain at generator found all over whole =
    let none : chain - at ≡ 0 = omega arith in
    sym (append-nil found)
    ∙ ap (λ words. found ++ branches at words)
    (sym (ap (λ count. first_words pcg32 count generator) none ∙ no_word generator))
    ∙ whole
