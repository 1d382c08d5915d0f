-- A branch shown after others.
use Rattle.std.proofs.Common.{◌≡◌, ◌≤◌, ◌+◌, ◌-◌, ◌++◌, ◌∷◌, ◌∙◌, [], ℕ, List, length, min, take, drop, ap, arith, Result, Ok, Err, OnOk, is_ok, refl, if◌then◌else◌}
use Rattle.std.proofs.lemmas.List.{drop-append-le, drop_min, length-drop, take-append-le, take_all, take_min}
use Rattle.cip_ranker.specs.RootDecisions.{Branch}
use Rattle.cip_ranker.specs.Rows.{count_below, shown_of}
use Rattle.cip_ranker.specs.declared.two_sphere.two_sphere_branches.BranchTop.{BranchTop}

pub as_many_taken : (n : ℕ) (keys : List ℕ) → take (min n (length keys)) keys ≡ take n keys
as_many_taken n keys = take_min n keys

pub as_many_left : (n : ℕ) (keys : List ℕ) → drop (min n (length keys)) keys ≡ drop n keys
as_many_left n keys = drop_min n keys

pub count_behind : (tops : List BranchTop) (top : BranchTop) → count_below (tops ++ top ∷ []) ≡ count_below tops + top.below
count_behind [] top = omega (arith)
count_behind (first ∷ tops) top =
    let later : count_below (tops ++ top ∷ []) ≡ count_below tops + top.below = count_behind tops top in
    let one : count_below (first ∷ tops ++ top ∷ []) ≡ first.below + count_below (tops ++ top ∷ []) = refl in
    let other : count_below (first ∷ tops) ≡ first.below + count_below tops = refl in
    omega (arith, later, one, other)

abbrev pub with_keys : BranchTop → List ℕ → Branch
with_keys top keys = record { vertex = top.vertex; key = top.key; below = keys }

pub shown_behind : (tops : List BranchTop) (keys : List ℕ) (top : BranchTop) (more : List ℕ) → length keys ≡ count_below tops
    → length more ≡ top.below
    → shown_of (tops ++ top ∷ []) (keys ++ more) ≡ shown_of tops keys ++ with_keys top more ∷ []
shown_behind [] [] top more all below = ap (λ ks. with_keys top ks ∷ []) (take_all top.below more (omega (arith, below)))
shown_behind [] (key ∷ keys) top more all below = absurd (omega (arith, all))
shown_behind (first ∷ tops) keys top more all below =
    let n = first.below in
    let whole : count_below (first ∷ tops) ≡ first.below + count_below tops = refl in
    let within : first.below ≤ length keys = omega (arith, all, whole) in
    let less : length (drop first.below keys) ≡ length keys - first.below = length-drop n keys in
    ap (λ ks. with_keys first ks ∷ shown_of (tops ++ top ∷ []) (drop n (keys ++ more))) (take-append-le n keys more within)
    ∙ ap (λ ks. with_keys first (take n keys) ∷ shown_of (tops ++ top ∷ []) ks) (drop-append-le n keys more within)
    ∙ ap (λ bs. with_keys first (take n keys) ∷ bs)
    (shown_behind tops (drop n keys) top more (omega (arith, less, all, whole)) below)

-- where its keys were put after theirs
pub shown_if : {T E : Type 0} (result : Result T E) (tops all : List BranchTop) (keys more whole : List ℕ) (top : BranchTop)
    (branch : Branch) → all ≡ tops ++ top ∷ [] → whole ≡ (if is_ok result then keys ++ more else keys)
    → length keys ≡ count_below tops → length more ≡ top.below → with_keys top more ≡ branch
    → OnOk result (shown_of all whole ≡ shown_of tops keys ++ branch ∷ [])
shown_if (Ok value) tops all keys more whole top branch all_is whole_is counted below is =
    ap (λ ts. shown_of ts whole) all_is ∙ ap (λ ks. shown_of (tops ++ top ∷ []) ks) whole_is
    ∙ shown_behind tops keys top more counted below ∙ ap (λ b. shown_of tops keys ++ b ∷ []) is
shown_if (Err error) tops all keys more whole top branch all_is whole_is counted below is = tt
