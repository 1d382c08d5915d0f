-- Indices of which the first ones are counted from 1.
use Rattle.std.proofs.Common.{◌≡◌, ◌<◌, ◌+◌, ◌-◌, ◌++◌, ℕ, zero, suc, List, [], ◌∷◌, Bool, true, false, not, ◌&&◌, ◌||◌, nat_le, nat_lt, nat_eq, if◌then◌else◌, Some, None, refl, sym, ◌∙◌, ap, arith, length, length-append, append-nil, position}
use Rattle.std.specs.List.{list_any, range_with_len, prefix_len}
use Rattle.std.specs.Option.{option_map}
use Rattle.std.proofs.lemmas.Bool.{or_parts}
use Rattle.std.proofs.lemmas.List.Folds.{list_any-append, prefix_len-append}
use Rattle.std.proofs.lemmas.List.FromFn.{length-range_with_len}
use Rattle.cip_v3000.specs.Counted.{with_counted, is_counted}

pub length_with_counted : (counted : ℕ) (others : List ℕ)
    → length (with_counted counted others) ≡ counted + length others
length_with_counted counted others =
    rw (length-append (range_with_len 1 counted) others, length-range_with_len 1 counted) refl

-- one more

range_more : (first count : ℕ) → range_with_len first (suc count) ≡ range_with_len first count ++ (first + count) ∷ []
range_more first zero =
    let none : first + 0 ≡ first = omega arith in
    rw none refl
range_more first (suc count) =
    let next : first + 1 + count ≡ first + suc count = omega arith in
    ap (λ more. first ∷ more) (range_more (first + 1) count ∙ ap (λ n. range_with_len (first + 1) count ++ n ∷ []) next)

-- the next index goes on in the count
pub counted_more : (counted index : ℕ) (others : List ℕ) → length others ≡ 0 → 0 < index → index - 1 ≡ counted
    → with_counted index others ≡ with_counted counted others ++ index ∷ []
counted_more counted index (other ∷ others) none some next = absurd (omega (arith, none))
counted_more counted index [] none some next =
    let one_more : index ≡ suc counted = omega (arith, some, next) in
    let last : 1 + counted ≡ index = omega (arith, some, next) in
    append-nil (range_with_len 1 index) ∙ ap (range_with_len 1) one_more ∙ range_more 1 counted
    ∙ ap (λ n. range_with_len 1 counted ++ n ∷ []) last
    ∙ ap (λ front. front ++ index ∷ []) (sym (append-nil (range_with_len 1 counted)))

-- whether one is there

any_counted : (index first count : ℕ)
    → list_any (nat_eq index) (range_with_len first count) ≡ (nat_le first index && nat_lt index (first + count))
any_counted index first zero = grind arith
any_counted index first (suc count) = rw (any_counted index (first + 1) count) (grind arith)

from_one : (index counted : ℕ) → (nat_le 1 index && nat_lt index (1 + counted)) ≡ is_counted counted index
from_one index counted = grind arith

pub any_with_counted : (index counted : ℕ) (others : List ℕ)
    → list_any (nat_eq index) (with_counted counted others)
    ≡ (is_counted counted index || list_any (nat_eq index) others)
any_with_counted index counted others =
    list_any-append (nat_eq index) (range_with_len 1 counted) others
    ∙ ap (λ k. k || list_any (nat_eq index) others) (any_counted index 1 counted ∙ from_one index counted)

pub none_of_none : (index : ℕ) (others : List ℕ) → length others ≡ 0 → list_any (nat_eq index) others ≡ false
none_of_none index [] none = refl
none_of_none index (other ∷ others) none = absurd (omega (arith, none))

pub none_behind : (index counted : ℕ) (others : List ℕ) → list_any (nat_eq index) (with_counted counted others) ≡ false
    → list_any (nat_eq index) others ≡ false
none_behind index counted others none =
    (or_parts (is_counted counted index) (list_any (nat_eq index) others)
    (sym (any_with_counted index counted others) ∙ none)).1

-- where one stands

abbrev others_before : ℕ → List ℕ → ℕ
others_before index list = prefix_len (λ other. not (nat_eq index other)) list

abbrev StandsAt : ℕ → ℕ → ℕ → Type 0
StandsAt index first count = others_before index (range_with_len first count)
    ≡ (if nat_le first index && nat_lt index (first + count) then index - first else count)

stands_first : (index first count : ℕ) (k : Bool) → nat_eq index first ≡ k → StandsAt index (first + 1) count
    → StandsAt index first (suc count)
stands_first index first count true e more = rw e (grind (arith, e))
stands_first index first count false e more = rw (e, more) (grind (arith, e))

stands_at : (index first count : ℕ) → StandsAt index first count
stands_at index first zero = grind arith
stands_at index first (suc count) =
    stands_first index first count (nat_eq index first) refl (stands_at index (first + 1) count)

pub place_counted : (index counted : ℕ) (others : List ℕ) → is_counted counted index ≡ true
    → position (nat_eq index) (with_counted counted others) ≡ Some (index - 1)
place_counted index counted others is =
    let stands : others_before index (range_with_len 1 counted) ≡ index - 1 =
    rw (from_one index counted ∙ is) at (stands_at index 1 counted) in
    let earlier : nat_eq (index - 1) counted ≡ false = grind (arith, is) in
    let place : others_before index (with_counted counted others) ≡ index - 1 =
    prefix_len-append (λ other. not (nat_eq index other)) (range_with_len 1 counted) others
    ∙ rw (stands, length-range_with_len 1 counted, earlier) refl in
    let within : nat_lt (index - 1) (length (with_counted counted others)) ≡ true =
    rw (length_with_counted counted others) (grind (arith, is)) in
    rw (place, within) refl

behind_as : (counted place all : ℕ) (k : Bool) → nat_lt place all ≡ k →
    (if nat_lt (counted + place) (counted + all) then Some (counted + place) else None)
    ≡ option_map (λ other. counted + other) (if nat_lt place all then Some place else None)
behind_as counted place all true e =
    let within : nat_lt (counted + place) (counted + all) ≡ true = grind (arith, e) in
    rw (e, within) refl
behind_as counted place all false e =
    let within : nat_lt (counted + place) (counted + all) ≡ false = grind (arith, e) in
    rw (e, within) refl

pub place_behind : (index counted : ℕ) (others : List ℕ) → is_counted counted index ≡ false
    → position (nat_eq index) (with_counted counted others)
    ≡ option_map (λ place. counted + place) (position (nat_eq index) others)
place_behind index counted others is =
    let stands : others_before index (range_with_len 1 counted) ≡ counted =
    rw (from_one index counted ∙ is) at (stands_at index 1 counted) in
    let same : nat_eq counted counted ≡ true = grind arith in
    let place : others_before index (with_counted counted others) ≡ counted + others_before index others =
    prefix_len-append (λ other. not (nat_eq index other)) (range_with_len 1 counted) others
    ∙ rw (stands, length-range_with_len 1 counted, same) refl in
    rw (place, length_with_counted counted others) (behind_as counted (others_before index others) (length others)
    (nat_lt (others_before index others) (length others)) refl)
