-- What holds of each element of lists that are put together.
use Rattle.std.proofs.Common.{◌≡◌, map, arith, refl, ℕ, zero, suc, Bool, true, false, cond, List, [], ◌∷◌, ◌++◌}
use Rattle.std.proofs.Common.{replicate}
use Rattle.std.specs.List.{All, AllPairs, AllByRecursion, flat_map, filter}
use Rattle.std.proofs.lemmas.List.Elements.{All-head, All-tail, All-from_recursion}
use Rattle.std.specs.List.Sorted.{IsPermutation}
use Rattle.std.proofs.lemmas.List.Sorted.{All-permutation}

pub all_by : {X : Type 0} (P Q : X → Type 0) → ((x : X) → P x → Q x) → (xs : List X) → AllByRecursion P xs
    → AllByRecursion Q xs
all_by P Q f [] all = tt
all_by P Q f (x ∷ xs) all = (f x all.0, all_by P Q f xs all.1)

pub all_append : {X : Type 0} (P : X → Type 0) (xs ys : List X) → AllByRecursion P xs → AllByRecursion P ys
    → AllByRecursion P (xs ++ ys)
all_append P [] ys p q = q
all_append P (x ∷ xs) ys p q = (p.0, all_append P xs ys p.1 q)

pub all_parts : {X : Type 0} (P : X → Type 0) (xs ys : List X) → AllByRecursion P (xs ++ ys)
    → AllByRecursion P xs × AllByRecursion P ys
all_parts P [] ys all = (tt, all)
all_parts P (x ∷ xs) ys all = let rest = all_parts P xs ys all.1 in ((all.0, rest.0), rest.1)

pub by_recursion : {X : Type 0} (P : X → Type 0) (xs : List X) → All P xs → AllByRecursion P xs
by_recursion P [] all = tt
by_recursion P (x ∷ xs) all = (All-head P x xs all, by_recursion P xs (All-tail P x xs all))

-- in another order
pub all_arranged : {X : Type 0} (P : X → Type 0) (xs ys : List X) → IsPermutation xs ys → AllByRecursion P xs
    → AllByRecursion P ys
all_arranged P xs ys moved all = by_recursion P ys (All-permutation P xs ys moved (All-from_recursion P xs all))

pub all_replicate : {X : Type 0} (P : X → Type 0) (n : ℕ) (x : X) → P x → AllByRecursion P (replicate n x)
all_replicate P zero x p = tt
all_replicate P (suc n) x p = (p, all_replicate P n x p)

pub all_flat : {X Y : Type 0} (P : X → Type 0) (Q : Y → Type 0) (f : X → List Y)
    → ((x : X) → P x → AllByRecursion Q (f x))
    → (xs : List X) → AllByRecursion P xs → AllByRecursion Q (flat_map f xs)
all_flat P Q f h [] all = tt
all_flat P Q f h (x ∷ xs) all = all_append Q (f x) (flat_map f xs) (h x all.0) (all_flat P Q f h xs all.1)

-- an element that stays where a test holds
if_kept : {X : Type 0} (P : X → Type 0) (kept : Bool) (x : X) (xs : List X) → (kept ≡ true → P x) → AllByRecursion P xs
    → AllByRecursion P (cond kept (x ∷ xs) xs)
if_kept P true x xs p all = (p refl, all)
if_kept P false x xs p all = all

pub all_filtered : {X : Type 0} (P : X → Type 0) (test : X → Bool) (xs : List X) → AllByRecursion P xs
    → AllByRecursion P (filter test xs)
all_filtered P test [] all = tt
all_filtered P test (x ∷ xs) all = if_kept P (test x) x (filter test xs) (λ _. all.0) (all_filtered P test xs all.1)

pub all_passed : {X : Type 0} (P : X → Type 0) (test : X → Bool) (xs : List X) → AllByRecursion P xs
    → AllByRecursion (λ x. (test x ≡ true) × P x) (filter test xs)
all_passed P test [] all = tt
all_passed P test (x ∷ xs) all =
    if_kept (λ x. (test x ≡ true) × P x) (test x) x (filter test xs) (λ e. (e, all.0)) (all_passed P test xs all.1)

-- what a test says of whatever passes it
pub all_told : {X : Type 0} (P : X → Type 0) (test : X → Bool) → ((x : X) → test x ≡ true → P x) → (xs : List X)
    → AllByRecursion P (filter test xs)
all_told P test f [] = tt
all_told P test f (x ∷ xs) = if_kept P (test x) x (filter test xs) (f x) (all_told P test f xs)

pub all_each : {X : Type 0} (P : X → Type 0) → ((x : X) → P x) → (xs : List X) → AllByRecursion P xs
all_each P f [] = tt
all_each P f (x ∷ xs) = (f x, all_each P f xs)

pub all_flat_each : {X Y : Type 0} (Q : Y → Type 0) (f : X → List Y) → ((x : X) → AllByRecursion Q (f x))
    → (xs : List X) → AllByRecursion Q (flat_map f xs)
all_flat_each Q f h xs = all_flat (λ _. Unit {0}) Q f (λ x _. h x) xs (all_each (λ _. Unit {0}) (λ _. tt) xs)

pub all_both : {X : Type 0} (P Q : X → Type 0) (xs : List X) → AllByRecursion P xs → AllByRecursion Q xs
    → AllByRecursion (λ x. P x × Q x) xs
all_both P Q [] p q = tt
all_both P Q (x ∷ xs) p q = ((p.0, q.0), all_both P Q xs p.1 q.1)

pub all_mapped : {X Y : Type 0} (P : Y → Type 0) (f : X → Y) (xs : List X) → AllByRecursion (λ x. P (f x)) xs
    → AllByRecursion P (map f xs)
all_mapped P f [] all = tt
all_mapped P f (x ∷ xs) all = (all.0, all_mapped P f xs all.1)

pub all_unmapped : {X Y : Type 0} (P : Y → Type 0) (f : X → Y) (xs : List X) → AllByRecursion P (map f xs)
    → AllByRecursion (λ x. P (f x)) xs
all_unmapped P f [] all = tt
all_unmapped P f (x ∷ xs) all = (all.0, all_unmapped P f xs all.1)

-- R holds of each element and each later one
abbrev pub Pairwise : {X : Type 0} → (X → X → Type 0) → List X → Type 0
Pairwise R [] = Unit {0}
Pairwise R (x ∷ xs) = AllByRecursion (R x) xs × Pairwise R xs

pub pairwise_by : {X : Type 0} (R S : X → X → Type 0) → ((x y : X) → R x y → S x y) → (xs : List X) → Pairwise R xs
    → Pairwise S xs
pairwise_by R S f [] pairs = tt
pairwise_by R S f (x ∷ xs) pairs = (all_by (R x) (S x) (f x) xs pairs.0, pairwise_by R S f xs pairs.1)

pub pairwise_append : {X : Type 0} (R : X → X → Type 0) (xs ys : List X) → Pairwise R xs → Pairwise R ys
    → AllByRecursion (λ x. AllByRecursion (R x) ys) xs → Pairwise R (xs ++ ys)
pairwise_append R [] ys one other cross = other
pairwise_append R (x ∷ xs) ys one other cross =
    (all_append (R x) xs ys one.0 cross.0, pairwise_append R xs ys one.1 other cross.1)

pub pairwise_mapped : {X Y : Type 0} (R : Y → Y → Type 0) (f : X → Y) (xs : List X)
    → Pairwise (λ x y. R (f x) (f y)) xs → Pairwise R (map f xs)
pairwise_mapped R f [] pairs = tt
pairwise_mapped R f (x ∷ xs) pairs = (all_mapped (R (f x)) f xs pairs.0, pairwise_mapped R f xs pairs.1)

if_pairwise : {X : Type 0} (R : X → X → Type 0) (kept : Bool) (x : X) (xs : List X) → AllByRecursion (R x) xs
    → Pairwise R xs → Pairwise R (cond kept (x ∷ xs) xs)
if_pairwise R true x xs all pairs = (all, pairs)
if_pairwise R false x xs all pairs = pairs

pub pairwise_filtered : {X : Type 0} (R : X → X → Type 0) (test : X → Bool) (xs : List X) → Pairwise R xs
    → Pairwise R (filter test xs)
pairwise_filtered R test [] pairs = tt
pairwise_filtered R test (x ∷ xs) pairs =
    if_pairwise R (test x) x (filter test xs) (all_filtered (R x) test xs pairs.0) (pairwise_filtered R test xs pairs.1)

pub pairwise_from_pairs : {X : Type 0} (R : X → X → Type 0) (xs : List X) → AllPairs R xs → Pairwise R xs
pairwise_from_pairs R [] pairs = tt
pairwise_from_pairs R (x ∷ xs) pairs = (
  by_recursion (R x) xs (λ k d lt. pairs zero (suc k) d (omega arith) (omega arith)),
  pairwise_from_pairs R xs (λ i j d lt within. pairs (suc i) (suc j) d (omega arith) (omega arith)),
)

pub pairs_from_pairwise : {X : Type 0} (R : X → X → Type 0) (xs : List X) → Pairwise R xs → AllPairs R xs
pairs_from_pairwise R [] pairs i j d lt within = absurd (omega arith)
pairs_from_pairwise R (x ∷ xs) pairs zero (suc j) d lt within = All-from_recursion (R x) xs pairs.0 j d (omega arith)
pairs_from_pairwise R (x ∷ xs) pairs (suc i) (suc j) d lt within =
    pairs_from_pairwise R xs pairs.1 i j d (omega arith) (omega arith)
pairs_from_pairwise R (x ∷ xs) pairs i zero d lt within = absurd (omega arith)
