-- What is found at n depths, and at more of them.
use Rattle.std.proofs.Common.{◌≡◌, ℕ, zero, suc, ◌+◌, ◌-◌, ◌<◌, ◌≤◌, Bool, true, false, List, [], ◌∷◌, map, refl, sym, ap, ◌∙◌, subst, arith}
use Rattle.std.specs.Prelude.{None, Some, All}
use Rattle.std.specs.declared.option.Option.{Option}
use Rattle.std.specs.List.{AllByRecursion, list_all}
use Rattle.std.specs.declared.cmp.Ordering.{Ordering}
use Rattle.std.specs.declared.cmp.Ordering.TheVariants.{Less, Equal, Greater}
use Rattle.std.proofs.lemmas.Bool.{and_parts}
use Rattle.std.proofs.lemmas.List.Elements.{All-from_recursion}
use Rattle.cip_mol.specs.declared.labels.outcome.Rule.{Rule}
use Rattle.cip_digraph.specs.rules.Decisions.{Difference, first_difference, or_else}
use Rattle.cip_digraph.proofs.lemmas.orders.Exchanged.{found_at}
use Rattle.cip_digraph.proofs.lemmas.lists.Elements.{by_recursion}
use Rattle.cip_rules.proofs.lemmas.FirstNone.{none_at}
use Rattle.cip_digraph.specs.declared.decisions.decision.Decision.{Decision}
use Rattle.cip_digraph.specs.declared.decisions.branch_pair.BranchPair.{BranchPair}
use Rattle.cip_digraph.specs.Asking.{AreWithin, is_decided, decided, kept_or, with_found, differing}

split_by : (s : ℕ) (r : Ordering) (first second : Option Difference)
    → found_at s (or_else first second) r ≡ or_else (found_at s first r) second
split_by s Less first second = refl
split_by s Equal first second = refl
split_by s Greater first second = refl

-- the first difference is one of the first depths, or one of the others
pub first_split : (f : ℕ → Ordering) (j k s : ℕ)
    → first_difference f s (j + k) ≡ or_else (first_difference f s j) (first_difference f (s + j) k)
first_split f zero k s =
    let none : 0 + k ≡ k = omega arith in
    let same : s ≡ s + 0 = omega arith in
    ap (first_difference f s) none ∙ ap (λ q. first_difference f q k) same
first_split f (suc j) k s =
    let more : suc j + k ≡ suc (j + k) = omega arith in
    let move : s + 1 + j ≡ s + suc j = omega arith in
    ap (first_difference f s) more
    ∙ ap (λ later. found_at s later (f s)) (first_split f j k (s + 1))
    ∙ split_by s (f s) (first_difference f (s + 1) j) (first_difference f (s + 1 + j) k)
    ∙ ap (λ q. or_else (found_at s (first_difference f (s + 1) j) (f s)) (first_difference f q k)) move

pub decided_else : (rule : Rule) (one other : Option Difference)
    → decided rule (or_else one other) ≡ kept_or (decided rule one) (decided rule other)
decided_else rule None other = refl
decided_else rule (Some found) other = refl

pub one_more : (depth : ℕ) (r : Ordering) → found_at depth None r ≡ differing depth r
one_more depth Less = refl
one_more depth Equal = refl
one_more depth Greater = refl

pub kept_kept : (one two three : Option Decision) → kept_or (kept_or one two) three ≡ kept_or one (kept_or two three)
kept_kept None two three = refl
kept_kept (Some found) two three = refl

-- two steps are one
pub with_both : (f g h : ℕ → ℕ → Option Decision) (P : BranchPair → Type 0)
    → ((one : BranchPair) → P one → kept_or (f one.first one.second) (g one.first one.second) ≡ h one.first one.second)
    → (pairs : List BranchPair) → AllByRecursion P pairs
    → map (with_found g) (map (with_found f) pairs) ≡ map (with_found h) pairs
with_both f g h P same [] all = refl
with_both f g h P same (one ∷ pairs) all =
    ap {B = List BranchPair} (λ found. record one { decision = found } ∷ map (with_found g) (map (with_found f) pairs))
    (kept_kept one.decision (f one.first one.second) (g one.first one.second)
    ∙ ap (kept_or one.decision) (same one all.0))
    ∙ ap (λ others. with_found h one ∷ others) (with_both f g h P same pairs all.1)

kept_decided : (found : Option Decision) (later : Option Decision)
    → elim found as (λ _. Bool) [ None ↦ false | Some d ↦ true ] ≡ true → kept_or found later ≡ found
kept_decided None later e = let bad : false ≡ true = e in cc
kept_decided (Some found) later e = refl

-- what is decided stays
pub all_stay : (f : ℕ → ℕ → Option Decision) (pairs : List BranchPair) → list_all is_decided pairs ≡ true
    → map (with_found f) pairs ≡ pairs
all_stay f [] e = refl
all_stay f (one ∷ pairs) e =
    let parts = and_parts (is_decided one) (list_all is_decided pairs) e in
    ap {B = List BranchPair} (λ found. record one { decision = found } ∷ map (with_found f) pairs)
    (kept_decided one.decision (f one.first one.second) parts.0)
    ∙ ap (λ others. one ∷ others) (all_stay f pairs parts.1)

pub kept_none : (found : Option Decision) → kept_or found None ≡ found
kept_none None = refl
kept_none (Some found) = refl

pub nothing_found : (pairs : List BranchPair) → map (with_found (λ a b. None)) pairs ≡ pairs
nothing_found [] = refl
nothing_found (one ∷ pairs) =
    ap {B = List BranchPair} (λ found. record one { decision = found } ∷ map (with_found (λ a b. None)) pairs)
    (kept_none one.decision)
    ∙ ap (λ others. one ∷ others) (nothing_found pairs)

-- the same is found
pub same_found : (f g : ℕ → ℕ → Option Decision) (P : BranchPair → Type 0)
    → ((one : BranchPair) → P one → f one.first one.second ≡ g one.first one.second)
    → (pairs : List BranchPair) → AllByRecursion P pairs → map (with_found f) pairs ≡ map (with_found g) pairs
same_found f g P same [] all = refl
same_found f g P same (one ∷ pairs) all =
    ap {B = List BranchPair} (λ found. record one { decision = kept_or one.decision found } ∷ map (with_found f) pairs)
    (same one all.0)
    ∙ ap (λ others. with_found g one ∷ others) (same_found f g P same pairs all.1)

-- places stay
pub all_within : (f : ℕ → ℕ → Option Decision) (count : ℕ) (pairs : List BranchPair)
    → AllByRecursion (AreWithin count) pairs → AllByRecursion (AreWithin count) (map (with_found f) pairs)
all_within f count [] all = tt
all_within f count (one ∷ pairs) all = (all.0, all_within f count pairs all.1)

pub still_within : (f : ℕ → ℕ → Option Decision) (count : ℕ) (pairs new : List BranchPair) → new ≡ map (with_found f) pairs
    → All (AreWithin count) pairs → All (AreWithin count) new
still_within f count pairs new e within =
    subst (λ (others : List BranchPair). All (AreWithin count) others) (sym e)
    (λ k d h. All-from_recursion (AreWithin count) (map (with_found f) pairs)
    (all_within f count pairs (by_recursion (AreWithin count) pairs within)) k d h)

found_some : (rule : Rule) (first : Option Difference) (depth : ℕ) (r : Ordering) (later : Option Decision)
    → (r ≡ Equal → ⊥)
    → kept_or (decided rule (or_else first (found_at depth None r))) later
    ≡ decided rule (or_else first (found_at depth None r))
found_some rule None depth Less later n = refl
found_some rule None depth Equal later n = absurd (n refl)
found_some rule None depth Greater later n = refl
found_some rule (Some found) depth r later n = refl

-- where a comparison doesn't change any more, no more is found
pub no_more : (rule : Rule) (f : ℕ → Ordering) (j k : ℕ) → 0 < j → ((m : ℕ) → j ≤ m → f m ≡ f (j - 1))
    → kept_or (decided rule (first_difference f 0 j)) (decided rule (first_difference f j k))
    ≡ decided rule (first_difference f 0 j)
no_more rule f j k some same = by (f (j - 1)) refl
  where
    differs : (r : Ordering) → f (j - 1) ≡ r → (r ≡ Equal → ⊥)
        → kept_or (decided rule (first_difference f 0 j)) (decided rule (first_difference f j k))
        ≡ decided rule (first_difference f 0 j)
    differs r e n =
        let sum : (j - 1) + 1 ≡ j = omega arith in
        let none : 0 + (j - 1) ≡ j - 1 = omega arith in
        let split : first_difference f 0 j ≡ or_else (first_difference f 0 (j - 1)) (found_at (j - 1) None r) =
        ap (first_difference f 0) (sym sum) ∙ first_split f (j - 1) 1 0
        ∙ ap (λ q. or_else (first_difference f 0 (j - 1)) (first_difference f q 1)) none
        ∙ ap (λ s. or_else (first_difference f 0 (j - 1)) (found_at (j - 1) None s)) e in
        ap (λ found. kept_or (decided rule found) (decided rule (first_difference f j k))) split
        ∙ found_some rule (first_difference f 0 (j - 1)) (j - 1) r (decided rule (first_difference f j k)) n
        ∙ ap (decided rule) (sym split)

    by : (r : Ordering) → f (j - 1) ≡ r
        → kept_or (decided rule (first_difference f 0 j)) (decided rule (first_difference f j k))
        ≡ decided rule (first_difference f 0 j)
    by Less e = differs Less e (λ h. let bad : Less ≡ Equal = h in cc)
    by Equal e =
        ap (λ found. kept_or (decided rule (first_difference f 0 j)) (decided rule found))
        (none_at f k j (λ d low high. same d low ∙ e))
        ∙ kept_none (decided rule (first_difference f 0 j))
    by Greater e = differs Greater e (λ h. let bad : Greater ≡ Equal = h in cc)

-- the same first difference, where the comparisons are the same
pub same_difference : (one other : ℕ → Ordering) → ((depth : ℕ) → one depth ≡ other depth) → (depth more : ℕ)
    → first_difference one depth more ≡ first_difference other depth more
same_difference one other same depth more = ap (λ compare. first_difference compare depth more) (λ i d. same d i)
