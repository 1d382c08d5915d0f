-- What is found between branches is found between the ligands at their tops.
use Rattle.std.proofs.Common.{◌≡◌, ◌<◌, ◌≤◌, ◌+◌, ◌-◌, ◌==◌, ℕ, zero, suc, Bool, true, false, cond, List, [], ◌∷◌, ◌++◌, filter, map, length, take, drop, slice_index, slice_index_or, refl, sym, ap, ◌∙◌, subst, arith, append_assoc, None, Some, All, Contains, IfSome, eqb-true, eq-eqb, ne_eqb, inl, inr}
use Rattle.std.specs.Prelude.{unwrap_or}
use Rattle.std.specs.List.{AllByRecursion, list_any, range_with_len}
use Rattle.std.specs.declared.option.Option.{Option}
use Rattle.std.specs.declared.cmp.Ordering.{Ordering}
use Rattle.std.proofs.lemmas.Bool.{cases_order, or_left, or_right}
use Rattle.std.proofs.lemmas.List.{get_or_default, map-append}
use Rattle.cip_branches.proofs.lemmas.walked.Places.{by_range}
use Rattle.cip_rank.specs.Tree.{children_of}
use Rattle.cip_rank.specs.View.{parent_list}
use Rattle.cip_digraph.specs.digraph.Digraph.{Node}
use Rattle.cip_digraph.specs.rules.Decisions.{order}
use Rattle.cip_digraph.specs.rules.Orders.{Seen}
use Rattle.cip_digraph.specs.declared.decisions.decision.Decision.{Decision}
use Rattle.cip_digraph.proofs.lemmas.lists.Elements.{all_append, by_recursion}
use Rattle.cip_digraph.specs.declared.decisions.branch_pair.BranchPair.{BranchPair}
use Rattle.cip_digraph.specs.Asking.{AreWithin, with_found}
use Rattle.cip_aux.specs.Neighbours.{first_where, neighbours_of, parent_of}
use Rattle.cip_digraph.specs.Sides.{found_side, number_side, pair_sides}
use Rattle.cip_digraph.proofs.lemmas.OddTurns.{rest_is}
use Rattle.cip_aux.specs.Turning.{side_at}
use Rattle.cip_aux_rank.specs.Asking.{asked_of, asked_pairs, branch_at}
use Rattle.cip_aux_rank.specs.LigandBranches.{asked_tops, branch_of, is_ligand}
use Rattle.cip_aux_rank.proofs.lemmas.TiesItself.{order_itself}

pub pairs_on : (tops : List ℕ) (done new : List BranchPair) (rest : List (Option ℕ)) (d : Option ℕ) → 1 ≤ length rest
    → new ≡ done ++ map (asked_of tops (slice_index_or rest 0 d)) (take (length rest - 1) (drop 1 rest))
    → new ++ asked_pairs tops (take (length rest - 1) (drop 1 rest)) ≡ done ++ asked_pairs tops rest
pairs_on tops done new [] d some e = absurd (omega arith)
pairs_on tops done new (one ∷ others) d some e =
    (λ i. (e ∙ ap (λ (ls : List (Option ℕ)). done ++ map (asked_of tops one) ls) (rest_is one others)) i
    ++ asked_pairs tops (rest_is one others i))
    ∙ append_assoc done (map (asked_of tops one) others) (asked_pairs tops others)

first_has : (P : ℕ → Type 0) (test : ℕ → Bool) (xs : List ℕ) (n : ℕ) → AllByRecursion P xs
    → first_where test xs ≡ Some n → (test n ≡ true) × P n
first_has P test [] n all e = let bad : None ≡ Some n = e in cc
first_has P test (x ∷ xs) n all e = by (test x) refl (λ h. first_has P test xs n all.1 h) e
  where
    by : (b : Bool) → test x ≡ b → (first_where test xs ≡ Some n → (test n ≡ true) × P n)
        → cond b (Some x) (first_where test xs) ≡ Some n → (test n ≡ true) × P n
    by true t rest h = let same : x ≡ n = cc in subst (λ m. (test m ≡ true) × P m) same (t, all.0)
    by false t rest h = rest h

none_by : (test : ℕ → Bool) (start count k : ℕ) (b : Bool) → test start ≡ b
    → cond b (Some start) (first_where test (range_with_len (start + 1) count)) ≡ None → start ≤ k
    → (first_where test (range_with_len (start + 1) count) ≡ None → start + 1 ≤ k → test k ≡ false) → test k ≡ false
none_by test start count k true t h low rest = let bad : Some start ≡ None = h in cc
none_by test start count k false t h low rest = elim (cases_order start k) [
  | inl here ↦ ap test (sym here) ∙ t
  | inr (inl less) ↦ rest h (omega (arith, less))
  | inr (inr more) ↦ absurd (omega (arith, low, more))
]

none_at : (test : ℕ → Bool) (start count k : ℕ) → first_where test (range_with_len start count) ≡ None → start ≤ k
    → k < start + count → test k ≡ false
none_at test start zero k e low high = absurd (omega (arith, low, high))
none_at test start (suc count) k e low high =
    none_by test start count k (test start) refl e low
    (λ h less. none_at test (start + 1) count k h less (omega (arith, high)))

module _ (tops : List ℕ) where
  -- the branch of a ligand has it at its top
  pub branch_is : (ligand branch : ℕ) → branch_of tops ligand ≡ Some branch
      → (slice_index tops branch ≡ ligand) × (branch < length tops)
  branch_is ligand branch e =
      let has = first_has (λ b. b < length tops) (λ b. slice_index tops b == ligand) (range_with_len 0 (length tops))
      branch (by_range (λ b. b < length tops) 0 (length tops) (λ k low high. omega (arith, high))) e in
      (eqb-true (slice_index tops branch) ligand has.0, has.1)

  pub branch_low : 0 < length tops → (ligand : ℕ) → branch_at tops ligand < length tops
  branch_low some ligand = by (branch_of tops ligand) refl
    where
      by : (found : Option ℕ) → branch_of tops ligand ≡ found → unwrap_or found 0 < length tops
      by None e = some
      by (Some branch) e = (branch_is ligand branch e).1

  pub branch_top : (ligand : ℕ) → Contains tops ligand → slice_index tops (branch_at tops ligand) ≡ ligand
  branch_top ligand is = by (branch_of tops ligand) refl
    where
      by : (found : Option ℕ) → branch_of tops ligand ≡ found → slice_index tops (unwrap_or found 0) ≡ ligand
      by None e =
          let k = is.0 in
          let here : slice_index tops k ≡ ligand = get_or_default tops k 0 ligand is.1 ∙ is.2 in
          let off = none_at (λ b. slice_index tops b == ligand) 0 (length tops) k e (omega arith)
          (let lt = is.1 in omega (arith, lt)) in
          let bad : false ≡ true = sym off ∙ eq-eqb (slice_index tops k) ligand here in cc
      by (Some branch) e = (branch_is ligand branch e).0

  abbrev AreTop : Option ℕ → Type 0
  AreTop ligand = IfSome ligand (Contains tops)

  module _ (some : 0 < length tops) where
    one_within : (one other : Option ℕ) → AreWithin (length tops) (asked_of tops one other)
    one_within None None = (some, some)
    one_within None (Some b) = (some, some)
    one_within (Some a) None = (some, some)
    one_within (Some a) (Some b) = (branch_low some a, branch_low some b)

    row_within : (one : Option ℕ) (others : List (Option ℕ))
        → AllByRecursion (AreWithin (length tops)) (map (asked_of tops one) others)
    row_within one [] = tt
    row_within one (other ∷ others) = (one_within one other, row_within one others)

    pub pairs_within : (ligands : List (Option ℕ))
        → AllByRecursion (AreWithin (length tops)) (asked_pairs tops ligands)
    pairs_within [] = tt
    pairs_within (ligand ∷ ligands) =
        all_append (AreWithin (length tops)) (map (asked_of tops ligand) ligands) (asked_pairs tops ligands)
        (row_within ligand ligands) (pairs_within ligands)

  module _ (named : ℕ → Node) (seen : Seen Node) (r_first : Bool) where
    abbrev sides : ℕ → ℕ → Option Ordering
    sides a b = found_side (order seen r_first (named a) (named b))

    abbrev found : ℕ → ℕ → Option Decision
    found a b = order seen r_first (named (slice_index tops a)) (named (slice_index tops b))

    one_found : (one other : Option ℕ) → AreTop one → AreTop other
        → side_at (with_found found (asked_of tops one other)) ≡ number_side sides one other
    one_found None None p q = ap found_side (order_itself seen (named (slice_index tops 0)) r_first)
    one_found None (Some b) p q = refl
    one_found (Some a) None p q = refl
    one_found (Some a) (Some b) p q =
        ap (λ n. found_side (order seen r_first (named n) (named (slice_index tops (branch_at tops b)))))
        (branch_top a p)
        ∙ ap (λ n. sides a n) (branch_top b q)

    row_found : (one : Option ℕ) → AreTop one → (others : List (Option ℕ)) → AllByRecursion AreTop others
        → map side_at (map (with_found found) (map (asked_of tops one) others)) ≡ map (number_side sides one) others
    row_found one p [] all = refl
    row_found one p (other ∷ others) all =
        λ i. one_found one other p all.0 i ∷ row_found one p others all.1 i

    pub pairs_found : (ligands : List (Option ℕ)) → AllByRecursion AreTop ligands
        → map side_at (map (with_found found) (asked_pairs tops ligands)) ≡ pair_sides sides ligands
    pairs_found [] all = refl
    pairs_found (ligand ∷ ligands) all =
        ap (map side_at) (map-append (with_found found) (map (asked_of tops ligand) ligands) (asked_pairs tops ligands))
        ∙ map-append side_at (map (with_found found) (map (asked_of tops ligand) ligands))
        (map (with_found found) (asked_pairs tops ligands))
        ∙ (λ i. row_found ligand all.0 ligands all.1 i ++ pairs_found ligands all.1 i)

  -- without any branch there are lone pairs alone
  module _ (none : length tops ≡ 0) (sides : ℕ → ℕ → Option Ordering) where
    one_lone : (one other : Option ℕ) → AreTop one → AreTop other
        → side_at (asked_of tops one other) ≡ number_side sides one other
    one_lone None None p q = refl
    one_lone None (Some b) p q = refl
    one_lone (Some a) None p q = refl
    one_lone (Some a) (Some b) p q = let lt = p.1 in absurd (omega (arith, lt, none))

    row_lone : (one : Option ℕ) → AreTop one → (others : List (Option ℕ)) → AllByRecursion AreTop others
        → map side_at (map (asked_of tops one) others) ≡ map (number_side sides one) others
    row_lone one p [] all = refl
    row_lone one p (other ∷ others) all = λ i. one_lone one other p all.0 i ∷ row_lone one p others all.1 i

    pub pairs_lone : (ligands : List (Option ℕ)) → AllByRecursion AreTop ligands
        → map side_at (asked_pairs tops ligands) ≡ pair_sides sides ligands
    pairs_lone [] all = refl
    pairs_lone (ligand ∷ ligands) all =
        map-append side_at (map (asked_of tops ligand) ligands) (asked_pairs tops ligands)
        ∙ (λ i. row_lone ligand all.0 ligands all.1 i ++ pairs_lone ligands all.1 i)

parent_lists : (parents : List ℕ) (node : ℕ) → parent_of parents node ≡ parent_list parents node
parent_lists parents zero = refl
parent_lists parents (suc before) =
    sym (ap (λ b. cond b [] (slice_index parents (suc before) ∷ []))
    (ne_eqb (suc before) 0 (λ e. absurd (omega (arith, e)))))

one_more : (x : ℕ) (xs : List ℕ) (n : ℕ) → Contains xs n → Contains (x ∷ xs) n
one_more x xs n is = let lt = is.1 in (suc (is.0), omega (arith, lt), is.2)

pub kept_in : (test : ℕ → Bool) (xs : List ℕ) (n k : ℕ) → k < length xs → slice_index_or xs k n ≡ n → test n ≡ true
    → Contains (filter test xs) n
kept_in test [] n k lt e t = absurd (omega (arith, lt))
kept_in test (x ∷ xs) n zero lt e t =
    subst (λ b. Contains (cond b (x ∷ filter test xs) (filter test xs)) n) (sym (ap test e ∙ t)) (0, omega arith, e)
kept_in test (x ∷ xs) n (suc k) lt e t = by (test x) (kept_in test xs n k (omega (arith, lt)) e t)
  where
    by : (b : Bool) → Contains (filter test xs) n → Contains (cond b (x ∷ filter test xs) (filter test xs)) n
    by true is = one_more x (filter test xs) n is
    by false is = is

any_at : (ligands : List (Option ℕ)) (k n : ℕ) (d : Option ℕ) → k < length ligands
    → slice_index_or ligands k d ≡ Some n → list_any (is_ligand n) ligands ≡ true
any_at [] k n d lt e = absurd (omega (arith, lt))
any_at (ligand ∷ ligands) zero n d lt e =
    or_left _ _ (ap (is_ligand n) e ∙ eq-eqb n n refl)
any_at (ligand ∷ ligands) (suc k) n d lt e = or_right _ _ (any_at ligands k n d (omega (arith, lt)) e)

-- each ligand next to a node is at the top of a branch
pub tops_of : (parents : List ℕ) (node : ℕ) (ligands : List (Option ℕ))
    → All (λ ligand. IfSome ligand (Contains (neighbours_of parents node))) ligands
    → AllByRecursion (λ ligand. IfSome ligand (Contains (asked_tops parents ligands node))) ligands
tops_of parents node ligands next =
    by_recursion (λ ligand. IfSome ligand (Contains (asked_tops parents ligands node))) ligands
    (λ k d lt. by k d lt (slice_index_or ligands k d) refl (next k d lt))
  where
    by : (k : ℕ) (d : Option ℕ) → k < length ligands → (ligand : Option ℕ) → slice_index_or ligands k d ≡ ligand
        → IfSome ligand (Contains (neighbours_of parents node))
        → IfSome ligand (Contains (asked_tops parents ligands node))
    by k d lt None e is = tt
    by k d lt (Some n) e is =
        let there : Contains (children_of parents node ++ parent_list parents node) n =
        subst (λ (ns : List ℕ). Contains (children_of parents node ++ ns) n) (parent_lists parents node) is in
        kept_in (λ top. list_any (is_ligand top) ligands) (children_of parents node ++ parent_list parents node) n
        there.0 there.1 there.2 (any_at ligands k n d lt e)
