-- Where all ligands differ by Rule 1a within a sphere, that sphere gives their order by all rules.
use Rattle.std.proofs.Common.{◌≡◌, ◌≢◌, ℕ, zero, suc, ◌+◌, ◌-◌, ◌<◌, ◌≤◌, List, [], ◌∷◌, length, refl, sym, ap, ◌∙◌}
use Rattle.std.proofs.Common.{subst, Bool, true, false, not, arith, inl, inr, None, Some, slice_index_or, Option}
use Rattle.std.proofs.Common.{Ordering, Less, Equal, Greater, is_eq}
use Rattle.std.specs.Cmp.{IsTotalOrder}
use Rattle.std.specs.Cmp.Lexicographic.{slice_cmp}
use Rattle.std.specs.List.{AllByRecursion, list_all, list_any, range_with_len}
use Rattle.std.specs.Ordering.{ordering_then, ordering_reverse}
use Rattle.std.proofs.lemmas.Bool.{and_parts, cases_order, cases_lt, or_from}
use Rattle.std.proofs.lemmas.Cmp.{tied_itself, lists_total}
use Rattle.cip_rank.specs.Comparison.{sorted_down}
use Rattle.cip_rank.proofs.lemmas.Refining.{depths_refine}
use Rattle.cip_rank.proofs.lemmas.TotalOrder.{comparison_total}
use Rattle.cip_mol.specs.declared.labels.outcome.Rule.{Rule}
use Rattle.cip_mol.specs.declared.labels.outcome.Rule.TheVariants.{R1a, R1b, R2, R3, R4a, R4b, R4c, R5}
use Rattle.cip_digraph.specs.outcome.Deciding.{all_differ}
use Rattle.cip_digraph.specs.declared.decisions.decision.Decision.{Decision}
use Rattle.cip_digraph.specs.rules.Decisions.{Difference, first_difference, difference_by, first_decision}
use Rattle.cip_digraph.specs.rules.Decisions.{rules_in_turn, order}
use Rattle.cip_digraph.specs.rules.EarlyOrder.{order_within}
use Rattle.cip_digraph.specs.rules.Orders.{Seen, all_tie, rule_1a}
use Rattle.cip_digraph.specs.units.Ranked.{ligand_order, place_order, side_of, ranked_places, decisions_behind}
use Rattle.cip_digraph.specs.units.Ranked.{decisions_along, is_tie, every_pair, some_pair}
use Rattle.cip_digraph.proofs.lemmas.orders.Exchanged.{found_at, all_tie_total}
use Rattle.cip_digraph.proofs.lemmas.ties.Turned.{decided_at}
use Rattle.cip_digraph.proofs.lemmas.orders.Whole.{side_at, IsOne, Refines, first_side, rule_is_one, order_total}
use Rattle.cip_digraph.proofs.lemmas.ties.TieFromSame.{none_found}

-- the first difference is found by looking as far as it is, and not further
same_found : (depth : ℕ) (one other : Option Difference) (r : Ordering) → (r ≡ Equal → one ≡ other)
    → found_at depth one r ≡ found_at depth other r
same_found depth one other Less f = refl
same_found depth one other Equal f = f refl
same_found depth one other Greater f = refl

looked_enough : (compare : ℕ → Ordering) (more further depth at : ℕ) → depth ≤ at → at < depth + more
    → compare at ≢ Equal
    → first_difference compare depth (more + further) ≡ first_difference compare depth more
looked_enough compare zero further depth at low high n = absurd (omega arith)
looked_enough compare (suc more) further depth at low high n =
    let sum : suc more + further ≡ suc (more + further) = omega arith in
    ap (first_difference compare depth) sum
    ∙ same_found depth (first_difference compare (depth + 1) (more + further)) (first_difference compare (depth + 1)
    more) (compare depth) (λ tie.
    looked_enough compare more further (depth + 1) at (elim (cases_order depth at) [
      | inl same ↦ absurd (n (ap compare (sym same) ∙ tie))
      | inr (inl below) ↦ omega arith
      | inr (inr above) ↦ absurd (omega arith)
    ]) (omega arith) n)

is_there : (found : Option Difference) → side_at found ≢ Equal → (one other : Option Decision) → decided_at R1a found
    one ≡ decided_at R1a found other
is_there None n one other = absurd (n refl)
is_there (Some found) n one other = refl

-- a decision that was made is for one side
abbrev IsMade : Option Decision → Type 0
IsMade None = Unit {0}
IsMade (Some decision) = decision.side ≢ Equal

made_by : (rule : Rule) (found : Option Difference) (later : Option Decision) → IsOne found → IsMade later
    → IsMade (decided_at rule found later)
made_by rule None later h k = k
made_by rule (Some found) later h k = h

made : (find : Rule → Option Difference) → ((rule : Rule) → IsOne (find rule)) → (rules : List Rule)
    → IsMade (first_decision find rules)
made find each [] = tt
made find each (rule ∷ rules) = made_by rule (find rule) (first_decision find rules) (each rule) (made find each rules)

none_made : (decision : Option Decision) → IsMade decision → side_of decision ≡ Equal → decision ≡ None
none_made None h e = refl
none_made (Some decision) h e = absurd (h e)

module _ {N : Type 0} (seen : Seen N) where
  total_1a : (depth : ℕ) → IsTotalOrder (rule_1a seen depth)
  unfolding rule_1a
  total_1a depth = comparison_total seen.children seen.atomic (all_tie_total seen) depth

  refines : (a b : N) → Refines (λ depth. rule_1a seen depth a b)
  unfolding rule_1a
  refines a b depth more n = depths_refine seen.children all_tie seen.atomic depth more a b n

  -- a difference by Rule 1a is the decision by all rules
  pub told_early : (r_first : Bool) (depth : ℕ) (a b : N) → depth ≤ seen.height → rule_1a seen depth a b ≢ Equal
      → order seen r_first a b ≡ order_within seen (suc depth) a b
  unfolding order
  told_early r_first depth a b low n =
      let compare : ℕ → Ordering = λ d. rule_1a seen d a b in
      let later = first_decision (difference_by seen r_first a b) (R1b ∷ R2 ∷ R3 ∷ R4a ∷ R4b ∷ R4c ∷ R5 ∷ []) in
      let sum : suc depth + (seen.height - depth) ≡ seen.height + 1 = omega arith in
      let found : first_difference compare 0 (seen.height + 1) ≡ first_difference compare 0 (suc depth) =
      ap (first_difference compare 0) (sym sum) ∙ looked_enough compare (suc depth) (seen.height - depth) 0 depth
      (omega arith) (omega arith) n in
      let last : 0 + depth ≡ depth = omega arith in
      ap (λ f. decided_at R1a f later) found
      ∙ is_there (first_difference compare 0 (suc depth))
      (λ e. n (ap compare (sym last) ∙ sym (first_side compare (refines a b) depth 0) ∙ e)) later None

  -- a branch ties with itself
  pub itself : (r_first : Bool) (a : N) → order seen r_first a a ≡ None
  unfolding order
  itself r_first a =
      none_made (first_decision (difference_by seen r_first a a) rules_in_turn) (made (difference_by seen r_first a a)
      (λ rule. rule_is_one seen r_first a a rule) rules_in_turn)
      (tied_itself (order_total seen r_first) a)

  pub within_itself : (sphere : ℕ) (a : N) → order_within seen sphere a a ≡ None
  within_itself sphere a = ap (λ f. decided_at R1a f None) (none_found (λ depth. rule_1a seen depth a a) sphere 0
      (λ depth _. tied_itself (total_1a depth) a))

  not_tied : (r : Ordering) → not (is_eq r) ≡ true → r ≢ Equal
  not_tied Less e f = let bad : Less ≡ Equal = f in cc
  not_tied Equal e f = let bad : false ≡ true = e in cc
  not_tied Greater e f = let bad : Greater ≡ Equal = f in cc

  -- two ligands of one node at most
  ligands_told : (r_first : Bool) (depth : ℕ) (x y : List N) → depth ≤ seen.height → length x ≤ 1 → length y ≤ 1
      → slice_cmp (rule_1a seen depth) x y ≢ Equal → ligand_order (order seen r_first) x y ≡ ligand_order
      (order_within seen (suc depth)) x y
  ligands_told r_first depth [] [] low p q n = refl
  ligands_told r_first depth [] (b ∷ bs) low p q n = refl
  ligands_told r_first depth (a ∷ aa) [] low p q n = refl
  ligands_told r_first depth (a ∷ []) (b ∷ []) low p q n = told_early r_first depth a b low
      (λ e. n (ap (λ r. ordering_then r Equal) e))
  ligands_told r_first depth (a ∷ []) (b ∷ c ∷ bs) low p q n = absurd (omega arith)
  ligands_told r_first depth (a ∷ c ∷ aa) (b ∷ bs) low p q n = absurd (omega arith)

  ligand_itself : (r_first : Bool) (sphere : ℕ) (x : List N) → ligand_order (order seen r_first) x x ≡ ligand_order
      (order_within seen sphere) x x
  ligand_itself r_first sphere [] = refl
  ligand_itself r_first sphere (a ∷ aa) = itself r_first a ∙ sym (within_itself sphere a)

  turned : (depth : ℕ) (x y : List N) → slice_cmp (rule_1a seen depth) x y ≢ Equal → slice_cmp (rule_1a seen depth) y x
      ≢ Equal
  turned depth x y n e = n ((lists_total (total_1a depth)).antisymm x y ∙ ap ordering_reverse e)

  abbrev differ_at : ℕ → List N → List N → Bool
  differ_at sphere a b = not (is_eq (slice_cmp (rule_1a seen (sphere - 1)) a b))

  one_of : (p : List N → Bool) (xs : List (List N)) (j : ℕ) → list_all p xs ≡ true → j < length xs
      → p (slice_index_or xs j []) ≡ true
  one_of p [] j h lt = absurd (omega arith)
  one_of p (x ∷ xs) zero h lt = (and_parts (p x) (list_all p xs) h).0
  one_of p (x ∷ xs) (suc j) h lt = one_of p xs j (and_parts (p x) (list_all p xs) h).1 (omega arith)

  pair_of : (p : List N → List N → Bool) (xs : List (List N)) (i j : ℕ) → every_pair p xs ≡ true → i < j → j < length xs
      → p (slice_index_or xs i []) (slice_index_or xs j []) ≡ true
  pair_of p [] i j h lt within = absurd (omega arith)
  pair_of p (x ∷ xs) zero zero h lt within = absurd (omega arith)
  pair_of p (x ∷ xs) zero (suc j) h lt within = one_of (p x) xs j (and_parts (list_all (p x) xs) (every_pair p xs) h).0
      (omega arith)
  pair_of p (x ∷ xs) (suc i) zero h lt within = absurd (omega arith)
  pair_of p (x ∷ xs) (suc i) (suc j) h lt within = pair_of p xs i j (and_parts (list_all (p x) xs) (every_pair p xs)
      h).1 (omega arith) (omega arith)

  short_at : (xs : List (List N)) (i : ℕ) → AllByRecursion (λ x. length x ≤ 1) xs → length (slice_index_or xs i []) ≤ 1
  short_at [] i all = omega arith
  short_at (x ∷ xs) zero all = all.0
  short_at (x ∷ xs) (suc i) all = short_at xs i all.1

  beyond : (xs : List (List N)) (i : ℕ) → length xs ≤ i → slice_index_or xs i [] ≡ []
  beyond [] i le = refl
  beyond (x ∷ xs) zero le = absurd (omega arith)
  beyond (x ∷ xs) (suc i) le = beyond xs i (omega arith)

  none_first : (one other : N → N → Option Decision) (x y : List N) → x ≡ [] → ligand_order one x y ≡ ligand_order other
      x y
  none_first one other [] [] e = refl
  none_first one other [] (b ∷ bs) e = refl
  none_first one other (a ∷ aa) y e = absurd cc

  none_second : (one other : N → N → Option Decision) (x y : List N) → y ≡ [] → ligand_order one x y ≡ ligand_order
      other x y
  none_second one other [] [] e = refl
  none_second one other (a ∷ aa) [] e = refl
  none_second one other x (b ∷ bs) e = absurd cc

  some_found : (found : Option Difference) → side_at found ≢ Equal → is_tie (decided_at R1a found None) ≡ false
  some_found None n = absurd (n refl)
  some_found (Some found) n = refl

  not_a_tie : (depth : ℕ) (x y : List N) → length x ≤ 1 → length y ≤ 1 → slice_cmp (rule_1a seen depth) x y ≢ Equal
      → is_tie (ligand_order (order_within seen (suc depth)) x y) ≡ false
  not_a_tie depth [] [] p q n = absurd (n refl)
  not_a_tie depth [] (b ∷ bs) p q n = refl
  not_a_tie depth (a ∷ aa) [] p q n = refl
  not_a_tie depth (a ∷ []) (b ∷ []) p q n =
      let compare : ℕ → Ordering = λ d. rule_1a seen d a b in
      let last : 0 + depth ≡ depth = omega arith in
      some_found (first_difference compare 0 (suc depth))
      (λ e. n (ap (λ r. ordering_then r Equal) (ap compare (sym last) ∙ sym (first_side compare (refines a b) depth 0)
      ∙ e)))
  not_a_tie depth (a ∷ []) (b ∷ c ∷ bs) p q n = absurd (omega arith)
  not_a_tie depth (a ∷ c ∷ aa) (b ∷ bs) p q n = absurd (omega arith)

  none_of : (p : List N → Bool) (xs : List (List N)) → ((j : ℕ) → j < length xs → p (slice_index_or xs j []) ≡ false)
      → list_any p xs ≡ false
  none_of p [] h = refl
  none_of p (x ∷ xs) h = or_from (p x) (list_any p xs) (h 0 (omega arith))
      (none_of p xs (λ j lt. h (suc j) (omega arith)))

  none_of_pairs : (p : List N → List N → Bool) (xs : List (List N))
      → ((i j : ℕ) → i < j → j < length xs → p (slice_index_or xs i []) (slice_index_or xs j []) ≡ false)
      → some_pair p xs ≡ false
  none_of_pairs p [] h = refl
  none_of_pairs p (x ∷ xs) h =
      or_from (list_any (p x) xs) (some_pair p xs) (none_of (p x) xs (λ j lt. h 0 (suc j) (omega arith) (omega arith)))
      (none_of_pairs p xs (λ i j lt within. h (suc i) (suc j) (omega arith) (omega arith)))

  module _ (root : N) (ligands : List (List N)) (is_in_unit : N → Bool) (sphere : ℕ) (some : 1 ≤ sphere)
      (low : sphere ≤ seen.height + 1)
      (short : AllByRecursion (λ ligand. length ligand ≤ 1) ligands) (differ : all_differ seen root ligands is_in_unit
      sphere ≡ true) where
    apart : (i j : ℕ) → i < j → j < length ligands → slice_cmp (rule_1a seen (sphere - 1)) (slice_index_or ligands i [])
        (slice_index_or ligands j []) ≢ Equal
    apart i j lt within = not_tied _ (pair_of (differ_at sphere) ligands i j differ lt within)

    told_at : (r_first : Bool) (i j : ℕ) → slice_cmp (rule_1a seen (sphere - 1)) (slice_index_or ligands i [])
        (slice_index_or ligands j []) ≢ Equal
        → place_order (order seen r_first) ligands i j ≡ place_order (order_within seen sphere) ligands i j
    told_at r_first i j n =
        let back : suc (sphere - 1) ≡ sphere = omega arith in
        subst (λ s. place_order (order seen r_first) ligands i j ≡ place_order (order_within seen s) ligands i j) back
        (ligands_told r_first (sphere - 1) (slice_index_or ligands i []) (slice_index_or ligands j []) (omega arith)
        (short_at ligands i short) (short_at ligands j short) n)

    -- the orders of places are the same
    pub places_told : (r_first : Bool) (i j : ℕ) → place_order (order seen r_first) ligands i j ≡ place_order
        (order_within seen sphere) ligands i j
    places_told r_first i j = elim (cases_lt i (length ligands)) [
      | inr out ↦ none_first (order seen r_first) (order_within seen sphere) (slice_index_or ligands i [])
          (slice_index_or ligands j []) (beyond ligands i out)
      | inl in_i ↦ elim (cases_lt j (length ligands)) [
        | inr out ↦ none_second (order seen r_first) (order_within seen sphere) (slice_index_or ligands i [])
            (slice_index_or ligands j []) (beyond ligands j out)
        | inl in_j ↦ elim (cases_order i j) [
          | inl same ↦
              subst (λ k. ligand_order (order seen r_first) (slice_index_or ligands i []) (slice_index_or ligands k [])
              ≡ ligand_order (order_within seen sphere) (slice_index_or ligands i []) (slice_index_or ligands k []))
              same (ligand_itself r_first sphere (slice_index_or ligands i []))
          | inr (inl before) ↦ told_at r_first i j (apart i j before in_j)
          | inr (inr behind) ↦ told_at r_first i j (turned (sphere - 1) (slice_index_or ligands j [])
              (slice_index_or ligands i []) (apart j i behind in_i))
        ]
      ]
    ]

    pub ranks_told : (r_first : Bool) → ranked_places (order seen r_first) ligands ≡ ranked_places
        (order_within seen sphere) ligands
    ranks_told r_first =
        ap (λ (f : ℕ → ℕ → Option Decision). sorted_down (λ i j. side_of (f i j)) (range_with_len 0 (length ligands)))
        (λ k i j. places_told r_first i j k)

    behind_told : (r_first : Bool) (place : ℕ) (places : List ℕ) → decisions_behind (order seen r_first) ligands place
        places ≡ decisions_behind (order_within seen sphere) ligands place places
    behind_told r_first place [] = refl
    behind_told r_first place (next ∷ places) =
        rw (places_told r_first place next, behind_told r_first next places) refl

    pub along_told : (r_first : Bool) (places : List ℕ) → decisions_along (order seen r_first) ligands
        places ≡ decisions_along (order_within seen sphere) ligands places
    along_told r_first [] = refl
    along_told r_first (place ∷ places) = behind_told r_first place places

    -- and no two ligands tie
    pub no_tie : (r_first : Bool) → some_pair (λ a b. is_tie (ligand_order (order seen r_first) a b)) ligands ≡ false
    no_tie r_first = none_of_pairs (λ a b. is_tie (ligand_order (order seen r_first) a b)) ligands (λ i j lt within.
        let back : suc (sphere - 1) ≡ sphere = omega arith in
        ap is_tie (places_told r_first i j)
        ∙ subst (λ s. is_tie (place_order (order_within seen s) ligands i j) ≡ false) back
        (not_a_tie (sphere - 1) (slice_index_or ligands i []) (slice_index_or ligands j []) (short_at ligands i short)
        (short_at ligands j short) (apart i j lt within)))
