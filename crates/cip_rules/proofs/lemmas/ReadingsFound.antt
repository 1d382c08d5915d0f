-- What is taken over both readings of branches is what Rule 4b decides.
use Rattle.std.proofs.Common.{◌≡◌, ◌≢◌, ◌<◌, ◌≤◌, ◌+◌, ◌-◌, ◌∷◌, ◌⊎◌, [], ℕ, ℤ, zero, suc, Bool, true, false, cond, if◌then◌else◌, List, length, map, slice_index, refl, sym, ap, ◌∙◌, subst, arith, inl, inr}
use Rattle.std.specs.Prelude.{None, Some, pos}
use Rattle.std.specs.declared.option.Option.{Option}
use Rattle.std.specs.declared.cmp.Ordering.{Ordering}
use Rattle.std.specs.declared.cmp.Ordering.TheVariants.{Equal}
use Rattle.std.specs.Cmp.{IsTotalOrder}
use Rattle.std.specs.List.{AllByRecursion, list_all, range_with_len, slice_index_or}
use Rattle.std.specs.Ordering.{is_lt, int_cmp, nat_cmp}
use Rattle.std.proofs.lemmas.Bool.Decides.{nat_tests}
use Rattle.std.proofs.lemmas.Cmp.{on_total, tied_itself}
use Rattle.std.proofs.lemmas.List.{get_or-map, length-map}
use Rattle.std.proofs.lemmas.List.FromFn.{get_or-map-range_with_len, length-map-range_with_len}
use Rattle.cip_rank.specs.Comparison.{comparison}
use Rattle.cip_rank.specs.Ranking.{key_at}
use Rattle.cip_rank.proofs.lemmas.NumberedNodes.{equal_is}
use Rattle.cip_rank.proofs.lemmas.Refining.{depths_refine, first_decides}
use Rattle.cip_rank.proofs.lemmas.TotalOrder.{comparison_total}
use Rattle.cip_mol.specs.declared.labels.descriptor.Descriptor.{Descriptor}
use Rattle.cip_mol.specs.declared.labels.descriptor.Descriptor.TheVariants as letters
use Rattle.cip_mol.specs.declared.labels.outcome.Rule.TheVariants.{R4b, R5}
use Rattle.cip_digraph.specs.declared.decisions.decision.Decision.{Decision}
use Rattle.cip_digraph.specs.rules.Decisions.{Difference, first_difference, difference_at}
use Rattle.cip_digraph.specs.rules.Kinds.{Kind, KindR, KindS, Neither, key_or_zero, like_key, like_kind}
use Rattle.cip_digraph.specs.rules.Orders.{Seen, rule_4a, read_children, readings, is_s_higher, higher_reading, lower_reading, rule_4b_higher, rule_4b_lower}
use Rattle.cip_digraph.proofs.lemmas.orders.Exchanged.{total_4a}
use Rattle.cip_digraph.proofs.lemmas.orders.Whole.{side_at, first_side}
use Rattle.cip_branches.specs.Among.{StandsAmong}
use Rattle.cip_branches.specs.Deciding.{Branched, AreFollowed}
use Rattle.cip_partition.specs.Kids.{kids_of}
use Rattle.cip_partition.specs.Parting.{has_flag}
use Rattle.cip_branches.specs.Standing.{node_in, WantedIn, AreKeysOf, StandsBy}
use Rattle.cip_branches.specs.Twins.{twins_of, kept_spheres, MayDouble}
use Rattle.cip_branches.specs.Views.{IsView, IsEnded}
use Rattle.cip_partition.proofs.lemmas.Cases.{cases_same, cases_flag, not_both}
use Rattle.cip_branches.proofs.lemmas.taken.Ended.{deep}
use Rattle.cip_branches.proofs.lemmas.doubled.Ranks.{double_order, twins_followed}
use Rattle.cip_branches.proofs.lemmas.doubled.Starts.{kept_at_most, number_first, number_second}
use Rattle.cip_branches.proofs.lemmas.doubled.Stands.{IsReading, wants_twin, twin_named, read_each, itself, node_first, node_second, view_before, ended_before, ended_twins, twins_stand, reading_in, top_node}
use Rattle.cip_digraph.specs.declared.decisions.branch_pair.BranchPair.{BranchPair}
use Rattle.cip_digraph.specs.Asking.{AreWithin, decided, differing, found_between, is_decided, kept_or, with_found}
use Rattle.cip_rules.specs.Counting.{AreUncounted}
use Rattle.cip_rules.specs.DescriptorMap.{AreDescriptorsOf}
use Rattle.cip_rules.specs.Orders.{decided_by, found_below, key_of_descriptor}
use Rattle.cip_rules.specs.Rule4bWorkspace.{twin_of, side_of, is_second, s_higher, base_of, one_reading, reading_of, read_as, between, reading_key, reading_keys, TakesReadings}
use Rattle.cip_rules.specs.Taking.{TakesRule}
use Rattle.cip_rules.proofs.lemmas.FoundAmong.{AsksAmong, rule_found, found_rest}
use Rattle.cip_rules.proofs.lemmas.FoundWithin.{all_stay, same_found, same_difference, kept_kept, decided_else}
use Rattle.cip_rules.proofs.lemmas.ReadingKeys.{key_here}
use Rattle.cip_rules.proofs.lemmas.TakenNone.{none_taken}

key_low : (descriptors : List (Option Descriptor)) (nodes : List ℕ) (count x : ℕ) → x < count
    → reading_key descriptors nodes count x ≡ key_or_zero (like_key KindR) (slice_index_or descriptors (slice_index nodes x) None)
key_low descriptors nodes count x lt = grind (arith, nat_tests)

key_high : (descriptors : List (Option Descriptor)) (nodes : List ℕ) (count p : ℕ)
    → reading_key descriptors nodes count (count + p)
    ≡ key_or_zero (like_key KindS) (slice_index_or descriptors (slice_index nodes p) None)
key_high descriptors nodes count p =
    let back : count + p - count ≡ p = omega arith in
    high (count + p) (omega arith)
    ∙ ap (λ k. key_or_zero (like_key KindS) (slice_index_or descriptors (slice_index nodes k) None)) back
  where
    high : (x : ℕ) → count ≤ x → reading_key descriptors nodes count x
        ≡ key_or_zero (like_key KindS) (slice_index_or descriptors (slice_index nodes (x - count)) None)
    high x le = grind (arith, nat_tests)

base_low : (count x : ℕ) → x < count → base_of count x ≡ x
base_low count x lt = grind (arith, nat_tests)

base_high : (count p : ℕ) → base_of count (count + p) ≡ p
base_high count p = let back : count + p - count ≡ p = omega arith in high (count + p) (omega arith) ∙ back
  where
    high : (x : ℕ) → count ≤ x → base_of count x ≡ x - count
    high x le = grind (arith, nat_tests)

second_by : (found : Option Difference) → is_second (decided R4b found) ≡ is_lt (side_at found)
second_by None = refl
second_by (Some found) = refl

all_range : {X : Type 0} (P : X → Type 0) (f : ℕ → X) (first count : ℕ)
    → ((k : ℕ) → k < first + count → P (f k)) → AllByRecursion P (map f (range_with_len first count))
all_range P f first zero each = tt
all_range P f first (suc count) each =
    (each first (omega arith), all_range P f (first + 1) count (λ k lt. each k (omega (arith, lt))))

-- what is neither like one kind nor like the other one
like_none : (kind : Kind) → like_kind kind Neither ≡ 0 → (descriptor : Option Descriptor) → key_of_descriptor true R5 descriptor ≡ pos 0
    → key_or_zero (like_key kind) descriptor ≡ pos 0
like_none kind n None e = refl
like_none kind n (Some letters.R) e = let bad : pos 2 ≡ pos 0 = e in cc
like_none kind n (Some letters.S) e = let bad : pos 1 ≡ pos 0 = e in cc
like_none kind n (Some letters.SmallR) e = ap pos n
like_none kind n (Some letters.SmallS) e = ap pos n
like_none kind n (Some letters.M) e = let bad : pos 2 ≡ pos 0 = e in cc
like_none kind n (Some letters.P) e = let bad : pos 1 ≡ pos 0 = e in cc
like_none kind n (Some letters.SmallM) e = ap pos n
like_none kind n (Some letters.SmallP) e = ap pos n
like_none kind n (Some letters.Z) e = ap pos n
like_none kind n (Some letters.E) e = ap pos n
like_none kind n (Some letters.SeqCis) e = let bad : pos 2 ≡ pos 0 = e in cc
like_none kind n (Some letters.SeqTrans) e = let bad : pos 1 ≡ pos 0 = e in cc

abbrev first_decided : List BranchPair → Option Decision
first_decided [] = None
first_decided (one ∷ pairs) = one.decision

kept_itself : (found : Option Decision) → kept_or found found ≡ found
kept_itself None = refl
kept_itself (Some found) = refl

-- five steps are one
five : {X : Type 0} (P : X → Type 0) (a b c d e g : X → X) → ((x : X) → P x → e (d (c (b (a x)))) ≡ g x)
    → (xs : List X) → AllByRecursion P xs → map e (map d (map c (map b (map a xs)))) ≡ map g xs
five P a b c d e g same [] all = refl
five P a b c d e g same (x ∷ xs) all =
    ap (λ y. y ∷ map e (map d (map c (map b (map a xs))))) (same x all.0)
    ∙ ap (λ ys. g x ∷ ys) (five P a b c d e g same xs all.1)

module _ {N : Type 0} (seen : Seen N) (named : ℕ → N) (from : Branched) (followed : AreFollowed from)
    (may : MayDouble from) (stands : StandsBy seen.children named (rule_4a seen seen.height) from)
    (ends : IsEnded seen.children (node_in named from) (WantedIn from) from.last) (tall : from.last ≤ seen.height)
    (descriptors : List (Option Descriptor)) (are : AreDescriptorsOf named seen.descriptor descriptors from) (room : ℕ) where
  abbrev count : ℕ
  count = length from.layers.place_tree.place_parents

  abbrev twins : Branched
  twins = twins_of room from

  abbrev reads : ℕ → N × Kind
  reads = twin_named named from.layers.place_tree.nodes count KindR KindS

  abbrev node : ℕ → N
  node = node_in named from

  abbrev node_now : ℕ → N × Kind
  node_now = node_in reads twins

  abbrev earlier : N × Kind → N × Kind → Ordering
  earlier a b = rule_4a seen seen.height a.0 b.0

  abbrev key : N × Kind → ℤ
  key branch = key_or_zero (like_key branch.1) (seen.descriptor branch.0)

  abbrev compare : ℕ → N × Kind → N × Kind → Ordering
  compare depth = comparison (read_each seen.children) earlier key depth

  total : IsTotalOrder earlier
  total = on_total (λ (r : N × Kind). r.0) (total_4a seen)

  compare_is : (depth : ℕ) → compare depth ≡ readings seen depth
  unfolding readings
  compare_is depth = refl

  stand : StandsAmong (IsReading from) (read_each seen.children) reads earlier twins
  stand = twins_stand room from followed may seen.children named KindR KindS (rule_4a seen seen.height) stands ends

  ends_now : IsEnded (read_each seen.children) node_now (WantedIn twins) (kept_spheres from.last count)
  ends_now = ended_twins room from followed may seen.children named KindR KindS stands.shown.view ends

  keys_now : AreKeysOf reads key (reading_keys descriptors from) twins
  keys_now = record {
    each = λ t x w.
        let twin = wants_twin room from followed may t x w in
        let low = twin.low in
        elim twin.which [
          | inl e ↦
              let within : x < count + count = omega (arith, e, low) in
              ap (key_at (reading_keys descriptors from))
              (itself room from followed may seen.children named KindR KindS x within)
              ∙ key_here descriptors from x within ∙ ap (reading_key descriptors from.layers.place_tree.nodes count) e
              ∙ key_low descriptors from.layers.place_tree.nodes count twin.place low
              ∙ ap (key_or_zero (like_key KindR)) (are.each t twin.place twin.unresolved)
              ∙ sym (ap key (ap node_now e
              ∙ node_first room from followed may seen.children named KindR KindS twin.place low))
          | inr e ↦
              let within : x < count + count = omega (arith, e, low) in
              ap (key_at (reading_keys descriptors from))
              (itself room from followed may seen.children named KindR KindS x within)
              ∙ key_here descriptors from x within ∙ ap (reading_key descriptors from.layers.place_tree.nodes count) e
              ∙ key_high descriptors from.layers.place_tree.nodes count twin.place
              ∙ ap (key_or_zero (like_key KindS)) (are.each t twin.place twin.unresolved)
              ∙ sym (ap key (ap node_now e
              ∙ node_second room from followed may seen.children named KindR KindS twin.place low))
        ];
  }

  -- readings of nodes that were distinguished compare as these do
  at_none : (x y : N × Kind) → earlier x y ≢ Equal → compare 0 x y ≡ earlier x y
  unfolding comparison
  at_none x y n = first_decides (earlier x y) (int_cmp (key x) (key y)) n

  const : (x y : N × Kind) → earlier x y ≢ Equal → (depth : ℕ) → compare depth x y ≡ earlier x y
  const x y n depth =
      let none : 0 + depth ≡ depth = omega arith in
      ap (λ d. compare d x y) (sym none)
      ∙ depths_refine (read_each seen.children) earlier key 0 depth x y (λ e. n (sym (at_none x y n) ∙ e))
      ∙ at_none x y n

  -- which those of different branches are unless both are unresolved
  not_tied : (i j : ℕ) → i < length from.unresolved → j < length from.unresolved → i ≢ j
      → (has_flag from.unresolved i ≡ true → has_flag from.unresolved j ≡ true → ⊥)
      → rule_4a seen seen.height (node i) (node j) ≢ Equal
  not_tied i j li lj differ shut e =
      let tie = equal_is (slice_index from.layers.ranked.numbers i) (slice_index from.layers.ranked.numbers j)
      (stands.tops.node_data i j li lj ∙ e) in
      shut (stands.tops.tie i j li lj differ tie) (stands.tops.tie j i lj li (λ f. differ (sym f)) (sym tie))

  -- Two branches: both are unresolved, or they are one, or they were distinguished.
  data Cases (i j : ℕ) : Type 0 where
    Both : has_flag from.unresolved i ≡ true → has_flag from.unresolved j ≡ true → Cases i j
    Same : i ≡ j → has_flag from.unresolved i ≡ false → Cases i j
    Apart : rule_4a seen seen.height (node i) (node j) ≢ Equal → Cases i j

  which_of : (i j : ℕ) → i < length from.unresolved → j < length from.unresolved → Cases i j
  which_of i j li lj = elim (cases_flag (has_flag from.unresolved i)) [
    | inl f ↦ elim (cases_flag (has_flag from.unresolved j)) [
      | inl g ↦ Both f g
      | inr g ↦ Apart (not_tied i j li lj (λ e. not_both (has_flag from.unresolved j)
          (ap (has_flag from.unresolved) (sym e) ∙ f) g) (λ h k. not_both (has_flag from.unresolved j) k g))
    ]
    | inr f ↦ elim (cases_same i j) [
      | inl e ↦ Same e f
      | inr differ ↦ Apart (not_tied i j li lj differ (λ h k. not_both (has_flag from.unresolved i) h f))
    ]
  ]

  -- at depths that reach the end nothing changes any more
  steady : (a b : ℕ) (p : IsReading from a) (q : IsReading from b) (d e : ℕ) → from.last ≤ d → from.last ≤ e
      → compare d (node_now a) (node_now b) ≡ compare e (node_now a) (node_now b)
  steady a b p q d e le lf = by (which_of p.branch q.branch p.low q.low)
    where
      view : IsView (read_each seen.children) node_now (kids_of twins.layers.place_tree) (WantedIn twins) from.last
      view = view_before room from followed may seen.children named KindR KindS stands.shown.view ends

      over : IsEnded (read_each seen.children) node_now (WantedIn twins) from.last
      over = ended_before room from followed may seen.children named KindR KindS stands.shown.view ends

      one_of : (x : ℕ) (r : IsReading from x) → has_flag from.unresolved r.branch ≡ false → x ≡ r.branch
      one_of x r f = elim r.which [
        | inl g ↦ g
        | inr g ↦ absurd (not_both (has_flag from.unresolved r.branch) g.1 f)
      ]

      by : Cases p.branch q.branch → compare d (node_now a) (node_now b) ≡ compare e (node_now a) (node_now b)
      by (Both f g) =
          let wa = reading_in room from followed may seen.children named KindR KindS (rule_4a seen seen.height) stands
          ends a
          p f in
          let wb = reading_in room from followed may seen.children named KindR KindS (rule_4a seen seen.height) stands
          ends b
          q g in
          deep (read_each seen.children) node_now (kids_of twins.layers.place_tree) (WantedIn twins) from.last view over
          earlier
          total key d 0 a b le wa wb
          ∙ sym (deep (read_each seen.children) node_now (kids_of twins.layers.place_tree) (WantedIn twins) from.last view over
          earlier total key e 0 a b lf wa wb)
      by (Same i f) =
          let same : a ≡ b = one_of a p f ∙ i ∙ sym (one_of b q (ap (has_flag from.unresolved) (sym i) ∙ f)) in
          subst (λ x. compare d (node_now a) (node_now x) ≡ compare e (node_now a) (node_now x)) same
          (tied_itself (comparison_total (read_each seen.children) key total d) (node_now a)
          ∙ sym (tied_itself (comparison_total (read_each seen.children) key total e) (node_now a)))
      by (Apart n) =
          let differ : earlier (node_now a) (node_now b) ≢ Equal =
          λ t. n (sym (ap (λ x. rule_4a seen seen.height x (node_now b).0) (top_node room from followed may
          seen.children
          named KindR KindS (rule_4a seen seen.height) stands ends a p)
          ∙ ap (rule_4a seen seen.height (node p.branch)) (top_node room from followed may seen.children named KindR
          KindS
          (rule_4a seen seen.height) stands ends b q)) ∙ t) in
          const (node_now a) (node_now b) differ d ∙ sym (const (node_now a) (node_now b) differ e)

  -- what is found between readings
  abbrev found : ℕ → ℕ → Option Decision
  found = found_below R4b (readings seen) node_now (seen.height + 1)

  settled : (a b : ℕ) → IsReading from a → IsReading from b
      → found_below R4b compare node_now (seen.height + 1 + 1) a b ≡ found a b
  settled a b p q =
      sym (found_rest R4b (λ d. compare d (node_now a) (node_now b)) seen.height (seen.height + 1) (omega arith)
      (λ m le. steady a b p q m (seen.height + 1 - 1) (omega (arith, le, tall)) (omega (arith, tall))))
      ∙ ap (decided R4b) (same_difference (λ d. compare d (node_now a) (node_now b))
      (λ d. readings seen d (node_now a) (node_now b))
      (λ d. ap (λ (o : N × Kind → N × Kind → Ordering). o (node_now a) (node_now b)) (compare_is d)) 0 (seen.height +
      1))

  pub found_by : (pairs new : List BranchPair) (now : Branched)
      → TakesRule twins (reading_keys descriptors from) R4b pairs now new
      → AllByRecursion (AsksAmong (IsReading from)) pairs → new ≡ map (with_found found) pairs
  found_by pairs new now takes within =
      let most = kept_at_most room from followed may in
      rule_found (IsReading from) (read_each seen.children) reads earlier total key twins stand ends_now
      (reading_keys descriptors from) keys_now R4b pairs new now takes (seen.height + 1) (omega (arith, tall, most)) within
      ∙ same_found (found_below R4b compare node_now (seen.height + 1 + 1)) found (AsksAmong (IsReading from))
      (λ one w. settled one.first one.second w.0 w.1) pairs within

  -- the same, where it is taken only if a pair is open
  pub found_open : (pairs new : List BranchPair) (now : Branched) → (list_all is_decided pairs ≡ true → new ≡ pairs)
      → (list_all is_decided pairs ≡ false → TakesRule twins (reading_keys descriptors from) R4b pairs now new)
      → AllByRecursion (AsksAmong (IsReading from)) pairs → new ≡ map (with_found found) pairs
  found_open pairs new now done taken within = by (cases_flag (list_all is_decided pairs))
    where
      by : (list_all is_decided pairs ≡ true) ⊎ (list_all is_decided pairs ≡ false) → new ≡ map (with_found found) pairs
      by (inl all) = done all ∙ sym (all_stay found pairs all)
      by (inr left) = found_by pairs new now (taken left) within

  -- Where no descriptor counts, no more is found between readings than their numbers say.
  module _ (none : AreUncounted descriptors true R5 from) where
    nothing_read : (kind : Kind) → like_kind kind Neither ≡ 0 → (t place : ℕ) → WantedIn from t place
        → pos 0 ≡ key (node place, kind)
    nothing_read kind n t place p =
        sym (like_none kind n (slice_index_or descriptors (slice_index from.layers.place_tree.nodes place) None)
        (none.each t place p))
        ∙ ap (key_or_zero (like_key kind)) (are.each t place p)

    keys_none : AreKeysOf reads key [] twins
    keys_none = record {
      each = λ t x w.
          let twin = wants_twin room from followed may t x w in
          elim twin.which [
            | inl e ↦ nothing_read KindR refl t twin.place twin.unresolved
                ∙ sym (ap key (ap node_now e
                ∙ node_first room from followed may seen.children named KindR KindS twin.place twin.low))
            | inr e ↦ nothing_read KindS refl t twin.place twin.unresolved
                ∙ sym (ap key (ap node_now e
                ∙ node_second room from followed may seen.children named KindR KindS twin.place twin.low))
          ];
    }

    abbrev by_twins : ℕ → ℕ → Option Decision
    by_twins = found_between twins.layers.ranked.numbers R4b 0

    found_none : (a b : ℕ) → IsReading from a → IsReading from b → found a b ≡ by_twins a b
    found_none a b p q =
        let one : BranchPair = record { first = a; second = b; decision = None } in
        let most = kept_at_most room from followed may in
        let node_data = rule_found (IsReading from) (read_each seen.children) reads earlier total key twins stand ends_now []
        keys_none R4b (one ∷ []) (map (with_found by_twins) (one ∷ [])) twins
        (none_taken twins (twins_followed room from followed may) R4b (one ∷ []) (map (with_found by_twins) (one ∷ []))
        refl)
        (seen.height + 1) (omega (arith, tall, most)) ((p, q), tt) in
        sym (ap first_decided node_data ∙ settled a b p q)

  -- the other reading of a branch, or the branch
  twin_reads : (k : ℕ) → k < length from.unresolved → IsReading from (twin_of from k)
  twin_reads k lt = by (cases_flag (has_flag from.unresolved k))
    where
      by : (has_flag from.unresolved k ≡ true) ⊎ (has_flag from.unresolved k ≡ false) → IsReading from (twin_of from k)
      by (inl f) = record {
        branch = k;
        low = lt;
        which = inr (ap (λ b. if b then count + k else k) f, f);
      }
      by (inr f) = record { branch = k; low = lt; which = inl (ap (λ b. if b then count + k else k) f) }

  itself_reads : (k : ℕ) → k < length from.unresolved → IsReading from k
  itself_reads k lt = record { branch = k; low = lt; which = inl refl }

  twin_is : (k : ℕ) → has_flag from.unresolved k ≡ true → twin_of from k ≡ count + k
  twin_is k f = ap (λ b. if b then count + k else k) f

  twin_or : (k : ℕ) → (twin_of from k ≡ k) ⊎ (twin_of from k ≡ count + k)
  twin_or k = elim (cases_flag (has_flag from.unresolved k)) [
    | inl f ↦ inr (twin_is k f)
    | inr f ↦ inl (ap (λ b. if b then count + k else k) f)
  ]

  low_of : (k : ℕ) → k < length from.unresolved → k < count
  low_of k lt = let tops = may.tops in omega (arith, lt, tops)

  node_r : (k : ℕ) → k < length from.unresolved → node_now k ≡ (node k, KindR)
  node_r k lt = node_first room from followed may seen.children named KindR KindS k (low_of k lt)

  node_s : (k : ℕ) → k < length from.unresolved → node_now (count + k) ≡ (node k, KindS)
  node_s k lt = node_second room from followed may seen.children named KindR KindS k (low_of k lt)

  node_or : (x k : ℕ) → k < length from.unresolved → (x ≡ k) ⊎ (x ≡ count + k) → (node_now x).0 ≡ node k
  node_or x k lt (inl e) = ap (λ y. (node_now y).0) e ∙ ap (λ (r : N × Kind). r.0) (node_r k lt)
  node_or x k lt (inr e) = ap (λ y. (node_now y).0) e ∙ ap (λ (r : N × Kind). r.0) (node_s k lt)

  module _ (sides : List BranchPair)
      (sides_are : sides ≡ map (with_found found) (map (side_of from) (range_with_len 0 (length from.unresolved)))) where
    abbrev flags : List Bool
    flags = s_higher sides

    -- of a branch it is found which reading is the higher one
    flag_is : (k : ℕ) → k < length from.unresolved
        → has_flag flags k ≡ is_second (kept_or (side_of from k).decision (found k (twin_of from k)))
    flag_is k lt =
        let all = range_with_len 0 (length from.unresolved) in
        let len = length-map-range_with_len (side_of from) 0 (length from.unresolved) in
        let more : length (map (with_found found) (map (side_of from) all)) ≡ length (map (side_of from) all) =
        simp length-map in
        ap (λ (ss : List BranchPair). has_flag (s_higher ss) k) sides_are
        ∙ get_or-map (λ (one : BranchPair). is_second one.decision) (map (with_found found) (map (side_of from) all)) k
        (with_found found (side_of from 0)) false (omega (arith, lt, len, more))
        ∙ ap (λ (one : BranchPair). is_second one.decision) (get_or-map (with_found found) (map (side_of from) all) k
        (side_of from 0) (with_found found (side_of from 0)) (omega (arith, lt, len)))
        ∙ ap (λ (one : BranchPair). is_second (with_found found one).decision) (get_or-map-range_with_len (side_of from) 0
        (length from.unresolved) k k (side_of from 0) lt (omega arith))

    refines : (x y : N × Kind) (depth more : ℕ) → readings seen depth x y ≢ Equal
        → readings seen (depth + more) x y ≡ readings seen depth x y
    unfolding readings
    refines x y depth more n = depths_refine (read_children seen) earlier key depth more x y n

    higher_is : (k : ℕ) → k < length from.unresolved → has_flag from.unresolved k ≡ true
        → has_flag flags k ≡ is_s_higher seen (node k)
    higher_is k lt f =
        let x = node_now k in
        let y = node_now (twin_of from k) in
        let sum : seen.height + 1 ≡ suc seen.height = omega arith in
        let last : 0 + seen.height ≡ seen.height = omega arith in
        flag_is k lt
        ∙ ap (λ b. is_second (kept_or (if b then None else one_reading) (found k (twin_of from k)))) f
        ∙ second_by (first_difference (λ depth. readings seen depth x y) 0 (seen.height + 1))
        ∙ ap is_lt (ap (λ more. side_at (first_difference (λ depth. readings seen depth x y) 0 more)) sum
        ∙ first_side (λ depth. readings seen depth x y) (refines x y) seen.height 0
        ∙ ap (λ depth. readings seen depth x y) last
        ∙ ap (λ r. readings seen seen.height r y) (node_r k lt)
        ∙ ap (readings seen seen.height (node k, KindR)) (ap node_now (twin_is k f) ∙ node_s k lt))

    abbrev hi : ℕ → ℕ
    hi k = reading_of from flags false k

    abbrev lo : ℕ → ℕ
    lo k = reading_of from flags true k

    -- of a branch that is unresolved they are the higher and the lower one
    hi_by : (k : ℕ) (b : Bool) → k < length from.unresolved → has_flag from.unresolved k ≡ true
        → node_now (if b then twin_of from k else k) ≡ (node k, cond b KindS KindR)
    hi_by k true lt f = ap node_now (twin_is k f) ∙ node_s k lt
    hi_by k false lt f = node_r k lt

    lo_by : (k : ℕ) (b : Bool) → k < length from.unresolved → has_flag from.unresolved k ≡ true
        → node_now (if b then k else twin_of from k) ≡ (node k, cond b KindR KindS)
    lo_by k true lt f = node_r k lt
    lo_by k false lt f = ap node_now (twin_is k f) ∙ node_s k lt

    hi_node : (k : ℕ) → k < length from.unresolved → has_flag from.unresolved k ≡ true
        → node_now (hi k) ≡ higher_reading seen (node k)
    hi_node k lt f = hi_by k (has_flag flags k) lt f
        ∙ ap {B = N × Kind} (λ b. (node k, cond b KindS KindR)) (higher_is k lt f)

    lo_node : (k : ℕ) → k < length from.unresolved → has_flag from.unresolved k ≡ true
        → node_now (lo k) ≡ lower_reading seen (node k)
    lo_node k lt f = lo_by k (has_flag flags k) lt f
        ∙ ap {B = N × Kind} (λ b. (node k, cond b KindR KindS)) (higher_is k lt f)

    hi_or_by : (k : ℕ) (b : Bool) → ((if b then twin_of from k else k) ≡ k) ⊎ ((if b then twin_of from k else k) ≡
        count + k)
    hi_or_by k true = twin_or k
    hi_or_by k false = inl refl

    lo_or_by : (k : ℕ) (b : Bool) → ((if b then k else twin_of from k) ≡ k) ⊎ ((if b then k else twin_of from k) ≡
        count + k)
    lo_or_by k true = inl refl
    lo_or_by k false = twin_or k

    hi_reads_by : (k : ℕ) (b : Bool) → k < length from.unresolved → IsReading from (if b then twin_of from k else k)
    hi_reads_by k true lt = twin_reads k lt
    hi_reads_by k false lt = itself_reads k lt

    lo_reads_by : (k : ℕ) (b : Bool) → k < length from.unresolved → IsReading from (if b then k else twin_of from k)
    lo_reads_by k true lt = itself_reads k lt
    lo_reads_by k false lt = twin_reads k lt

    hi_or : (k : ℕ) → (hi k ≡ k) ⊎ (hi k ≡ count + k)
    hi_or k = hi_or_by k (has_flag flags k)

    lo_or : (k : ℕ) → (lo k ≡ k) ⊎ (lo k ≡ count + k)
    lo_or k = lo_or_by k (has_flag flags k)

    base_or : (x k : ℕ) → k < length from.unresolved → (x ≡ k) ⊎ (x ≡ count + k) → base_of count x ≡ k
    base_or x k lt (inl e) = ap (base_of count) e ∙ base_low count k (low_of k lt)
    base_or x k lt (inr e) = ap (base_of count) e ∙ base_high count k

    -- what readings of two branches decide, where at most one is unresolved, readings of others decide too
    alike : (x y u v : N × Kind) (i j : ℕ) → x.0 ≡ node i → y.0 ≡ node j → u.0 ≡ node i → v.0 ≡ node j
        → rule_4a seen seen.height (node i) (node j) ≢ Equal → (depth : ℕ)
        → readings seen depth x y ≡ readings seen depth u v
    alike x y u v i j xi yj ui vj n depth =
        let one : earlier x y ≡ rule_4a seen seen.height (node i) (node j) =
        ap (λ m. rule_4a seen seen.height m y.0) xi ∙ ap (rule_4a seen seen.height (node i)) yj in
        let other : earlier u v ≡ rule_4a seen seen.height (node i) (node j) =
        ap (λ m. rule_4a seen seen.height m v.0) ui ∙ ap (rule_4a seen seen.height (node i)) vj in
        ap (λ (o : N × Kind → N × Kind → Ordering). o x y) (sym (compare_is depth))
        ∙ const x y (λ e. n (sym one ∙ e)) depth ∙ one
        ∙ sym (ap (λ (o : N × Kind → N × Kind → Ordering). o u v) (sym (compare_is depth))
        ∙ const u v (λ e. n (sym other ∙ e)) depth ∙ other)

    tied : (depth : ℕ) (x : N × Kind) → readings seen depth x x ≡ Equal
    tied depth x = ap (λ (o : N × Kind → N × Kind → Ordering). o x x) (sym (compare_is depth))
        ∙ tied_itself (comparison_total (read_each seen.children) key total depth) x

    hi_found : (i j : ℕ) → i < length from.unresolved → j < length from.unresolved → (depth : ℕ)
        → readings seen depth (node_now (hi i)) (node_now (hi j)) ≡ rule_4b_higher seen depth (node i) (node j)
    unfolding rule_4b_higher
    hi_found i j li lj depth = by (which_of i j li lj)
      where
        by : Cases i j → readings seen depth (node_now (hi i)) (node_now (hi j))
            ≡ readings seen depth (higher_reading seen (node i)) (higher_reading seen (node j))
        by (Both f g) = ap (λ x. readings seen depth x (node_now (hi j))) (hi_node i li f)
            ∙ ap (readings seen depth (higher_reading seen (node i))) (hi_node j lj g)
        by (Same e f) = ap (λ k. readings seen depth (node_now (hi i)) (node_now (hi k))) (sym e)
            ∙ tied depth (node_now (hi i)) ∙ sym (tied depth (higher_reading seen (node i)))
            ∙ ap (λ k. readings seen depth (higher_reading seen (node i)) (higher_reading seen (node k))) e
        by (Apart n) = alike (node_now (hi i)) (node_now (hi j)) (higher_reading seen (node i))
            (higher_reading seen (node j)) i j (node_or (hi i) i li (hi_or i)) (node_or (hi j) j lj (hi_or j)) refl
            refl n
            depth

    lo_found : (i j : ℕ) → i < length from.unresolved → j < length from.unresolved → (depth : ℕ)
        → readings seen depth (node_now (lo i)) (node_now (lo j)) ≡ rule_4b_lower seen depth (node i) (node j)
    unfolding rule_4b_lower
    lo_found i j li lj depth = by (which_of i j li lj)
      where
        by : Cases i j → readings seen depth (node_now (lo i)) (node_now (lo j))
            ≡ readings seen depth (lower_reading seen (node i)) (lower_reading seen (node j))
        by (Both f g) = ap (λ x. readings seen depth x (node_now (lo j))) (lo_node i li f)
            ∙ ap (readings seen depth (lower_reading seen (node i))) (lo_node j lj g)
        by (Same e f) = ap (λ k. readings seen depth (node_now (lo i)) (node_now (lo k))) (sym e)
            ∙ tied depth (node_now (lo i)) ∙ sym (tied depth (lower_reading seen (node i)))
            ∙ ap (λ k. readings seen depth (lower_reading seen (node i)) (lower_reading seen (node k))) e
        by (Apart n) = alike (node_now (lo i)) (node_now (lo j)) (lower_reading seen (node i))
            (lower_reading seen (node j)) i j (node_or (lo i) i li (lo_or i)) (node_or (lo j) j lj (lo_or j)) refl
            refl n
            depth

    abbrev hi_of : ℕ → ℕ
    hi_of = read_as from flags false

    abbrev lo_of : ℕ → ℕ
    lo_of = read_as from flags true

    -- it asks about readings of two of the branches
    abbrev IsBased : BranchPair → Type 0
    IsBased one = (base_of count one.first < length from.unresolved) × (base_of count one.second < length from.unresolved)

    base_is : (k : ℕ) → k < length from.unresolved → base_of count k ≡ k
    base_is k lt = base_low count k (low_of k lt)

    hi_is : (k : ℕ) → k < length from.unresolved → hi_of k ≡ hi k
    hi_is k lt = ap hi (base_is k lt)

    lo_is : (k : ℕ) → k < length from.unresolved → lo_of (hi_of k) ≡ lo k
    lo_is k lt = ap lo (ap (base_of count) (hi_is k lt) ∙ base_or (hi k) k lt (hi_or k))

    back_is : (k : ℕ) → k < length from.unresolved → base_of count (lo_of (hi_of k)) ≡ k
    back_is k lt = ap (base_of count) (lo_is k lt) ∙ base_or (lo k) k lt (lo_or k)

    hi_asks : (pairs : List BranchPair) → AllByRecursion (AreWithin (length from.unresolved)) pairs
        → AllByRecursion (AsksAmong (IsReading from)) (map (between hi_of) pairs)
    hi_asks [] all = tt
    hi_asks (one ∷ pairs) all = (
      (
        subst (IsReading from) (sym (hi_is one.first all.0.0)) (hi_reads_by one.first (has_flag flags one.first)
            all.0.0),
        subst (IsReading from) (sym (hi_is one.second all.0.1)) (hi_reads_by one.second (has_flag flags one.second)
            all.0.1),
      ),
      hi_asks pairs all.1,
    )

    lo_asks : (pairs : List BranchPair) → AllByRecursion (AreWithin (length from.unresolved)) pairs
        → AllByRecursion (AsksAmong (IsReading from)) (map (between lo_of) (map (with_found found) (map (between
        hi_of) pairs)))
    lo_asks [] all = tt
    lo_asks (one ∷ pairs) all = (
      (
        subst (IsReading from) (sym (lo_is one.first all.0.0)) (lo_reads_by one.first (has_flag flags one.first)
            all.0.0),
        subst (IsReading from) (sym (lo_is one.second all.0.1)) (lo_reads_by one.second (has_flag flags one.second)
            all.0.1),
      ),
      lo_asks pairs all.1,
    )

    higher_found : (i j : ℕ) → i < length from.unresolved → j < length from.unresolved
        → found (hi_of i) (hi_of j) ≡ decided R4b (difference_at seen true (node i) (node j) (rule_4b_higher seen))
    higher_found i j li lj =
        ap (λ x. found x (hi_of j)) (hi_is i li) ∙ ap (found (hi i)) (hi_is j lj)
        ∙ ap (decided R4b) (same_difference (λ d. readings seen d (node_now (hi i)) (node_now (hi j)))
        (λ d. rule_4b_higher seen d (node i) (node j)) (hi_found i j li lj) 0 (seen.height + 1))

    lower_found : (i j : ℕ) → i < length from.unresolved → j < length from.unresolved
        → found (lo_of (hi_of i)) (lo_of (hi_of j)) ≡ decided R4b (difference_at seen true (node i) (node j) (rule_4b_lower
        seen))
    lower_found i j li lj =
        ap (λ x. found x (lo_of (hi_of j))) (lo_is i li) ∙ ap (found (lo i)) (lo_is j lj)
        ∙ ap (decided R4b) (same_difference (λ d. readings seen d (node_now (lo i)) (node_now (lo j)))
        (λ d. rule_4b_lower seen d (node i) (node j)) (lo_found i j li lj) 0 (seen.height + 1))

    -- the higher ones decide, and where they tie the lower ones
    both_found : (d : Option Decision) (i j : ℕ) → i < length from.unresolved → j < length from.unresolved
        → kept_or (kept_or d (found (hi_of i) (hi_of j))) (found (lo_of (hi_of i)) (lo_of (hi_of j)))
        ≡ kept_or d (decided_by seen true R4b node i j)
    both_found d i j li lj =
        kept_kept d (found (hi_of i) (hi_of j)) (found (lo_of (hi_of i)) (lo_of (hi_of j)))
        ∙ ap (λ f. kept_or d (kept_or f (found (lo_of (hi_of i)) (lo_of (hi_of j))))) (higher_found i j li lj)
        ∙ ap (λ f. kept_or d (kept_or (decided R4b (difference_at seen true (node i) (node j) (rule_4b_higher seen))) f))
        (lower_found i j li lj)
        ∙ ap (kept_or d) (sym (decided_else R4b (difference_at seen true (node i) (node j) (rule_4b_higher seen))
        (difference_at seen true (node i) (node j) (rule_4b_lower seen))))

    -- so the rule finds no more between branches than their own numbers say
    module _ (none : AreUncounted descriptors true R5 from) where
      number_is : (x k : ℕ) → k < length from.unresolved → (x ≡ k) ⊎ (x ≡ count + k)
          → slice_index twins.layers.ranked.numbers x
          ≡ slice_index from.layers.ranked.numbers k + slice_index from.layers.ranked.numbers k
      number_is x k lt (inl e) = ap (slice_index twins.layers.ranked.numbers) e
          ∙ number_first room from followed may 0 k (stands.shown.top k lt)
      number_is x k lt (inr e) = ap (slice_index twins.layers.ranked.numbers) e
          ∙ number_second room from followed may 0 k (stands.shown.top k lt)

      by_number_is : (x y i j : ℕ) → i < length from.unresolved → j < length from.unresolved → (x ≡ i) ⊎ (x ≡ count + i)
          → (y ≡ j) ⊎ (y ≡ count + j)
          → by_twins none x y ≡ found_between from.layers.ranked.numbers R4b 0 i j
      by_number_is x y i j li lj of_x of_y =
          ap (λ n. decided R4b (differing 0 (nat_cmp n (slice_index twins.layers.ranked.numbers y))))
          (number_is x i li of_x)
          ∙ ap (λ n. decided R4b (differing 0 (nat_cmp (slice_index from.layers.ranked.numbers i
          + slice_index from.layers.ranked.numbers i) n))) (number_is y j lj of_y)
          ∙ ap (λ r. decided R4b (differing 0 r))
          (double_order (slice_index from.layers.ranked.numbers i) (slice_index from.layers.ranked.numbers j))

      pub none_decided : (i j : ℕ) → i < length from.unresolved → j < length from.unresolved
          → found_between from.layers.ranked.numbers R4b 0 i j ≡ decided_by seen true R4b node i j
      none_decided i j li lj =
          let node_data = found_between from.layers.ranked.numbers R4b 0 i j in
          let higher : found (hi_of i) (hi_of j) ≡ node_data =
          ap (λ x. found x (hi_of j)) (hi_is i li) ∙ ap (found (hi i)) (hi_is j lj)
          ∙ found_none none (hi i) (hi j) (hi_reads_by i (has_flag flags i) li) (hi_reads_by j (has_flag flags j) lj)
          ∙ by_number_is (hi i) (hi j) i j li lj (hi_or i) (hi_or j) in
          let lower : found (lo_of (hi_of i)) (lo_of (hi_of j)) ≡ node_data =
          ap (λ x. found x (lo_of (hi_of j))) (lo_is i li) ∙ ap (found (lo i)) (lo_is j lj)
          ∙ found_none none (lo i) (lo j) (lo_reads_by i (has_flag flags i) li) (lo_reads_by j (has_flag flags j) lj)
          ∙ by_number_is (lo i) (lo j) i j li lj (lo_or i) (lo_or j) in
          sym (kept_itself node_data) ∙ sym (ap (λ d. kept_or d node_data) higher)
          ∙ sym (ap (kept_or (found (hi_of i) (hi_of j))) lower) ∙ both_found None i j li lj

    one_pair : (one : BranchPair) → AreWithin (length from.unresolved) one
        → between (base_of count) (with_found found (between lo_of (with_found found (between hi_of one))))
        ≡ with_found (decided_by seen true R4b node) one
    one_pair one w =
        let i = one.first in
        let j = one.second in
        let d = kept_or (kept_or one.decision (found (hi_of i) (hi_of j))) (found (lo_of (hi_of i)) (lo_of (hi_of j)))
        in
        ap {B = BranchPair} (λ k. record { first = k; second = base_of count (lo_of (hi_of j)); decision = d }) (back_is i
        w.0)
        ∙ ap {B = BranchPair} (λ k. record { first = i; second = k; decision = d }) (back_is j w.1)
        ∙ ap {B = BranchPair} (λ f. record { first = i; second = j; decision = f }) (both_found one.decision i j w.0 w.1)

    pub all_pairs : (pairs : List BranchPair) → AllByRecursion (AreWithin (length from.unresolved)) pairs
        → map (between (base_of count)) (map (with_found found) (map (between lo_of) (map (with_found found)
        (map (between hi_of) pairs))))
        ≡ map (with_found (decided_by seen true R4b node)) pairs
    all_pairs pairs within = five (AreWithin (length from.unresolved)) (between hi_of) (with_found found) (between lo_of)
        (with_found found) (between (base_of count)) (with_found (decided_by seen true R4b node)) one_pair pairs within

  sides_ask : AllByRecursion (AsksAmong (IsReading from)) (map (side_of from) (range_with_len 0 (length from.unresolved)))
  sides_ask = all_range (AsksAmong (IsReading from)) (side_of from) 0 (length from.unresolved)
      (λ k lt. (itself_reads k (omega (arith, lt)), twin_reads k (omega (arith, lt))))

-- what is taken over readings is what the rule decides
pub readings_found : {N : Type 0} (seen : Seen N) (named : ℕ → N) (from : Branched) → AreFollowed from → MayDouble from
    → StandsBy seen.children named (rule_4a seen seen.height) from
    → IsEnded seen.children (node_in named from) (WantedIn from) from.last → from.last ≤ seen.height
    → (descriptors : List (Option Descriptor)) → AreDescriptorsOf named seen.descriptor descriptors from
    → (pairs new : List BranchPair) → AllByRecursion (AreWithin (length from.unresolved)) pairs
    → TakesReadings from descriptors pairs new
    → new ≡ map (with_found (decided_by seen true R4b (node_in named from))) pairs
readings_found seen named from followed may stands ends tall descriptors are pairs new within takes =
    let room = takes.room in
    let compared = takes.compared in
    let f = found seen named from followed may stands ends tall descriptors are room in
    let sides = found_by seen named from followed may stands ends tall descriptors are room
    (map (side_of from) (range_with_len 0 (length from.unresolved))) takes.sides takes.sides_now takes.sides_taken
    (sides_ask seen named from followed may stands ends tall descriptors are room) in
    let higher = found_by seen named from followed may stands ends tall descriptors are room
    (map (between (read_as from (s_higher takes.sides) false)) pairs) compared.higher compared.higher_now compared.higher_taken
    (hi_asks seen named from followed may stands ends tall descriptors are room takes.sides sides pairs within) in
    let lower = found_open seen named from followed may stands ends tall descriptors are room
    (map (between (read_as from (s_higher takes.sides) true)) compared.higher) compared.lower compared.lower_now
    compared.lower_decided compared.lower_taken
    (subst (λ (all : List BranchPair). AllByRecursion (AsksAmong (IsReading from)) (map (between (read_as from
    (s_higher takes.sides) true)) all)) (sym higher)
    (lo_asks seen named from followed may stands ends tall descriptors are room takes.sides sides pairs within)) in
    compared.named ∙ ap (map (between (base_of (length from.layers.place_tree.place_parents)))) (lower
    ∙ ap (λ (all : List BranchPair). map (with_found f) (map (between (read_as from (s_higher takes.sides) true)) all))
    higher)
    ∙ all_pairs seen named from followed may stands ends tall descriptors are room takes.sides sides pairs within

-- where no descriptor counts, the numbers of branches say what the rule decides
pub readings_none : {N : Type 0} (seen : Seen N) (named : ℕ → N) (from : Branched) → AreFollowed from → MayDouble from
    → StandsBy seen.children named (rule_4a seen seen.height) from
    → IsEnded seen.children (node_in named from) (WantedIn from) from.last → from.last ≤ seen.height
    → (descriptors : List (Option Descriptor)) → AreDescriptorsOf named seen.descriptor descriptors from → AreUncounted descriptors true R5 from
    → (pairs new : List BranchPair) → AllByRecursion (AreWithin (length from.unresolved)) pairs
    → new ≡ map (with_found (found_between from.layers.ranked.numbers R4b 0)) pairs
    → new ≡ map (with_found (decided_by seen true R4b (node_in named from))) pairs
readings_none seen named from followed may stands ends tall descriptors are none pairs new within noted =
    let f = found seen named from followed may stands ends tall descriptors are 0 in
    noted ∙ same_found (found_between from.layers.ranked.numbers R4b 0) (decided_by seen true R4b (node_in named from))
    (AreWithin (length from.unresolved))
    (λ one w. none_decided seen named from followed may stands ends tall descriptors are 0
    (map (with_found f) (map (side_of from) (range_with_len 0 (length from.unresolved)))) refl none one.first one.second w.0
    w.1) pairs within

pub none_asked : (f : ℕ → ℕ → Option Decision) (pairs : List BranchPair) → AllByRecursion (AreWithin 0) pairs
    → pairs ≡ map (with_found f) pairs
none_asked f [] all = refl
none_asked f (one ∷ pairs) all = let low = all.0.0 in absurd (omega (arith, low))
