-- Branches that are the same tie by every rule.
use Rattle.std.proofs.Common.{◌≡◌, ℕ, zero, suc, ◌+◌, ◌<◌, ℤ, pos, List, [], ◌∷◌, map, refl, sym, ap, ◌∙◌, cond, Bool}
use Rattle.std.proofs.Common.{true, false, arith, None, Some, Option, int_cmp, is_lt, Ordering, Equal}
use Rattle.std.specs.Cmp.{IsTotalOrder}
use Rattle.std.specs.List.{AllByRecursion}
use Rattle.std.proofs.lemmas.Cmp.{int_cmp_total, tied_itself, alike_right}
use Rattle.std.proofs.lemmas.List.Sorted.{IsPermutation-map, IsPermutation-refl}
use Rattle.cip_rank.specs.Comparison.{comparison}
use Rattle.cip_rank.specs.Matching.{InPairs, Matches}
use Rattle.cip_rank.specs.Matching as matching
use Rattle.cip_rank.proofs.lemmas.MatchingBranches.{tie_from_match, pairs_by}
use Rattle.cip_mol.specs.declared.labels.descriptor.Descriptor.{Descriptor}
use Rattle.cip_mol.specs.declared.labels.descriptor.Descriptor.TheVariants.{R}
use Rattle.cip_mol.specs.declared.labels.outcome.Rule.{Rule}
use Rattle.cip_mol.specs.declared.labels.outcome.Rule.TheVariants.{R1a, R1b, R2, R3, R4a, R4b, R4c, R5}
use Rattle.cip_digraph.specs.rules.Decisions.{first_difference, or_else, difference_by, first_decision, rules_in_turn}
use Rattle.cip_digraph.specs.rules.Decisions.{order}
use Rattle.cip_digraph.specs.rules.Kinds.{Kind, KindR, KindS, Neither, kind_of, key_or_zero, geometric_key, chirality_key}
use Rattle.cip_digraph.specs.rules.Kinds.{like_kind, like_key, small_key, capital_by, capital_key}
use Rattle.cip_digraph.specs.rules.Orders.{Seen, rule_1a, rule_1b, rule_2, rule_3, rule_4a, read_children, readings}
use Rattle.cip_digraph.specs.rules.Orders.{is_s_higher, higher_reading, lower_reading, rule_4b_higher, rule_4b_lower}
use Rattle.cip_digraph.specs.rules.Orders.{rule_4c, rule_5}
use Rattle.cip_digraph.specs.digraph.SameBranch.{Class, ClassR, ClassS, ClassSmallR, ClassSmallS, ClassZ, ClassE}
use Rattle.cip_digraph.specs.digraph.SameBranch.{class_of, AreSameNodes, SameWithin, SameBranch, EndsWithin}
use Rattle.cip_digraph.proofs.lemmas.orders.Exchanged.{all_tie_total, total_4a, earlier_total, readings_total}
use Rattle.cip_digraph.proofs.lemmas.lists.Elements.{all_arranged}
use Rattle.cip_digraph.proofs.lemmas.ties.Turned.{total_4c}
use Rattle.cip_digraph.proofs.lemmas.orders.Whole.{total_1a, total_1b, total_2, total_3}

-- Nodes in a relation that goes down to a match of their children, and keeps the earlier order and the key, tie at
-- every depth.
module _ {N : Type 0} (children : N → List N) {earlier : N → N → Ordering} (key : N → ℤ) (B : N → N → Type 0)
    (alike : (a b : N) → B a b → earlier a b ≡ Equal) (keys : (a b : N) → B a b → int_cmp (key a) (key b) ≡ Equal)
    (down : (a b : N) → B a b → Matches B (children a) (children b)) (total : IsTotalOrder earlier) where
  matched : (depth : ℕ) (a b : N) → B a b → matching.SameBranch children earlier key depth a b
  matched zero a b h = (alike a b h, keys a b h)
  matched (suc depth) a b h =
      let m = down a b h in (
        (alike a b h, keys a b h),
        record {
          one = m.one;
          other = m.other;
          of_one = m.of_one;
          of_other = m.of_other;
          pairs =
              pairs_by (matched depth) m.one m.other m.pairs;
        },
      )

  tied : (depth : ℕ) (a b : N) → B a b → comparison children earlier key depth a b ≡ Equal
  tied depth a b h = tie_from_match children total key depth a b (matched depth a b h)

-- the keys of a class
abbrev geometric_of : Class → ℕ
geometric_of ClassZ = 2
geometric_of ClassE = 1
geometric_of class = 0

abbrev chirality_of : Class → ℕ
chirality_of ClassR = 2
chirality_of ClassS = 2
chirality_of ClassSmallR = 1
chirality_of ClassSmallS = 1
chirality_of class = 0

abbrev small_of : Class → ℕ
small_of ClassSmallR = 2
small_of ClassSmallS = 1
small_of class = 0

abbrev class_kind : Class → Kind
class_kind ClassR = KindR
class_kind ClassS = KindS
class_kind class = Neither

geometric_by : (descriptor : Option Descriptor) → key_or_zero geometric_key descriptor ≡ pos (geometric_of (class_of descriptor))
geometric_by (Some R) = refl
geometric_by descriptor = refl

chirality_by : (descriptor : Option Descriptor) → key_or_zero chirality_key descriptor ≡ pos (chirality_of (class_of descriptor))
chirality_by (Some R) = refl
chirality_by descriptor = refl

small_by : (descriptor : Option Descriptor) → key_or_zero small_key descriptor ≡ pos (small_of (class_of descriptor))
small_by (Some R) = refl
small_by descriptor = refl

kind_by : (d : Descriptor) → kind_of d ≡ class_kind (class_of (Some d))
kind_by R = refl
kind_by d = refl

capital_by_class : (r_first : Bool) (descriptor : Option Descriptor)
    → key_or_zero (capital_key r_first) descriptor ≡ pos (capital_by r_first (class_kind (class_of descriptor)))
capital_by_class true None = refl
capital_by_class false None = refl
capital_by_class r_first (Some d) = ap (λ kind. pos (capital_by r_first kind)) (kind_by d)

like_by_class : (reference : Kind) (descriptor : Option Descriptor)
    → key_or_zero (like_key reference) descriptor ≡ pos (like_kind reference (class_kind (class_of descriptor)))
like_by_class KindR None = refl
like_by_class KindS None = refl
like_by_class Neither None = refl
like_by_class reference (Some d) = ap (λ kind. pos (like_kind reference kind)) (kind_by d)

number_itself : (x y : ℤ) → x ≡ y → int_cmp x y ≡ Equal
number_itself x y e = ap (λ z. int_cmp z y) e ∙ tied_itself int_cmp_total y

-- a key of descriptors that is one of their class is equal for descriptors of one class
same_key : (key : Option Descriptor → ℤ) (of_class : Class → ℕ)
    → ((descriptor : Option Descriptor) → key descriptor ≡ pos (of_class (class_of descriptor)))
    → (one other : Option Descriptor) → class_of one ≡ class_of other → int_cmp (key one) (key other) ≡ Equal
same_key key of_class by one other e =
    number_itself (key one) (key other) (by one ∙ ap (λ c. pos (of_class c)) e ∙ sym (by other))

pub none_found : (compare : ℕ → Ordering) (more depth : ℕ) → ((d : ℕ) → d < depth + more → compare d ≡ Equal)
    → first_difference compare depth more ≡ None
none_found compare zero depth h = refl
none_found compare (suc more) depth h =
    rw (h depth (omega arith), first_difference) (none_found compare more (depth + 1) (λ d lt. h d (omega arith)))

module _ {N : Type 0} (seen : Seen N) where
  -- two nodes with the same branches, n spheres down, where both end
  record AreSame (a b : N) : Type 0 where
    spheres : ℕ
    same : SameWithin seen spheres a b
    ends_a : EndsWithin seen.children spheres a
    ends_b : EndsWithin seen.children spheres b

  nodes_by : (spheres : ℕ) (a b : N) → SameWithin seen spheres a b → AreSameNodes seen a b
  nodes_by zero a b h = h
  nodes_by (suc spheres) a b h = h.0

  nodes_of : (a b : N) → AreSame a b → AreSameNodes seen a b
  nodes_of a b h = nodes_by h.spheres a b h.same

  pairs_down : (spheres : ℕ) (ns ms : List N) → InPairs (SameWithin seen spheres) ns ms
      → AllByRecursion (EndsWithin seen.children spheres) ns
      → AllByRecursion (EndsWithin seen.children spheres) ms → InPairs AreSame ns ms
  pairs_down spheres [] [] h p q = tt
  pairs_down spheres [] (m ∷ ms) h p q = h
  pairs_down spheres (n ∷ ns) [] h p q = h
  pairs_down spheres (n ∷ ns) (m ∷ ms) h p q =
      (record { spheres = spheres; same = h.0; ends_a = p.0; ends_b = q.0 }, pairs_down spheres ns ms h.1 p.1 q.1)

  down_by : (spheres : ℕ) (a b : N) → SameWithin seen spheres a b → EndsWithin seen.children spheres a
      → EndsWithin seen.children spheres b
      → Matches AreSame (seen.children a) (seen.children b)
  down_by zero a b h p q =
      rw (p, q)
      (record { one = []; other = []; of_one = IsPermutation-refl []; of_other = IsPermutation-refl []; pairs = tt })
  down_by (suc spheres) a b h p q =
      let m = h.1 in
      record {
        one = m.one;
        other = m.other;
        of_one = m.of_one;
        of_other = m.of_other;
        pairs = pairs_down spheres m.one m.other m.pairs
            (all_arranged (EndsWithin seen.children spheres) (seen.children a) m.one m.of_one p)
            (all_arranged (EndsWithin seen.children spheres) (seen.children b) m.other m.of_other q);
      }

  down : (a b : N) → AreSame a b → Matches AreSame (seen.children a) (seen.children b)
  down a b h = down_by h.spheres a b h.same h.ends_a h.ends_b

  by_class : (key : Option Descriptor → ℤ) (of_class : Class → ℕ)
      → ((descriptor : Option Descriptor) → key descriptor ≡ pos (of_class (class_of descriptor)))
      → (a b : N) → AreSame a b → int_cmp (key (seen.descriptor a)) (key (seen.descriptor b)) ≡ Equal
  by_class key of_class by a b h = same_key key of_class by (seen.descriptor a) (seen.descriptor b) (nodes_of a b h).class

  ties_1a : (depth : ℕ) (a b : N) → AreSame a b → rule_1a seen depth a b ≡ Equal
  unfolding rule_1a
  ties_1a depth a b h =
      tied seen.children seen.atomic AreSame (λ a b h. refl) (λ a b h. number_itself _ _ (nodes_of a b h).atomic) down
      (all_tie_total seen) depth a b h

  ties_1b : (depth : ℕ) (a b : N) → AreSame a b → rule_1b seen depth a b ≡ Equal
  unfolding rule_1b
  ties_1b depth a b h =
      tied seen.children seen.distance AreSame (ties_1a seen.height)
      (λ a b h. number_itself _ _ (nodes_of a b h).distance) down (total_1a seen) depth a b h

  ties_2 : (depth : ℕ) (a b : N) → AreSame a b → rule_2 seen depth a b ≡ Equal
  unfolding rule_2
  ties_2 depth a b h =
      tied seen.children seen.mass AreSame (ties_1b seen.height)
      (λ a b h. number_itself _ _ (nodes_of a b h).mass) down (total_1b seen) depth a b h

  ties_3 : (depth : ℕ) (a b : N) → AreSame a b → rule_3 seen depth a b ≡ Equal
  unfolding rule_3
  ties_3 depth a b h =
      tied seen.children (λ node. key_or_zero geometric_key (seen.descriptor node)) AreSame (ties_2 seen.height)
      (by_class (key_or_zero geometric_key) geometric_of geometric_by) down (total_2 seen) depth a b h

  ties_4a : (depth : ℕ) (a b : N) → AreSame a b → rule_4a seen depth a b ≡ Equal
  unfolding rule_4a
  ties_4a depth a b h =
      tied seen.children (λ node. key_or_zero chirality_key (seen.descriptor node)) AreSame (ties_3 seen.height)
      (by_class (key_or_zero chirality_key) chirality_of chirality_by) down (total_3 seen) depth a b h

  ties_4c : (depth : ℕ) (a b : N) → AreSame a b → rule_4c seen depth a b ≡ Equal
  unfolding rule_4c
  ties_4c depth a b h =
      tied seen.children (λ node. key_or_zero small_key (seen.descriptor node)) AreSame (ties_4a seen.height)
      (by_class (key_or_zero small_key) small_of small_by) down (total_4a seen) depth a b h

  ties_5 : (r_first : Bool) (depth : ℕ) (a b : N) → AreSame a b → rule_5 seen r_first depth a b ≡ Equal
  unfolding rule_5
  ties_5 r_first depth a b h =
      tied seen.children (λ node. key_or_zero (capital_key r_first) (seen.descriptor node)) AreSame (ties_4c seen.height)
      (by_class (key_or_zero (capital_key r_first)) (λ c. capital_by r_first (class_kind c))
      (capital_by_class r_first)) down (total_4c seen) depth a b h

  -- the same branches by the same reference
  record AreReadAlike (a b : N × Kind) : Type 0 where
    kind : a.1 ≡ b.1
    branch : AreSame a.0 b.0

  read_pairs : (kind : Kind) (ns ms : List N) → InPairs AreSame ns ms
      → InPairs AreReadAlike (map {B = N × Kind} (λ n. (n, kind)) ns) (map {B = N × Kind} (λ m. (m, kind)) ms)
  read_pairs kind [] [] h = tt
  read_pairs kind [] (m ∷ ms) h = h
  read_pairs kind (n ∷ ns) [] h = h
  read_pairs kind (n ∷ ns) (m ∷ ms) h = (record { kind = refl; branch = h.0 }, read_pairs kind ns ms h.1)

  read_down : (a b : N × Kind) → AreReadAlike a b → Matches AreReadAlike (read_children seen a) (read_children seen b)
  read_down a b h =
      let m = down a.0 b.0 h.branch in
      let here : Matches AreReadAlike (map {B = N × Kind} (λ n. (n, a.1)) (seen.children a.0))
      (map {B = N × Kind} (λ n. (n, a.1)) (seen.children b.0)) =
      record {
        one = map {B = N × Kind} (λ n. (n, a.1)) m.one;
        other = map {B = N × Kind} (λ n. (n, a.1)) m.other;
        of_one = IsPermutation-map (λ n. (n, a.1)) (seen.children a.0) m.one m.of_one;
        of_other = IsPermutation-map (λ n. (n, a.1)) (seen.children b.0) m.other m.of_other;
        pairs = read_pairs a.1 m.one m.other m.pairs;
      } in
      rw (← h.kind) here

  ties_read : (depth : ℕ) (a b : N × Kind) → AreReadAlike a b → readings seen depth a b ≡ Equal
  unfolding readings
  ties_read depth a b h =
      tied (read_children seen) (λ branch. key_or_zero (like_key branch.1) (seen.descriptor branch.0)) AreReadAlike
      (λ a b h. ties_4a seen.height a.0 b.0 h.branch)
      (λ a b h. number_itself _ _ (like_by_class a.1 (seen.descriptor a.0)
      ∙ ap (λ c. pos (like_kind a.1 (class_kind c))) (nodes_of a.0 b.0 h.branch).class
      ∙ ap (λ kind. pos (like_kind kind (class_kind (class_of (seen.descriptor b.0))))) h.kind
      ∙ sym (like_by_class b.1 (seen.descriptor b.0))))
      read_down (earlier_total seen) depth a b h

  same_reading : (a b : N) → AreSame a b → is_s_higher seen a ≡ is_s_higher seen b
  same_reading a b h =
      let total = readings_total seen seen.height in
      ap is_lt (total.congr (a, KindR) (b, KindR) (a, KindS)
      (ties_read seen.height (a, KindR) (b, KindR) (record { kind = refl; branch = h }))
      ∙ alike_right total (a, KindS) (b, KindS) (b, KindR)
      (ties_read seen.height (a, KindS) (b, KindS) (record { kind = refl; branch = h })))

  ties_higher : (depth : ℕ) (a b : N) → AreSame a b → rule_4b_higher seen depth a b ≡ Equal
  unfolding rule_4b_higher
  ties_higher depth a b h =
      ties_read depth (higher_reading seen a) (higher_reading seen b)
      (record { kind = ap (λ s. cond s KindS KindR) (same_reading a b h); branch = h })

  ties_lower : (depth : ℕ) (a b : N) → AreSame a b → rule_4b_lower seen depth a b ≡ Equal
  unfolding rule_4b_lower
  ties_lower depth a b h =
      ties_read depth (lower_reading seen a) (lower_reading seen b)
      (record { kind = ap (λ s. cond s KindR KindS) (same_reading a b h); branch = h })

  none_by : (a b : N) → AreSame a b → (rule : Rule) → difference_by seen true a b rule ≡ None
  none_by a b h R1a = none_found _ (seen.height + 1) 0 (λ d lt. ties_1a d a b h)
  none_by a b h R1b = none_found _ (seen.height + 1) 0 (λ d lt. ties_1b d a b h)
  none_by a b h R2 = none_found _ (seen.height + 1) 0 (λ d lt. ties_2 d a b h)
  none_by a b h R3 = none_found _ (seen.height + 1) 0 (λ d lt. ties_3 d a b h)
  none_by a b h R4a = none_found _ (seen.height + 1) 0 (λ d lt. ties_4a d a b h)
  none_by a b h R4b =
      ap (λ found. or_else found (first_difference (λ depth. rule_4b_lower seen depth a b) 0 (seen.height + 1)))
      (none_found (λ depth. rule_4b_higher seen depth a b) (seen.height + 1) 0 (λ d lt. ties_higher d a b h))
      ∙ none_found _ (seen.height + 1) 0 (λ d lt. ties_lower d a b h)
  none_by a b h R4c = none_found _ (seen.height + 1) 0 (λ d lt. ties_4c d a b h)
  none_by a b h R5 = none_found _ (seen.height + 1) 0 (λ d lt. ties_5 true d a b h)

  pub tie_from_same : (a b : N) → EndsWithin seen.children seen.height a → EndsWithin seen.children seen.height b
      → SameBranch seen a b → order seen true a b ≡ None
  unfolding order
  tie_from_same a b ends_a ends_b same =
      let h : AreSame a b = record { spheres = seen.height; same = same; ends_a = ends_a; ends_b = ends_b } in
      ap (λ find. first_decision find rules_in_turn) (λ i rule. none_by a b h rule i)
