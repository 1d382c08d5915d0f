-- Branches compare in a digraph as their images do where it is found, by each rule and by all.
use Rattle.std.proofs.Common.{◌≡◌, ℕ, ℤ, ◌+◌, List, [], ◌∷◌, map, refl, ap, ◌∙◌, subst, Bool, cond}
use Rattle.std.specs.Cmp.{IsTotalOrder}
use Rattle.std.specs.List.{AllByRecursion}
use Rattle.std.specs.List.Sorted.{IsPermutation}
use Rattle.std.specs.Ordering.{is_lt}
use Rattle.std.specs.declared.cmp.Ordering.{Ordering}
use Rattle.std.proofs.lemmas.List.Sorted.{IsPermutation-refl}
use Rattle.cip_rank.specs.Comparison.{comparison}
use Rattle.cip_rank.proofs.lemmas.Embedded.{embedded_comparison}
use Rattle.cip_mol.specs.declared.labels.descriptor.Descriptor.{Descriptor}
use Rattle.cip_mol.specs.declared.labels.outcome.Rule.{Rule}
use Rattle.cip_mol.specs.declared.labels.outcome.Rule.TheVariants.{R1a, R1b, R2, R3, R4a, R4b, R4c, R5}
use Rattle.cip_digraph.specs.rules.Decisions.{first_difference, or_else, difference_at, difference_by, first_decision, rules_in_turn, order}
use Rattle.cip_digraph.specs.rules.Kinds.{Kind, KindR, KindS, key_or_zero, geometric_key, chirality_key, like_key, small_key, capital_key}
use Rattle.cip_digraph.specs.rules.Orders.{Seen, all_tie, rule_1a, rule_1b, rule_2, rule_3, rule_4a, read_children, readings, higher_reading, lower_reading, rule_4b_higher, rule_4b_lower, rule_4c, rule_5}
use Rattle.cip_digraph.proofs.lemmas.orders.Exchanged.{all_tie_total, total_4a, earlier_total}
use Rattle.cip_digraph.proofs.lemmas.ties.Turned.{total_4c}
use Rattle.cip_digraph.proofs.lemmas.orders.Whole.{total_1a, total_1b, total_2, total_3}
use Rattle.cip_rules.proofs.lemmas.FoundWithin.{same_difference}
use Rattle.cip_rules.specs.Moving.{Moves}

module _ {N M : Type 0} (image : N → M) (IsTold : N → Type 0) (children : N → List N) (others : M → List M)
    (moved : (n : N) → IsTold n → map image (children n) ≡ others (image n))
    (below : (n : N) → IsTold n → AllByRecursion IsTold (children n)) where
  pub moved_comparison : (earlier : N → N → Ordering) (their_earlier : M → M → Ordering) (key : N → ℤ)
      (their_key : M → ℤ) → IsTotalOrder their_earlier
      → ((a b : N) → IsTold a → IsTold b → their_earlier (image a) (image b) ≡ earlier a b)
      → ((n : N) → IsTold n → their_key (image n) ≡ key n)
      → (depth : ℕ) (a b : N) → IsTold a → IsTold b
      → comparison others their_earlier their_key depth (image a) (image b) ≡ comparison children earlier key depth a b
  moved_comparison earlier their_earlier key their_key total orders keys depth a b =
      embedded_comparison image (λ depth n. IsTold n) children others earlier their_earlier key their_key (record {
        moved =
            λ depth n h. subst (IsPermutation (map image (children n))) (moved n h)
            (IsPermutation-refl (map image (children n)));
        below = λ depth n h. below n h;
        less = λ depth n h. h;
        orders = orders;
        keys = keys;
      }) total depth a b

module _ {N M : Type 0} (image : N → M) (IsTold : N → Type 0) (seen : Seen N) (their : Seen M)
    (m : Moves image IsTold seen their) where
  abbrev Agree : (ℕ → N → N → Ordering) → (ℕ → M → M → Ordering) → Type 0
  Agree rule theirs = (depth : ℕ) (a b : N) → IsTold a → IsTold b → theirs depth (image a) (image b) ≡ rule depth a b

  -- at the height
  whole : (rule : ℕ → N → N → Ordering) (theirs : ℕ → M → M → Ordering) → Agree rule theirs → (a b : N) → IsTold a
      → IsTold b
      → theirs their.height (image a) (image b) ≡ rule seen.height a b
  whole rule theirs agree a b ha hb =
      ap (λ height. theirs height (image a) (image b)) m.height ∙ agree seen.height a b ha hb

  descriptors : (key : Descriptor → ℕ) (n : N) → IsTold n → key_or_zero key (their.descriptor (image n)) ≡ key_or_zero key (seen.descriptor n)
  descriptors key n h = ap (key_or_zero key) (m.descriptor n h)

  pub moved_1a : Agree (rule_1a seen) (rule_1a their)
  unfolding rule_1a
  moved_1a =
      moved_comparison image IsTold seen.children their.children m.moved m.below all_tie all_tie seen.atomic
      their.atomic (all_tie_total their) (λ a b ha hb. refl) m.atomic

  pub moved_1b : Agree (rule_1b seen) (rule_1b their)
  unfolding rule_1b
  moved_1b =
      moved_comparison image IsTold seen.children their.children m.moved m.below (rule_1a seen seen.height)
      (rule_1a their their.height) seen.distance their.distance
      (total_1a their) (whole (rule_1a seen) (rule_1a their) moved_1a) m.distance

  pub moved_2 : Agree (rule_2 seen) (rule_2 their)
  unfolding rule_2
  moved_2 =
      moved_comparison image IsTold seen.children their.children m.moved m.below (rule_1b seen seen.height)
      (rule_1b their their.height) seen.mass their.mass
      (total_1b their) (whole (rule_1b seen) (rule_1b their) moved_1b) m.mass

  pub moved_3 : Agree (rule_3 seen) (rule_3 their)
  unfolding rule_3
  moved_3 =
      moved_comparison image IsTold seen.children their.children m.moved m.below (rule_2 seen seen.height)
      (rule_2 their their.height)
      (λ n. key_or_zero geometric_key (seen.descriptor n)) (λ n. key_or_zero geometric_key (their.descriptor n)) (total_2 their)
      (whole (rule_2 seen) (rule_2 their) moved_2) (descriptors geometric_key)

  pub moved_4a : Agree (rule_4a seen) (rule_4a their)
  unfolding rule_4a
  moved_4a =
      moved_comparison image IsTold seen.children their.children m.moved m.below (rule_3 seen seen.height)
      (rule_3 their their.height)
      (λ n. key_or_zero chirality_key (seen.descriptor n)) (λ n. key_or_zero chirality_key (their.descriptor n)) (total_3 their)
      (whole (rule_3 seen) (rule_3 their) moved_3) (descriptors chirality_key)

  pub moved_4c : Agree (rule_4c seen) (rule_4c their)
  unfolding rule_4c
  moved_4c =
      moved_comparison image IsTold seen.children their.children m.moved m.below (rule_4a seen seen.height)
      (rule_4a their their.height)
      (λ n. key_or_zero small_key (seen.descriptor n)) (λ n. key_or_zero small_key (their.descriptor n)) (total_4a their)
      (whole (rule_4a seen) (rule_4a their) moved_4a) (descriptors small_key)

  pub moved_5 : (r_first : Bool) → Agree (rule_5 seen r_first) (rule_5 their r_first)
  unfolding rule_5
  moved_5 r_first =
      moved_comparison image IsTold seen.children their.children m.moved m.below (rule_4c seen seen.height)
      (rule_4c their their.height)
      (λ n. key_or_zero (capital_key r_first) (seen.descriptor n)) (λ n. key_or_zero (capital_key r_first) (their.descriptor n))
      (total_4c their) (whole (rule_4c seen) (rule_4c their) moved_4c) (descriptors (capital_key r_first))

  abbrev reading : N × Kind → M × Kind
  reading branch = (image branch.0, branch.1)

  abbrev IsRead : N × Kind → Type 0
  IsRead branch = IsTold branch.0

  map_reading : (kind : Kind) (ns : List N)
      → map reading (map {B = N × Kind} (λ n. (n, kind)) ns) ≡ map {B = M × Kind} (λ n. (n, kind)) (map image ns)
  map_reading kind [] = refl
  map_reading kind (n ∷ ns) = ap {B = List (M × Kind)} (λ branches. (image n, kind) ∷ branches) (map_reading kind ns)

  read_below : (kind : Kind) (ns : List N) → AllByRecursion IsTold ns
      → AllByRecursion IsRead (map {B = N × Kind} (λ n. (n, kind)) ns)
  read_below kind [] all = tt
  read_below kind (n ∷ ns) all = (all.0, read_below kind ns all.1)

  pub moved_readings : (depth : ℕ) (a b : N × Kind) → IsRead a → IsRead b
      → readings their depth (reading a) (reading b) ≡ readings seen depth a b
  unfolding readings
  moved_readings =
      moved_comparison reading IsRead (read_children seen) (read_children their)
      (λ branch h. map_reading branch.1 (seen.children branch.0)
      ∙ ap (map {B = M × Kind} (λ n. (n, branch.1))) (m.moved branch.0 h))
      (λ branch h. read_below branch.1 (seen.children branch.0) (m.below branch.0 h))
      (λ a b. rule_4a seen seen.height a.0 b.0) (λ a b. rule_4a their their.height a.0 b.0)
      (λ branch. key_or_zero (like_key branch.1) (seen.descriptor branch.0))
      (λ branch. key_or_zero (like_key branch.1) (their.descriptor branch.0))
      (earlier_total their) (λ a b ha hb. whole (rule_4a seen) (rule_4a their) moved_4a a.0 b.0 ha hb)
      (λ branch h. descriptors (like_key branch.1) branch.0 h)

  same_higher : (a : N) → IsTold a
      → is_lt (readings their their.height (image a, KindR) (image a, KindS))
      ≡ is_lt (readings seen seen.height (a, KindR) (a, KindS))
  same_higher a h =
      ap is_lt
      (ap (λ height. readings their height (image a, KindR) (image a, KindS)) m.height
      ∙ moved_readings seen.height (a, KindR) (a, KindS) h h)

  pub moved_higher : Agree (rule_4b_higher seen) (rule_4b_higher their)
  unfolding rule_4b_higher
  moved_higher depth a b ha hb =
      ap (λ t. readings their depth (image a, cond t KindS KindR) (higher_reading their (image b))) (same_higher a ha)
      ∙ ap (λ t. readings their depth (reading (higher_reading seen a)) (image b, cond t KindS KindR))
      (same_higher b hb)
      ∙ moved_readings depth (higher_reading seen a) (higher_reading seen b) ha hb

  pub moved_lower : Agree (rule_4b_lower seen) (rule_4b_lower their)
  unfolding rule_4b_lower
  moved_lower depth a b ha hb =
      ap (λ t. readings their depth (image a, cond t KindR KindS) (lower_reading their (image b))) (same_higher a ha)
      ∙ ap (λ t. readings their depth (reading (lower_reading seen a)) (image b, cond t KindR KindS)) (same_higher b hb)
      ∙ moved_readings depth (lower_reading seen a) (lower_reading seen b) ha hb

  module _ (r_first : Bool) (a b : N) (told_a : IsTold a) (told_b : IsTold b) where
    looked : (rule : ℕ → N → N → Ordering) (theirs : ℕ → M → M → Ordering) → Agree rule theirs
        → difference_at their r_first (image a) (image b) theirs ≡ difference_at seen r_first a b rule
    looked rule theirs agree =
        same_difference (λ depth. theirs depth (image a) (image b)) (λ depth. rule depth a b)
        (λ depth. agree depth a b told_a told_b) 0 (their.height + 1)
        ∙ ap (λ height. first_difference (λ depth. rule depth a b) 0 (height + 1)) m.height

    pub moved_difference : (rule : Rule)
        → difference_by their r_first (image a) (image b) rule ≡ difference_by seen r_first a b rule
    moved_difference R1a = looked (rule_1a seen) (rule_1a their) moved_1a
    moved_difference R1b = looked (rule_1b seen) (rule_1b their) moved_1b
    moved_difference R2 = looked (rule_2 seen) (rule_2 their) moved_2
    moved_difference R3 = looked (rule_3 seen) (rule_3 their) moved_3
    moved_difference R4a = looked (rule_4a seen) (rule_4a their) moved_4a
    moved_difference R4b =
        ap (λ first. or_else first (difference_at their r_first (image a) (image b) (rule_4b_lower their)))
        (looked (rule_4b_higher seen) (rule_4b_higher their) moved_higher)
        ∙ ap (or_else (difference_at seen r_first a b (rule_4b_higher seen)))
        (looked (rule_4b_lower seen) (rule_4b_lower their) moved_lower)
    moved_difference R4c = looked (rule_4c seen) (rule_4c their) moved_4c
    moved_difference R5 = looked (rule_5 seen r_first) (rule_5 their r_first) (moved_5 r_first)

    -- the order of two branches
    pub moved_order : order their r_first (image a) (image b) ≡ order seen r_first a b
    unfolding order
    moved_order = ap (λ find. first_decision find rules_in_turn) (λ i rule. moved_difference rule i)
