-- The numbers of all tops say how their branches compare, also of those that were dropped.
use Rattle.std.proofs.Common.{◌≡◌, ◌≢◌, ◌<◌, ◌+◌, ℕ, ℤ, suc, Bool, true, List, length, replicate, slice_index, refl, sym, ap, ◌∙◌, subst, arith, inl, inr}
use Rattle.std.specs.declared.cmp.Ordering.{Ordering}
use Rattle.std.specs.declared.cmp.Ordering.TheVariants.{Less, Equal}
use Rattle.std.specs.Cmp.{IsTotalOrder}
use Rattle.std.specs.Ordering.{nat_cmp, ordering_reverse, ordering_then}
use Rattle.std.specs.Cmp.Lexicographic.{slice_cmp}
use Rattle.std.proofs.lemmas.Cmp.{tied_itself, nat_cmp_total}
use Rattle.std.proofs.lemmas.List.{length-replicate}
use Rattle.cip_rank.specs.Comparison.{comparison}
use Rattle.cip_rank.specs.Ranking.{by_number, key_at}
use Rattle.cip_rank.proofs.lemmas.NumberedNodes.{equal_is}
use Rattle.cip_rank.proofs.lemmas.Refining.{depths_refine, first_decides}
use Rattle.cip_rank.proofs.lemmas.TotalOrder.{comparison_total}
use Rattle.cip_branches.specs.Deciding.{Branched, AreFollowed, FlagsOpen, AreDecided}
use Rattle.cip_branches.specs.Following.{AreRanked, Begins, Follows}
use Rattle.cip_partition.specs.Kids.{kids_of, kid_set}
use Rattle.cip_branches.specs.SphereColumns.{SphereColumns, with_sphere}
use Rattle.cip_partition.specs.Parting.{has_flag}
use Rattle.cip_branches.specs.Passing.{Passes}
use Rattle.cip_partition.specs.Keys.{AreKeyed, key_of}
use Rattle.cip_branches.specs.Ruled.{IsWanted, IsRuled, Names}
use Rattle.cip_branches.specs.Turning.{in_sphere, SamePlaces}
use Rattle.cip_branches.specs.Walking.{LastPlaces, Walks, MayWalk}
use Rattle.cip_partition.proofs.lemmas.Cases.{cases_same}
use Rattle.cip_branches.proofs.lemmas.ruled.Filled.{all_set}
use Rattle.cip_branches.proofs.lemmas.ruled.Ruled.{ruled_first, ruled_next, ruled_fewer, tops_told}
use Rattle.cip_branches.proofs.lemmas.walked.Next.{old_at, at_old, is_known}

-- numbers that tie are the same
pub same_number : (numbers : List ℕ) (a b : ℕ) → slice_index numbers a ≡ slice_index numbers b
    → by_number numbers a b ≡ Equal
same_number numbers a b tie = ap (λ n. nat_cmp n (slice_index numbers b)) tie
    ∙ tied_itself nat_cmp_total (slice_index numbers b)

-- an order in which all tie is a total order
pub ties_total : {N : Type 0} (compare : N → N → Ordering) → ((a b : N) → compare a b ≡ Equal) → IsTotalOrder compare
ties_total compare ties = record {
  antisymm = λ a b. ties a b ∙ sym (ap ordering_reverse (ties b a));
  trans = λ a b c below further. let bad : Less ≡ Equal = sym below ∙ ties a b in cc;
  congr = λ a b c tie. ties a c ∙ sym (ties b c);
}

module _ {N : Type 0} (children : N → List N) (earlier : N → N → Ordering) (o : IsTotalOrder earlier)
    (ties : (a b : N) → earlier a b ≡ Equal) (key : N → ℤ) (named : ℕ → N) where
  abbrev rule : ℕ → N → N → Ordering
  rule depth = comparison children earlier key depth

  -- a first sphere
  module _ (now : Branched) (tops : List ℕ) (keys : List ℤ) (begins : Begins tops keys now.layers)
      (followed : AreFollowed now) (first : now.first ≡ 0) (last : now.last ≡ 0)
      (chosen : FlagsOpen now.layers.ranked.numbers (replicate (length tops) true) now.unresolved)
      (same : (k : ℕ) → k < length tops → key_at keys (slice_index tops k) ≡ key (named (slice_index tops k))) where
    abbrev all : List Bool
    all = replicate (length tops) true

    all_len : length all ≡ length tops
    all_len = length-replicate (length tops) true

    count : length now.unresolved ≡ length tops
    count = chosen.len ∙ all_len

    places : (flags : List Bool) → LastPlaces now.layers flags 0 0
    places flags = subst (λ t. LastPlaces now.layers flags 0 t) last
        (subst (λ n. LastPlaces now.layers flags n now.last) first (followed.places flags))

    ruled_all : IsRuled children earlier key named now.layers all 0
    ruled_all = ruled_first children earlier ties key named now.layers tops keys begins
        (subst (AreRanked now.layers) last followed.ranked) all (places all) same

    is_top : (k : ℕ) → k < length tops → IsWanted now.layers all 0 k
    is_top k lt = record {
      at = begins.here k lt;
      chosen = ap (has_flag all) (begins.branch k lt) ∙ all_set (length tops) k lt;
    }

    pub decided_first : AreDecided children earlier key named now
    decided_first = record {
      ruled = subst (IsRuled children earlier key named now.layers now.unresolved) (sym last)
          (ruled_fewer children earlier key named now.layers all now.unresolved 0 chosen.fewer ruled_all);
      top = λ k lt. begins.here k (omega (arith, lt, count));
      only = λ place at.
          let high = (places all).high place at in
          omega (arith, high, begins.count, count);
      branch = λ k lt. begins.branch k (omega (arith, lt, count));
      node_data = λ a b la lb.
          rw last
          (tops_told children earlier key named now.layers all 0 ruled_all a b (is_top a (omega (arith, la, count)))
          (is_top b (omega (arith, lb, count))));
      tie = λ a b la lb differ tie.
          let in_a : a < length tops = omega (arith, la, count) in
          let in_b : b < length tops = omega (arith, lb, count) in
          chosen.flagged.all_open a (omega (arith, in_a, all_len)) (record {
            chosen = all_set (length tops) a in_a;
            other = b;
            ties = record {
              within = omega (arith, in_b, all_len);
              chosen = all_set (length tops) b in_b;
              apart = λ e. differ (sym e);
              tie = sym tie;
            };
          });
    }

  -- one sphere more
  module _ (old : Branched) (decided : AreDecided children earlier key named old) (size : ℕ) (kids_at : ℕ → List ℕ)
      (keys : List ℤ)
      (may : MayWalk size kids_at old.unresolved old.first old.last old.layers)
      (names : Names children earlier key named old.layers old.unresolved old.last size kids_at keys)
      (keyed : AreKeyed size old.layers.place_tree) where
    abbrev last : ℕ
    last = old.last

    abbrev begin : SphereColumns
    begin = old.layers

    module _ (new : Branched) (last_is : new.last ≡ suc last)
        (chosen : FlagsOpen new.layers.ranked.numbers old.unresolved new.unresolved)
        (below : (k : ℕ) → k < length begin.ranked.rows → slice_index begin.ranked.rows k < length begin.place_tree.place_parents)
        (walked : SphereColumns) (walks : Walks begin old.first size kids_at old.unresolved (length begin.place_tree.place_parents) walked)
        (places : SamePlaces walked.ranked.rows new.layers.ranked.rows (with_sphere walked).starts)
        (passed : Passes (kids_of walked.place_tree) (in_sphere walked.ranked.rows (with_sphere walked).starts) last
        (key_of keys walked.place_tree) walked.ranked.numbers new.layers.ranked.numbers)
        (is : new.layers ≡ record (with_sphere walked) { ranked = new.layers.ranked; before = new.layers.before })
      where
        abbrev mid : SphereColumns
        mid = with_sphere walked

        abbrev now : SphereColumns
        now = record mid { ranked = new.layers.ranked; before = new.layers.before }

        abbrev numbers : List ℕ
        numbers = new.layers.ranked.numbers

        abbrev node : ℕ → N
        node place = named (slice_index mid.place_tree.nodes place)

        ruled : IsRuled children earlier key named now old.unresolved (suc last)
        ruled = ruled_next children earlier o ties key named begin old.first last size kids_at old.unresolved keys may below
            walked walks decided.ruled names keyed new.layers.ranked new.layers.before places passed

        known : (k : ℕ) → k < length old.unresolved → k < length begin.place_tree.place_parents
        known k lt = is_known begin old.first last size kids_at old.unresolved may below walked walks 0 k (omega arith)
            (decided.top k lt)

        at_mid : (k : ℕ) → k < length old.unresolved → in_sphere mid.ranked.rows mid.starts 0 k
        at_mid k lt = old_at begin old.first last size kids_at old.unresolved may below walked walks 0 k (omega arith)
            (decided.top k lt)

        branch : (k : ℕ) → k < length old.unresolved → slice_index mid.place_tree.branches k ≡ k
        branch k lt = walks.grows.branch k (known k lt) ∙ decided.branch k lt

        number_is : (k : ℕ) → k < length old.unresolved
            → slice_index passed.start k ≡ slice_index begin.ranked.numbers k
        number_is k lt = passed.others 0 k (λ e. absurd (omega (arith, e))) (at_mid k lt)
            ∙ walks.grows.number k (known k lt)

        -- what was distinguished stays so, on the same side
        side : (a b : ℕ) → a < length old.unresolved → b < length old.unresolved → by_number begin.ranked.numbers a b ≢ Equal
            → by_number numbers a b ≡ by_number begin.ranked.numbers a b
        side a b la lb differ =
            let sets = slice_cmp nat_cmp (kid_set (kids_of mid.place_tree) numbers a) (kid_set (kids_of mid.place_tree) numbers b) in
            (passed.refines.ordered 0 (omega arith) (omega arith)).each a b (at_mid a la) (at_mid b lb)
            ∙ ap (λ n. ordering_then (nat_cmp n (slice_index passed.start b)) sets) (number_is a la)
            ∙ ap (λ n. ordering_then (nat_cmp (slice_index begin.ranked.numbers a) n) sets) (number_is b lb)
            ∙ first_decides (by_number begin.ranked.numbers a b) sets differ

        top_is : (k : ℕ) → k < length old.unresolved → has_flag old.unresolved k ≡ true → IsWanted now old.unresolved 0 k
        top_is k lt flag = record {
          at = places.here 0 k (at_mid k lt);
          chosen = ap (has_flag old.unresolved) (branch k lt) ∙ flag;
        }

        by_rule : (a b : ℕ) → a < length old.unresolved → b < length old.unresolved
            → by_number numbers a b ≡ rule (suc last) (node a) (node b)
        by_rule a b la lb = elim (cases_same a b) [
          | inl same ↦ subst (λ c. by_number numbers a c ≡ rule (suc last) (node a) (node c)) same
              (same_number numbers a a refl
              ∙ sym (tied_itself (comparison_total children key o (suc last)) (node a)))
          | inr differ ↦ elim (cases_same (slice_index begin.ranked.numbers a) (slice_index begin.ranked.numbers b)) [
            | inl tie ↦ tops_told children earlier key named now old.unresolved (suc last) ruled a b
                (top_is a la (decided.tie a b la lb differ tie))
                (top_is b lb (decided.tie b a lb la (λ e. differ (sym e)) (sym tie)))
            | inr apart ↦ decided_before a b la lb apart
          ]
        ]
          where
            node_data : (a b : ℕ) → a < length old.unresolved → b < length old.unresolved
                → by_number begin.ranked.numbers a b ≡ rule last (node a) (node b)
            node_data a b la lb = decided.node_data a b la lb
                ∙ ap (λ n. rule last (named n) (named (slice_index begin.place_tree.nodes b)))
                (sym (walks.grows.node a (known a la)))
                ∙ ap (λ n. rule last (node a) (named n)) (sym (walks.grows.node b (known b lb)))

            decided_before : (a b : ℕ) → a < length old.unresolved → b < length old.unresolved
                → slice_index begin.ranked.numbers a ≢ slice_index begin.ranked.numbers b
                → by_number numbers a b ≡ rule (suc last) (node a) (node b)
            decided_before a b la lb apart =
                let differ : by_number begin.ranked.numbers a b ≢ Equal = λ e. apart (equal_is _ _ e) in
                let one : suc last ≡ last + 1 = omega arith in
                side a b la lb differ ∙ node_data a b la lb
                ∙ sym (ap (λ d. rule d (node a) (node b)) one
                ∙ depths_refine children earlier key last 1 (node a) (node b) (λ e. differ (node_data a b la lb ∙ e)))

        decided_next : AreDecided children earlier key named new
        decided_next =
            let count = chosen.len in
            record {
              ruled = rw (last_is, is)
                  (ruled_fewer children earlier key named now old.unresolved new.unresolved (suc last) chosen.fewer ruled);
              top = λ k lt. rw is (places.here 0 k (at_mid k (omega (arith, lt, count))));
              only = λ place at.
                  let was = subst (λ (s : SphereColumns). in_sphere s.ranked.rows s.starts 0 place) is at in
                  let lt = decided.only place
                  (at_old begin old.first last size kids_at old.unresolved may below walked walks 0
                  place (omega arith) (places.there 0 place was)) in
                  omega (arith, lt, count);
              branch = λ k lt. rw is (branch k (omega (arith, lt, count)));
              node_data = λ a b la lb.
                  rw (last_is, is) (by_rule a b (omega (arith, la, count)) (omega (arith, lb, count)));
              tie = λ a b la lb differ tie.
                  let in_a : a < length old.unresolved = omega (arith, la, count) in
                  let in_b : b < length old.unresolved = omega (arith, lb, count) in
                  let was = tied_before a b in_a in_b tie in
                  chosen.flagged.all_open a in_a (record {
                    chosen = decided.tie a b in_a in_b differ was;
                    other = b;
                    ties = record {
                      within = in_b;
                      chosen = decided.tie b a in_b in_a (λ e. differ (sym e)) (sym was);
                      apart = λ e. differ (sym e);
                      tie = sym tie;
                    };
                  });
            }
          where
            tied_before : (a b : ℕ) → a < length old.unresolved → b < length old.unresolved
                → slice_index numbers a ≡ slice_index numbers b
                → slice_index begin.ranked.numbers a ≡ slice_index begin.ranked.numbers b
            tied_before a b la lb tie = elim (cases_same (slice_index begin.ranked.numbers a)
                (slice_index begin.ranked.numbers b)) [
                  | inl same ↦ same
                  | inr apart ↦
                      let differ : by_number begin.ranked.numbers a b ≢ Equal = λ e. apart (equal_is _ _ e) in
                      absurd (differ (sym (side a b la lb differ) ∙ same_number numbers a b tie))
                ]

    -- the same, as the clauses of following say it
    pub decided_after : (new : Branched) → new.last ≡ suc last
        → FlagsOpen new.layers.ranked.numbers old.unresolved new.unresolved
        → Follows begin old.first last size kids_at old.unresolved keys new.layers
        → AreDecided children earlier key named new
    decided_after new last_is chosen follows =
        let w = follows.walked in
        let now = new.layers in
        let place_tree = follows.place_tree ∙ ap (λ (s : SphereColumns). s.place_tree) w.ended in
        let starts = follows.starts ∙ ap (λ (s : SphereColumns). s.starts) w.ended in
        decided_next new last_is chosen w.below w.walked w.walks
        (subst (λ (s : SphereColumns). SamePlaces s.ranked.rows now.ranked.rows s.starts) w.ended follows.places)
        (subst (λ (s : SphereColumns). Passes (kids_of s.place_tree) (in_sphere s.ranked.rows s.starts) last (key_of keys s.place_tree)
        s.ranked.numbers now.ranked.numbers) w.ended follows.passed)
        (rw (sym place_tree, sym starts) refl)
