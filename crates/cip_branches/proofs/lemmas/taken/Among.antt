-- Rules taken one after another over the places of branches, as some of them are distinguished.
use Rattle.std.proofs.Common.{◌≡◌, ◌≢◌, ◌<◌, ◌≤◌, ◌+◌, ◌-◌, ℕ, ℤ, suc, true, List, length, slice_index, refl, sym, ap, ◌∙◌, subst, arith, inl, inr}
use Rattle.std.specs.declared.cmp.Ordering.{Ordering}
use Rattle.std.specs.declared.cmp.Ordering.TheVariants.{Equal}
use Rattle.std.specs.Cmp.{IsTotalOrder}
use Rattle.std.specs.List.{AllByRecursion}
use Rattle.std.specs.Ordering.{nat_cmp, int_cmp, on, ordering_then}
use Rattle.std.specs.Cmp.Lexicographic.{slice_cmp}
use Rattle.std.proofs.lemmas.Cmp.{tied_itself}
use Rattle.cip_rank.specs.Comparison.{comparison}
use Rattle.cip_rank.specs.Ranking.{by_number, key_at}
use Rattle.cip_rank.proofs.lemmas.Descending.{all_by}
use Rattle.cip_rank.proofs.lemmas.NumberedNodes.{equal_is}
use Rattle.cip_rank.proofs.lemmas.Refining.{depths_refine, first_decides}
use Rattle.cip_rank.proofs.lemmas.TotalOrder.{comparison_total}
use Rattle.cip_branches.specs.Among.{AreToldAmong, AreShownAmong, StandsAmong, IsTakenAmong}
use Rattle.cip_branches.specs.Deciding.{Branched, FlagsOpen}
use Rattle.cip_partition.specs.Kids.{kids_of, kid_set}
use Rattle.cip_partition.specs.PlaceTree.{PlaceTree}
use Rattle.cip_partition.specs.Parting.{has_flag}
use Rattle.cip_partition.specs.Keys.{key_of}
use Rattle.cip_branches.specs.Refining.{Refines}
use Rattle.cip_partition.specs.Rows.{OrdersPlaces}
use Rattle.cip_branches.specs.Standing.{node_in, WantedIn, AreKeysOf}
use Rattle.cip_branches.specs.Taking.{KeepsPlaces, SplitsFirst, Deepens}
use Rattle.cip_branches.specs.Turning.{in_sphere}
use Rattle.cip_branches.specs.Views.{IsEnded, OrdersSphere, Reaches, AreAhead, Begins}
use Rattle.cip_branches.proofs.lemmas.refined.Further.{begun, still_ahead}
use Rattle.cip_partition.proofs.lemmas.Cases.{both, cases_same}
use Rattle.cip_branches.proofs.lemmas.ruled.Decided.{same_number}
use Rattle.cip_branches.proofs.lemmas.taken.Ended.{whole}
use Rattle.cip_branches.proofs.lemmas.refined.Inwards.{reaches_next}
use Rattle.cip_branches.proofs.lemmas.refined.KidSets.{moved}
use Rattle.cip_branches.proofs.lemmas.ruled.Fewer.{fewer_reach, fewer_ahead}

-- Numbers of tops that refine those of before. Tops that are unresolved compare by the new order; the others were
-- distinguished, which stays.
module _ (Among : ℕ → Type 0) {N : Type 0} (named : ℕ → N) (old : Branched) (numbers : List ℕ)
    (one other : N → N → Ordering) (tops : AreToldAmong Among named one old) (total : IsTotalOrder other)
    (finer : (x y : N) → one x y ≢ Equal → other x y ≡ one x y)
    (side : (a b : ℕ) → Among a → Among b
    → by_number old.layers.ranked.numbers a b ≢ Equal → by_number numbers a b ≡ by_number old.layers.ranked.numbers a b)
    (inner : (a b : ℕ) → Among a → Among b → has_flag old.unresolved a ≡ true
    → has_flag old.unresolved b ≡ true → by_number numbers a b ≡ other (node_in named old a) (node_in named old b)) where
  abbrev old_numbers : List ℕ
  old_numbers = old.layers.ranked.numbers

  abbrev top_node : ℕ → N
  top_node = node_in named old

  differs : (a b : ℕ) → slice_index old_numbers a ≢ slice_index old_numbers b → by_number old_numbers a b ≢ Equal
  differs a b apart e = apart (equal_is (slice_index old_numbers a) (slice_index old_numbers b) e)

  pub told_now : (a b : ℕ) → Among a → Among b → by_number numbers a b ≡ other (top_node a) (top_node b)
  told_now a b la lb = elim (cases_same a b) [
    | inl same ↦ subst (λ c. by_number numbers a c ≡ other (top_node a) (top_node c)) same
        (same_number numbers a a refl ∙ sym (tied_itself total (top_node a)))
    | inr differ ↦ elim (cases_same (slice_index old_numbers a) (slice_index old_numbers b)) [
      | inl tie ↦ inner a b la lb (tops.tie a b la lb differ tie)
          (tops.tie b a lb la (λ e. differ (sym e)) (sym tie))
      | inr apart ↦
          let side_is = side a b la lb (differs a b apart) in
          side_is ∙ tops.node_data a b la lb
          ∙ sym (finer (top_node a) (top_node b) (λ e. differs a b apart (tops.node_data a b la lb ∙ e)))
    ]
  ]

  pub tied_before : (a b : ℕ) → Among a → Among b
      → slice_index numbers a ≡ slice_index numbers b → slice_index old_numbers a ≡ slice_index old_numbers b
  tied_before a b la lb tie = elim (cases_same (slice_index old_numbers a) (slice_index old_numbers b)) [
    | inl same ↦ same
    | inr apart ↦ absurd (differs a b apart (sym (side a b la lb (differs a b apart)) ∙ same_number numbers a b tie))
  ]

-- the same places with other numbers, of which fewer branches are unresolved
module _ {N : Type 0} (children : N → List N) (named : ℕ → N) (old new : Branched)
    (kept : KeepsPlaces old.layers new.layers)
    (chosen : FlagsOpen new.layers.ranked.numbers old.unresolved new.unresolved) (last : new.last ≡ old.last) where
  abbrev numbers_now : List ℕ
  numbers_now = new.layers.ranked.numbers

  -- places of branches that are still unresolved were so before
  pub was_wanted : (t place : ℕ) → WantedIn new t place → WantedIn old t place
  was_wanted t place p = record {
    at = kept.places.there t place (subst (λ ss. in_sphere new.layers.ranked.rows ss t place) kept.starts p.at);
    chosen = chosen.fewer.each (slice_index old.layers.place_tree.branches place)
        (sym (ap (λ (k : PlaceTree). has_flag new.unresolved (slice_index k.branches place)) kept.place_tree) ∙ p.chosen);
  }

  wanted_now : (t place : ℕ) → WantedIn old t place
      → has_flag new.unresolved (slice_index old.layers.place_tree.branches place) ≡ true → WantedIn new t place
  wanted_now t place p flag = record {
    at = subst (λ ss. in_sphere new.layers.ranked.rows ss t place) (sym kept.starts) (kept.places.here t place p.at);
    chosen = ap (λ (k : PlaceTree). has_flag new.unresolved (slice_index k.branches place)) kept.place_tree ∙ flag;
  }

  was_chosen : (t place : ℕ) → WantedIn new t place
      → has_flag new.unresolved (slice_index old.layers.place_tree.branches place) ≡ true
  was_chosen t place p = sym (ap (λ (k : PlaceTree). has_flag new.unresolved (slice_index k.branches place)) kept.place_tree) ∙ p.chosen

  same_node : (place : ℕ) → node_in named new place ≡ node_in named old place
  same_node place = ap (λ (k : PlaceTree). named (slice_index k.nodes place)) kept.place_tree

  inside : (t : ℕ) → t < new.last → t < old.last
  inside t lt = omega (arith, lt, last)

  -- keys of fewer places, and ends of fewer branches
  pub keys_now : (key : N → ℤ) (keys : List ℤ) → AreKeysOf named key keys old → AreKeysOf named key keys new
  keys_now key keys same = record {
    each = λ t place p. ap (λ (k : PlaceTree). key_at keys (slice_index k.nodes place)) kept.place_tree
        ∙ same.each t place (was_wanted t place p) ∙ ap key (sym (same_node place));
  }

  pub ends_now : IsEnded children (node_in named old) (WantedIn old) old.last
      → IsEnded children (node_in named new) (WantedIn new) new.last
  ends_now ends = record {
    none = λ place p. ap children (same_node place)
        ∙ ends.none place (subst (λ t. WantedIn old t place) last (was_wanted new.last place p));
  }

  module _ (Among : ℕ → Type 0) where
    shown_now : AreShownAmong Among children named old → AreShownAmong Among children named new
    shown_now shown = record {
      view = record {
        within = λ t place p.
            let le = shown.view.within t place (was_wanted t place p) in omega (arith, le, last);
        next = λ t place lt p.
            let at = was_wanted t place p in
            subst (λ (k : PlaceTree). AllByRecursion (WantedIn new (suc t)) (kids_of k place)) (sym kept.place_tree)
            (all_by (λ kid h. wanted_now (suc t) kid h.0
            (ap (has_flag new.unresolved) h.1 ∙ was_chosen t place p)) (kids_of old.layers.place_tree place)
            (both (WantedIn old (suc t)) (λ kid. slice_index old.layers.place_tree.branches kid
            ≡ slice_index old.layers.place_tree.branches place) (kids_of old.layers.place_tree place)
            (shown.view.next t place (inside t lt) at) (shown.inherits t place (inside t lt) at)));
        node_data = λ t place lt p. rw kept.place_tree
            (shown.view.node_data t place (inside t lt) (was_wanted t place p));
      };
      inherits = λ t place lt p. rw kept.place_tree
          (shown.inherits t place (inside t lt) (was_wanted t place p));
      top = λ k la. rw kept.starts
          (kept.places.here 0 k (shown.top k la));
      branch = λ k la. ap (λ (n : PlaceTree). slice_index n.branches k) kept.place_tree ∙ shown.branch k la;
      inside = λ k la. let lt = shown.inside k la in let len = chosen.len in omega (arith, lt, len);
    }

    -- of tops
    tops_now : (held : (k : ℕ) → Among k → k < length old.unresolved) (one other : N → N → Ordering)
        → AreToldAmong Among named one old
        → ((a b : ℕ) → Among a → Among b
        → by_number numbers_now a b ≡ other (node_in named old a) (node_in named old b))
        → ((a b : ℕ) → Among a → Among b
        → slice_index numbers_now a ≡ slice_index numbers_now b
        → slice_index old.layers.ranked.numbers a ≡ slice_index old.layers.ranked.numbers b)
        → AreToldAmong Among named other new
    tops_now held one other tops node_data tied = record {
      node_data = λ a b la lb. node_data a b la lb
          ∙ ap (λ n. other n (node_in named old b)) (sym (same_node a))
          ∙ ap (other (node_in named new a)) (sym (same_node b));
      tie = λ a b la lb differ tie.
          let tied_then = tied a b la lb tie in
          chosen.flagged.all_open a (held a la) (record {
            chosen = tops.tie a b la lb differ tied_then;
            other = b;
            ties = record {
              within = held b lb;
              chosen = tops.tie b a lb la (λ e. differ (sym e)) (sym tied_then);
              apart = λ e. differ (sym e);
              tie = sym tie;
            };
          });
    }

  module _ (earlier : N → N → Ordering) (key : N → ℤ) where
    reaches_now : (far : ℕ) → Reaches children earlier key (node_in named old) (WantedIn old) far numbers_now
        → Reaches children earlier key (node_in named new) (WantedIn new) far numbers_now
    reaches_now far reaches = fewer_reach children earlier key (node_in named old) (node_in named new) (WantedIn old)
        (WantedIn new) numbers_now numbers_now far (λ t place le p. was_wanted t place p) (λ t place le p. same_node
        place)
        (λ t a b le p q. refl) reaches

    ahead_now : (far : ℕ) → AreAhead children earlier key (node_in named old) (WantedIn old) far numbers_now
        → AreAhead children earlier key (node_in named new) (WantedIn new) far numbers_now
    ahead_now far ahead = fewer_ahead children earlier key (node_in named old) (node_in named new) (WantedIn old)
        (WantedIn new) numbers_now numbers_now far (λ t place p. was_wanted t place p) (λ t place p. same_node place)
        (λ t a b lt p q. refl) ahead

module _ (Among : ℕ → Type 0) {N : Type 0} (children : N → List N) (named : ℕ → N)
    (earlier : N → N → Ordering) (o : IsTotalOrder earlier) (key : N → ℤ) where
  abbrev rule : ℕ → N → N → Ordering
  rule depth = comparison children earlier key depth

  -- a top of an unresolved branch is in the first sphere
  top_is : (old : Branched) → AreShownAmong Among children named old → (k : ℕ) → Among k
      → has_flag old.unresolved k ≡ true → WantedIn old 0 k
  top_is old shown k lt flag = record {
    at = shown.top k lt;
    chosen = ap (has_flag old.unresolved) (shown.branch k lt) ∙ flag;
  }

  module _ (old new : Branched) (keys : List ℤ) (same : AreKeysOf named key keys old)
      (chosen : FlagsOpen new.layers.ranked.numbers old.unresolved new.unresolved) (last : new.last ≡ old.last) where
    abbrev before : List ℕ
    before = old.layers.ranked.numbers

    abbrev numbers : List ℕ
    numbers = new.layers.ranked.numbers

    abbrev node : ℕ → N
    node = node_in named old

    abbrev At : ℕ → ℕ → Type 0
    At = WantedIn old

    by_keys : (t a b : ℕ) → At t a → At t b
        → int_cmp (key_of keys old.layers.place_tree a) (key_of keys old.layers.place_tree b) ≡ int_cmp (key (node a)) (key (node b))
    by_keys t a b p q = ap (λ z. int_cmp z (key_of keys old.layers.place_tree b)) (same.each t a p)
        ∙ ap (int_cmp (key (node a))) (same.each t b q)

    -- the next rule begins over the present numbers
    module _ (stands : StandsAmong Among children named earlier old) (splits : SplitsFirst old.layers keys new.layers)
      where
        first_order : OrdersPlaces (At 0) (on node (rule 0)) numbers
        unfolding comparison
        first_order = record {
          each = λ a b p q. splits.split.each a b p.at q.at
              ∙ ap (ordering_then (by_number before a b)) (by_keys 0 a b p q)
              ∙ ap (λ r. ordering_then r (int_cmp (key (node a)) (key (node b)))) ((stands.ordered 0).each a b p q);
        }

        first_side : (a b : ℕ) → Among a → Among b → by_number before a b ≢ Equal
            → by_number numbers a b ≡ by_number before a b
        first_side a b la lb differ = splits.split.each a b (stands.shown.top a la) (stands.shown.top b lb)
            ∙ first_decides (by_number before a b) (int_cmp (key_of keys old.layers.place_tree a) (key_of keys old.layers.place_tree b))
            differ

        first_finer : (x y : N) → earlier x y ≢ Equal → rule 0 x y ≡ earlier x y
        unfolding comparison
        first_finer x y differ = first_decides (earlier x y) (int_cmp (key x) (key y)) differ

        first_inner : (a b : ℕ) → Among a → Among b → has_flag old.unresolved a ≡ true
            → has_flag old.unresolved b ≡ true → by_number numbers a b ≡ rule 0 (node a) (node b)
        first_inner a b la lb fa fb = first_order.each a b (top_is old stands.shown a la fa)
            (top_is old stands.shown b lb fb)

        pub rule_begun : IsTakenAmong Among children named earlier key 0 new
        rule_begun =
            let total = comparison_total children key o 0 in
            record {
              shown = shown_now children named old new splits.kept chosen last Among stands.shown;
              tops = tops_now children named old new splits.kept chosen last Among stands.shown.inside earlier (rule 0)
                  stands.tops
                  (told_now Among named old numbers earlier (rule 0) stands.tops total first_finer first_side
                  first_inner)
                  (tied_before Among named old numbers earlier (rule 0) stands.tops total first_finer first_side
                  first_inner);
              reaches = reaches_now children named old new splits.kept chosen last earlier key 0 (record {
                each = λ t low. let here : 0 ≡ t = omega (arith, low) in
                    subst (λ u. OrdersSphere children earlier key node At u (0 - u) numbers) here first_order;
              });
              ahead = ahead_now children named old new splits.kept chosen last earlier key 0 (record {
                each = λ t some. moved (At t) (on node earlier) before numbers
                    (λ place p. splits.others t place (λ e. absurd (omega (arith, e, some))) p.at) (stands.ordered t);
              });
            }

    -- and is taken one sphere further
    module _ (far : ℕ) (within : far < old.last) (taken : IsTakenAmong Among children named earlier key far old)
        (deeper : Deepens old.layers far keys new.layers) where
      abbrev start : List ℕ
      start = deeper.passed.start

      begins : Begins children earlier key node At far before start
      begins = begun children earlier key node At far before start taken.ahead (record {
        each = λ a b p q. deeper.passed.split.each a b p.at q.at
            ∙ ap (ordering_then (by_number before a b)) (by_keys (suc far) a b p q);
      }) (λ t place differ p. deeper.passed.others t place differ p.at)

      refines : Refines (kids_of old.layers.place_tree) At far 0 start numbers
      refines = record {
        ordered = λ t low high. record {
          each = λ a b p q. (deeper.passed.refines.ordered t low high).each a b p.at q.at;
        };
        inside = λ t place lt p. deeper.passed.refines.inside t place lt p.at;
        outside = λ t place lt p. deeper.passed.refines.outside t place lt p.at;
      }

      reached : Reaches children earlier key node At (suc far) numbers
      reached = reaches_next children node (kids_of old.layers.place_tree) At old.last taken.shown.view earlier o key far
          within before taken.reaches start numbers begins refines

      ahead : AreAhead children earlier key node At (suc far) numbers
      ahead = still_ahead children earlier key node At far before start numbers begins
          (λ t place lt p. refines.outside t place lt p) taken.ahead

      next_side : (a b : ℕ) → Among a → Among b → by_number before a b ≢ Equal
          → by_number numbers a b ≡ by_number before a b
      next_side a b la lb differ =
          let kids = kids_of old.layers.place_tree in
          let by_sets = slice_cmp nat_cmp (kid_set kids numbers a) (kid_set kids numbers b) in
          let at_a = deeper.passed.others 0 a (λ e. absurd (omega (arith, e))) (taken.shown.top a la) in
          let at_b = deeper.passed.others 0 b (λ e. absurd (omega (arith, e))) (taken.shown.top b lb) in
          (deeper.passed.refines.ordered 0 (omega arith) (omega arith)).each a b (taken.shown.top a la)
          (taken.shown.top b lb)
          ∙ ap (λ n. ordering_then (nat_cmp n (slice_index start b)) by_sets) at_a
          ∙ ap (λ n. ordering_then (nat_cmp (slice_index before a) n) by_sets) at_b
          ∙ first_decides (by_number before a b) by_sets differ

      next_finer : (x y : N) → rule far x y ≢ Equal → rule (suc far) x y ≡ rule far x y
      next_finer x y differ =
          let one : suc far ≡ far + 1 = omega arith in
          ap (λ d. rule d x y) one ∙ depths_refine children earlier key far 1 x y differ

      next_inner : (a b : ℕ) → Among a → Among b → has_flag old.unresolved a ≡ true
          → has_flag old.unresolved b ≡ true → by_number numbers a b ≡ rule (suc far) (node a) (node b)
      next_inner a b la lb fa fb =
          let all : suc far - 0 ≡ suc far = omega arith in
          (reached.each 0 (omega arith)).each a b (top_is old taken.shown a la fa) (top_is old taken.shown b lb fb)
          ∙ ap (λ d. rule d (node a) (node b)) all

      pub rule_deeper : IsTakenAmong Among children named earlier key (suc far) new
      rule_deeper =
          let total = comparison_total children key o (suc far) in
          record {
            shown = shown_now children named old new deeper.kept chosen last Among taken.shown;
            tops = tops_now children named old new deeper.kept chosen last Among taken.shown.inside (rule far) (rule
                (suc far)) taken.tops
                (told_now Among named old numbers (rule far) (rule (suc far)) taken.tops total next_finer next_side
                next_inner)
                (tied_before Among named old numbers (rule far) (rule (suc far)) taken.tops total next_finer next_side
                next_inner);
            reaches = reaches_now children named old new deeper.kept chosen last earlier key (suc far) reached;
            ahead = ahead_now children named old new deeper.kept chosen last earlier key (suc far) ahead;
          }

  -- a rule that was taken to the end is decided, at each depth that reaches it
  module _ (now : Branched) (ends : IsEnded children (node_in named now) (WantedIn now) now.last)
      (taken : IsTakenAmong Among children named earlier key now.last now) (depth : ℕ) (le : now.last ≤ depth) where
    abbrev numbers_are : List ℕ
    numbers_are = now.layers.ranked.numbers

    orders : (t : ℕ) → OrdersPlaces (WantedIn now t) (on (node_in named now) (rule depth)) numbers_are
    orders = whole children (node_in named now) (kids_of now.layers.place_tree) (WantedIn now) now.last taken.shown.view ends
        earlier o key numbers_are depth le taken.reaches

    stays : (x y : N) → rule now.last x y ≢ Equal → rule depth x y ≡ rule now.last x y
    stays x y differ =
        let sum : depth ≡ now.last + (depth - now.last) = omega (arith, le) in
        ap (λ d. rule d x y) sum ∙ depths_refine children earlier key now.last (depth - now.last) x y differ

    pub rule_stands : StandsAmong Among children named (rule depth) now
    rule_stands = record {
      shown = taken.shown;
      tops = record {
        node_data = told_now Among named now numbers_are (rule now.last) (rule depth) taken.tops
            (comparison_total children key o depth) stays (λ a b la lb differ. refl)
            (λ a b la lb fa fb. (orders 0).each a b (top_is now taken.shown a la fa) (top_is now taken.shown b lb fb));
        tie = taken.tops.tie;
      };
      ordered = orders;
    }
