-- Seen from one of its nodes, each node of a tree has one place at most: there is room for a place for each.
use Rattle.std.proofs.Common.{◌≡◌, ◌<◌, ◌≤◌, ◌+◌, ◌-◌, ◌++◌, ◌∷◌, ℕ, zero, suc, Bool, true, false, cond, List, [], filter, length, slice_index, refl, sym, ap, ◌∙◌, subst, arith, length-append}
use Rattle.std.specs.List.{AllByRecursion, flat_map, range_with_len}
use Rattle.std.proofs.lemmas.List.Concat.{length-flat_map}
use Rattle.std.proofs.lemmas.List.{get_or_append_left}
use Rattle.cip_rank.specs.Tree.{IsTree}
use Rattle.cip_rank.specs.View.{on_way, children_seen}
use Rattle.cip_rank.proofs.lemmas.ChildrenSeen.{all_append, all_at, off_below, off_view}
use Rattle.cip_rank.proofs.lemmas.Times.{times, times_append, at_most}
use Rattle.cip_rank.proofs.lemmas.Walked.{each_node}
use Rattle.cip_branches.specs.ViewedTree.{kids_around}
use Rattle.cip_partition.specs.PlaceTree.{PlaceTree}
use Rattle.cip_partition.specs.Parting.{has_flag}
use Rattle.cip_branches.specs.Rising.{kids_list}
use Rattle.cip_branches.specs.Walking.{kids_left, wanted_kids}
use Rattle.cip_branches.proofs.lemmas.room.Kids.{all_told, all_walked, kids_split, kids_alike, kids_flat}

-- no node is more often there than next to the one that the tree is seen from and to the nodes at the first places
pub record AreSeen (parents : List ℕ) (way : List Bool) (from first : ℕ) (nodes : List ℕ) : Type 0 where
  pub below : AllByRecursion (λ n. n < length parents) nodes
  pub few : (x : ℕ) → times x nodes
      ≤ times x (kids_around parents way from) + times x (kids_list (kids_around parents way) nodes 0 first)

pub times_filter : (x : ℕ) (test : ℕ → Bool) (ns : List ℕ) → times x (filter test ns) ≤ times x ns
times_filter x test [] = omega arith
times_filter x test (n ∷ ns) = by (test n) (times_filter x test ns)
  where
    by : (b : Bool) → times x (filter test ns) ≤ times x ns
        → times x (cond b (n ∷ filter test ns) (filter test ns)) ≤ times x (n ∷ ns)
    by true le = omega (arith, le)
    by false le = omega (arith, le)

times_if : (x : ℕ) (b : Bool) (ns : List ℕ) → times x (cond b ns []) ≤ times x ns
times_if x true ns = omega arith
times_if x false ns = omega arith

-- of the children of nodes those of unresolved branches
times_wanted : (x : ℕ) (kids_at : ℕ → List ℕ) (unresolved : List Bool) (place_tree : PlaceTree) (first more : ℕ)
    → times x (wanted_kids kids_at unresolved place_tree first more) ≤ times x (kids_list kids_at place_tree.nodes first more)
times_wanted x kids_at unresolved place_tree first zero = omega arith
times_wanted x kids_at unresolved place_tree first (suc more) =
    let kids = kids_at (slice_index place_tree.nodes first) in
    let b = has_flag unresolved (slice_index place_tree.branches first) in
    let rest = times_wanted x kids_at unresolved place_tree (first + 1) more in
    let here = times_if x b kids in
    let new = times_append x (cond b kids []) (wanted_kids kids_at unresolved place_tree (first + 1) more) in
    let all = times_append x kids (kids_list kids_at place_tree.nodes (first + 1) more) in
    omega (arith, rest, here, new, all)

flat_alike : (f g : ℕ → List ℕ) (ns : List ℕ) → AllByRecursion (λ n. f n ≡ g n) ns → flat_map f ns ≡ flat_map g ns
flat_alike f g [] same = refl
flat_alike f g (n ∷ ns) same = ap (λ (ms : List ℕ). ms ++ flat_map f ns) same.0
    ∙ ap (λ (ms : List ℕ). g n ++ ms) (flat_alike f g ns same.1)

all_same : (f g : ℕ → List ℕ) (count : ℕ) → ((n : ℕ) → n < count → f n ≡ g n) → (ns : List ℕ)
    → AllByRecursion (λ n. n < count) ns → AllByRecursion (λ n. f n ≡ g n) ns
all_same f g count same [] all = tt
all_same f g count same (n ∷ ns) all = (same n all.0, all_same f g count same ns all.1)

module _ (ps : List ℕ) (tree : IsTree ps) (from : ℕ) (inside : from < length ps) (way : List Bool)
    (on : (x : ℕ) → x < length ps → has_flag way x ≡ on_way ps from x) where
  abbrev around : ℕ → List ℕ
  around = kids_around ps way

  abbrev seen : ℕ → List ℕ
  seen = children_seen ps from

  pub around_is : (n : ℕ) → n < length ps → around n ≡ seen n
  around_is n h = off_view (has_flag way) ps from on n h

  -- nodes next to the first one
  pub seen_first : (tops : List ℕ) → AllByRecursion (λ n. n < length ps) tops
      → ((x : ℕ) → times x tops ≤ times x (around from)) → AreSeen ps way from 0 tops
  seen_first tops below few = record { below = below; few = λ x. let le = few x in omega (arith, le) }

  module _ (first : ℕ) (nodes : List ℕ) (within : first ≤ length nodes) (are : AreSeen ps way from first nodes) where
    abbrev done : List ℕ
    done = from ∷ nodes

    abbrev outer : List ℕ
    outer = kids_list around nodes first (length nodes - first)

    -- the children of all nodes are those of the first ones and of the others
    parted : kids_list around nodes 0 (length nodes) ≡ kids_list around nodes 0 first ++ outer
    parted =
        let sum : length nodes ≡ first + (length nodes - first) = omega (arith, within) in
        let none : 0 + first ≡ first = omega arith in
        ap (kids_list around nodes 0) sum ∙ kids_split around nodes 0 first (length nodes - first)
        ∙ ap (λ p. kids_list around nodes 0 first ++ kids_list around nodes p (length nodes - first)) none

    all_kids : (x : ℕ) → times x (flat_map seen done)
        ≡ times x (around from) + (times x (kids_list around nodes 0 first) + times x outer)
    all_kids x =
        let below : AllByRecursion (λ n. n < length ps) done = (inside, are.below) in
        let flat = ap (times x) (sym (flat_alike around seen done (all_same around seen (length ps) around_is done
        below))) in
        let both = times_append x (around from) (flat_map around nodes) in
        let split = ap (times x) (sym (kids_flat around nodes) ∙ parted) ∙ times_append x (kids_list around nodes 0 first)
        outer in
        omega (arith, flat, both, split)

    once : (x : ℕ) → x < length ps → times x (from ∷ flat_map seen done) ≤ 1
    once x h = each_node ps tree from inside (from ∷ flat_map seen done) done refl (inside, are.below) (λ t. t ≤ 1)
        (omega arith) (λ n le. let all = all_kids n in let few = are.few n in omega (arith, le, all, few)) x h

    -- the nodes that are there, and all that are walked next, are fewer than those of the tree
    pub few_seen : length nodes + kids_left around nodes first (length nodes - first) < length ps
    few_seen =
        let list = nodes ++ outer in
        let below : AllByRecursion (λ n. n < length ps) list = all_append (λ n. n < length ps) nodes outer are.below
        (all_told (λ n. n < length ps) (λ p. around (slice_index nodes p)) first (length nodes - first) (λ p low high.
        off_below (has_flag way) ps tree (slice_index nodes p) (all_at (λ n. n < length ps) nodes p are.below
        (omega (arith, high, within))))) in
        let most : length (from ∷ list) ≤ length ps = at_most (length ps) (from ∷ list) (inside, below) (λ x h.
        let one = once x h in let all = all_kids x in let few = are.few x in let both = times_append x nodes outer in
        omega (arith, one, all, few, both)) in
        let sum = length-append nodes outer in
        let count = length-flat_map (λ p. around (slice_index nodes p)) (range_with_len first (length nodes - first)) in
        omega (arith, most, sum, count)

    -- a sphere further
    pub seen_next : (unresolved : List Bool) (place_tree : PlaceTree) → place_tree.nodes ≡ nodes → (new : List ℕ)
        → new ≡ nodes ++ wanted_kids around unresolved place_tree first (length nodes - first)
        → AreSeen ps way from (length nodes) new
    seen_next unresolved place_tree is new listed =
        let walked = wanted_kids around unresolved place_tree first (length nodes - first) in
        record {
          below = subst (AllByRecursion (λ n. n < length ps)) (sym listed) (all_append (λ n. n < length ps) nodes walked
              are.below (all_walked (λ n. n < length ps) around unresolved place_tree first (length nodes - first) (λ p low high.
              off_below (has_flag way) ps tree (slice_index place_tree.nodes p) (subst (λ (ns : List ℕ). slice_index ns p
              < length ps) (sym is) (all_at (λ n. n < length ps) nodes p are.below (omega (arith, high, within)))))));
          few = λ x.
              let few = are.few x in
              let there = ap (times x) listed ∙ times_append x nodes walked in
              let more = times_wanted x around unresolved place_tree first (length nodes - first) in
              let same = ap (λ (ns : List ℕ). times x (kids_list around ns first (length nodes - first))) is in
              let split = ap (times x) parted ∙ times_append x (kids_list around nodes 0 first) outer in
              let stay = ap (times x) (kids_alike around around new nodes 0 (length nodes) (λ p low high.
              ap around (ap (λ (ns : List ℕ). slice_index ns p) listed
              ∙ get_or_append_left nodes walked 0 p (omega (arith, high))))) in
              omega (arith, few, there, more, same, split, stay);
        }
