-- The branches of a node's ligands seen from it: begun, and followed by a sphere.
use Rattle.std.proofs.Common.{◌≡◌, ◌<◌, ◌≤◌, ◌+◌, ◌-◌, ◌*◌, ◌++◌, ◌∷◌, ℕ, ℤ, zero, suc, pos, Bool, true, false, List, [], map, replicate, length, slice_index, refl, sym, ap, ◌∙◌, subst, arith, None, length-append}
use Rattle.std.specs.List.{AllByRecursion, list_any}
use Rattle.std.specs.declared.option.Option.{Option}
use Rattle.std.proofs.lemmas.Cmp.{on_total, nat_cmp_total}
use Rattle.std.proofs.lemmas.List.{get_or_append_left, get_or-append_right, length-replicate}
use Rattle.std.proofs.lemmas.List.Elements.{All-from_recursion}
use Rattle.cip_rank.specs.Comparison.{comparison}
use Rattle.cip_rank.specs.Ranking.{by_number, key_at}
use Rattle.cip_rank.specs.Tree.{IsTree, children_of}
use Rattle.cip_rank.specs.View.{on_way, parent_list, children_seen}
use Rattle.cip_rank.proofs.lemmas.SeenRoot.{seen_root}
use Rattle.cip_rank.proofs.lemmas.ChildrenSeen.{all_at, all_kept, off_below}
use Rattle.cip_rank.proofs.lemmas.Times.{times}
use Rattle.cip_branches.specs.ViewedTree.{kids_around}
use Rattle.cip_branches.specs.Deciding.{Branched, AreFollowed, FlagsOpen, AreDecided}
use Rattle.cip_branches.specs.Following.{Begins, Follows}
use Rattle.cip_partition.specs.Kids.{IsAmong}
use Rattle.cip_partition.specs.PlaceTree.{PlaceTree}
use Rattle.cip_branches.specs.SphereColumns.{SphereColumns}
use Rattle.cip_partition.specs.Parting.{has_flag}
use Rattle.cip_partition.specs.Keys.{AreKeyed}
use Rattle.cip_branches.specs.Ruled.{Names}
use Rattle.cip_branches.specs.Standing.{node_in, WantedIn}
use Rattle.cip_branches.specs.Views.{IsEnded}
use Rattle.cip_branches.specs.Walking.{MayWalk, kids_left, wanted_kids}
use Rattle.cip_branches.proofs.lemmas.ruled.Decided.{decided_first, decided_after}
use Rattle.cip_branches.proofs.lemmas.room.Seen.{AreSeen, times_filter, around_is, seen_first, few_seen, seen_next}
use Rattle.cip_branches.proofs.lemmas.room.Kids.{all_walked}
use Rattle.cip_branches.proofs.lemmas.ruled.Open.{flag_within}
use Rattle.cip_digraph.specs.declared.nodes.NodeData.{NodeData}
use Rattle.cip_digraph.specs.digraph.Digraph.{Node}
use Rattle.cip_digraph.specs.digraph.NodeList.{parents_of}
use Rattle.cip_digraph.specs.digraph.Telling.{node_at}
use Rattle.cip_digraph.specs.digraph.View.{real_at, view_children, height_below, seen_from}
use Rattle.cip_digraph.specs.rules.Keys.{atomic_key}
use Rattle.cip_digraph.specs.declared.decisions.decision.Decision.{Decision}
use Rattle.cip_digraph.specs.rules.Decisions.{first_difference}
use Rattle.cip_digraph.specs.rules.Orders.{all_tie, rule_1a}
use Rattle.cip_mol.specs.declared.labels.descriptor.Descriptor.{Descriptor}
use Rattle.cip_mol.specs.declared.labels.outcome.Rule.TheVariants.{R1a}
use Rattle.cip_digraph.proofs.lemmas.orders.Exchanged.{all_tie_total}
use Rattle.cip_rules.specs.NodeKeys.{atomic_keys}
use Rattle.cip_rules.proofs.lemmas.NodeKeys.{keys_at}
use Rattle.cip_aux.proofs.lemmas.SeenChildren.{seen_are}
use Rattle.cip_aux.specs.Views.{DigraphView, Shows, IsReal, path_at}
use Rattle.cip_aux_rank.specs.LigandBranches.{AreTops, AreFollowedFrom, seen_at, top_node}
use Rattle.cip_aux_rank.proofs.lemmas.AwayNodes.{IsAway, away_below, height_away}
use Rattle.cip_aux_rank.proofs.lemmas.Constituted.{place_low}
use Rattle.cip_aux_rank.proofs.lemmas.HangingPlaces.{hanging}
use Rattle.cip_digraph.specs.declared.decisions.branch_pair.BranchPair.{BranchPair}
use Rattle.cip_digraph.specs.Asking.{AreWithin, decided, found_between, with_found}
use Rattle.cip_rules.specs.Orders.{found_below}
use Rattle.cip_rules.proofs.lemmas.FoundRules.{noted_next}
use Rattle.cip_rules.proofs.lemmas.FoundWithin.{same_found}
use Rattle.cip_rules.proofs.lemmas.RulesGoOn.{first_decides}

-- Branches are ranked as Rule 1a does so far out. Each node has one place at most, and those of the last sphere are so
-- far away.
pub record AreAround (sight : DigraphView) (way : List Bool) (from : ℕ) (tops : List ℕ) (now : Branched) : Type 0 where
  pub followed : AreFollowed now
  pub decided : AreDecided (view_children sight.graph sight.positions (path_at sight.nodes from)) all_tie
      (λ node. pos (atomic_key sight.graph sight.positions node)) (node_at sight.nodes) now
  pub numbered : AreDecided (kids_around (parents_of sight.node_data) way) all_tie (key_at (atomic_keys sight.node_data)) (λ n. n)
      now
  pub seen : AreSeen (parents_of sight.node_data) way from now.first now.layers.place_tree.nodes
  pub away : (p : ℕ) → now.first ≤ p → p < length now.layers.place_tree.nodes
      → IsAway (children_seen (parents_of sight.node_data) from) from (suc now.last) (slice_index now.layers.place_tree.nodes p)
  pub low : now.last ≤ now.first
  pub high : now.last ≤ height_below (view_children sight.graph sight.positions (path_at sight.nodes from))
      (2 * length sight.graph.vertices + 2) (real_at (path_at sight.nodes from) ∷ [])
  pub count : length now.unresolved ≡ length tops
  pub begun : length tops ≤ length now.layers.place_tree.nodes
  pub top : (k : ℕ) → k < length tops → slice_index now.layers.place_tree.nodes k ≡ slice_index tops k

-- n depths of Rule 1a are noted between branches
abbrev pub IsNoted : DigraphView → ℕ → List ℕ → ℕ → List BranchPair → List BranchPair → Type 0
IsNoted sight from tops depths begin requested =
    requested ≡ map (with_found (found_below R1a (comparison (view_children sight.graph sight.positions (path_at sight.nodes
    from)) all_tie (λ node. pos (atomic_key sight.graph sight.positions node))) (top_node sight tops) depths)) begin

map_same : (ns : List ℕ) → map (λ n. n) ns ≡ ns
map_same [] = refl
map_same (n ∷ ns) = ap (λ ms. n ∷ ms) (map_same ns)

any_flag : (flags : List Bool) (k : ℕ) → has_flag flags k ≡ true → list_any (λ flag. flag) flags ≡ true
any_flag [] k e = let bad : false ≡ true = e in cc
any_flag (true ∷ flags) k e = refl
any_flag (false ∷ flags) zero e = let bad : false ≡ true = e in cc
any_flag (false ∷ flags) (suc k) e = any_flag flags k e

all_among : (P : ℕ → Type 0) (ns : List ℕ) → ((n : ℕ) → IsAmong ns n → P n) → AllByRecursion P ns
all_among P [] each = tt
all_among P (n ∷ ns) each = (
  each n (record { at = 0; within = omega arith; here = refl }),
  all_among P ns (λ m is. each m (record {
    at = suc is.at;
    within = let lt = is.within in omega (arith, lt);
    here = is.here;
  })),
)

module _ (sight : DigraphView) (shows : Shows sight) (from : ℕ) (real : IsReal sight.nodes from) (way : List Bool)
    (on : (x : ℕ) → x < length (parents_of sight.node_data) → has_flag way x ≡ on_way (parents_of sight.node_data) from x) where
  abbrev parents : List ℕ
  parents = parents_of sight.node_data

  abbrev path : List ℕ
  path = path_at sight.nodes from

  abbrev next : Node → List Node
  next = view_children sight.graph sight.positions path

  abbrev key : Node → ℤ
  key node = pos (atomic_key sight.graph sight.positions node)

  abbrev named : ℕ → Node
  named = node_at sight.nodes

  abbrev keys : List ℤ
  keys = atomic_keys sight.node_data

  abbrev around : ℕ → List ℕ
  around = kids_around parents way

  tree : IsTree parents
  tree = shows.node_data.whole.tree

  inside : from < length parents
  inside = let lt = real.within in let len = shows.node_data.len in omega (arith, lt, len)

  pub told_len : length sight.node_data ≡ length parents
  told_len = sym (length_told sight.node_data)
    where
      length_told : (all : List NodeData) → length (parents_of all) ≡ length all
      length_told [] = refl
      length_told (node_data ∷ all) = ap (λ n. suc n) (length_told all)

  -- all nodes have their keys
  named_key : (n : ℕ) → n < length parents → key_at keys n ≡ key (named n)
  named_key n lt =
      let len = shows.node_data.len in
      keys_at (λ (node_data : NodeData). pos node_data.atomic) sight.node_data n (omega (arith, lt, told_len))
      ∙ ap pos (shows.node_data.each n (omega (arith, lt, len))).atomic

  named_kids : (n : ℕ) → n < length parents → map named (around n) ≡ next (named n)
  named_kids n lt =
      ap (map named) (around_is parents tree from inside way on n lt)
      ∙ seen_are sight.graph sight.positions sight.root sight.nodes parents shows.node_data.whole shows.sound from inside
      real.real n lt

  -- the first sphere
  module _ (tops : List ℕ) (are : AreTops parents from tops) where
    abbrev neighbours : List ℕ
    neighbours = children_of parents from ++ parent_list parents from

    -- all neighbours of the node lead away from it
    lead_away : around from ≡ neighbours
    lead_away = around_is parents tree from inside way on from inside ∙ seen_root parents tree from inside

    -- what they have, some of them have
    tops_all : (P : ℕ → Type 0) → AllByRecursion P (around from) → AllByRecursion P tops
    tops_all P all = subst (AllByRecursion P) (sym are.are) (all_kept P are.test neighbours
        (subst (AllByRecursion P) lead_away all))

    below : AllByRecursion (λ n. n < length parents) tops
    below = tops_all (λ n. n < length parents) (off_below (has_flag way) parents tree from inside)

    of : AllByRecursion (IsAmong (around from)) tops
    of = tops_all (IsAmong (around from)) (all_among (IsAmong (around from)) (around from) (λ n is. is))

    few : (x : ℕ) → times x tops ≤ times x (around from)
    few x =
        let le = times_filter x are.test neighbours in
        let is = ap (times x) are.are in
        let all = ap (times x) lead_away in
        omega (arith, le, is, all)

    seen_tops : AreSeen parents way from 0 tops
    seen_tops = seen_first parents tree from inside way on tops below few

    -- there is room for it
    pub tops_few : length tops < length parents
    tops_few = let all = few_seen parents tree from inside way on 0 tops (omega arith) seen_tops in omega (arith, all)

    pub tops_keyed : (k : ℕ) → k < length tops → slice_index tops k < length sight.node_data
    tops_keyed k lt = let low = all_at (λ n. n < length parents) tops k below lt in omega (arith, low, told_len)

    module _ (new : Branched) (begins : Begins tops keys new.layers) (followed : AreFollowed new)
        (first : new.first ≡ 0) (last : new.last ≡ 0)
        (chosen : FlagsOpen new.layers.ranked.numbers (replicate (length tops) true) new.unresolved) where
      top_low : (k : ℕ) → k < length tops → slice_index tops k < length parents
      top_low k lt = all_at (λ n. n < length parents) tops k below lt

      nodes_count : length new.layers.place_tree.nodes ≡ length tops
      nodes_count = ap (λ (ns : List ℕ). length ns) begins.nodes

      pub around_first : AreAround sight way from tops new
      around_first = record {
        followed = followed;
        decided = decided_first next all_tie (all_tie_total (seen_from sight.rules sight.graph sight.positions path
            (λ p. None))) (λ a b. refl) key named new tops keys begins followed first last chosen
            (λ k lt. named_key (slice_index tops k) (top_low k lt));
        numbered = decided_first around all_tie (on_total (λ (n : ℕ). 0) nat_cmp_total) (λ a b. refl) (key_at keys)
            (λ n. n) new tops keys begins followed first last chosen (λ k lt. refl);
        seen = subst (λ (ns : List ℕ). AreSeen parents way from new.first ns) (sym begins.nodes)
            (subst (λ n. AreSeen parents way from n tops) (sym first) seen_tops);
        away = λ p low lt.
            let here = all_at (IsAmong (around from)) tops p of (omega (arith, lt, nodes_count)) in
            let is = subst (λ (ns : List ℕ). IsAmong ns (slice_index tops p))
            (around_is parents tree from inside way on from inside) here in
            subst (λ s. IsAway (children_seen parents from) from (suc s) (slice_index new.layers.place_tree.nodes p))
            (sym last) (subst (λ (ns : List ℕ). IsAway (children_seen parents from) from (suc 0) (slice_index ns p))
            (sym begins.nodes) (from, refl, is));
        low = omega (arith, first, last);
        high = omega (arith, last);
        count = chosen.len ∙ length-replicate (length tops) true;
        begun = omega (arith, nodes_count);
        top = λ k lt. ap (λ (ns : List ℕ). slice_index ns k) begins.nodes;
      }

  -- the next sphere
  module _ (tops : List ℕ) (old : Branched) (was : AreAround sight way from tops old) where
    abbrev place_tree : PlaceTree
    place_tree = old.layers.place_tree

    abbrev known : ℕ
    known = length place_tree.place_parents

    abbrev walked : List ℕ
    walked = wanted_kids around old.unresolved place_tree old.first (length place_tree.nodes - old.first)

    nodes_len : length place_tree.nodes ≡ known
    nodes_len = was.followed.nodes_len

    within : old.first ≤ length place_tree.nodes
    within = let le = was.followed.within in omega (arith, le, nodes_len)

    node_low : (p : ℕ) → p < known → slice_index place_tree.nodes p < length parents
    node_low p lt = all_at (λ n. n < length parents) place_tree.nodes p was.seen.below (omega (arith, lt, nodes_len))

    -- all nodes are nodes of the tree
    pub around_keyed : AreKeyed (length parents) place_tree
    around_keyed = record { each = node_low }

    -- there is room for the next sphere
    pub around_room : known + kids_left around place_tree.nodes old.first (known - old.first) < length parents
    around_room = subst (λ n. n + kids_left around place_tree.nodes old.first (n - old.first) < length parents) nodes_len
        (few_seen parents tree from inside way on old.first place_tree.nodes within was.seen)

    pub around_last : old.first < known → old.last + 2 ≤ length parents
    around_last some = let room = around_room in let low = was.low in omega (arith, room, low, some)

    may : old.first < known → length parents ≤ place_tree.room → MayWalk (length parents) around old.unresolved old.first old.last
        old.layers
    may some wide =
        let room = around_room in
        let last = around_last some in
        record {
          spheres = was.followed.ranked.spheres;
          count = was.followed.ranked.count;
          ends = was.followed.ranked.ends;
          places = was.followed.places old.unresolved;
          within = was.followed.within;
          nodes = λ p low high. node_low p high;
          room = omega (arith, room, wide);
          sphere_room = omega (arith, last, wide);
        }

    names : Names next all_tie key named old.layers old.unresolved old.last (length parents) around keys
    names = record {
      node_data = λ place p. named_kids (slice_index place_tree.nodes place)
          (node_low place ((was.followed.places old.unresolved).high place p.at));
      same_key = named_key;
    }

    -- and numbers name themselves
    numbers : Names around all_tie (key_at keys) (λ n. n) old.layers old.unresolved old.last (length parents) around keys
    numbers = record {
      node_data = λ place p. map_same (around (slice_index place_tree.nodes place));
      same_key = λ n lt. refl;
    }

    -- a child of a node so far away is a step further away
    all_away : (s n : ℕ) → IsAway (children_seen parents from) from s n
        → AllByRecursion (IsAway (children_seen parents from) from (suc s)) (around n)
    all_away s n is = all_among (IsAway (children_seen parents from) from (suc s)) (around n) (λ m here. (
      n,
      is,
      subst (λ (ns : List ℕ). IsAmong ns m) (around_is parents tree from inside way on n
          (away_below sight.graph sight.positions sight.root sight.nodes parents shows.node_data.whole shows.sound shows.low
          from inside real.real s n is)) here,
    ))

    module _ (some : old.first < known) (wide : length parents ≤ place_tree.room) (new : Branched)
        (walks : Follows old.layers old.first old.last (length parents) around old.unresolved keys new.layers)
        (followed : AreFollowed new) (first : new.first ≡ known) (last : new.last ≡ suc old.last)
        (chosen : FlagsOpen new.layers.ranked.numbers old.unresolved new.unresolved) where
      listed : new.layers.place_tree.nodes ≡ place_tree.nodes ++ walked
      listed =
          let w = walks.walked in
          ap (λ (k : PlaceTree). k.nodes) (walks.place_tree ∙ ap (λ (l : SphereColumns). l.place_tree) w.ended) ∙ w.walks.listed
          ∙ ap (λ n. place_tree.nodes ++ wanted_kids around old.unresolved place_tree old.first (n - old.first)) (sym nodes_len)

      sum : length new.layers.place_tree.nodes ≡ length place_tree.nodes + length walked
      sum = ap (λ (ns : List ℕ). length ns) listed ∙ length-append place_tree.nodes walked

      old_node : (p : ℕ) → p < length place_tree.nodes → slice_index new.layers.place_tree.nodes p ≡ slice_index place_tree.nodes p
      old_node p lt = ap (λ (ns : List ℕ). slice_index ns p) listed ∙ get_or_append_left place_tree.nodes walked 0 p lt

      new_node : (p : ℕ) → length place_tree.nodes ≤ p
          → slice_index new.layers.place_tree.nodes p ≡ slice_index walked (p - length place_tree.nodes)
      new_node p le = ap (λ (ns : List ℕ). slice_index ns p) listed
          ∙ get_or-append_right place_tree.nodes walked (length place_tree.nodes) p 0 refl le

      further : AllByRecursion (IsAway (children_seen parents from) from (suc (suc old.last))) walked
      further = all_walked (IsAway (children_seen parents from) from (suc (suc old.last))) around old.unresolved place_tree
          old.first (length place_tree.nodes - old.first) (λ p low high. all_away (suc old.last) (slice_index place_tree.nodes p)
          (was.away p low (omega (arith, high, within))))

      pub around_next : AreAround sight way from tops new
      around_next = record {
        followed = followed;
        decided = decided_after next all_tie (all_tie_total (seen_from sight.rules sight.graph sight.positions path
            (λ p. None))) (λ a b. refl) key named old was.decided (length parents) around keys (may some wide) names
            around_keyed new last chosen walks;
        numbered = decided_after around all_tie (on_total (λ (n : ℕ). 0) nat_cmp_total) (λ a b. refl) (key_at keys)
            (λ n. n) old was.numbered (length parents) around keys (may some wide) numbers around_keyed new last chosen
            walks;
        seen = subst (λ n. AreSeen parents way from n new.layers.place_tree.nodes) (nodes_len ∙ sym first)
            (seen_next parents tree from inside way on old.first place_tree.nodes within was.seen old.unresolved place_tree refl
            new.layers.place_tree.nodes listed);
        away = λ p low lt.
            let behind : length place_tree.nodes ≤ p = omega (arith, low, first, nodes_len) in
            subst (λ s. IsAway (children_seen parents from) from (suc s) (slice_index new.layers.place_tree.nodes p))
            (sym last) (subst (IsAway (children_seen parents from) from (suc (suc old.last))) (sym (new_node p behind))
            (All-from_recursion (IsAway (children_seen parents from) from (suc (suc old.last))) walked further
            (p - length place_tree.nodes) 0 (omega (arith, lt, sum, behind))));
        low = let before = was.low in omega (arith, first, last, before, some);
        high =
            let far = height_away sight.graph sight.positions sight.root sight.nodes parents shows.node_data.whole
            shows.sound shows.low from inside real.real (suc old.last) (slice_index place_tree.nodes old.first)
            (was.away old.first (omega arith) (omega (arith, some, nodes_len))) in
            omega (arith, far, last);
        count = chosen.len ∙ was.count;
        begun = let before = was.begun in omega (arith, before, sum);
        top = λ k lt. old_node k (let before = was.begun in omega (arith, lt, before)) ∙ was.top k lt;
      }

    -- the numbers of two branches compare as Rule 1a does so far out
    around_tells : (a b : ℕ) → a < length tops → b < length tops
        → by_number old.layers.ranked.numbers a b
        ≡ comparison next all_tie key old.last (top_node sight tops a) (top_node sight tops b)
    around_tells a b la lb =
        let count = was.count in
        was.decided.node_data a b (omega (arith, la, count)) (omega (arith, lb, count))
        ∙ ap (λ n. comparison next all_tie key old.last (named n) (named (slice_index place_tree.nodes b))) (was.top a la)
        ∙ ap (λ n. comparison next all_tie key old.last (top_node sight tops a) (named n)) (was.top b lb)

    module _ (begin requested : List BranchPair) (within_all : AllByRecursion (AreWithin (length tops)) begin) where
      -- what they decide is noted
      pub more_noted : (new : List BranchPair) → IsNoted sight from tops old.last begin requested
          → new ≡ map (with_found (found_between old.layers.ranked.numbers R1a old.last)) requested
          → IsNoted sight from tops (old.last + 1) begin new
      more_noted new before noted = noted_next R1a (comparison next all_tie key) (top_node sight tops)
          old.layers.ranked.numbers (length tops) old.last around_tells begin requested new within_all before noted

      ends : (list_any (λ flag. flag) old.unresolved ≡ true → known ≤ old.first)
          → IsEnded next (node_in named old) (WantedIn old) old.last
      ends over = record {
        none = λ place p.
            let places = was.followed.places old.unresolved in
            let low = places.low place p.at in
            let high = places.high place p.at in
            let most = over (any_flag old.unresolved (slice_index place_tree.branches place) p.chosen) in
            absurd (omega (arith, low, high, most));
      }

      node_noted : (descriptor : List ℕ → Option Descriptor) → IsNoted sight from tops (old.last + 1) begin requested
          → requested ≡ map (with_found (found_below R1a (rule_1a (seen_at sight from descriptor)) (node_in named old)
          (old.last + 1))) begin
      unfolding rule_1a
      node_noted descriptor noted =
          let found : ℕ → ℕ → ℕ → ℕ → Option Decision = λ m n a b. decided R1a (first_difference (λ depth.
          comparison next all_tie key depth (named m) (named n)) 0 (old.last + 1)) in
          noted ∙ same_found (found_below R1a (comparison next all_tie key) (top_node sight tops) (old.last + 1))
          (found_below R1a (comparison next all_tie key) (node_in named old) (old.last + 1)) (AreWithin (length tops))
          (λ one w. ap (λ n. found n (slice_index tops one.second) one.first one.second) (sym (was.top one.first w.0))
          ∙ ap (λ n. found (slice_index place_tree.nodes one.first) n one.first one.second) (sym (was.top one.second w.1)))
          begin within_all

      -- where none of them goes on, pairs are decided by Rule 1a
      pub around_followed : (list_any (λ flag. flag) old.unresolved ≡ true → known ≤ old.first)
          → IsNoted sight from tops (old.last + 1) begin requested → AreFollowedFrom sight from tops old begin requested
      around_followed over noted = record {
        placed = record {
          followed = was.followed;
          keyed = subst (λ n. AreKeyed n place_tree) (sym told_len) around_keyed;
          few = let room = around_room in omega (arith, room, told_len);
          top = was.top;
          low = λ t place p.
              let few = flag_within old.unresolved (slice_index place_tree.branches place) p.chosen in
              let count = was.count in
              omega (arith, few, count);
          hang = hanging parents tree from inside way on tops (key_at keys) old was.numbered was.count was.top
              (λ t place p. node_low place (place_low old was.followed t place p.at));
        };
        decided = λ descriptor. first_decides (seen_at sight from descriptor) true named (node_in named old) (length tops) begin
            within_all old was.decided (ends over) was.high (λ a. refl) was.count requested (node_noted descriptor noted);
      }
