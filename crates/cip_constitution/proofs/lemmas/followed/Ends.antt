-- Branches of a root's children that were followed to their ends are ordered by Rule 1a as the root sees its digraph,
-- and constitution goes on from there.
use Rattle.std.proofs.Common.{◌≡◌, ◌<◌, ◌≤◌, ◌+◌, ◌-◌, ◌++◌, ◌∷◌, ℕ, ℤ, zero, suc, pos, List, [], map, length}
use Rattle.std.proofs.Common.{slice_index, true, refl, sym, ap, ◌∙◌, subst, arith}
use Rattle.std.specs.Prelude.{flat_map}
use Rattle.std.specs.List.{AllByRecursion}
use Rattle.std.specs.List.Sorted.{IsPermutation}
use Rattle.std.specs.declared.option.Option.{Option}
use Rattle.std.proofs.lemmas.List.{get_or-append_right}
use Rattle.std.proofs.lemmas.List.Elements.{All-from_recursion}
use Rattle.cip_arena.specs.Growth.{Growth}
use Rattle.cip_branches.specs.Deciding.{Branched, AreDecided, AreFollowed}
use Rattle.cip_branches.specs.Standing.{AreKeysOf, WantedIn, node_in}
use Rattle.cip_branches.specs.Views.{IsEnded}
use Rattle.cip_digraph.specs.declared.decisions.decision.Decision.{Decision}
use Rattle.cip_digraph.specs.digraph.Digraph.{Node, children, digraph, real_node, sphere}
use Rattle.cip_digraph.specs.digraph.Telling.{first_of, node_at}
use Rattle.cip_digraph.specs.digraph.View.{real_at, view_children}
use Rattle.cip_digraph.specs.graph.Graph.{Graph}
use Rattle.cip_digraph.specs.rules.Decisions.{first_difference}
use Rattle.cip_digraph.specs.rules.Keys.{atomic_key, lower_precedes}
use Rattle.cip_digraph.specs.rules.Orders.{Seen, all_tie, rule_1a}
use Rattle.cip_digraph.specs.units.Ends.{end_at}
use Rattle.cip_digraph.proofs.lemmas.tree.Branches.{further_out}
use Rattle.cip_digraph.proofs.lemmas.tree.Ended.{Anywhere, IsPath}
use Rattle.cip_digraph.proofs.lemmas.numbered.PlaceTrees.{digraph_length}
use Rattle.cip_rank.specs.Comparison.{comparison}
use Rattle.cip_rank.specs.declared.rules.Rules.{Rules}
use Rattle.cip_partition.specs.Keys.{AreKeyed}
use Rattle.cip_partition.specs.Kids.{kids_of}
use Rattle.cip_partition.specs.PlaceTree.{PlaceTree}
use Rattle.cip_digraph.specs.declared.decisions.branch_pair.BranchPair.{BranchPair}
use Rattle.cip_digraph.specs.Asking.{AreWithin, decided}
use Rattle.cip_rules.specs.Deciding.{AreDecidedBy, AreOfConstitution}
use Rattle.cip_rules.specs.Orders.{found_below}
use Rattle.cip_rules.proofs.lemmas.FoundWithin.{same_difference, same_found}
use Rattle.cip_rules.proofs.lemmas.RulesGoOn.{first_decides}
use Rattle.cip_mol.specs.declared.labels.descriptor.Descriptor.{Descriptor}
use Rattle.cip_mol.specs.declared.labels.outcome.Rule.TheVariants.{R1a}
use Rattle.cip_constitution.specs.FollowedOut.{AreConstituted, AreFollowedOut, seen_with}
use Rattle.cip_constitution.specs.Following.{Follows, Trying, named}
use Rattle.cip_constitution.specs.Noting.{asked_by, by_atoms, top_of}
use Rattle.cip_constitution.proofs.lemmas.seen.AllTie.{tie_total}
use Rattle.cip_constitution.proofs.lemmas.cut.Branches.{along, few, first_path, path_at}
use Rattle.cip_constitution.proofs.lemmas.cut.Rules.{distances, keyed_2, keyed_3, masses}
use Rattle.cip_constitution.proofs.lemmas.settled.DecidingSphere.{within_height}
use Rattle.cip_constitution.proofs.lemmas.followed.Names.{named_is}
use Rattle.cip_constitution.proofs.lemmas.followed.Pairs.{asked_within}
use Rattle.cip_constitution.proofs.lemmas.seen.Distances.{EndsAt, below_ends, distance_is}
use Rattle.cip_constitution.proofs.lemmas.seen.Rules.{IsFurther, seen_1a, seen_as}

-- nodes below which there are none have no children
none_each : {N : Type 0} (below : N → List N) (nodes : List N) → flat_map below nodes ≡ []
    → AllByRecursion (λ node. below node ≡ []) nodes
none_each below [] none = tt
none_each {N} below (node ∷ nodes) none = by (none_each below nodes) (below node) none
  where
    by : (flat_map below nodes ≡ [] → AllByRecursion (λ node. below node ≡ []) nodes) → (here : List N)
        → here ++ flat_map below nodes ≡ [] → (here ≡ []) × AllByRecursion (λ node. below node ≡ []) nodes
    by others [] e = (refl, others e)
    by others (first ∷ rest) e = let bad : first ∷ (rest ++ flat_map below nodes) ≡ [] = e in cc

module _ (g : Graph) (positions : List (List ℕ)) (a : Growth) (trying : Trying)
    (out : AreFollowedOut g positions a trying) where
  abbrev branched : Branched
  branched = trying.branched

  abbrev name : ℕ → Node
  name = named g positions a.root a.bound

  abbrev next : Node → List Node
  next = view_children g positions (a.root ∷ [])

  abbrev key : Node → ℤ
  key node = pos (atomic_key g positions node)

  abbrev f : Follows g positions a.root a.bound a.sphere branched
  f = out.follows

  path : (t place : ℕ) → WantedIn branched t place → IsPath Anywhere (suc t) (node_in name branched place)
  path = path_at g positions a out.holds out.some out.fits out.last branched f

  further : (t place : ℕ) → WantedIn branched t place → IsFurther g positions a.root (node_in name branched place)
  further t place p = record { number = t; path = path t place p }

  top_further : (k : ℕ) → k < length branched.unresolved → IsFurther g positions a.root (node_in name branched k)
  top_further k lt = record {
    number = 0;
    path = let count = f.count in subst (λ n. IsPath Anywhere 1 (name n)) (sym (f.top k lt))
        (first_path g positions a out.holds out.some out.fits out.last branched f k (omega (arith, lt, count)));
  }

  same : (depth : ℕ) (m n : Node) → IsFurther g positions a.root m → IsFurther g positions a.root n
      → comparison next all_tie key depth m n ≡ comparison (children g positions) all_tie key depth m n
  same = seen_as g positions a.root all_tie all_tie key key (λ m n _ _. refl) (λ m _. refl) tie_total

  -- Rule 1a compares them as seen from the root as it does in the digraph
  decided_seen : AreDecided next all_tie key name branched
  decided_seen = record {
    ruled = record {
      inherits = f.decided.ruled.inherits;
      above = f.decided.ruled.above;
      view = record {
        within = f.decided.ruled.view.within;
        next = f.decided.ruled.view.next;
        node_data = λ t place lt p.
            subst (IsPermutation (map (node_in name branched) (kids_of branched.layers.place_tree place)))
            (sym (further_out g positions a.root t (node_in name branched place) (path t place p)))
            (f.decided.ruled.view.node_data t place lt p);
      };
      reaches = record {
        each = λ t le. record {
          each = λ x y p q. (f.decided.ruled.reaches.each t le).each x y p q
              ∙ sym (same (branched.last - t) (node_in name branched x) (node_in name branched y) (further t x p)
              (further t y q));
        };
      };
    };
    top = f.decided.top;
    only = f.decided.only;
    branch = f.decided.branch;
    node_data = λ x y lx ly. f.decided.node_data x y lx ly
        ∙ sym (same branched.last (node_in name branched x) (node_in name branched y) (top_further x lx)
        (top_further y ly));
    tie = f.decided.tie;
  }

  -- the nodes of the last sphere have no children
  bare : (n : ℕ) → first_of g positions a.root a.sphere ≤ n → n < length (digraph g positions a.root a.sphere)
      → children g positions (node_at (digraph g positions a.root a.sphere) n) ≡ []
  bare = by a.sphere out.some out.none
    where
      by : (s : ℕ) → 0 < s → sphere g positions a.root (suc s) ≡ [] → (n : ℕ) → first_of g positions a.root s ≤ n
          → n < length (digraph g positions a.root s)
          → children g positions (node_at (digraph g positions a.root s) n) ≡ []
      by zero some none n low lt = absurd (omega (arith, some))
      by (suc before) some none n low lt =
          let inner = digraph g positions a.root before in
          let outer = sphere g positions a.root (suc before) in
          let sum = digraph_length g positions a.root (suc before) in
          ap (children g positions) (get_or-append_right inner outer (length inner) n (real_at []) refl low)
          ∙ All-from_recursion (λ node. children g positions node ≡ []) outer
          (none_each (children g positions) outer none) (n - length inner) (real_at [])
          (omega (arith, low, lt, sum))

  ended_seen : IsEnded next (node_in name branched) (WantedIn branched) branched.last
  ended_seen = record {
    none = λ place p.
        let places = f.followed.places branched.unresolved in
        let n = slice_index branched.layers.place_tree.nodes place in
        let within = places.high place p.at in
        let low = f.outer place (places.low place p.at) within in
        let lt = f.keyed.each place within in
        further_out g positions a.root branched.last (node_in name branched place) (path branched.last place p)
        ∙ ap (children g positions) (named_is g positions a.root a.bound a.sphere n
        (few g positions a out.holds out.some out.fits out.last branched f) lt)
        ∙ bare n low lt;
  }

  ends_at : (t place : ℕ) → WantedIn branched t place → EndsAt a.root (node_in name branched place).path
  ends_at = along g positions a out.holds out.some out.fits out.last branched f
      (λ number node. EndsAt a.root node.path) (below_ends g positions a.root (real_node a.root []) refl)
      (λ number node h. below_ends g positions a.root node h)

  abbrev pub begin : List BranchPair
  begin = map (asked_by out.notes.branch) trying.pairs

  abbrev pub count : ℕ
  count = length branched.unresolved

  within_count : (vertex : ℕ) → out.notes.branch vertex < count
  within_count vertex = let low = out.notes.within vertex in let all = f.count in omega (arith, low, all)

  pub begin_within : AllByRecursion (AreWithin count) begin
  begin_within = asked_within g positions a.root a.bound out.notes.branch count within_count trying.pairs

  top_is : (k : ℕ) → k < count → top_of g positions a.root a.bound k ≡ node_in name branched k
  top_is k lt = ap name (sym (f.top k lt))

  module _ (rules : Rules) where
    module _ (descriptor : List ℕ → Option Descriptor) where
      abbrev seen : Seen Node
      seen = seen_with rules g positions a descriptor

      found_seen : (x y : ℕ) → x < count → y < count
          → found_below R1a (by_atoms g positions a.root a.bound) (top_of g positions a.root a.bound) a.sphere x y
          ≡ found_below R1a (rule_1a seen) (node_in name branched) (branched.last + 1) x y
      found_seen x y lx ly =
          let atoms = by_atoms g positions a.root a.bound in
          let top = top_of g positions a.root a.bound in
          let m = node_in name branched x in
          let n = node_in name branched y in
          let last = f.last in
          let depths : a.sphere ≡ branched.last + 1 = omega (arith, last) in
          let found : Node → Node → Option Decision = λ m n.
          decided R1a (first_difference (λ depth. atoms depth m n) 0 a.sphere) in
          ap (λ k. found k (top y)) (top_is x lx) ∙ ap (found m) (top_is y ly)
          ∙ ap (decided R1a) (same_difference (λ depth. atoms depth m n) (λ depth. rule_1a seen depth m n)
          (λ depth. sym (seen_1a g positions a.root rules descriptor depth m n (top_further x lx) (top_further y ly))) 0
          a.sphere)
          ∙ ap (λ more. decided R1a (first_difference (λ depth. rule_1a seen depth m n) 0 more)) depths

      high : branched.last ≤ seen.height
      high =
          let last = f.last in
          let some = out.last in
          let within = within_height rules g positions [] (end_at a.root []) out.sound out.low a.sphere
          (λ none. let bare = ap (λ (nodes : List Node). length nodes) none in omega (arith, some, bare)) in
          omega (arith, last, within)

      first_decided : AreDecidedBy seen true name (node_in name branched) count begin (R1a ∷ [])
          (rule_1a seen seen.height) branched trying.noted
      first_decided =
          first_decides seen true name (node_in name branched) count begin begin_within branched decided_seen ended_seen
          high (λ k. refl) refl trying.noted
          (out.notes.noted
          ∙ same_found (found_below R1a (by_atoms g positions a.root a.bound) (top_of g positions a.root a.bound)
          a.sphere) (found_below R1a (rule_1a seen) (node_in name branched) (branched.last + 1)) (AreWithin count)
          (λ one w. found_seen one.first one.second w.0 w.1) begin begin_within)

      distances_are : AreKeysOf name seen.distance
          (distances g positions a out.holds out.some out.fits out.last branched f rules) branched
      distances_are = record {
        each = λ t place p.
            (keyed_2 g positions a out.holds out.some out.fits out.last branched f rules).each t place p
            ∙ ap lower_precedes (sym (distance_is a.root rules (node_in name branched place) (ends_at t place p)));
      }

      masses_are : AreKeysOf name seen.mass
          (masses g positions a out.holds out.some out.fits out.last branched f rules) branched
      masses_are = keyed_3 g positions a out.holds out.some out.fits out.last branched f rules

    -- where Rules 1b and 2 were taken over them, pairs are decided by constitution
    pub constituted : (now : Branched) (new : List BranchPair) → AreFollowed now → now.layers.place_tree ≡ branched.layers.place_tree
        → ((descriptor : List ℕ → Option Descriptor)
        → AreDecidedBy (seen descriptor) true name (node_in name branched) count begin (R1a ∷ [])
        (rule_1a (seen descriptor) (seen descriptor).height) branched trying.noted
        → AreKeysOf name (seen descriptor).distance
        (distances g positions a out.holds out.some out.fits out.last branched f rules) branched
        → AreKeysOf name (seen descriptor).mass
        (masses g positions a out.holds out.some out.fits out.last branched f rules) branched
        → AreOfConstitution (seen descriptor) name (node_in name branched) count begin now new)
        → AreConstituted rules g positions a trying.pairs now new
    constituted now new followed place_tree decides = record {
      branch = out.notes.branch;
      count = count;
      within = within_count;
      stands = λ vertex node is.
          subst (λ (k : PlaceTree). name (slice_index k.nodes (out.notes.branch vertex)) ≡ node) (sym place_tree)
          (sym (top_is (out.notes.branch vertex) (within_count vertex)) ∙ out.notes.stands vertex node is);
      followed = followed;
      keyed = subst (λ (k : PlaceTree). AreKeyed (length a.nodes) k) (sym place_tree)
          (let len = out.holds.tells.len in subst (λ n. AreKeyed n branched.layers.place_tree) (sym len) f.keyed);
      few = subst (λ (k : PlaceTree). length k.place_parents < length a.nodes) (sym place_tree)
          (let len = out.holds.tells.len in let few = f.few in omega (arith, len, few));
      names = λ number lt. named_is g positions a.root a.bound a.sphere number
          (few g positions a out.holds out.some out.fits out.last branched f)
          (let len = out.holds.tells.len in omega (arith, lt, len));
      decided = λ descriptor.
          subst (λ (k : PlaceTree). AreOfConstitution (seen descriptor) name (λ place. name (slice_index k.nodes place)) count begin
          now new) (sym place_tree) (decides descriptor (first_decided descriptor) (distances_are descriptor) (masses_are descriptor));
    }
