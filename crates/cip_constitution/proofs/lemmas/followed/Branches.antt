-- The branches of a root's children begun and followed by a sphere.
use Rattle.std.proofs.Common.{◌≡◌, ◌<◌, ◌≤◌, ◌+◌, ◌-◌, ◌++◌, ℕ, ℤ, suc, pos, true, List, map, replicate, length}
use Rattle.std.proofs.Common.{slice_index, refl, sym, ap, ◌∙◌, subst, arith, inl, inr, length-append}
use Rattle.std.specs.List.{AllByRecursion, range_with_len}
use Rattle.std.proofs.lemmas.Bool.{cases_lt}
use Rattle.std.proofs.lemmas.List.{get_or_append_left, get_or-append_right, length-map, length-replicate}
use Rattle.std.proofs.lemmas.List.Elements.{All-from_recursion}
use Rattle.std.proofs.lemmas.List.FromFn.{length-range_with_len, get_or-range_with_len}
use Rattle.cip_rank.specs.Tree.{children_of}
use Rattle.cip_branches.specs.Deciding.{Branched, AreFollowed, FlagsOpen}
use Rattle.cip_branches.specs.Following.{Begins, Follows as GoesFurther}
use Rattle.cip_partition.specs.PlaceTree.{PlaceTree}
use Rattle.cip_branches.specs.SphereColumns.{SphereColumns}
use Rattle.cip_partition.specs.Keys.{AreKeyed}
use Rattle.cip_branches.specs.Rising.{Rises}
use Rattle.cip_branches.specs.Ruled.{Names}
use Rattle.cip_branches.specs.Turning.{in_sphere}
use Rattle.cip_branches.specs.Walking.{MayWalk, kids_left, wanted_kids}
use Rattle.cip_branches.proofs.lemmas.ruled.Decided.{decided_first, decided_after}
use Rattle.cip_branches.proofs.lemmas.room.Whole.{rises_at, walked_rise, walked_far, few_walked, few_left}
use Rattle.cip_digraph.specs.declared.nodes.NodeData.{NodeData}
use Rattle.cip_digraph.specs.digraph.Digraph.{Node, children, digraph, sphere}
use Rattle.cip_digraph.specs.digraph.NodeList.{parents_of}
use Rattle.cip_digraph.specs.digraph.Telling.{Tells}
use Rattle.cip_digraph.specs.graph.Graph.{Graph}
use Rattle.cip_digraph.specs.rules.Keys.{atomic_key}
use Rattle.cip_digraph.specs.rules.Orders.{all_tie}
use Rattle.cip_digraph.proofs.lemmas.numbered.PlaceTrees.{some_nodes}
use Rattle.cip_arena.specs.Growth.{Growth, Holds}
use Rattle.cip_constitution.specs.Following.{named, Follows}
use Rattle.cip_constitution.proofs.lemmas.seen.AllTie.{tie_total}
use Rattle.cip_constitution.proofs.lemmas.followed.Names.{few_spheres, longer, long, ascending, far_kids, named_children}
use Rattle.cip_constitution.proofs.lemmas.followed.Names.{named_key}

abbrev pub atoms_of : List NodeData → List ℤ
atoms_of all = map (λ (node_data : NodeData). pos node_data.atomic) all

module _ (g : Graph) (positions : List (List ℕ)) (root bound : ℕ) where
  abbrev key : Node → ℤ
  key node = pos (atomic_key g positions node)

  abbrev name : ℕ → Node
  name = named g positions root bound

  abbrev nodes_to : ℕ → ℕ
  nodes_to s = length (digraph g positions root s)

  -- the first sphere
  module _ (all : List NodeData) (tells : Tells g positions root 1 all) (fits : 1 ≤ bound) (new : Branched)
      (tops : List ℕ) (is_tops : tops ≡ range_with_len 1 (length all - 1))
      (begins : Begins tops (atoms_of all) new.layers) (followed : AreFollowed new) (first : new.first ≡ 0)
      (last : new.last ≡ 0)
      (chosen : FlagsOpen new.layers.ranked.numbers (replicate (length tops) true) new.unresolved) where
    tops_len : length tops ≡ nodes_to 1 - 1
    tops_len =
        let len = ap (λ (ns : List ℕ). length ns) is_tops in
        let range = length-range_with_len 1 (length all - 1) in
        let node_data = tells.len in
        omega (arith, len, range, node_data)

    top_at : (k : ℕ) → k < length tops → slice_index tops k ≡ suc k
    top_at k lt =
        let next : 1 + k ≡ suc k = omega arith in
        let node_data = tells.len in
        ap (λ (ns : List ℕ). slice_index ns k) is_tops
        ∙ get_or-range_with_len 1 (length all - 1) k 0 (omega (arith, lt, tops_len, node_data)) ∙ next

    top_low : (k : ℕ) → k < length tops → slice_index tops k < nodes_to 1
    top_low k lt = let at = top_at k lt in omega (arith, at, lt, tops_len)

    node_is : (k : ℕ) → k < length new.layers.place_tree.place_parents → slice_index new.layers.place_tree.nodes k ≡ suc k
    node_is k lt =
        let count = begins.count in
        ap (λ (ns : List ℕ). slice_index ns k) begins.nodes ∙ top_at k (omega (arith, lt, count))

    count_is : length new.unresolved ≡ length tops
    count_is = chosen.len ∙ length-replicate (length tops) true

    some : 0 < nodes_to 1
    some = some_nodes g positions root 1

    pub follows_first : Follows g positions root bound 1 new
    follows_first = record {
      last = ap (λ n. suc n) last;
      followed = followed;
      decided = decided_first (children g positions) all_tie tie_total (λ a b. refl) key name new tops (atoms_of all)
          begins followed first last chosen (λ k lt. named_key g positions root 1 all tells bound fits
          (slice_index tops k) (let low = top_low k lt in omega (arith, low, long g positions root 1 all tells)));
      count = omega (arith, count_is, tops_len, some);
      top = λ k lt. node_is k (let count = begins.count in omega (arith, lt, count_is, count));
      keyed = record {
        each = λ place lt.
            let is = node_is place lt in
            let count = begins.count in
            omega (arith, is, lt, count, tops_len);
      };
      few = let count = begins.count in omega (arith, count, tops_len, some);
      outer = λ place low lt. let is = node_is place lt in omega (arith, is);
      rise = λ p q low lt high.
          let one = node_is p (omega (arith, lt, high)) in
          let two = node_is q high in
          omega (arith, one, two, lt);
    }

  -- the next sphere
  module _ (s : ℕ) (some : 0 < s) (all : List NodeData) (tells : Tells g positions root (suc s) all) (fits : suc s ≤ bound)
      (old : Branched) (was : Follows g positions root bound s old) where
    abbrev parents : List ℕ
    parents = parents_of all

    abbrev place_tree : PlaceTree
    place_tree = old.layers.place_tree

    abbrev known : ℕ
    known = length place_tree.place_parents

    abbrev more : ℕ
    more = length place_tree.nodes - old.first

    abbrev walked : List ℕ
    walked = wanted_kids (children_of parents) old.unresolved place_tree old.first more

    count : length parents ≡ nodes_to (suc s)
    count = long g positions root (suc s) all tells

    parent_place : nodes_to s ≤ nodes_to (suc s)
    parent_place = longer g positions root s

    nodes_len : length place_tree.nodes ≡ known
    nodes_len = was.followed.nodes_len

    rise : (p q : ℕ) → old.first ≤ p → p < q → q < length place_tree.nodes
        → slice_index place_tree.nodes p < slice_index place_tree.nodes q
    rise p q low lt high = was.rise p q low lt (omega (arith, high, nodes_len))

    enough : nodes_to s ≤ length parents
    enough = omega (arith, parent_place, count)

    within : old.first ≤ length place_tree.nodes
    within = let le = was.followed.within in omega (arith, le, nodes_len)

    far : (p : ℕ) → old.first ≤ p → p < length place_tree.nodes
        → AllByRecursion (λ c. nodes_to s ≤ c) (children_of parents (slice_index place_tree.nodes p))
    far p low high = far_kids g positions root (suc s) all tells s (slice_index place_tree.nodes p) some
        (was.outer p low (omega (arith, high, nodes_len)))

    -- all nodes are nodes of the tree
    pub keyed_now : AreKeyed (length parents) place_tree
    keyed_now = record { each = λ place lt. let low = was.keyed.each place lt in omega (arith, low, enough) }

    -- there is room for the next sphere
    pub room_now : known + kids_left (children_of parents) place_tree.nodes old.first (known - old.first) < length parents
    room_now =
        let few = few_left parents (ascending g positions root (suc s) all tells) old.unresolved place_tree old.first rise
        (nodes_to s) enough within far in
        let low = was.few in
        subst (λ n. known + kids_left (children_of parents) place_tree.nodes old.first (n - old.first) < length parents)
        nodes_len (omega (arith, few, low))

    may : (room : ℕ) → place_tree.room ≡ room → length parents ≤ room + 1 → suc s ≤ room
        → MayWalk (length parents) (children_of parents) old.unresolved old.first old.last old.layers
    may room is_room wide spheres =
        let now = room_now in
        let last = was.last in
        record {
          spheres = was.followed.ranked.spheres;
          count = was.followed.ranked.count;
          ends = was.followed.ranked.ends;
          places = was.followed.places old.unresolved;
          within = was.followed.within;
          nodes = λ p low high. keyed_now.each p high;
          room = omega (arith, now, wide, is_room);
          sphere_room = omega (arith, last, spheres, is_room);
        }

    names : Names (children g positions) all_tie key name old.layers old.unresolved old.last (length parents)
        (children_of parents) (atoms_of all)
    names = record {
      node_data = λ place p. named_children g positions root (suc s) all tells bound fits (slice_index place_tree.nodes place)
          (was.keyed.each place ((was.followed.places old.unresolved).high place p.at));
      same_key = named_key g positions root (suc s) all tells bound fits;
    }

    module _ (new : Branched) (room : ℕ) (is_room : place_tree.room ≡ room) (wide : length parents ≤ room + 1)
        (spheres : suc s ≤ room)
        (walks : GoesFurther old.layers old.first old.last (length parents) (children_of parents) old.unresolved
        (atoms_of all) new.layers)
        (followed : AreFollowed new) (first : new.first ≡ known) (last : new.last ≡ suc old.last)
        (chosen : FlagsOpen new.layers.ranked.numbers old.unresolved new.unresolved) where
      listed : new.layers.place_tree.nodes ≡ place_tree.nodes ++ walked
      listed =
          let w = walks.walked in
          ap (λ (k : PlaceTree). k.nodes) (walks.place_tree ∙ ap (λ (l : SphereColumns). l.place_tree) w.ended) ∙ w.walks.listed
          ∙ ap (λ n. place_tree.nodes ++ wanted_kids (children_of parents) old.unresolved place_tree old.first (n - old.first))
          (sym nodes_len)

      sum : length new.layers.place_tree.place_parents ≡ known + length walked
      sum =
          let len = ap (λ (ns : List ℕ). length ns) listed in
          let both = length-append place_tree.nodes walked in
          let now = followed.nodes_len in
          omega (arith, len, both, now, nodes_len)

      old_node : (p : ℕ) → p < known → slice_index new.layers.place_tree.nodes p ≡ slice_index place_tree.nodes p
      old_node p lt = ap (λ (ns : List ℕ). slice_index ns p) listed
          ∙ get_or_append_left place_tree.nodes walked 0 p (omega (arith, lt, nodes_len))

      new_node : (p : ℕ) → known ≤ p → slice_index new.layers.place_tree.nodes p ≡ slice_index walked (p - known)
      new_node p le = ap (λ (ns : List ℕ). slice_index ns p) listed
          ∙ get_or-append_right place_tree.nodes walked known p 0 nodes_len le

      asc_rise : Rises walked
      asc_rise = walked_rise parents (ascending g positions root (suc s) all tells) old.unresolved place_tree old.first rise more
          (omega (arith, within))

      low_node : (p : ℕ) → known ≤ p → p < length new.layers.place_tree.place_parents
          → nodes_to s ≤ slice_index new.layers.place_tree.nodes p
      low_node p le lt = subst (λ n. nodes_to s ≤ n) (sym (new_node p le))
          (All-from_recursion (λ c. nodes_to s ≤ c) walked (walked_far parents (ascending g positions root (suc s) all
          tells) old.unresolved place_tree old.first rise (nodes_to s) enough within far) (p - known) 0
          (omega (arith, lt, sum, le)))

      few : nodes_to s + length walked ≤ length parents
      few = few_walked parents (ascending g positions root (suc s) all tells) old.unresolved place_tree old.first rise (nodes_to s)
          enough within far

      top_known : (k : ℕ) → k < length old.unresolved → k < known
      top_known k lt = elim (cases_lt 0 old.last) [
        | inl further ↦
            let low = (was.followed.places old.unresolved).inner 0 k further (was.decided.top k lt) in
            let le = was.followed.within in
            omega (arith, low, le)
        | inr at ↦
            let none : 0 ≡ old.last = omega (arith, at) in
            (was.followed.places old.unresolved).high k (subst (λ t. in_sphere old.layers.ranked.rows old.layers.starts t k)
            none (was.decided.top k lt))
      ]

      key_low : (p : ℕ) → p < length new.layers.place_tree.place_parents → slice_index new.layers.place_tree.nodes p < nodes_to (suc s)
      key_low p lt = elim (cases_lt p known) [
        | inl before ↦ let is = old_node p before in let low = keyed_now.each p before in
            omega (arith, is, low, count)
        | inr behind ↦
            let w = walks.walked in
            let is = ap (λ (k : PlaceTree). slice_index k.nodes p) (walks.place_tree ∙ ap (λ (l : SphereColumns). l.place_tree) w.ended) in
            let place_parents = ap (λ (k : PlaceTree). length k.place_parents) (walks.place_tree ∙ ap (λ (l : SphereColumns). l.place_tree) w.ended) in
            let low = w.walks.new_node p behind (omega (arith, lt, place_parents)) in
            omega (arith, is, low, count)
      ]

      pub follows_next : Follows g positions root bound (suc s) new
      follows_next = record {
        last = let before = was.last in omega (arith, last, before);
        followed = followed;
        decided = decided_after (children g positions) all_tie tie_total (λ a b. refl) key name old was.decided
            (length parents)
            (children_of parents) (atoms_of all) (may room is_room wide spheres) names keyed_now new last chosen walks;
        count = let len = chosen.len in let before = was.count in omega (arith, len, before);
        top = λ k lt.
            let len = chosen.len in
            let in_old : k < length old.unresolved = omega (arith, lt, len) in
            old_node k (top_known k in_old) ∙ was.top k in_old;
        keyed = record { each = key_low };
        few = let low = was.few in omega (arith, sum, few, low, count);
        outer = λ place low lt. low_node place (omega (arith, low, first)) lt;
        rise = λ p q low lt high.
            let behind : known ≤ p = omega (arith, low, first) in
            let parent_place = rises_at walked asc_rise (p - known) (q - known) (omega (arith, behind, lt))
            (omega (arith, high, sum, behind, lt)) in
            let one = new_node p behind in
            let two = new_node q (omega (arith, behind, lt)) in
            omega (arith, parent_place, one, two);
      }

-- the same, as the code finds the sphere
module _ (g : Graph) (positions : List (List ℕ)) (a : Growth) (h : Holds g positions a)
    (last : 0 < length (sphere g positions a.root a.sphere)) (fits : length a.nodes ≤ a.bound) where
  pub few_now : a.sphere < length a.nodes
  few_now = let few = few_spheres g positions a.root a.sphere last in let len = h.tells.len in omega (arith, few, len)

  pub begins_now : a.sphere ≡ 1 → (new : Branched) (tops : List ℕ) → tops ≡ range_with_len 1 (length a.nodes - 1)
      → Begins tops (atoms_of a.nodes) new.layers → AreFollowed new → new.first ≡ 0 → new.last ≡ 0
      → FlagsOpen new.layers.ranked.numbers (replicate (length tops) true) new.unresolved
      → Follows g positions a.root a.bound a.sphere new
  begins_now one new tops is_tops begins followed first first_last chosen =
      subst (λ s. Follows g positions a.root a.bound s new) (sym one)
      (follows_first g positions a.root a.bound a.nodes (subst (λ s. Tells g positions a.root s a.nodes) one h.tells)
      (omega (arith, few_now, fits)) new tops is_tops begins followed first first_last chosen)

  module _ (further : 1 < a.sphere) (old : Branched) (was : Follows g positions a.root a.bound (a.sphere - 1) old) where
    back_is : suc (a.sphere - 1) ≡ a.sphere
    back_is = omega (arith, further)

    tells : Tells g positions a.root (suc (a.sphere - 1)) a.nodes
    tells = subst (λ s. Tells g positions a.root s a.nodes) (sym back_is) h.tells

    before : 0 < a.sphere - 1
    before = omega (arith, further)

    fitting : suc (a.sphere - 1) ≤ a.bound
    fitting = omega (arith, back_is, few_now, fits)

    parents_count : length (parents_of a.nodes) ≡ length a.nodes
    parents_count = length-map a.nodes (λ (node_data : NodeData). node_data.parent)

    pub keyed_as : AreKeyed (length (parents_of a.nodes)) old.layers.place_tree
    keyed_as = keyed_now g positions a.root a.bound (a.sphere - 1) before a.nodes tells fitting old was

    pub room_as : length old.layers.place_tree.place_parents + kids_left (children_of (parents_of a.nodes)) old.layers.place_tree.nodes
        old.first (length old.layers.place_tree.place_parents - old.first) < length a.nodes
    room_as =
        let room = room_now g positions a.root a.bound (a.sphere - 1) before a.nodes tells fitting old was in
        omega (arith, room, parents_count)

    pub follows_as : a.bound ≤ old.layers.place_tree.room + 1 → (new : Branched)
        → GoesFurther old.layers old.first old.last (length (parents_of a.nodes)) (children_of (parents_of a.nodes))
        old.unresolved (atoms_of a.nodes) new.layers
        → AreFollowed new → new.first ≡ length old.layers.place_tree.place_parents → new.last ≡ suc old.last
        → FlagsOpen new.layers.ranked.numbers old.unresolved new.unresolved → Follows g positions a.root a.bound a.sphere new
    follows_as wide new walks followed first next chosen =
        subst (λ s. Follows g positions a.root a.bound s new) back_is
        (follows_next g positions a.root a.bound (a.sphere - 1) before a.nodes tells fitting old was new
        old.layers.place_tree.room refl (omega (arith, parents_count, fits, wide))
        (omega (arith, back_is, few_now, fits, wide)) walks followed first next chosen)
