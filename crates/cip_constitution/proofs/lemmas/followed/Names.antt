-- Nodes by number in a digraph that grows: which they are, how their parents ascend, and how far their children are.
use Rattle.std.proofs.Common.{◌≡◌, ◌<◌, ◌≤◌, ◌+◌, ◌-◌, ◌++◌, ◌∷◌, ℕ, zero, suc, pos, List, [], map, replicate, length}
use Rattle.std.proofs.Common.{slice_index, refl, sym, ap, ◌∙◌, subst, arith, inl, inr, length-append}
use Rattle.std.specs.Prelude.{flat_map}
use Rattle.std.specs.List.{AllByRecursion}
use Rattle.std.proofs.lemmas.Bool.{cases_lt}
use Rattle.std.proofs.lemmas.List.{get_or_append_left, length-map}
use Rattle.std.proofs.lemmas.List.Elements.{All-from_recursion}
use Rattle.cip_rank.specs.Ranking.{key_at}
use Rattle.cip_rank.specs.Tree.{children_of}
use Rattle.cip_rank.proofs.lemmas.Children.{IsChild, children_are}
use Rattle.cip_branches.specs.Rising.{IsAscending}
use Rattle.cip_digraph.specs.declared.nodes.NodeData.{NodeData}
use Rattle.cip_digraph.specs.digraph.Digraph.{Node, children, digraph, sphere}
use Rattle.cip_digraph.specs.digraph.NodeList.{parents_of}
use Rattle.cip_digraph.specs.digraph.Telling.{node_at, parents_below, first_of, parents_in, Tells}
use Rattle.cip_digraph.specs.digraph.View.{real_at}
use Rattle.cip_digraph.specs.graph.Graph.{Graph}
use Rattle.cip_digraph.specs.rules.Keys.{atomic_key}
use Rattle.cip_digraph.proofs.lemmas.numbered.Cut.{size, kids_far}
use Rattle.cip_digraph.proofs.lemmas.lists.Elements.{all_by, all_append, all_replicate}
use Rattle.cip_digraph.proofs.lemmas.numbered.PlaceTrees.{count_is, digraph_length, told_children}
use Rattle.cip_digraph.proofs.lemmas.numbered.Placing.{placed_parents}
use Rattle.cip_rules.proofs.lemmas.NodeKeys.{keys_at}
use Rattle.cip_constitution.specs.Following.{named}

-- numbers of which none is below one before it
abbrev Ascends : List ℕ → Type 0
Ascends [] = Unit {0}
Ascends (n ∷ ns) = AllByRecursion (λ m. n ≤ m) ns × Ascends ns

ascends_at : (ns : List ℕ) → Ascends ns → (i j : ℕ) → i ≤ j → j < length ns → slice_index ns i ≤ slice_index ns j
ascends_at [] parent_place i j le lt = absurd (omega (arith, lt))
ascends_at (n ∷ ns) parent_place zero zero le lt = omega arith
ascends_at (n ∷ ns) parent_place (suc i) zero le lt = absurd (omega (arith, le))
ascends_at (n ∷ ns) parent_place zero (suc j) le lt = All-from_recursion (λ m. n ≤ m) ns parent_place.0 j 0 (omega (arith, lt))
ascends_at (n ∷ ns) parent_place (suc i) (suc j) le lt = ascends_at ns parent_place.1 i j (omega (arith, le)) (omega (arith, lt))

-- lists that ascend, one after the other
ascends_append : (ns ms : List ℕ) (between : ℕ) → Ascends ns → Ascends ms → AllByRecursion (λ n. n ≤ between) ns
    → AllByRecursion (λ m. between ≤ m) ms → Ascends (ns ++ ms)
ascends_append [] ms between parent_place more low high = more
ascends_append (n ∷ ns) ms between parent_place more low high = (
  all_append (λ m. n ≤ m) ns ms parent_place.0 (all_by (λ m. between ≤ m) (λ m. n ≤ m) (λ m le. let first = low.0 in
      let h = le in omega (arith, h, first)) ms high),
  ascends_append ns ms between parent_place.1 more low.1 high,
)

ascends_same : (count n : ℕ) → Ascends (replicate count n)
ascends_same zero n = tt
ascends_same (suc count) n = (all_replicate (λ m. n ≤ m) count n (omega arith), ascends_same count n)

module _ (g : Graph) (positions : List (List ℕ)) where
  below_low : (number : ℕ) (nodes : List Node)
      → AllByRecursion (λ p. number ≤ p) (parents_below g positions number nodes)
  below_low number [] = tt
  below_low number (node ∷ nodes) = all_append (λ p. number ≤ p)
      (replicate (length (children g positions node)) number) (parents_below g positions (number + 1) nodes)
      (all_replicate (λ p. number ≤ p) (length (children g positions node)) number (omega arith))
      (all_by (λ p. number + 1 ≤ p) (λ p. number ≤ p) (λ p le. let h = le in omega (arith, h))
      (parents_below g positions (number + 1) nodes) (below_low (number + 1) nodes))

  below_high : (number : ℕ) (nodes : List Node)
      → AllByRecursion (λ p. p ≤ number + length nodes) (parents_below g positions number nodes)
  below_high number [] = tt
  below_high number (node ∷ nodes) = all_append (λ p. p ≤ number + length (node ∷ nodes))
      (replicate (length (children g positions node)) number) (parents_below g positions (number + 1) nodes)
      (all_replicate (λ p. p ≤ number + length (node ∷ nodes)) (length (children g positions node)) number
      (omega arith))
      (all_by (λ p. p ≤ number + 1 + length nodes) (λ p. p ≤ number + length (node ∷ nodes))
      (λ p le. let h = le in omega (arith, h))
      (parents_below g positions (number + 1) nodes) (below_high (number + 1) nodes))

  below_ascend : (number : ℕ) (nodes : List Node) → Ascends (parents_below g positions number nodes)
  below_ascend number [] = tt
  below_ascend number (node ∷ nodes) =
      ascends_append (replicate (length (children g positions node)) number)
      (parents_below g positions (number + 1) nodes) number (ascends_same (length (children g positions node)) number)
      (below_ascend (number + 1) nodes)
      (all_replicate (λ p. p ≤ number) (length (children g positions node)) number (omega arith))
      (all_by (λ p. number + 1 ≤ p) (λ p. number ≤ p) (λ p le. let h = le in omega (arith, h))
      (parents_below g positions (number + 1) nodes) (below_low (number + 1) nodes))

  module _ (root : ℕ) where
    -- no parent comes after the first node of the last sphere
    parents_high : (s : ℕ) → AllByRecursion (λ p. p ≤ first_of g positions root s) (parents_in g positions root s)
    parents_high zero = (omega arith, tt)
    parents_high (suc s) =
        let next = first_of g positions root (suc s) in
        let sum = digraph_length g positions root s in
        all_append (λ p. p ≤ next) (parents_in g positions root s)
        (parents_below g positions (first_of g positions root s) (sphere g positions root s))
        (all_by (λ p. p ≤ first_of g positions root s) (λ p. p ≤ next) (λ p le. let h = le in omega (arith, h, sum))
        (parents_in g positions root s) (parents_high s))
        (all_by (λ p. p ≤ first_of g positions root s + length (sphere g positions root s)) (λ p. p ≤ next)
        (λ p le. let h = le in omega (arith, h, sum))
        (parents_below g positions (first_of g positions root s) (sphere g positions root s))
        (below_high (first_of g positions root s) (sphere g positions root s)))

    ascend : (s : ℕ) → Ascends (parents_in g positions root s)
    ascend zero = (tt, tt)
    ascend (suc s) = ascends_append (parents_in g positions root s)
        (parents_below g positions (first_of g positions root s) (sphere g positions root s))
        (first_of g positions root s) (ascend s)
        (below_ascend (first_of g positions root s) (sphere g positions root s)) (parents_high s)
        (below_low (first_of g positions root s) (sphere g positions root s))

    none_below : (ns : List Node) → length ns ≤ 0 → length (flat_map (children g positions) ns) ≤ 0
    none_below [] le = omega arith
    none_below (n ∷ ns) le = absurd (omega (arith, le))

    -- each sphere has a node, where the last one has
    pub few_spheres : (last : ℕ) → 0 < length (sphere g positions root last)
        → last < length (digraph g positions root last)
    few_spheres zero some = omega arith
    few_spheres (suc s) some = elim (cases_lt 0 (length (sphere g positions root s))) [
      | inl before ↦ let parent_place = few_spheres s before in omega (
        arith,
        parent_place,
        some,
        length-append (digraph g positions root s)
            (sphere g positions root (suc s)),
      )
      | inr none ↦ let no_more = none_below (sphere g positions root s) none in absurd (omega (arith, no_more, some))
    ]

    pub longer : (s : ℕ) → length (digraph g positions root s) ≤ length (digraph g positions root (suc s))
    longer s = let sum = length-append (digraph g positions root s) (sphere g positions root (suc s)) in
        omega (arith, sum)

    longer_by : (more s : ℕ) → length (digraph g positions root s) ≤ length (digraph g positions root (more + s))
    longer_by zero s = let same : s ≡ zero + s = omega arith in
        subst (λ t. length (digraph g positions root s) ≤ length (digraph g positions root t)) same (omega arith)
    longer_by (suc more) s =
        let next : suc (more + s) ≡ suc more + s = omega arith in
        let before = longer_by more s in
        let one = longer (more + s) in
        subst (λ t. length (digraph g positions root s) ≤ length (digraph g positions root t)) next
        (omega (arith, before, one))

    stays_by : (more s n : ℕ) → n < length (digraph g positions root s)
        → node_at (digraph g positions root (more + s)) n ≡ node_at (digraph g positions root s) n
    stays_by zero s n lt = let same : zero + s ≡ s = omega arith in
        ap (λ t. node_at (digraph g positions root t) n) same
    stays_by (suc more) s n lt =
        let next : suc more + s ≡ suc (more + s) = omega arith in
        let le = longer_by more s in
        ap (λ t. node_at (digraph g positions root t) n) next
        ∙ get_or_append_left (digraph g positions root (more + s)) (sphere g positions root (suc (more + s)))
        (real_at []) n (omega (arith, lt, le))
        ∙ stays_by more s n lt

    -- the node of a number, whichever sphere is the last one
    pub named_is : (bound s n : ℕ) → s ≤ bound → n < length (digraph g positions root s)
        → named g positions root bound n ≡ node_at (digraph g positions root s) n
    named_is bound s n le lt =
        let sum : bound ≡ (bound - s) + s = omega (arith, le) in
        ap (λ t. node_at (digraph g positions root t) n) sum ∙ stays_by (bound - s) s n lt

    module _ (s : ℕ) (all : List NodeData) (tells : Tells g positions root s all) where
      abbrev ps : List ℕ
      ps = parents_of all

      pub long : length ps ≡ length (digraph g positions root s)
      long = length-map all (λ (t : NodeData). t.parent) ∙ tells.len

      pub ascending : IsAscending ps
      ascending = subst IsAscending (sym tells.parents) (record {
        each = ascends_at (parents_in g positions root s) (ascend s);
      })

      -- children of a node of a sphere, or of one further out, come after that sphere
      pub far_kids : (t n : ℕ) → 0 < t → first_of g positions root t ≤ n
          → AllByRecursion (λ c. length (digraph g positions root t) ≤ c) (children_of ps n)
      far_kids zero n some le = absurd (omega (arith, some))
      far_kids (suc t) n some le =
          subst (λ qs. AllByRecursion (λ c. length (digraph g positions root (suc t)) ≤ c) (children_of qs n))
          (placed_parents g positions root s ∙ sym tells.parents)
          (all_by (λ c. size g positions root (suc t) ≤ c) (λ c. length (digraph g positions root (suc t)) ≤ c)
          (λ c low. let h = low in omega (arith, h, count_is g positions root (suc t))) _
          (kids_far g positions root s t n (omega (arith, le, count_is g positions root t))))

      module _ (bound : ℕ) (fits : s ≤ bound) where
        map_by : (ns : List ℕ) → AllByRecursion (λ n. n < length ps) ns
            → map (named g positions root bound) ns ≡ map (node_at (digraph g positions root s)) ns
        map_by [] all = refl
        map_by (n ∷ ns) all =
            ap (λ x. x ∷ map (named g positions root bound) ns) (named_is bound s n fits (let lt = all.0 in
            omega (arith, lt, long)))
            ∙ ap (λ xs. node_at (digraph g positions root s) n ∷ xs) (map_by ns all.1)

        -- the children of a node before the last sphere
        pub named_children : (n : ℕ) → n < first_of g positions root s
            → map (named g positions root bound) (children_of ps n) ≡ children g positions
            (named g positions root bound n)
        named_children n lt =
            map_by (children_of ps n) (all_by (IsChild ps n) (λ c. c < length ps) (λ c is. is.below) (children_of ps n)
            (children_are ps n))
            ∙ told_children g positions root s all tells n lt
            ∙ ap (children g positions) (sym (named_is bound s n fits (let sum = digraph_length g positions root s in
            omega (arith, lt, sum))))

        pub named_key : (n : ℕ) → n < length ps → key_at (map (λ (node_data : NodeData). pos node_data.atomic) all) n
            ≡ pos (atomic_key g positions (named g positions root bound n))
        named_key n lt =
            let within : n < length all = let len = tells.len in omega (arith, lt, long, len) in
            keys_at (λ (node_data : NodeData). pos node_data.atomic) all n within
            ∙ ap (λ k. pos k) (tells.each n within).atomic
            ∙ ap (λ node. pos (atomic_key g positions node)) (sym (named_is bound s n fits (omega (arith, lt, long))))
