-- A branch of which no node keeps it open has ended and holds no atom of a unit.
use Rattle.std.proofs.Common.{◌≡◌, ◌<◌, ◌≤◌, ◌-◌, ◌==◌, ◌&&◌, ℕ, zero, suc, Bool, true, false, not, List, [], ◌∷◌, ◌++◌}
use Rattle.std.proofs.Common.{map, length, refl, sym, ap, ◌∙◌, subst, arith, inl, inr}
use Rattle.std.specs.Prelude.{flat_map, nat_le}
use Rattle.std.specs.List.{AllByRecursion, list_any}
use Rattle.std.proofs.lemmas.Bool.{or_cases, or_parts, or_from, or_left, or_right, and_parts, and_from, and_left}
use Rattle.std.proofs.lemmas.Bool.{and_right, le-leb, leb-true, eqb-true, not-true, cases_lt}
use Rattle.std.proofs.lemmas.List.{map-append, length-map}
use Rattle.std.proofs.lemmas.List.Folds.{list_any-append}
use Rattle.cip_rank.specs.Tree.{children_of}
use Rattle.cip_rank.specs.declared.rules.Rules.{Rules}
use Rattle.cip_mol.specs.declared.site.Unit as units
use Rattle.cip_digraph.specs.rings.Alternating.{is_in}
use Rattle.cip_digraph.specs.outcome.Deciding.{is_empty, nodes_below, nodes_within}
use Rattle.cip_digraph.specs.digraph.Digraph.{Node, children, digraph}
use Rattle.cip_digraph.specs.graph.Graph.{Graph}
use Rattle.cip_digraph.specs.declared.nodes.NodeData.{NodeData}
use Rattle.cip_digraph.specs.digraph.NodeList.{parents_of}
use Rattle.cip_digraph.specs.outcome.Outcomes.{is_in_unit}
use Rattle.cip_digraph.specs.digraph.SameBranch.{EndsWithin}
use Rattle.cip_digraph.specs.digraph.Telling.{node_at, first_of}
use Rattle.cip_digraph.specs.digraph.View.{view_children}
use Rattle.cip_digraph.proofs.lemmas.tree.Branches.{further_out}
use Rattle.cip_digraph.proofs.lemmas.numbered.Cut.{size, size_le, kids_near}
use Rattle.cip_constitution.proofs.lemmas.cut.Ends.{low_kids, cut_ends}
use Rattle.cip_digraph.proofs.lemmas.lists.Elements.{all_by, all_append, all_flat, all_mapped}
use Rattle.cip_digraph.proofs.lemmas.numbered.PlaceTrees.{told_children, told_tree}
use Rattle.cip_digraph.proofs.lemmas.numbered.Placing.{placed, parents, placed_parents, placed_length}
use Rattle.cip_constitution.proofs.lemmas.seen.Rules.{IsFurther, below_further}
use Rattle.cip_digraph.proofs.lemmas.ties.Settled.{none_left, ended_behind}
use Rattle.cip_digraph.proofs.lemmas.lists.Elements.{all_both}
use Rattle.cip_arena.specs.Growth.{Growth, Holds}
use Rattle.cip_constitution.specs.Closing.{is_under, keeps_open}
use Rattle.cip_constitution.proofs.lemmas.closed.Under.{IsBelow, below_under, under_reached, ended_none, member}

none_any : {X : Type 0} (test : X → Bool) (xs : List X) → AllByRecursion (λ x. test x ≡ false) xs
    → list_any test xs ≡ false
none_any test [] all = refl
none_any test (x ∷ xs) all = or_from (test x) (list_any test xs) all.0 (none_any test xs all.1)

within_all : {N : Type 0} (below : N → List N) (P : N → Type 0) (ns : List N) → (s : ℕ)
    → ((k : ℕ) → k < s → AllByRecursion P (nodes_below below k ns)) → AllByRecursion P (nodes_within below s ns)
within_all below P ns zero h = tt
within_all below P ns (suc s) h = all_append P (nodes_within below s ns) (nodes_below below s ns)
    (within_all below P ns s (λ k lt. h k (omega (arith, lt)))) (h s (omega arith))

flat_same : {X Y : Type 0} (f g : X → List Y) (xs : List X) → AllByRecursion (λ x. f x ≡ g x) xs
    → flat_map f xs ≡ flat_map g xs
flat_same f g [] all = refl
flat_same f g (x ∷ xs) all = ap (λ ys. ys ++ flat_map f xs) all.0 ∙ ap (λ ys. g x ++ ys) (flat_same f g xs all.1)

map_flat : {X Y : Type 0} (f : X → Y) (g : X → List X) (h : Y → List Y) (xs : List X)
    → AllByRecursion (λ x. map f (g x) ≡ h (f x)) xs → map f (flat_map g xs) ≡ flat_map h (map f xs)
map_flat f g h [] all = refl
map_flat f g h (x ∷ xs) all = map-append f (g x) (flat_map g xs) ∙ ap (λ ys. ys ++ map f (flat_map g xs)) all.0
    ∙ ap (λ ys. h (f x) ++ ys) (map_flat f g h xs all.1)

any_in : {Y : Type 0} (f : ℕ → Y) (test : Y → Bool) (xs : List ℕ) (m : ℕ) → is_in m xs ≡ true → test (f m) ≡ true
    → list_any test (map f xs) ≡ true
any_in f test [] m e h = let bad : false ≡ true = e in cc
any_in f test (x ∷ xs) m e h = elim (or_cases (x == m) (is_in m xs) e) [
  | inl here ↦ or_left (test (f x)) (list_any test (map f xs)) (subst (λ k. test (f k) ≡ true) (sym (eqb-true x m here))
      h)
  | inr later ↦ or_right (test (f x)) (list_any test (map f xs)) (any_in f test xs m later h)
]

not_empty : {X : Type 0} (xs ys : List X) → is_empty xs ≡ false → is_empty (xs ++ ys) ≡ false
not_empty [] ys e = let bad : true ≡ false = e in cc
not_empty (x ∷ xs) ys e = refl

not_empty_behind : {X : Type 0} (xs ys : List X) → is_empty ys ≡ false → is_empty (xs ++ ys) ≡ false
not_empty_behind [] ys e = e
not_empty_behind (x ∷ xs) ys e = refl

some_flat : {Y : Type 0} (f : ℕ → Y) (h : Y → List Y) (xs : List ℕ) (m : ℕ) → is_in m xs ≡ true
    → is_empty (h (f m)) ≡ false → is_empty (flat_map h (map f xs)) ≡ false
some_flat f h [] m e k = let bad : false ≡ true = e in cc
some_flat f h (x ∷ xs) m e k = elim (or_cases (x == m) (is_in m xs) e) [
  | inl here ↦ not_empty (h (f x)) (flat_map h (map f xs)) (subst (λ i. is_empty (h (f i)) ≡ false)
      (sym (eqb-true x m here)) k)
  | inr later ↦ not_empty_behind (h (f x)) (flat_map h (map f xs)) (some_flat f h xs m later k)
]

none_flat : {X Y : Type 0} (h : X → List Y) (xs : List X) → AllByRecursion (λ x. h x ≡ []) xs → flat_map h xs ≡ []
none_flat h [] all = refl
none_flat h (x ∷ xs) all = ap (λ ys. ys ++ flat_map h xs) all.0 ∙ none_flat h xs all.1

in_within : {N : Type 0} (below : N → List N) (test : N → Bool) (ns : List N) (s k : ℕ) → k < s
    → list_any test (nodes_below below k ns) ≡ true → list_any test (nodes_within below s ns) ≡ true
in_within below test ns zero k lt e = absurd (omega (arith, lt))
in_within below test ns (suc s) k lt e =
    list_any-append test (nodes_within below s ns) (nodes_below below s ns)
    ∙ elim (cases_lt k s) [
      | inl inner ↦ or_left (list_any test (nodes_within below s ns)) (list_any test (nodes_below below s ns))
          (in_within below test ns s k inner e)
      | inr last ↦
          let same : k ≡ s = omega (arith, lt, last) in
          or_right (list_any test (nodes_within below s ns)) (list_any test (nodes_below below s ns))
          (subst (λ j. list_any test (nodes_below below j ns) ≡ true) same e)
    ]

module _ (rules : Rules) (g : Graph) (positions : List (List ℕ)) (all : List units.Unit) (a : Growth)
    (h : Holds g positions a) (some : 0 < a.sphere)
    (n : ℕ) (low : 1 ≤ n) (high : n < size g positions a.root 1) (within : n < length a.nodes)
    (further : IsFurther g positions a.root (node_at (digraph g positions a.root a.sphere) n)) where
  abbrev ps : List ℕ
  ps = parents_of a.nodes

  abbrev f : ℕ → Node
  f = node_at (digraph g positions a.root a.sphere)

  abbrev kids : ℕ → List ℕ
  kids = children_of ps

  abbrev in_unit : Node → Bool
  in_unit = is_in_unit rules g positions all

  is_placed : parents (placed g positions a.root a.sphere) ≡ ps
  is_placed = placed_parents g positions a.root a.sphere ∙ sym h.tells.parents

  long : length ps ≡ length a.nodes
  long = length-map a.nodes (λ (t : NodeData). t.parent)

  abbrev InRange : ℕ → ℕ → Type 0
  InRange k m = (size g positions a.root k ≤ m) × (m < size g positions a.root (suc k))

  depth_range : (k : ℕ) → suc k ≤ a.sphere → AllByRecursion (InRange k) (nodes_below kids k (n ∷ []))
  depth_range zero le = ((omega (arith, low), high), tt)
  depth_range (suc k) le =
      all_flat (InRange k) (InRange (suc k)) kids (λ m r.
      subst (λ qs. AllByRecursion (InRange (suc k)) (children_of qs m)) is_placed
      (all_both (λ c. size g positions a.root (suc k) ≤ c) (λ c. c < size g positions a.root (suc (suc k)))
      (children_of (parents (placed g positions a.root a.sphere)) m)
      (low_kids g positions a.root a.sphere k m (omega (arith, le)) r.0)
      (kids_near g positions a.root a.sphere (suc k) m r.1)))
      (nodes_below kids k (n ∷ [])) (depth_range k (omega (arith, le)))

  first_size : (k : ℕ) → suc (suc k) ≤ a.sphere → size g positions a.root (suc k) ≤ first_of g positions a.root a.sphere
  first_size k le = by a.sphere le
    where
      by : (s : ℕ) → suc (suc k) ≤ s → size g positions a.root (suc k) ≤ first_of g positions a.root s
      by zero le = absurd (omega (arith, le))
      by (suc b) le = let parent_place = size_le g positions a.root (suc k) b (omega (arith, le)) in
          omega (arith, parent_place, placed_length g positions a.root b)

  mapped : (k : ℕ) → suc k ≤ a.sphere → map f (nodes_below kids k (n ∷ [])) ≡ nodes_below (children g positions) k
      (f n ∷ [])
  mapped zero le = refl
  mapped (suc k) le =
      map_flat f kids (children g positions) (nodes_below kids k (n ∷ []))
      (all_by (InRange k) (λ m. map f (kids m) ≡ children g positions (f m)) (λ m r.
      told_children g positions a.root a.sphere a.nodes h.tells m (let lt = r.1 in omega (arith, lt, first_size k le)))
      (nodes_below kids k (n ∷ [])) (depth_range k (omega (arith, le))))
      ∙ ap (flat_map (children g positions)) (mapped k (omega (arith, le)))

  further_below : (k : ℕ) → AllByRecursion (IsFurther g positions a.root) (nodes_below (children g positions) k
      (f n ∷ []))
  further_below zero = (further, tt)
  further_below (suc k) =
      all_flat (IsFurther g positions a.root) (IsFurther g positions a.root) (children g positions)
      (λ x p. below_further g positions a.root x p)
      (nodes_below (children g positions) k (f n ∷ [])) (further_below k)

  abbrev view : Node → List Node
  view = view_children g positions (a.root ∷ [])

  pub seen_below : (k : ℕ) → nodes_below view k (f n ∷ []) ≡ nodes_below (children g positions) k (f n ∷ [])
  seen_below zero = refl
  seen_below (suc k) =
      ap (flat_map view) (seen_below k)
      ∙ flat_same view (children g positions) (nodes_below (children g positions) k (f n ∷ []))
      (all_by (IsFurther g positions a.root) (λ x. view x ≡ children g positions x) (λ x p. further_out g positions
      a.root p.number x p.path)
      (nodes_below (children g positions) k (f n ∷ [])) (further_below k))

  seen_within : (t : ℕ) → t ≤ a.sphere → nodes_within view t (f n ∷ []) ≡ map f (nodes_within kids t (n ∷ []))
  seen_within zero le = refl
  seen_within (suc t) le =
      ap (λ xs. xs ++ nodes_below view t (f n ∷ [])) (seen_within t (omega (arith, le)))
      ∙ ap (λ xs. map f (nodes_within kids t (n ∷ [])) ++ xs) (seen_below t ∙ sym (mapped t (omega (arith, le))))
      ∙ sym (map-append f (nodes_within kids t (n ∷ [])) (nodes_below kids t (n ∷ [])))

  abbrev last : ℕ
  last = a.sphere - 1

  at_last : suc last ≡ a.sphere
  at_last = omega (arith, some)

  -- the nodes beyond the last sphere
  beyond : nodes_below view a.sphere (f n ∷ []) ≡ flat_map (children g positions)
      (map f (nodes_below kids last (n ∷ [])))
  beyond =
      seen_below a.sphere ∙ ap (λ s. nodes_below (children g positions) s (f n ∷ [])) (sym at_last)
      ∙ ap (flat_map (children g positions)) (sym (mapped last (omega (arith, at_last))))

  abbrev ended : Bool
  ended = is_empty (nodes_below view a.sphere (f n ∷ []))

  abbrev holds : Bool
  holds = list_any in_unit (nodes_within view a.sphere (f n ∷ []))

  first_last : a.first ≡ size g positions a.root last
  first_last = h.first ∙ by a.sphere some ∙ sym (placed_length g positions a.root last)
    where
      by : (s : ℕ) → 0 < s → first_of g positions a.root s ≡ length (digraph g positions a.root (s - 1))
      by zero lt = absurd (omega (arith, lt))
      by (suc b) lt = let back : b ≡ suc b - 1 = omega arith in ap (λ k. length (digraph g positions a.root k)) back

  abbrev test : ℕ → Bool
  test = keeps_open rules g positions all a

  no_children : (m : ℕ) → a.first ≤ m → (nat_le a.first m && not (is_empty (children g positions (f m)))) ≡ false
      → children g positions (f m) ≡ []
  no_children m le e = by (is_empty (children g positions (f m))) refl
    where
      by : (b : Bool) → is_empty (children g positions (f m)) ≡ b → children g positions (f m) ≡ []
      by true is = none_left (children g positions (f m)) is
      by false is =
          let bad : true ≡ false = sym (and_from (nat_le a.first m) (not (is_empty (children g positions (f m))))
          (le-leb a.first m le) (ap not is)) ∙ e in
          cc

  pub closed_true : ((m : ℕ) → m < length a.nodes → is_under ps n m ≡ true → test m ≡ false)
      → (ended ≡ true) × (holds ≡ false)
  closed_true none =
      let tree = told_tree g positions a.root a.sphere a.nodes h.tells in
      let below : (k : ℕ) → AllByRecursion (λ m. test m ≡ false) (nodes_below kids k (n ∷ [])) =
      λ k. all_by (IsBelow ps tree n) (λ m. test m ≡ false) (λ m b. none m (let lt = b.1 in omega (arith, lt, long))
      b.0) (nodes_below kids k (n ∷ [])) (below_under ps tree n (omega (arith, within, long)) k) in (
        ap is_empty (beyond ∙ none_flat (children g positions) (map f (nodes_below kids last (n ∷ [])))
            (all_mapped (λ x. children g positions x ≡ []) f (nodes_below kids last (n ∷ []))
            (all_by (λ m. InRange last m × (test m ≡ false)) (λ m. children g positions (f m) ≡ [])
            (λ m p. no_children m (let le = p.0.0 in omega (arith, le, first_last))
            (or_parts (in_unit (f m)) (nat_le a.first m && not (is_empty (children g positions (f m)))) p.1).1)
            (nodes_below kids last (n ∷ []))
            (all_both (InRange last) (λ m. test m ≡ false) (nodes_below kids last (n ∷ []))
            (depth_range last (omega (arith, at_last))) (below last))))),
        ap (list_any in_unit) (seen_within a.sphere (omega arith))
            ∙ none_any in_unit (map f (nodes_within kids a.sphere (n ∷ [])))
            (all_mapped (λ x. in_unit x ≡ false) f (nodes_within kids a.sphere (n ∷ []))
            (all_by (λ m. test m ≡ false) (λ m. in_unit (f m) ≡ false)
            (λ m e. (or_parts (in_unit (f m)) (nat_le a.first m && not (is_empty (children g positions (f m))))
            e).0)
            (nodes_within kids a.sphere (n ∷ [])) (within_all kids (λ m. test m ≡ false) (n ∷ []) a.sphere
            (λ k lt. below k)))),
      )

  cut_none : nodes_below kids a.sphere (n ∷ []) ≡ []
  cut_none =
      ap (λ s. nodes_below kids s (n ∷ [])) (sym at_last)
      ∙ ended_none kids last n (subst (λ qs. EndsWithin (children_of qs) last n) is_placed
      (cut_ends g positions a.root a.sphere last n (omega (arith, at_last))
      (by (a.sphere - suc last) (omega (arith, at_last)))))
    where
      by : (k : ℕ) → k ≡ 0 → size g positions a.root k ≤ n
      by k e = subst (λ j. size g positions a.root j ≤ n) (sym e) (omega (arith, low))

  -- a node below is n spheres below, of those that there are
  reached : (m : ℕ) → m < length a.nodes → is_under ps n m ≡ true
      → (k : ℕ) × ((k < a.sphere) × (is_in m (nodes_below kids k (n ∷ [])) ≡ true))
  reached m lt under =
      let tree = told_tree g positions a.root a.sphere a.nodes h.tells in
      let found = under_reached ps tree n m (omega (arith, lt, long)) under in
      let inner : found.0 < a.sphere = elim (cases_lt found.0 a.sphere) [
        | inl yes_inner ↦ yes_inner
        | inr out ↦
            let bad : false ≡ true = sym (ap (is_in m) (ended_behind kids a.sphere found.0 (n ∷ []) cut_none out))
            ∙ found.1 in
            absurd (no_bool bad)
      ] in
      (found.0, (inner, found.1))
    where
      no_bool : false ≡ true → ⊥
      no_bool e = cc

  last_depth : (k m : ℕ) → k < a.sphere → a.first ≤ m → InRange k m → k ≡ last
  last_depth k m lt le range = elim (cases_lt k last) [
    | inl lower ↦
        let parent_place = size_le g positions a.root (suc k) last (omega (arith, lower)) in
        let under = range.1 in
        absurd (omega (arith, parent_place, under, le, first_last))
    | inr at ↦ omega (arith, lt, at, at_last)
  ]

  -- a node of the last sphere, below, with children: the branch goes on
  goes_on : (m : ℕ) → m < length a.nodes → is_under ps n m ≡ true → a.first ≤ m
      → is_empty (children g positions (f m)) ≡ false → ended ≡ false
  goes_on m lt under high_first some_child =
      let found = reached m lt under in
      let inner = found.1.0 in
      let range = member (InRange found.0) (nodes_below kids found.0 (n ∷ [])) m
      (depth_range found.0 (omega (arith, inner))) found.1.1 in
      let same : found.0 ≡ last = last_depth found.0 m inner high_first range in
      ap is_empty beyond
      ∙ some_flat f (children g positions) (nodes_below kids last (n ∷ [])) m
      (subst (λ k. is_in m (nodes_below kids k (n ∷ [])) ≡ true) same found.1.1) some_child

  pub closed_false : (m : ℕ) → m < length a.nodes → is_under ps n m ≡ true → test m ≡ true
      → (ended && not holds) ≡ false
  closed_false m lt under next_unresolved =
      elim (or_cases (in_unit (f m)) (nat_le a.first m && not (is_empty (children g positions (f m)))) next_unresolved) [
        | inl unit ↦
            let found = reached m lt under in
            and_right ended (not holds) (ap not
            (ap (list_any in_unit) (seen_within a.sphere (omega arith))
            ∙ any_in f in_unit (nodes_within kids a.sphere (n ∷ [])) m
            (in_within kids (λ other. other == m) (n ∷ []) a.sphere found.0 found.1.0 found.1.1) unit))
        | inr outer ↦
            let t = and_parts (nat_le a.first m) (not (is_empty (children g positions (f m)))) outer in
            and_left ended (not holds)
            (goes_on m lt under (leb-true a.first m t.0) (not-true (is_empty (children g positions (f m))) t.1))
      ]
