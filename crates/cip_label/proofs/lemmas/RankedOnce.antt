-- A root whose ligands are compared once a pair is ranked as by the order of each two.
use Rattle.std.proofs.Common.{◌≡◌, ◌<◌, ◌≤◌, ◌+◌, ◌-◌, ◌++◌, ◌||◌, ◌∷◌, [], ◌∙◌, ℕ, zero, suc, Bool, true, false, cond}
use Rattle.std.proofs.Common.{List, None, Some, length, map, nat_lt, slice_get, refl, sym, ap, arith, slice_index_or}
use Rattle.std.proofs.Common.{is_lt, Ordering, Option, append-nil}
use Rattle.std.specs.List.{AllByRecursion, list_any, range_with_len}
use Rattle.std.proofs.lemmas.Bool.Decides.{nat_tests}
use Rattle.std.proofs.lemmas.List.{length-map}
use Rattle.std.proofs.lemmas.List.Folds.{list_any-append}
use Rattle.std.proofs.lemmas.Option.{slice_get_within}
use Rattle.std.proofs.lemmas.Bool.{or_parts}
use Rattle.cip_rank.specs.Comparison.{insert_down, sorted_down}
use Rattle.cip_mol.specs.declared.site.Ligand.{Ligand}
use Rattle.cip_mol.specs.declared.site.Ligand.TheVariants.{Vertex, LonePair}
use Rattle.cip_digraph.specs.declared.decisions.decision.Decision.{Decision}
use Rattle.cip_digraph.specs.digraph.Digraph.{Node, real_node}
use Rattle.cip_digraph.specs.graph.SoundGraphs.{IsSound}
use Rattle.cip_digraph.specs.units.Ends.{end_at}
use Rattle.cip_digraph.specs.rules.Decisions.{order}
use Rattle.cip_digraph.specs.rules.Orders.{Seen}
use Rattle.cip_digraph.specs.units.Ranked.{decisions_along, decisions_behind, has_tie, is_tie, last_reason}
use Rattle.cip_digraph.specs.units.Ranked.{ligand_order, place_order, ranked_places, ranks, side_of, some_pair}
use Rattle.cip_digraph.proofs.lemmas.orders.Early.{itself}
use Rattle.cip_digraph.proofs.lemmas.ties.Turned.{tie_turned}
use Rattle.cip_digraph.specs.Sides.{each_two}
use Rattle.cip_digraph.proofs.lemmas.PairTurns.{any_mapped, pairs_mapped}
use Rattle.cip_label.specs.declared.ranked_root.Ranked.{Ranked}
use Rattle.cip_label.specs.declared.ranked_root.Ranked.TheVariants as rankeds
use Rattle.cip_label.specs.declared.root_ranker.Ranking.{Ranking}
use Rattle.cip_label.specs.declared.root_ranker.Ranking.TheVariants.{Known, Tied, Over}
use Rattle.cip_label.specs.Fitting.{IsFit}
use Rattle.cip_label.specs.Labelling.{ranked_by, ranked_root}
use Rattle.cip_label.specs.Pairwise.{between, compared, decided_along, decided_at, decided_behind, decided_each}
use Rattle.cip_label.specs.Pairwise.{is_by_rule_5, is_rule_5, pair_place, ranked_in, ranked_once, turned_each}
use Rattle.cip_label.specs.Settings.{LabelContext, seen_in}
use Rattle.cip_label.specs.BranchComparison.{RankedAs, Stands, branch, reversed, root_of}
use Rattle.cip_label.proofs.lemmas.OppositeOrders.{order_early, order_reversed}
use Rattle.cip_label.proofs.lemmas.RootsAlike.{entry, entry_at, ranked_as}

-- entries of lists
some_at : {X : Type 0} (xs : List X) (i : ℕ) → i < length xs → (x : X) × (slice_get xs i ≡ Some x)
some_at [] i low = absurd (omega (arith, low))
some_at (x ∷ xs) zero low = (x, refl)
some_at (x ∷ xs) (suc i) low = some_at xs i (omega (arith, low))

entry_of : {X : Type 0} (xs : List X) (k : ℕ) (d x : X) → slice_get xs k ≡ Some x → slice_index_or xs k d ≡ x
entry_of [] k d x e = let bad : None ≡ Some x = e in cc
entry_of (y ∷ ys) zero d x e = let same : Some y ≡ Some x = e in cc
entry_of (y ∷ ys) (suc k) d x e = entry_of ys k d x e

behind_mapped : {X Y : Type 0} (f : X → Y) (xs : List X) (others : List Y) (k n : ℕ) → n ≡ length xs + k
    → slice_get (map f xs ++ others) n ≡ slice_get others k
behind_mapped f [] others k n e = ap (slice_get others) (omega (arith, e))
behind_mapped f (x ∷ xs) others k zero e = absurd (omega (arith, e))
behind_mapped f (x ∷ xs) others k (suc n) e = behind_mapped f xs others k n (omega (arith, e))

among_mapped : {X Y : Type 0} (f : X → Y) (xs : List X) (others : List Y) (k : ℕ) (x : X) → slice_get xs k ≡ Some x
    → slice_get (map f xs ++ others) k ≡ Some (f x)
among_mapped f [] others k x e = let bad : None ≡ Some x = e in cc
among_mapped f (y ∷ ys) others zero x e = let same : Some y ≡ Some x = e in let is : y ≡ x = cc in ap (λ z. Some (f z)) is
among_mapped f (y ∷ ys) others (suc k) x e = among_mapped f ys others k x e

-- where a pair stands among each two, row by row
abbrev row_place : ℕ → ℕ → ℕ → ℕ
row_place count zero second = second - 1
row_place count (suc first) second = count - 1 + row_place (count - 1) first (second - 1)

next_row : (count first second : ℕ) → row_place (suc count) (suc first) (suc second)
    ≡ count + row_place count first second
next_row count first second =
    let fewer : suc count - 1 ≡ count = omega arith in
    let before : suc second - 1 ≡ second = omega arith in
    λ k. fewer k + row_place (fewer k) first (before k)

in_rows : {X Y : Type 0} (f : X → X → Y) (xs : List X) (i j : ℕ) (x y : X) → i < j → slice_get xs i ≡ Some x
    → slice_get xs j ≡ Some y → slice_get (each_two f xs) (row_place (length xs) i j) ≡ Some (f x y)
in_rows f [] i j x y lt at_i at_j = let bad : None ≡ Some x = at_i in cc
in_rows f (z ∷ zs) zero zero x y lt at_i at_j = absurd (omega (arith, lt))
in_rows f (z ∷ zs) zero (suc j) x y lt at_i at_j =
    let same : Some z ≡ Some x = at_i in
    let is : z ≡ x = cc in
    let before : suc j - 1 ≡ j = omega arith in
    ap (slice_get (map (f z) zs ++ each_two f zs)) before
    ∙ among_mapped (f z) zs (each_two f zs) j y at_j ∙ ap (λ one. Some (f one y)) is
in_rows f (z ∷ zs) (suc i) zero x y lt at_i at_j = absurd (omega (arith, lt))
in_rows f (z ∷ zs) (suc i) (suc j) x y lt at_i at_j =
    ap (slice_get (map (f z) zs ++ each_two f zs)) (next_row (length zs) i j)
    ∙ behind_mapped (f z) zs (each_two f zs) (row_place (length zs) i j) (length zs + row_place (length zs) i j) refl
    ∙ in_rows f zs i j x y (omega (arith, lt)) at_i at_j

place_is : (count first second : ℕ) → first < second → second < count → count ≤ 4
    → pair_place count first second ≡ row_place count first second
place_is count zero second lt low few = refl
place_is count (suc zero) second lt low few = omega (arith, lt, low)
place_is count (suc (suc zero)) second lt low few = omega (arith, lt, low)
place_is count (suc (suc (suc first))) second lt low few = absurd (omega (arith, lt, low, few))

-- the entry of a pair
pair_at : {X : Type 0} (f : X → X → Option Decision) (xs : List X) (i j : ℕ) (x y : X) → length xs ≤ 4 → i < j
    → slice_get xs i ≡ Some x → slice_get xs j ≡ Some y
    → slice_index_or (each_two f xs) (pair_place (length xs) i j) None ≡ f x y
pair_at f xs i j x y few lt at_i at_j =
    ap (λ place. slice_index_or (each_two f xs) place None)
    (place_is (length xs) i j lt (slice_get_within xs j y at_j) few)
    ∙ entry_of (each_two f xs) (row_place (length xs) i j) None (f x y) (in_rows f xs i j x y lt at_i at_j)

-- a test of what is between each two
ties_two : {X Y : Type 0} (test : Y → Bool) (f : X → X → Y) (xs : List X)
    → list_any test (each_two f xs) ≡ some_pair (λ x y. test (f x y)) xs
ties_two test f [] = refl
ties_two test f (x ∷ xs) =
    list_any-append test (map (f x) xs) (each_two f xs)
    ∙ (λ k. any_mapped (f x) test xs k || ties_two test f xs k)

-- lists that differ only where a test passes
row_alike : {X Y : Type 0} (test : Y → Bool) (f g : X → Y) (xs : List X)
    → ((j : ℕ) (y : X) → slice_get xs j ≡ Some y → test (f y) ≡ false → g y ≡ f y)
    → list_any test (map f xs) ≡ false → map g xs ≡ map f xs
row_alike test f g [] alike none = refl
row_alike test f g (x ∷ xs) alike none =
    let parts = or_parts (test (f x)) (list_any test (map f xs)) none in
    λ k. alike zero x refl parts.0 k ∷ row_alike test f g xs (λ j y at. alike (suc j) y at) parts.1 k

two_alike : {X Y : Type 0} (test : Y → Bool) (f g : X → X → Y) (xs : List X)
    → ((i j : ℕ) (x y : X) → slice_get xs i ≡ Some x → slice_get xs j ≡ Some y → test (f x y) ≡ false
    → g x y ≡ f x y) → list_any test (each_two f xs) ≡ false → each_two g xs ≡ each_two f xs
two_alike test f g [] alike none = refl
two_alike test f g (x ∷ xs) alike none =
    let parts = or_parts (list_any test (map (f x) xs)) (list_any test (each_two f xs))
    (sym (list_any-append test (map (f x) xs) (each_two f xs)) ∙ none) in
    λ k. row_alike test (f x) (g x) xs (λ j y at. alike zero (suc j) x y refl at) parts.0 k
    ++ two_alike test f g xs (λ i j x y at_i at_j. alike (suc i) (suc j) x y at_i at_j) parts.1 k

-- sorting by two comparisons that are alike on the elements
module _ {X : Type 0} (P : X → Type 0) (one other : X → X → Ordering)
    (alike : (x y : X) → P x → P y → one x y ≡ other x y) where
  put_by : (below : Bool) (x y : X) (xs : List X) → P x → P y → AllByRecursion P (insert_down other x xs)
      → AllByRecursion P xs
      → AllByRecursion P (cond below (y ∷ insert_down other x xs) (x ∷ y ∷ xs))
  put_by true x y xs p q put all = (q, put)
  put_by false x y xs p q put all = (p, (q, all))

  put_all : (x : X) (xs : List X) → P x → AllByRecursion P xs → AllByRecursion P (insert_down other x xs)
  put_all x [] p all = (p, tt)
  put_all x (y ∷ ys) p all =
      put_by (is_lt (other x y)) x y ys p all.0 (put_all x ys p all.1) all.1

  put_alike : (x : X) (xs : List X) → P x → AllByRecursion P xs → insert_down one x xs ≡ insert_down other x xs
  put_alike x [] p all = refl
  put_alike x (y ∷ ys) p all =
      ap (λ side. cond (is_lt side) (y ∷ insert_down one x ys) (x ∷ y ∷ ys)) (alike x y p all.0)
      ∙ ap (λ rest. cond (is_lt (other x y)) (y ∷ rest) (x ∷ y ∷ ys)) (put_alike x ys p all.1)

  sorted_all : (xs : List X) → AllByRecursion P xs → AllByRecursion P (sorted_down other xs)
  sorted_all [] all = tt
  sorted_all (x ∷ xs) all = put_all x (sorted_down other xs) all.0 (sorted_all xs all.1)

  sorted_alike : (xs : List X) → AllByRecursion P xs → sorted_down one xs ≡ sorted_down other xs
  sorted_alike [] all = refl
  sorted_alike (x ∷ xs) all =
      ap (insert_down one x) (sorted_alike xs all.1) ∙ put_alike x (sorted_down other xs) all.0 (sorted_all xs all.1)

range_below : (count start length : ℕ) → start + length ≤ count
    → AllByRecursion (λ place. place < count) (range_with_len start length)
range_below count start zero low = tt
range_below count start (suc more) low = (omega (arith, low), range_below count (start + 1) more (omega (arith, low)))

module _ (one : ℕ → ℕ → Option Decision) (order : ℕ → ℕ → Option Decision) (ligands : List (List ℕ)) (count : ℕ)
    (alike : (i j : ℕ) → i < count → j < count → one i j ≡ place_order order ligands i j) where
  behind_alike : (place : ℕ) (places : List ℕ) → place < count → AllByRecursion (λ place. place < count) places
      → decided_behind one place places ≡ decisions_behind order ligands place places
  behind_alike place [] low all = refl
  behind_alike place (next ∷ places) low all =
      λ k. alike place next low all.0 k ∷ behind_alike next places all.0 all.1 k

  along_alike : (places : List ℕ) → AllByRecursion (λ place. place < count) places
      → decided_along one places ≡ decisions_along order ligands places
  along_alike [] all = refl
  along_alike (place ∷ places) all = behind_alike place places all.0 all.1

tie_none : (found : Option Decision) → is_tie found ≡ true → found ≡ None
tie_none None e = refl
tie_none (Some found) e = let bad : false ≡ true = e in cc

-- what no last rule decides stays with the last one turned
turned_same : {N : Type 0} (seen : Seen N) (a b : N) (found : Option Decision) → order seen true a b ≡ found
    → is_by_rule_5 found ≡ false → order seen false a b ≡ found
turned_same seen a b None is early =
    tie_none (order seen false a b) (sym (tie_turned seen a b) ∙ ap is_tie is)
turned_same seen a b (Some found) is early =
    order_early seen a b found (λ last. let bad : true ≡ false = sym (ap is_rule_5 last) ∙ early in cc) is

pub turned_early : {N : Type 0} (seen : Seen N) (a b : N) → is_by_rule_5 (order seen true a b) ≡ false
    → order seen false a b ≡ order seen true a b
turned_early seen a b early = turned_same seen a b (order seen true a b) refl early

-- by branches of which each ties with itself, and that stand alike whichever of them is asked about first
module _ (standing : Stands) (ligands : List Ligand) (few : length ligands ≤ 4)
    (alone : (r_first : Bool) (i a : ℕ) → slice_get ligands i ≡ Some (Vertex a) → standing r_first a a ≡ None)
    (back : (r_first : Bool) (i j a b : ℕ) → slice_get ligands i ≡ Some (Vertex a)
    → slice_get ligands j ≡ Some (Vertex b) → reversed (standing r_first b a) ≡ standing r_first a b)
    (turned : (i j a b : ℕ) → slice_get ligands i ≡ Some (Vertex a) → slice_get ligands j ≡ Some (Vertex b)
    → is_by_rule_5 (standing true a b) ≡ false → standing false a b ≡ standing true a b) where
  abbrev count : ℕ
  count = length ligands

  abbrev find : Bool → Ligand → Ligand → Option Decision
  find r_first = between standing r_first

  abbrev nodes : List (List ℕ)
  nodes = map branch ligands

  itself_at : (r_first : Bool) (i : ℕ) (x : Ligand) → slice_get ligands i ≡ Some x → find r_first x x ≡ None
  itself_at r_first i LonePair at = refl
  itself_at r_first i (Vertex a) at = alone r_first i a at

  back_at : (r_first : Bool) (i j : ℕ) (x y : Ligand) → slice_get ligands i ≡ Some x → slice_get ligands j ≡ Some y
      → reversed (find r_first y x) ≡ find r_first x y
  back_at r_first i j LonePair LonePair at_i at_j = refl
  back_at r_first i j LonePair (Vertex b) at_i at_j = refl
  back_at r_first i j (Vertex a) LonePair at_i at_j = refl
  back_at r_first i j (Vertex a) (Vertex b) at_i at_j = back r_first i j a b at_i at_j

  turned_at : (i j : ℕ) (x y : Ligand) → slice_get ligands i ≡ Some x → slice_get ligands j ≡ Some y
      → is_by_rule_5 (find true x y) ≡ false → find false x y ≡ find true x y
  turned_at i j LonePair LonePair at_i at_j early = refl
  turned_at i j LonePair (Vertex b) at_i at_j early = refl
  turned_at i j (Vertex a) LonePair at_i at_j early = refl
  turned_at i j (Vertex a) (Vertex b) at_i at_j early = turned i j a b at_i at_j early

  by_places : (r_first : Bool) (i j : ℕ) (x y : Ligand) → slice_get ligands i ≡ Some x → slice_get ligands j ≡ Some y
      → decided_at count (decided_each standing r_first ligands) i j ≡ find r_first x y
  by_places r_first i j x y at_i at_j = by (nat_lt i j) (nat_lt j i) refl refl
    where
      decided : List (Option Decision)
      decided = decided_each standing r_first ligands

      less : (m n : ℕ) → nat_lt m n ≡ true → m < n
      less m n e = grind (arith, nat_tests)

      same : (m n : ℕ) → nat_lt m n ≡ false → nat_lt n m ≡ false → m ≡ n
      same m n e f = grind (arith, nat_tests)

      by : (below above : Bool) → nat_lt i j ≡ below → nat_lt j i ≡ above
          → cond below (slice_index_or decided (pair_place count i j) None)
          (cond above (reversed (slice_index_or decided (pair_place count j i) None)) None) ≡ find r_first x y
      by true above is other = pair_at (find r_first) ligands i j x y few (less i j is) at_i at_j
      by false true is other =
          ap reversed (pair_at (find r_first) ligands j i y x few (less j i other) at_j at_i)
          ∙ back_at r_first i j x y at_i at_j
      by false false is other =
          let place : i ≡ j = same i j is other in
          let one : slice_get ligands i ≡ Some y = ap (slice_get ligands) place ∙ at_j in
          let both : Some x ≡ Some y = sym at_i ∙ one in
          let ligand : x ≡ y = cc in
          sym (ap (find r_first x) (sym ligand) ∙ itself_at r_first i x at_i)

  place_of : (r_first : Bool) (i j : ℕ) (x y : Ligand) → slice_get ligands i ≡ Some x → slice_get ligands j ≡ Some y
      → place_order (standing r_first) nodes i j ≡ find r_first x y
  place_of r_first i j x y at_i at_j =
      (λ k. ligand_order (standing r_first) ((entry_at branch ligands i ∙ ap (entry branch) at_i) k)
      ((entry_at branch ligands j ∙ ap (entry branch) at_j) k))

  place_same : (r_first : Bool) (i j : ℕ) → i < count → j < count
      → decided_at count (decided_each standing r_first ligands) i j ≡ place_order (standing r_first) nodes i j
  place_same r_first i j low_i low_j =
      let one = some_at ligands i low_i in
      let other = some_at ligands j low_j in
      by_places r_first i j one.0 other.0 one.1 other.1 ∙ sym (place_of r_first i j one.0 other.0 one.1 other.1)

  all_low : AllByRecursion (λ place. place < count) (range_with_len 0 count)
  all_low = range_below count 0 count (omega arith)

  ranks_same : (r_first : Bool)
      → ranked_in count (decided_each standing r_first ligands) ≡ ranked_places (standing r_first) nodes
  ranks_same r_first =
      sorted_alike (λ place. place < count) (compared count (decided_each standing r_first ligands))
      (λ i j. side_of (place_order (standing r_first) nodes i j))
      (λ i j low_i low_j. ap side_of (place_same r_first i j low_i low_j)) (range_with_len 0 count) all_low
      ∙ ap (λ most. sorted_down (λ i j. side_of (place_order (standing r_first) nodes i j)) (range_with_len 0 most))
      (sym (length-map ligands branch))

  tie_same : list_any is_tie (decided_each standing true ligands) ≡ has_tie (root_of standing ligands)
  tie_same =
      ties_two is_tie (find true) ligands
      ∙ sym (pairs_mapped branch (λ a b. is_tie (ligand_order (standing true) a b)) ligands)

  each_turned : turned_each standing ligands ≡ decided_each standing false ligands
  each_turned = by (list_any is_by_rule_5 (decided_each standing true ligands)) refl
    where
      by : (last : Bool) → list_any is_by_rule_5 (decided_each standing true ligands) ≡ last
          → cond last (decided_each standing false ligands) (decided_each standing true ligands)
          ≡ decided_each standing false ligands
      by true is = refl
      by false is = sym (two_alike is_by_rule_5 (find true) (find false) ligands turned_at is)

  along_same : decided_along (decided_at count (decided_each standing true ligands))
      (ranked_in count (decided_each standing true ligands))
      ≡ decisions_along (standing true) nodes (ranks (root_of standing ligands))
  along_same =
      along_alike (decided_at count (decided_each standing true ligands)) (standing true) nodes count (place_same true)
      (ranked_in count (decided_each standing true ligands))
      (sorted_all (λ place. place < count) (compared count (decided_each standing true ligands))
      (compared count (decided_each standing true ligands)) (λ i j low_i low_j. refl) (range_with_len 0 count) all_low)
      ∙ ap (decisions_along (standing true) nodes) (ranks_same true)

  pub once_ranked : ranked_once standing ligands ≡ ranked_by (root_of standing ligands)
  once_ranked = λ k.
      let needed = last_reason ((along_same ∙ sym (append-nil (decisions_along (standing true) nodes
      (ranks (root_of standing ligands))))) k) in
      elim (tie_same k) as (λ _. Ranked) [
        | true ↦ rankeds.Tie
        | false ↦ rankeds.Ordered (ranks_same true k)
            ((ap (ranked_in count) each_turned ∙ ranks_same false) k) needed.rule needed.sphere
      ]

module _ (setting : LabelContext) (root : ℕ) (ligands : List Ligand) (standing : Stands) (sound : IsSound setting.graph)
    (fit : IsFit setting.graph root ligands) where
  pub once_as : (bound : ℕ) (ranking : Ranking) → ranking ≡ Known
      → RankedAs setting bound root ligands standing ranking
      → ranked_once standing ligands ≡ ranked_root setting bound (end_at root ligands)
  once_as bound Known is node_data =
      let seen = seen_in setting root in
      let node : ℕ → Node = λ vertex. real_node vertex (root ∷ []) in
      once_ranked standing ligands fit.few
      (λ r_first i a at. node_data.1.each r_first i i a a at at ∙ itself seen r_first (node a))
      (λ r_first i j a b at_i at_j. ap reversed (node_data.1.each r_first j i b a at_j at_i)
      ∙ order_reversed seen r_first (node a) (node b) ∙ sym (node_data.1.each r_first i j a b at_i at_j))
      (λ i j a b at_i at_j early. node_data.1.each false i j a b at_i at_j
      ∙ turned_early seen (node a) (node b) (sym (ap is_by_rule_5 (node_data.1.each true i j a b at_i at_j)) ∙ early)
      ∙ sym (node_data.1.each true i j a b at_i at_j))
      ∙ ranked_as setting root ligands standing sound fit bound Known is node_data
  once_as bound Tied is node_data = let bad : Tied ≡ Known = is in cc
  once_as bound Over is node_data = let bad : Over ≡ Known = is in cc
