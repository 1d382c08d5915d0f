-- The sphere in which the ligands of a root are settled, and what the spheres up to it cost. Own: labels rest on the
-- whole digraph, and this says how much of it has to be looked at.
use Rattle.std.specs.Prelude.{ℕ, zero, suc, ◌+◌, ◌-◌, ◌&&◌, ◌||◌, Bool, true, false, not, List, [], ◌∷◌, ◌++◌, flat_map}
use Rattle.std.specs.List.{list_any}
use Rattle.std.specs.Ordering.{is_eq}
use Rattle.std.specs.Cmp.Lexicographic.{slice_cmp}
use Rattle.cip_digraph.specs.rules.Orders.{Seen, rule_1a, rule_2}
use Rattle.cip_digraph.specs.units.Ranked.{every_pair, some_pair}

abbrev pub is_empty : {X : Type 0} → List X → Bool
is_empty [] = true
is_empty (x ∷ xs) = false

-- the nodes n spheres below some nodes
abbrev pub nodes_below : {N : Type 0} → (N → List N) → ℕ → List N → List N
nodes_below children zero nodes = nodes
nodes_below children (suc spheres) nodes = flat_map children (nodes_below children spheres nodes)

-- the nodes less than n spheres below
abbrev pub nodes_within : {N : Type 0} → (N → List N) → ℕ → List N → List N
nodes_within children zero nodes = []
nodes_within children (suc spheres) nodes = nodes_within children spheres nodes ++ nodes_below children spheres nodes

-- the least number from one on, of n, that passes a test, and the one after them where none does
abbrev pub least_from : (ℕ → Bool) → ℕ → ℕ → ℕ
least_from test number zero = number
least_from test number (suc more) =
    let later = least_from test (number + 1) more in
    elim (test number) as (λ _. ℕ) [ true ↦ number | false ↦ later ]

-- ligands as lists of at most one node, so that a lone pair is below every node
module _ {N : Type 0} (seen : Seen N) (root : N) (ligands : List (List N)) (is_in_unit : N → Bool) where
  -- every two ligands differ by Rule 1a within a sphere
  abbrev pub all_differ : ℕ → Bool
  all_differ sphere = every_pair (λ a b. not (is_eq (slice_cmp (rule_1a seen (sphere - 1)) a b))) ligands

  abbrev pub ends_with_sphere : ℕ → List N → Bool
  ends_with_sphere sphere ligand = is_empty (nodes_below seen.children sphere ligand)

  abbrev pub holds_unit : ℕ → List N → Bool
  holds_unit sphere ligand = list_any is_in_unit (nodes_within seen.children sphere ligand)

  -- two ligands have no node beyond a sphere, tie by Rules 1a, 1b and 2, and hold no atom of a unit
  abbrev pub are_alike : ℕ → List N → List N → Bool
  are_alike sphere a b =
      let ended = ends_with_sphere sphere a && ends_with_sphere sphere b in
      let alike =
      is_eq (slice_cmp (rule_2 seen seen.height) a b) && not (holds_unit sphere a || holds_unit sphere b) in
      elim ended as (λ _. Bool) [ true ↦ alike | false ↦ false ]

  -- the digraph has no node beyond a sphere
  abbrev pub is_whole : ℕ → Bool
  is_whole sphere = is_empty (nodes_below seen.children (sphere + 1) (root ∷ []))

  abbrev pub is_settled : ℕ → Bool
  is_settled sphere = all_differ sphere || some_pair (are_alike sphere) ligands || is_whole sphere

  -- the least sphere from the first on that settles, and 0 where the root stands alone
  abbrev pub deciding_sphere : ℕ
  deciding_sphere =
      let least = least_from is_settled 1 seen.height in
      elim (seen.children root) as (λ _. ℕ) [ [] ↦ 0 | node ∷ nodes ↦ least ]
