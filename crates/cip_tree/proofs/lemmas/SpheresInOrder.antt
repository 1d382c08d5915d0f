-- The nodes of a tree by spheres: their parents ascend and are before them, and there are no more of them than nodes.
use Rattle.std.proofs.Common.{◌≡◌, ◌<◌, ◌≤◌, ◌+◌, ℕ, zero, suc, List, [], ◌∷◌, ◌++◌, length, refl, sym, ap, subst}
use Rattle.std.proofs.Common.{arith, length-append}
use Rattle.std.specs.List.{AllByRecursion}
use Rattle.cip_digraph.proofs.lemmas.lists.Elements.{all_by, all_append}
use Rattle.cip_tree.specs.Branches.{Branches, none, more, Branch, listed, children, count, node_count}
use Rattle.cip_tree.specs.FlatTree.{Placed, hung, next_sphere, spheres, placed_to}
use Rattle.cip_tree.specs.InOrder.{AreBehind, AreInOrder}

-- all parents are below a number
abbrev UpTo : ℕ → List Placed → Type 0
UpTo most nodes = AllByRecursion (λ node. node.parent ≤ most) nodes

sooner : (number parent earlier : ℕ) (nodes : List Placed) → earlier ≤ parent → AreBehind number parent nodes
    → AreBehind number earlier nodes
sooner number parent earlier [] low behind = tt
sooner number parent earlier (node ∷ nodes) low behind = (omega (arith, low, behind.0), behind.1)

join : (number parent most : ℕ) (ones others : List Placed) → AreBehind number parent ones → UpTo most ones
    → parent ≤ most → AreBehind (number + length ones) most others → AreBehind number parent (ones ++ others)
join number parent most [] others one up low other =
    let same : number + 0 ≡ number = omega arith in
    sooner number most parent others low (subst (λ n. AreBehind n most others) same other)
join number parent most (node ∷ nodes) others one up low other =
    let same : number + length (node ∷ nodes) ≡ number + 1 + length nodes = omega arith in (
      one.0,
      (
        one.1.0,
        join (number + 1) node.parent most nodes others one.1.1 up.1 up.0
            (subst (λ n. AreBehind n most others) same other),
      ),
    )

hung_behind : (number parent here : ℕ) (branches : List Branch) → parent ≤ here → here < number
    → AreBehind number parent (hung here branches)
hung_behind number parent here [] low lt = tt
hung_behind number parent here (branch ∷ branches) low lt =
    (low, (lt, hung_behind (number + 1) here here branches (omega arith) (omega (arith, lt))))

hung_up : (most here : ℕ) (branches : List Branch) → here ≤ most → UpTo most (hung here branches)
hung_up most here [] low = tt
hung_up most here (branch ∷ branches) low = (low, hung_up most here branches low)

next_up : (most first : ℕ) (nodes : List Placed) → first + length nodes ≤ most + 1 → UpTo most (next_sphere first nodes)
next_up most first [] low = tt
next_up most first (node ∷ nodes) low =
    all_append (λ (n : Placed). n.parent ≤ most) (hung first (children node.branch)) (next_sphere (first + 1) nodes)
    (hung_up most first (children node.branch) (omega (arith, low)))
    (next_up most (first + 1) nodes (omega (arith, low)))

next_behind : (number parent first : ℕ) (nodes : List Placed) → parent ≤ first → first + length nodes ≤ number
    → AreBehind number parent (next_sphere first nodes)
next_behind number parent first [] low lt = tt
next_behind number parent first (node ∷ nodes) low lt =
    join number parent first (hung first (children node.branch)) (next_sphere (first + 1) nodes)
    (hung_behind number parent first (children node.branch) low (omega (arith, lt)))
    (hung_up first first (children node.branch) (omega arith)) low
    (next_behind (number + length (hung first (children node.branch))) first (first + 1) nodes (omega arith)
    (omega (arith, lt)))

-- the nodes after the root
abbrev behind_root : Branch → ℕ → List Placed
behind_root tree zero = []
behind_root tree (suc sphere) = behind_root tree sphere ++ (spheres tree (suc sphere)).last

module _ (tree : Branch) where
  abbrev root : Placed
  root = record { parent = 0; branch = tree }

  abbrev first : ℕ → ℕ
  first sphere = length (spheres tree sphere).before

  rooted : (sphere : ℕ) → placed_to tree sphere ≡ root ∷ behind_root tree sphere
  rooted zero = refl
  rooted (suc sphere) = ap (λ nodes. nodes ++ (spheres tree (suc sphere)).last) (rooted sphere)

  count_to : (sphere : ℕ) → length (placed_to tree sphere) ≡ first sphere + length (spheres tree sphere).last
  count_to sphere = length-append (spheres tree sphere).before (spheres tree sphere).last

  low_parents : (sphere : ℕ) → UpTo (first sphere) (behind_root tree sphere)
  low_parents zero = tt
  low_parents (suc sphere) =
      let up = spheres tree sphere in
      all_append (λ (n : Placed). n.parent ≤ first (suc sphere)) (behind_root tree sphere) (next_sphere (first sphere) up.last)
      (all_by (λ (n : Placed). n.parent ≤ first sphere) (λ (n : Placed). n.parent ≤ first (suc sphere))
      (λ node low. omega (arith, low, count_to sphere)) (behind_root tree sphere) (low_parents sphere))
      (next_up (first (suc sphere)) (first sphere) up.last (omega (arith, count_to sphere)))

  behind_in_order : (sphere : ℕ) → AreBehind 1 0 (behind_root tree sphere)
  behind_in_order zero = tt
  behind_in_order (suc sphere) =
      let up = spheres tree sphere in
      let all = ap (length {A = Placed}) (rooted sphere) in
      join 1 0 (first sphere) (behind_root tree sphere) (next_sphere (first sphere) up.last) (behind_in_order sphere)
      (low_parents sphere) (omega arith)
      (next_behind (1 + length (behind_root tree sphere)) (first sphere) (first sphere) up.last (omega arith)
      (omega (arith, all, count_to sphere)))

  pub in_order : (sphere : ℕ) → AreInOrder (placed_to tree sphere)
  in_order sphere = subst AreInOrder (sym (rooted sphere)) (refl, behind_in_order sphere)

-- how many nodes there are in branches and below them
abbrev total : List Placed → ℕ
total [] = 0
total (node ∷ nodes) = node_count node.branch + total nodes

total_append : (ones others : List Placed) → total (ones ++ others) ≡ total ones + total others
total_append [] others = omega arith
total_append (node ∷ nodes) others = omega (arith, total_append nodes others)

total_hung : (number : ℕ) (branches : Branches) → total (hung number (listed branches)) ≡ count branches
total_hung number none = refl
total_hung number (more label below others) = omega (arith, total_hung number others)

total_next : (number : ℕ) (nodes : List Placed) → total (next_sphere number nodes) + length nodes ≡ total nodes
total_next number [] = refl
total_next number (node ∷ nodes) =
    let both = total_append (hung number (children node.branch)) (next_sphere (number + 1) nodes) in
    omega (arith, both, total_hung number node.branch.below, total_next (number + 1) nodes)

some_each : (nodes : List Placed) → length nodes ≤ total nodes
some_each [] = omega arith
some_each (node ∷ nodes) = omega (arith, some_each nodes)

module _ (tree : Branch) where
  all_counted : (sphere : ℕ) → length (spheres tree sphere).before + total (spheres tree sphere).last ≡ node_count tree
  all_counted zero = omega arith
  all_counted (suc sphere) =
      let up = spheres tree sphere in
      omega (arith, all_counted sphere, length-append up.before up.last, total_next (length up.before) up.last)

  pub few_placed : (sphere : ℕ) → length (placed_to tree sphere) ≤ node_count tree
  few_placed sphere =
      let up = spheres tree sphere in
      omega (arith, all_counted sphere, some_each up.last, length-append up.before up.last)
