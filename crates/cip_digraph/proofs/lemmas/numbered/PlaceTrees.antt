-- What follows for the nodes by number where a list describes a digraph: children are children, parents are parents.
use Rattle.std.proofs.Common.{◌≡◌, ◌+◌, ◌-◌, ◌<◌, ◌≤◌, ℕ, zero, suc, List, [], ◌∷◌, ◌++◌, map, length, slice_index}
use Rattle.std.proofs.Common.{refl, sym, ap, ◌∙◌, subst, arith, length-append, inl, inr}
use Rattle.std.specs.List.{AllByRecursion}
use Rattle.std.proofs.lemmas.Bool.{cases_lt}
use Rattle.std.proofs.lemmas.List.{get_or-map, length-map}
use Rattle.std.proofs.lemmas.List.Elements.{All-from_recursion}
use Rattle.cip_rank.specs.Tree.{IsTree, children_of}
use Rattle.cip_rank.proofs.lemmas.Children.{IsChild, children_are}
use Rattle.cip_digraph.specs.declared.nodes.NodeData.{NodeData}
use Rattle.cip_digraph.specs.digraph.Digraph.{Node, real_node, children, sphere, digraph}
use Rattle.cip_digraph.specs.graph.Graph.{Graph}
use Rattle.cip_digraph.specs.digraph.NodeList.{told_at, nothing_told, parents_of}
use Rattle.cip_digraph.specs.digraph.Telling.{node_at, parents_in, first_of, Tells}
use Rattle.cip_digraph.specs.digraph.View.{real_at}
use Rattle.cip_digraph.proofs.lemmas.tree.Branches.{none_below}
use Rattle.cip_digraph.proofs.lemmas.numbered.Cut.{size, none_mapped}
use Rattle.cip_digraph.proofs.lemmas.numbered.Hanging as hanging
use Rattle.cip_digraph.proofs.lemmas.numbered.Linked.{no_placed, placed_at, ChildOf, Linked, digraph_linked}
use Rattle.cip_digraph.proofs.lemmas.lists.Elements.{all_by}
use Rattle.cip_digraph.proofs.lemmas.numbered.Placing.{Placed, parents, spheres, placed, placed_nodes, placed_length}
use Rattle.cip_digraph.proofs.lemmas.numbered.Placing.{placed_parents, first_is}

map_by : {X Y : Type 0} (f g : X → Y) (P : X → Type 0) → ((x : X) → P x → f x ≡ g x) → (xs : List X)
    → AllByRecursion P xs → map f xs ≡ map g xs
map_by f g P same [] all = refl
map_by f g P same (x ∷ xs) all = rw (same x all.0, map_by f g P same xs all.1) refl

module _ (graph : Graph) (positions : List (List ℕ)) (root last : ℕ) where
  abbrev nodes : List Node
  nodes = digraph graph positions root last

  abbrev all_placed : List Placed
  all_placed = placed graph positions root last

  pub count_is : size graph positions root last ≡ length nodes
  count_is = placed_length graph positions root last

  -- a node by its number
  pub at_number : (n : ℕ) → n < length nodes → node_at nodes n ≡ hanging.node_at all_placed n
  at_number n lt =
      ap (λ ns. node_at ns n) (sym (placed_nodes graph positions root last))
      ∙ get_or-map (λ (p : Placed). p.node) all_placed n no_placed (real_at []) (omega (arith, lt, count_is))

  parent_of : (n : ℕ) → n < length nodes → slice_index (parents_in graph positions root last)
      n ≡ (placed_at all_placed n).parent
  parent_of n lt =
      ap (λ ps. slice_index ps n) (sym (placed_parents graph positions root last))
      ∙ get_or-map (λ (p : Placed). p.parent) all_placed n no_placed 0 (omega (arith, lt, count_is))

  linked : Linked root all_placed
  linked = digraph_linked graph positions root last

  -- every node but the root comes after its parent
  pub parents_behind : (n : ℕ) → 0 < n → n < length nodes → slice_index (parents_in graph positions root last) n < n
  parents_behind n some lt = rw (parent_of n lt) (linked.earlier n some (omega (arith, lt, count_is)))

  -- and is a child of it
  pub child_of_parent : (n : ℕ) → 0 < n → n < length nodes
      → ChildOf (node_at nodes (slice_index (parents_in graph positions root last) n)) (node_at nodes n)
  child_of_parent n some lt =
      let behind = parents_behind n some lt in
      let within : (placed_at all_placed n).parent < length nodes = omega (arith, parent_of n lt) in
      rw (parent_of n lt, at_number (placed_at all_placed n).parent within, at_number n lt)
      (linked.hung n some (omega (arith, lt, count_is)))

  pub root_first : node_at nodes 0 ≡ real_node root []
  root_first = at_number 0 (let some = linked.some in omega (arith, some, count_is)) ∙ ap (λ (p : Placed). p.node)
      linked.first

  pub some_nodes : 0 < length nodes
  some_nodes = let some = linked.some in omega (arith, some, count_is)

  numbers_below : (n : ℕ) → AllByRecursion (λ c. c < length nodes) (children_of (parents_in graph positions root last)
      n)
  numbers_below n = all_by (IsChild (parents_in graph positions root last) n) (λ c. c < length nodes)
      (λ c h. let below = h.below in omega (
        arith,
        below,
        sym (ap (length {A = ℕ}) (placed_parents graph positions root last)),
        length-map all_placed
            (λ (p : Placed). p.parent),
        count_is,
      ))
      (children_of (parents_in graph positions root last) n) (children_are (parents_in graph positions root last) n)

  same_map : (n : ℕ) → map (node_at nodes) (children_of (parents_in graph positions root last) n) ≡ map
      (hanging.node_at all_placed) (children_of (parents all_placed) n)
  same_map n =
      map_by (node_at nodes) (hanging.node_at all_placed) (λ c. c < length nodes) at_number
      (children_of (parents_in graph positions root last) n) (numbers_below n)
      ∙ ap (λ ps. map (hanging.node_at all_placed) (children_of ps n)) (sym (placed_parents graph positions root last))

  -- the numbers of a node's children are those of its children, but for the last sphere
  pub numbered_children : (n : ℕ) → n < first_of graph positions root last
      → map (node_at nodes) (children_of (parents_in graph positions root last) n) ≡ children graph positions
      (node_at nodes n)
  numbered_children n lt =
      let before : n < length (spheres graph positions root last).before = rw (first_is graph positions root last) lt in
      let within : n < length nodes = let len = length-append (spheres graph positions root last).before
      (spheres graph positions root last).last in omega (arith, before, len, count_is) in
      rw (at_number n within) (same_map n ∙ hanging.numbered_kids graph positions root last n before)

  nothing_hangs : (n : ℕ) → first_of graph positions root last ≤ n → map (node_at nodes)
      (children_of (parents_in graph positions root last) n) ≡ []
  nothing_hangs n le =
      same_map n ∙ hanging.by_numbers graph positions all_placed n
      ∙ hanging.last_kids graph positions root last n (subst (λ k. k ≤ n) (sym (first_is graph positions root last)) le)

  -- and those of the last sphere have none there
  pub last_childless : (n : ℕ) → first_of graph positions root last ≤ n
      → children_of (parents_in graph positions root last) n ≡ []
  last_childless n le = none_mapped (node_at nodes) (children_of (parents_in graph positions root last) n)
      (nothing_hangs n le)

module _ (graph : Graph) (positions : List (List ℕ)) (root : ℕ) where
  append_at : (xs ys : List Node) (m : ℕ) → node_at (xs ++ ys) (length xs + m) ≡ node_at ys m
  append_at [] ys m = ap (node_at ys) (omega arith)
  append_at (x ∷ xs) ys m =
      let next : length (x ∷ xs) + m ≡ suc (length xs + m) = omega arith in
      ap (node_at (x ∷ xs ++ ys)) next ∙ append_at xs ys m

  -- a node of the last sphere
  pub at_last : (last n : ℕ) → first_of graph positions root last ≤ n
      → node_at (digraph graph positions root last) n ≡ node_at (sphere graph positions root last)
      (n - first_of graph positions root last)
  at_last zero n le = let same : n ≡ n - 0 = omega arith in ap (node_at (sphere graph positions root zero)) same
  at_last (suc before) n le =
      let back : n ≡ first_of graph positions root (suc before) + (n - first_of graph positions root (suc before)) =
      omega arith in
      ap (node_at (digraph graph positions root (suc before))) back
      ∙ append_at (digraph graph positions root before) (sphere graph positions root (suc before))
      (n - first_of graph positions root (suc before))

  pub digraph_length : (last : ℕ) → length (digraph graph positions root last) ≡ first_of graph positions root
      last + length (sphere graph positions root last)
  digraph_length zero = refl
  digraph_length (suc before) = length-append (digraph graph positions root before) (sphere graph positions root
      (suc before))

  childless_behind : (last n : ℕ) → sphere graph positions root (suc last) ≡ [] → first_of graph positions root last ≤ n
      → n < length (digraph graph positions root last)
      → children graph positions (node_at (digraph graph positions root last) n) ≡ []
  childless_behind last n none le lt =
      let place = n - first_of graph positions root last in
      ap (children graph positions) (at_last last n le)
      ∙ All-from_recursion (λ node. children graph positions node ≡ []) (sphere graph positions root last)
      (none_below (children graph positions) (sphere graph positions root last) none) place (real_at [])
      (omega (arith, lt, le, digraph_length last))

  -- in a whole digraph, of every node
  pub whole_children : (last n : ℕ) → sphere graph positions root (suc last) ≡ []
      → n < length (digraph graph positions root last)
      → map (node_at (digraph graph positions root last)) (children_of (parents_in graph positions root last) n)
      ≡ children graph positions (node_at (digraph graph positions root last) n)
  whole_children last n none lt = elim (cases_lt n (first_of graph positions root last)) [
    | inl inner ↦ numbered_children graph positions root last n inner
    | inr outer ↦
        ap (map (node_at (digraph graph positions root last))) (last_childless graph positions root last n outer)
        ∙ sym (childless_behind last n none outer lt)
  ]

-- where a list describes the digraph
module _ (graph : Graph) (positions : List (List ℕ)) (root last : ℕ) (all : List NodeData) (tells : Tells graph positions
    root last all) where
  pub told_tree : IsTree (parents_of all)
  told_tree = subst IsTree (sym tells.parents) (record {
    behind = λ n some lt. parents_behind graph positions root last
        n some (omega (arith, lt, count));
  })
    where
      count : length (parents_in graph positions root last) ≡ length (digraph graph positions root last)
      count = sym (ap (length {A = ℕ}) tells.parents) ∙ length-map all (λ (t : NodeData). t.parent) ∙ tells.len

  pub told_children : (n : ℕ) → n < first_of graph positions root last
      → map (node_at (digraph graph positions root last)) (children_of (parents_of all) n) ≡ children graph positions
      (node_at (digraph graph positions root last) n)
  told_children n lt =
      ap (λ ps. map (node_at (digraph graph positions root last)) (children_of ps n)) tells.parents
      ∙ numbered_children graph positions root last n lt

  pub told_whole_children : (n : ℕ) → sphere graph positions root (suc last) ≡ [] → n < length all
      → map (node_at (digraph graph positions root last)) (children_of (parents_of all) n) ≡ children graph positions
      (node_at (digraph graph positions root last) n)
  told_whole_children n none lt =
      ap (λ ps. map (node_at (digraph graph positions root last)) (children_of ps n)) tells.parents
      ∙ whole_children graph positions root last n none (omega (arith, lt, tells.len))

  -- the parent of a known node has it as a child
  pub told_child : (n : ℕ) → 0 < n → n < length all
      → ChildOf (node_at (digraph graph positions root last) (told_at all n).parent)
      (node_at (digraph graph positions root last) n)
  told_child n some lt =
      let within : n < length (digraph graph positions root last) = omega (arith, lt, tells.len) in
      let parent : slice_index (parents_in graph positions root last) n ≡ (told_at all n).parent =
      ap (λ ps. slice_index ps n) (sym tells.parents) ∙ get_or-map (λ (t : NodeData). t.parent) all n nothing_told 0 lt in
      subst (λ p. ChildOf (node_at (digraph graph positions root last) p) (node_at (digraph graph positions root last)
      n)) parent
      (child_of_parent graph positions root last n some within)
