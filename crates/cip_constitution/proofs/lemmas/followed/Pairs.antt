-- Pairs of a root's ligands by their branches, and what the numbers of these say sphere by sphere.
use Rattle.std.proofs.Common.{◌≡◌, ◌<◌, ◌≤◌, ◌+◌, ◌-◌, ◌∷◌, ◌++◌, ℕ, suc, List, [], drop, map, flat_map, length, None}
use Rattle.std.proofs.Common.{Some, slice_index, take, sym, ap, ◌∙◌, subst, arith, length-append}
use Rattle.std.proofs.lemmas.List.{take_rest}
use Rattle.std.specs.Prelude.{unwrap_or, slice_index_or}
use Rattle.std.specs.declared.option.Option.{Option}
use Rattle.std.specs.List.{AllByRecursion}
use Rattle.cip_rank.specs.Ranking.{by_number}
use Rattle.cip_mol.specs.declared.labels.outcome.Rule.TheVariants.{R1a}
use Rattle.cip_mol.specs.declared.site.Ligand.{Ligand}
use Rattle.cip_mol.specs.declared.site.Ligand.TheVariants.{Vertex, LonePair}
use Rattle.cip_branches.specs.Deciding.{Branched}
use Rattle.cip_digraph.specs.digraph.Digraph.{Node, real_node, digraph, sphere}
use Rattle.cip_digraph.specs.digraph.Telling.{node_at}
use Rattle.cip_digraph.specs.digraph.View.{view_children}
use Rattle.cip_digraph.specs.graph.Graph.{Graph}
use Rattle.cip_digraph.specs.graph.SoundGraphs.{IsSound}
use Rattle.cip_digraph.specs.rules.Auxiliary.{ligand_node}
use Rattle.cip_digraph.proofs.lemmas.numbered.PlaceTrees.{count_is}
use Rattle.cip_arena.specs.Growth.{Growth, Holds}
use Rattle.cip_digraph.specs.declared.decisions.branch_pair.BranchPair.{BranchPair}
use Rattle.cip_digraph.specs.Asking.{AreWithin, with_found, found_between}
use Rattle.cip_rules.specs.Orders.{found_below}
use Rattle.cip_rules.proofs.lemmas.FoundRules.{noted_next}
use Rattle.cip_rules.proofs.lemmas.FoundWithin.{nothing_found}
use Rattle.cip_constitution.specs.Following.{named, Follows}
use Rattle.cip_constitution.specs.Noting.{branch_at, asked_by, by_atoms, top_of, Notes}
use Rattle.cip_constitution.specs.Pairs.{pair_with, pairs_at, pairs_of}
use Rattle.cip_constitution.specs.Standing.{ligand_number}
use Rattle.cip_constitution.specs.declared.pairs.VertexPair.{VertexPair}
use Rattle.cip_constitution.proofs.lemmas.node_data.Differ.{LigandAt, ligand_at}
use Rattle.cip_constitution.proofs.lemmas.followed.Names.{few_spheres, named_is}

-- n ligands have at most n pairs
with_few : (a : ℕ) (ligand : Ligand) → length (pair_with a ligand) ≤ 1
with_few a LonePair = omega arith
with_few a (Vertex b) = grind arith

each_few : (a : ℕ) (ligands : List Ligand) → length (flat_map (pair_with a) ligands) ≤ length ligands
each_few a [] = omega arith
each_few a (ligand ∷ ligands) =
    let sum = length-append (pair_with a ligand) (flat_map (pair_with a) ligands) in
    omega (arith, sum, with_few a ligand, each_few a ligands)

at_few : (ligands : List Ligand) (one : Ligand) → length (pairs_at ligands one) ≤ length ligands
at_few ligands LonePair = omega arith
at_few ligands (Vertex a) = each_few a ligands

one_more : (one : Ligand) (ligands : List Ligand)
    → length (pairs_of (one ∷ ligands)) ≤ length ligands + length (pairs_of ligands)
one_more one ligands =
    let sum = length-append (pairs_at ligands one) (pairs_of ligands) in
    omega (arith, sum, at_few ligands one)

pub few_pairs : (ligands : List Ligand) → length ligands ≤ 4 → length (pairs_of ligands) ≤ 6
few_pairs [] few = omega arith
few_pairs (a ∷ []) few = omega (arith, one_more a [])
few_pairs (a ∷ b ∷ []) few = omega (arith, one_more a (b ∷ []), one_more b [])
few_pairs (a ∷ b ∷ c ∷ []) few =
    omega (arith, one_more a (b ∷ c ∷ []), one_more b (c ∷ []), one_more c [])
few_pairs (a ∷ b ∷ c ∷ d ∷ []) few =
    omega (arith, one_more a (b ∷ c ∷ d ∷ []), one_more b (c ∷ d ∷ []), one_more c (d ∷ []), one_more d [])
few_pairs (a ∷ b ∷ c ∷ d ∷ e ∷ others) few = absurd (omega (arith, few))

-- room for what is still to come
room_left : {X : Type 0} (done next rest all : List X) (room : ℕ) → done ++ (next ++ rest) ≡ all
    → length all ≤ room → length done + length next ≤ room
room_left done next rest all room is few =
    let len = ap (λ (xs : List _). length xs) is in
    let outer = length-append done (next ++ rest) in
    let inner = length-append next rest in
    omega (arith, len, outer, inner, few)

pub first_room : {X : Type 0} (f : Ligand → List X) (rest : List Ligand) (done all : List X) (d : Ligand) (room : ℕ)
    → 1 ≤ length rest → done ++ flat_map f rest ≡ all → length all ≤ room
    → length done + length (f (slice_index_or rest 0 d)) ≤ room
first_room f [] done all d room some is few = absurd (omega (arith, some))
first_room f (one ∷ rest) done all d room some is few = room_left done (f one) (flat_map f rest) all room is few

pub pairs_room : (rest : List Ligand) (done all : List VertexPair) (d : Ligand) (room : ℕ)
    → 1 ≤ length rest → done ++ pairs_of rest ≡ all → length all ≤ room
    → length done + length (pairs_at (take (length rest - 1) (drop 1 rest)) (slice_index_or rest 0 d)) ≤ room
pairs_room [] done all d room some is few = absurd (omega (arith, some))
pairs_room (one ∷ rest) done all d room some is few =
    subst (λ others. length done + length (pairs_at others one) ≤ room) (sym (take_rest (one ∷ rest) 1))
    (room_left done (pairs_at rest one) (pairs_of rest) all room is few)

module _ (g : Graph) (positions : List (List ℕ)) (root bound : ℕ) where
  -- pairs ask about branches that there are
  pub asked_within : (branch : ℕ → ℕ) (count : ℕ) → ((vertex : ℕ) → branch vertex < count) → (pairs : List VertexPair)
      → AllByRecursion (AreWithin count) (map (asked_by branch) pairs)
  asked_within branch count low [] = tt
  asked_within branch count low (pair ∷ pairs) =
      ((low pair.a, low pair.b), asked_within branch count low pairs)

  -- the numbers of two branches say one depth more
  module _ (s : ℕ) (branched : Branched) (f : Follows g positions root bound s branched) where
    node_data : (a b : ℕ) → a < length branched.unresolved → b < length branched.unresolved
        → by_number branched.layers.ranked.numbers a b
        ≡ by_atoms g positions root bound branched.last (top_of g positions root bound a)
        (top_of g positions root bound b)
    node_data a b la lb =
        let name : ℕ → Node = named g positions root bound in
        f.decided.node_data a b la lb
        ∙ ap (λ n. by_atoms g positions root bound branched.last (name n)
        (name (slice_index branched.layers.place_tree.nodes b))) (f.top a la)
        ∙ ap (λ n. by_atoms g positions root bound branched.last (top_of g positions root bound a) (name n))
        (f.top b lb)

    pub notes_next : 0 < s → (pairs : List VertexPair) (requested new : List BranchPair)
        → Notes g positions root bound (s - 1) pairs requested
        → new ≡ map (with_found (found_between branched.layers.ranked.numbers R1a (s - 1))) requested
        → Notes g positions root bound s pairs new
    notes_next some pairs requested new before noted =
        let last = f.last in
        let count = f.count in
        let depth : s - 1 ≡ branched.last = omega (arith, last) in
        let next : branched.last + 1 ≡ s = omega (arith, last) in
        let find : ℕ → ℕ → ℕ → Option _ = found_below R1a (by_atoms g positions root bound)
        (top_of g positions root bound) in
        record {
          branch = before.branch;
          within = before.within;
          stands = before.stands;
          noted = noted_next R1a (by_atoms g positions root bound) (top_of g positions root bound)
              branched.layers.ranked.numbers (length branched.unresolved) branched.last node_data
              (map (asked_by before.branch) pairs) requested new
              (asked_within before.branch (length branched.unresolved)
              (λ vertex. let low = before.within vertex in omega (arith, low, count)) pairs)
              (before.noted ∙ ap (λ depths. map (with_found (find depths)) (map (asked_by before.branch) pairs)) depth)
              (noted ∙ ap (λ d. map (with_found (found_between branched.layers.ranked.numbers R1a d)) requested) depth)
              ∙ ap (λ depths. map (with_found (find depths)) (map (asked_by before.branch) pairs)) next;
        }

-- in the first sphere nothing is decided yet
module _ (g : Graph) (positions : List (List ℕ)) (a : Growth) (h : Holds g positions a) (one : a.sphere ≡ 1)
    (sound : IsSound g) (fits : length a.nodes ≤ a.bound) (last : 0 < length (sphere g positions a.root a.sphere)) where
  some : 0 < a.sphere
  some = omega (arith, one)

  abbrev around : List Node
  around = view_children g positions (a.root ∷ []) (real_node a.root [])

  few : a.sphere ≤ a.bound
  few = let lt = few_spheres g positions a.root a.sphere last in let len = h.tells.len in omega (arith, lt, len, fits)

  branches : 1 < length (digraph g positions a.root 1)
  branches =
      let lt = few_spheres g positions a.root a.sphere last in
      subst (λ s. s < length (digraph g positions a.root s)) one lt

  low_by : (found : Option ℕ) (nodes : List Node) → LigandAt g positions a h some sound found nodes
      → suc (unwrap_or found 0 - 1) < length (digraph g positions a.root 1)
  low_by None nodes at = omega (arith, branches)
  low_by (Some n) nodes at =
      let low = at.1.low in
      let behind = at.1.behind in
      omega (arith, low, behind, count_is g positions a.root 1)

  stands_by : (found : Option ℕ) (nodes : List Node) (node : Node) → LigandAt g positions a h some sound found nodes
      → nodes ≡ node ∷ [] → top_of g positions a.root a.bound (unwrap_or found 0 - 1) ≡ node
  stands_by None nodes node at is = let bad : [] ≡ node ∷ [] = sym at ∙ is in cc
  stands_by (Some n) nodes node at is =
      let behind = at.1.behind in
      let low = at.1.within in
      let len = h.tells.len in
      let back : suc (n - 1) ≡ n = omega (arith, behind) in
      let both : node_at (digraph g positions a.root a.sphere) n ∷ [] ≡ node ∷ [] = sym at.0 ∙ is in
      let same : node_at (digraph g positions a.root a.sphere) n ≡ node = cc in
      ap (named g positions a.root a.bound) back
      ∙ named_is g positions a.root a.bound a.sphere n few (omega (arith, low, len)) ∙ same

  pub notes_first : (pairs : List VertexPair) (requested : List BranchPair) → requested ≡ map (asked_by (branch_at a.nodes)) pairs
      → Notes g positions a.root a.bound 0 pairs requested
  notes_first pairs requested is = record {
    branch = branch_at a.nodes;
    within = λ vertex. low_by (ligand_number a.nodes (Vertex vertex)) (ligand_node around (Vertex vertex))
        (ligand_at g positions a h some sound (Vertex vertex));
    stands = λ vertex node is. stands_by (ligand_number a.nodes (Vertex vertex)) (ligand_node around (Vertex vertex))
        node (ligand_at g positions a h some sound (Vertex vertex)) is;
    noted = is ∙ sym (nothing_found (map (asked_by (branch_at a.nodes)) pairs));
  }
