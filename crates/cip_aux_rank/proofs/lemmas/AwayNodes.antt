-- Nodes n spheres away from another one, by number: how far that can be.
use Rattle.std.proofs.Common.{◌≡◌, ◌<◌, ◌≤◌, ◌+◌, ◌*◌, ◌∷◌, ℕ, zero, suc, true, List, [], length, sym, ap, ◌∙◌, subst, arith}
use Rattle.std.specs.List.{AllByRecursion}
use Rattle.cip_partition.specs.Kids.{IsAmong}
use Rattle.cip_partition.proofs.lemmas.Cases.{holds_among}
use Rattle.cip_digraph.specs.digraph.Digraph.{Node, is_real}
use Rattle.cip_digraph.specs.digraph.Telling.{node_at}
use Rattle.cip_digraph.specs.digraph.View.{apart, real_at, view_children, height_below}
use Rattle.cip_digraph.specs.graph.Graph.{Graph}
use Rattle.cip_digraph.specs.graph.SoundGraphs.{IsSound}
use Rattle.cip_digraph.specs.outcome.Deciding.{nodes_below}
use Rattle.cip_digraph.proofs.lemmas.lists.Elements.{all_unmapped}
use Rattle.cip_rank.specs.View.{children_seen}
use Rattle.cip_rank.proofs.lemmas.ChildrenSeen.{view_below}
use Rattle.cip_aux.specs.WholeDigraph.{IsWhole}
use Rattle.cip_aux.proofs.lemmas.PathEnds.{apart_itself}
use Rattle.cip_aux.proofs.lemmas.Reaching.{all_each, at_least}
use Rattle.cip_aux.proofs.lemmas.SeenChildren.{seen_are}
use Rattle.cip_aux.proofs.lemmas.SeenSpheres.{IsNext, all_next}
use Rattle.cip_aux.proofs.lemmas.Standing.{real_is, few}

-- n steps lead there, each to one of the nodes that are given for the one before
abbrev pub IsAway : (ℕ → List ℕ) → ℕ → ℕ → ℕ → Type 0
IsAway kids_at from zero node = from ≡ node
IsAway kids_at from (suc s) node = (before : ℕ) × IsAway kids_at from s before × IsAmong (kids_at before) node

module _ (graph : Graph) (positions : List (List ℕ)) (root : ℕ) (nodes : List Node) (parents : List ℕ)
    (whole : IsWhole graph positions root nodes parents) (sound : IsSound graph)
    (low : root < length graph.vertices) (from : ℕ) (inside : from < length parents)
    (real : is_real (node_at nodes from).kind ≡ true) where
  abbrev path : List ℕ
  path = (node_at nodes from).path

  abbrev seen : Node → List Node
  seen = view_children graph positions path

  abbrev kids_at : ℕ → List ℕ
  kids_at = children_seen parents from

  abbrev count : ℕ
  count = length graph.vertices

  pub away_below : (s node : ℕ) → IsAway kids_at from s node → node < length parents
  away_below zero node is = subst (λ n. n < length parents) is inside
  away_below (suc s) node is = holds_among (λ n. n < length parents) (kids_at is.0) node
      (view_below parents whole.tree from is.0 (away_below s is.0 is.1)) is.2

  -- what the children in the view have, the nodes that are known have
  one_next : (P : Node → Type 0) (before node : ℕ) → before < length parents → IsAmong (kids_at before) node
      → AllByRecursion P (seen (node_at nodes before)) → P (node_at nodes node)
  one_next P before node lt is all = holds_among (λ n. P (node_at nodes n)) (kids_at before) node
      (all_unmapped P (node_at nodes) (kids_at before) (subst (AllByRecursion P)
      (sym (seen_are graph positions root nodes parents whole sound from inside real before lt)) all)) is

  next_is : (before node : ℕ) → before < length parents → IsAmong (kids_at before) node
      → IsNext path (node_at nodes before) (node_at nodes node)
  next_is before node lt is = one_next (IsNext path (node_at nodes before)) before node lt is
      (all_next graph positions path (node_at nodes before))

  away_real : (s node : ℕ) → IsAway kids_at from s node → is_real (node_at nodes node).kind ≡ true
      → s ≡ apart path (node_at nodes node).path
  away_real zero node is r = sym (ap (λ n. apart path (node_at nodes n).path) (sym is) ∙ apart_itself path)
  away_real (suc s) node is r =
      let next = next_is is.0 node (away_below s is.0 is.1) is.2 in
      let before = away_real s is.0 is.1 next.real in
      let further = next.further r in
      omega (arith, before, further)

  away_low : (s node : ℕ) → IsAway kids_at from s node → s ≤ 2 * count + 1
  away_low zero node is = omega arith
  away_low (suc s) node is =
      let lt = away_below s is.0 is.1 in
      let before = away_real s is.0 is.1 (next_is is.0 node lt is.2).real in
      let one = few graph positions root nodes parents whole sound low from inside in
      let other = few graph positions root nodes parents whole sound low is.0 lt in
      omega (arith, before, one, other)

  -- they are among the nodes n spheres below
  among : (P : Node → Type 0) (s node : ℕ) → IsAway kids_at from s node
      → AllByRecursion P (nodes_below seen s (node_at nodes from ∷ [])) → P (node_at nodes node)
  among P zero node is all = subst (λ n. P (node_at nodes n)) is all.0
  among P (suc s) node is all =
      one_next P is.0 node (away_below s is.0 is.1) is.2
      (among (λ n. AllByRecursion P (seen n)) s is.0 is.1
      (all_each seen P (nodes_below seen s (node_at nodes from ∷ [])) all))

  -- the height is at least n spheres
  pub height_away : (s node : ℕ) → IsAway kids_at from s node
      → s ≤ height_below seen (2 * count + 2) (real_at path ∷ [])
  height_away s node is =
      let at = real_is graph positions root nodes parents whole from inside real in
      let first : node_at nodes from ≡ real_at path = at.is ∙ ap (λ (n : Node). real_at n.path) (sym at.is) in
      let few : s ≤ 2 * count + 2 = let le = away_low s node is in omega (arith, le) in
      subst (λ n. s ≤ height_below seen (2 * count + 2) (n ∷ [])) first
      (at_least seen s (2 * count + 2) (node_at nodes from ∷ []) few (λ none. among (λ n. ⊥) s node is
      (subst (AllByRecursion (λ n. ⊥)) (sym none) tt)))
