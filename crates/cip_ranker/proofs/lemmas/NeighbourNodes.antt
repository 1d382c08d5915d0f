-- The node of a neighbour of a root is one of the first sphere.
use Rattle.std.proofs.Common.{◌≡◌, ℕ, true, List, [], ◌∷◌, sym, subst}
use Rattle.std.specs.List.{AllByRecursion}
use Rattle.cip_digraph.specs.digraph.Digraph.{Node, real_node, children}
use Rattle.cip_digraph.specs.digraph.View.{view_children}
use Rattle.cip_digraph.specs.graph.Graph.{Graph, neighbours}
use Rattle.cip_digraph.specs.graph.SoundGraphs.{IsSound}
use Rattle.cip_digraph.specs.rings.Alternating.{is_in}
use Rattle.cip_digraph.specs.rules.Auxiliary.{stands_for}
use Rattle.cip_digraph.proofs.lemmas.tree.Branches.{at_root}
use Rattle.cip_digraph.proofs.lemmas.tree.Ended.{IsPath, Anywhere, leads_anywhere, paths_pass}
use Rattle.cip_digraph.proofs.lemmas.lists.Elements.{all_by, all_filtered}
use Rattle.cip_label.proofs.lemmas.LigandNodes.{one_node}
use Rattle.cip_constitution.proofs.lemmas.seen.Rules.{IsFurther}

module _ (graph : Graph) (positions : List (List ℕ)) (root : ℕ) (sound : IsSound graph) where
  abbrev around : List Node
  around = view_children graph positions (root ∷ []) (real_node root [])

  all_further : AllByRecursion (IsFurther graph positions root) around
  all_further =
      let passes = paths_pass graph positions Anywhere (λ vertex _. leads_anywhere graph vertex) root tt in
      subst (AllByRecursion (IsFurther graph positions root)) (sym (at_root graph positions root))
      (all_by (IsPath Anywhere 1) (IsFurther graph positions root) (λ node p. record { number = 0; path = p })
      (children graph positions (real_node root [])) (passes.step 0 (real_node root []) passes.at_root))

  pub neighbour_further : (vertex : ℕ) → is_in vertex (neighbours graph root) ≡ true
      → IsFurther graph positions root (real_node vertex (root ∷ []))
  neighbour_further vertex beside =
      let all : AllByRecursion (IsFurther graph positions root) (real_node vertex (root ∷ []) ∷ []) =
      subst (AllByRecursion (IsFurther graph positions root)) (one_node graph sound root positions vertex beside)
      (all_filtered (IsFurther graph positions root) (stands_for vertex) around all_further) in
      all.0
