-- Closed branches are closed ligands.
use Rattle.std.proofs.Common.{◌≡◌, ◌<◌, ◌&&◌, ℕ, zero, suc, Bool, true, false, not, List, [], ◌∷◌, ◌++◌, length, None}
use Rattle.std.proofs.Common.{Some, refl, sym, ap, ◌∙◌, subst}
use Rattle.std.specs.List.{list_any}
use Rattle.std.proofs.lemmas.Bool.{and_from}
use Rattle.cip_rank.specs.declared.rules.Rules.{Rules}
use Rattle.cip_mol.specs.declared.site.Ligand.{Ligand}
use Rattle.cip_mol.specs.declared.site.Unit as units
use Rattle.cip_digraph.specs.rules.Auxiliary.{ligand_node}
use Rattle.cip_digraph.specs.outcome.Deciding.{is_empty, nodes_below, nodes_within}
use Rattle.cip_digraph.specs.digraph.Digraph.{Node, real_node}
use Rattle.cip_digraph.specs.graph.Graph.{Graph}
use Rattle.cip_digraph.specs.digraph.NodeList.{parents_of}
use Rattle.cip_digraph.specs.outcome.Outcomes.{is_in_unit}
use Rattle.cip_digraph.specs.graph.SoundGraphs.{IsSound}
use Rattle.cip_digraph.specs.digraph.View.{view_children}
use Rattle.cip_constitution.proofs.lemmas.settled.DecidingSphere.{nothing_below}
use Rattle.cip_arena.specs.Growth.{Growth, Holds}
use Rattle.cip_constitution.specs.Alike.{is_closed_ligand}
use Rattle.cip_constitution.specs.Closing.{is_under, keeps_open}
use Rattle.cip_constitution.specs.Standing.{ligand_number}
use Rattle.cip_constitution.proofs.lemmas.closed.Branches.{closed_true, closed_false}
use Rattle.cip_constitution.proofs.lemmas.node_data.Differ.{LigandAt, ligand_at}

nothing_within : {N : Type 0} (below : N → List N) (s : ℕ) → nodes_within below s [] ≡ []
nothing_within below zero = refl
nothing_within below (suc s) = ap (λ xs. xs ++ nodes_below below s []) (nothing_within below s) ∙ nothing_below below s

module _ (rules : Rules) (g : Graph) (positions : List (List ℕ)) (all : List units.Unit) (a : Growth)
    (h : Holds g positions a) (some : 0 < a.sphere) (sound : IsSound g) (ligand : Ligand) where
  abbrev view : Node → List Node
  view = view_children g positions (a.root ∷ [])

  abbrev closed_list : List Node → Bool
  closed_list nodes = is_empty (nodes_below view a.sphere nodes) && not (list_any (is_in_unit rules g positions all)
      (nodes_within view a.sphere nodes))

  none_closed : closed_list [] ≡ true
  none_closed =
      and_from (is_empty (nodes_below view a.sphere []))
      (not (list_any (is_in_unit rules g positions all) (nodes_within view a.sphere [])))
      (ap is_empty (nothing_below view a.sphere))
      (ap (λ nodes. not (list_any (is_in_unit rules g positions all) nodes)) (nothing_within view a.sphere))

  pub lone_closed : ligand_number a.nodes ligand ≡ None → is_closed_ligand rules g positions all a ligand ≡ true
  lone_closed e =
      ap closed_list (subst (λ o. LigandAt g positions a h some sound o (ligand_node (view (real_node a.root []))
      ligand)) e (ligand_at g positions a h some sound ligand)) ∙ none_closed

  pub branch_closed : (n : ℕ) → ligand_number a.nodes ligand ≡ Some n → (result : Bool)
      → (result ≡ true → (m : ℕ) → m < length a.nodes → is_under (parents_of a.nodes) n m ≡ true
      → keeps_open rules g positions all a m ≡ false)
      → (result ≡ false → (m : ℕ) × ((m < length a.nodes) × ((is_under (parents_of a.nodes) n m ≡ true)
      × (keeps_open rules g positions all a m ≡ true))))
      → result ≡ is_closed_ligand rules g positions all a ligand
  branch_closed n e true yes_closed none =
      let t = subst (λ o. LigandAt g positions a h some sound o (ligand_node (view (real_node a.root [])) ligand)) e
      (ligand_at g positions a h some sound ligand) in
      let c = closed_true rules g positions all a h some n t.1.behind t.1.low t.1.within t.1.further
      (yes_closed refl) in
      sym (ap closed_list t.0 ∙ and_from _ _ c.0 (ap not c.1))
  branch_closed n e false yes_closed none =
      let t = subst (λ o. LigandAt g positions a h some sound o (ligand_node (view (real_node a.root [])) ligand)) e
      (ligand_at g positions a h some sound ligand) in
      let m = none refl in
      sym (ap closed_list t.0 ∙ closed_false rules g positions all a h some n t.1.behind t.1.low t.1.within t.1.further
      m.0 m.1.0 m.1.1.0 m.1.1.1)
