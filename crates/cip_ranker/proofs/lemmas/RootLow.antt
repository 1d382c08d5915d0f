-- A root with fit ligands is a vertex of its graph, has a child, and is settled in the first sphere or further out.
use Rattle.std.proofs.Common.{◌≡◌, ◌≢◌, ◌<◌, ◌≤◌, ◌+◌, ◌==◌, ℕ, zero, suc, Bool, true, false, cond, List, [], ◌∷◌, Some, refl, sym, ap, ◌∙◌, subst, arith, length, map, slice_get, inl, inr}
use Rattle.std.specs.Prelude.{filter}
use Rattle.std.specs.List.{AllPairs, AllByRecursion}
use Rattle.std.proofs.lemmas.Bool.{or_cases, eqb-true}
use Rattle.cip_rank.specs.declared.rules.Rules.{Rules}
use Rattle.cip_mol.specs.declared.site.Ligand.{Ligand}
use Rattle.cip_mol.specs.declared.site.Ligand.TheVariants.{Vertex, LonePair}
use Rattle.cip_mol.specs.declared.site.Unit as units
use Rattle.cip_digraph.specs.declared.drawing.graph.Edge.{Edge}
use Rattle.cip_digraph.specs.rings.Alternating.{is_in}
use Rattle.cip_digraph.specs.rules.Auxiliary.{stands_for}
use Rattle.cip_digraph.specs.outcome.Deciding.{is_settled, least_from}
use Rattle.cip_digraph.specs.digraph.Digraph.{Node, real_node}
use Rattle.cip_digraph.specs.rules.EarlyOrder.{seen_at}
use Rattle.cip_digraph.specs.units.Ends.{end_at}
use Rattle.cip_digraph.specs.graph.Graph.{Graph, edges_at, neighbours, other_end, touches}
use Rattle.cip_digraph.specs.outcome.Outcomes.{end_root, is_in_unit, settled_in}
use Rattle.cip_digraph.specs.graph.SoundGraphs.{IsSound, JoinsBelow}
use Rattle.cip_digraph.specs.digraph.View.{view_children}
use Rattle.cip_digraph.proofs.lemmas.lists.Elements.{all_filtered, by_recursion}
use Rattle.cip_digraph.proofs.lemmas.bonds.Neighbours.{sorted_all}
use Rattle.cip_label.specs.Fitting.{IsFit, IsNeighbour}
use Rattle.cip_label.proofs.lemmas.LigandNodes.{one_node}
use Rattle.cip_label.proofs.lemmas.RootsAlike.{All-at}

-- one of the ligands is a vertex
pub record HasVertex (ligands : List Ligand) : Type 0 where
  pub vertex : ℕ
  pub place : ℕ
  pub at : slice_get ligands place ≡ Some (Vertex vertex)

some_vertex : (ligands : List Ligand) → 2 ≤ length ligands → AllPairs ◌≢◌ ligands → HasVertex ligands
some_vertex [] two differ = absurd (omega (arith, two))
some_vertex (one ∷ []) two differ = absurd (omega (arith, two))
some_vertex (Vertex v ∷ other ∷ rest) two differ = record { vertex = v; place = 0; at = refl }
some_vertex (LonePair ∷ Vertex v ∷ rest) two differ = record { vertex = v; place = 1; at = refl }
some_vertex (LonePair ∷ LonePair ∷ rest) two differ = absurd (differ 0 1 LonePair (omega arith) (omega arith) refl)

least_behind : (test : ℕ → Bool) (number count : ℕ) → number ≤ least_from test number count
least_behind test number zero = omega arith
least_behind test number (suc more) = by (least_behind test (number + 1) more) (test number)
  where
    by : number + 1 ≤ least_from test (number + 1) more → (b : Bool)
        → number ≤ elim b as (λ _. ℕ) [ true ↦ number | false ↦ least_from test (number + 1) more ]
    by later true = omega arith
    by later false = omega (arith, later)

-- the edges at a vertex touch it
touch_each : (root : ℕ) (edges : List Edge)
    → AllByRecursion (λ edge. touches root edge ≡ true) (filter (touches root) edges)
touch_each root [] = tt
touch_each root (edge ∷ edges) = by (touch_each root edges) (touches root edge) refl
  where
    by : AllByRecursion (λ edge. touches root edge ≡ true) (filter (touches root) edges) → (here : Bool)
        → touches root edge ≡ here
        → AllByRecursion (λ edge. touches root edge ≡ true) (cond here (edge ∷ filter (touches root) edges)
        (filter (touches root) edges))
    by later true is = (is, later)
    by later false is = later

low_by : (root count : ℕ) (edge : Edge) → JoinsBelow count edge → touches root edge ≡ true → root < count
low_by root count edge joins e = elim (or_cases (edge.a == root) (edge.b == root) e) [
  | inl a ↦ subst (λ v. v < count) (eqb-true edge.a root a) joins.a
  | inr b ↦ subst (λ v. v < count) (eqb-true edge.b root b) joins.b
]

first_low : (root count : ℕ) (vertex : ℕ) (edges : List Edge)
    → AllByRecursion (JoinsBelow count) edges → AllByRecursion (λ edge. touches root edge ≡ true) edges
    → is_in vertex (map (other_end root) edges) ≡ true → root < count
first_low root count vertex [] joins touch there = let bad : false ≡ true = there in cc
first_low root count vertex (edge ∷ edges) joins touch there = low_by root count edge joins.0 touch.0

module _ (graph : Graph) (root : ℕ) (ligands : List Ligand) (sound : IsSound graph) (fit : IsFit graph root ligands)
  where
    pub beside : (i vertex : ℕ) → slice_get ligands i ≡ Some (Vertex vertex)
        → is_in vertex (neighbours graph root) ≡ true
    beside i vertex at = All-at (IsNeighbour graph root) ligands i (Vertex vertex) at fit.beside

    pub found : HasVertex ligands
    found = some_vertex ligands fit.two fit.different

    pub root_low : root < length graph.vertices
    root_low =
        let count = length graph.vertices in
        first_low root count found.vertex (edges_at graph root)
        (sorted_all (JoinsBelow count) root (filter (touches root) graph.edges)
        (all_filtered (JoinsBelow count) (touches root) graph.edges
        (by_recursion (JoinsBelow count) graph.edges sound.edges)))
        (sorted_all (λ edge. touches root edge ≡ true) root (filter (touches root) graph.edges)
        (touch_each root graph.edges))
        (beside found.place found.vertex found.at)

    module _ (positions : List (List ℕ)) (rules : Rules) (all : List units.Unit) where
      pub has_child : view_children graph positions (root ∷ []) (real_node root []) ≢ []
      has_child none =
          let here = one_node graph sound root positions found.vertex (beside found.place found.vertex found.at) in
          let bad : [] ≡ real_node found.vertex (root ∷ []) ∷ [] = sym (ap (filter (stands_for found.vertex)) none)
          ∙ here in
          cc

      abbrev settles : ℕ → Bool
      settles =
          is_settled (seen_at rules graph positions all root) (real_node root [])
          (end_root rules graph positions all (end_at root ligands)).ligands (is_in_unit rules graph positions all)

      some_by : (least : ℕ) → 1 ≤ least → (nodes : List Node) → nodes ≢ []
          → 1 ≤ elim nodes as (λ _. ℕ) [ [] ↦ 0 | node ∷ nodes ↦ least ]
      some_by least from [] some = absurd (some refl)
      some_by least from (node ∷ nodes) some = from

      pub settled_further : 1 ≤ settled_in rules graph positions all (end_at root ligands)
      settled_further =
          let height = (seen_at rules graph positions all root).height in
          some_by (least_from settles 1 height) (least_behind settles 1 height)
          (view_children graph positions (root ∷ []) (real_node root [])) has_child
