-- A root whose branches stand as in the whole digraph is ranked as the root there.
use Rattle.std.proofs.Common.{◌≡◌, ◌≤◌, arith, ◌∷◌, ◌++◌, ◌∙◌, [], ℕ, zero, suc, Bool, true, false, List, Option, Some}
use Rattle.std.proofs.Common.{None, refl, sym, ap, map, length, nat_lt, slice_get, slice_index_or, subst, ◌||◌}
use Rattle.std.specs.List.{All, list_any, range_with_len}
use Rattle.std.proofs.lemmas.Option.{get_or_from_slice_get, slice_get_within}
use Rattle.std.proofs.lemmas.List.{length-map}
use Rattle.std.proofs.lemmas.Bool.Decides.{nat_tests}
use Rattle.cip_rank.specs.Comparison.{sorted_down}
use Rattle.cip_mol.specs.declared.site.Ligand.{Ligand}
use Rattle.cip_mol.specs.declared.site.Ligand.TheVariants.{Vertex, LonePair}
use Rattle.cip_digraph.specs.rules.Auxiliary.{ligand_node}
use Rattle.cip_digraph.specs.declared.decisions.decision.Decision.{Decision}
use Rattle.cip_digraph.specs.rules.Decisions.{order}
use Rattle.cip_digraph.specs.units.Descriptors.{reason_needed}
use Rattle.cip_digraph.specs.digraph.Digraph.{Node, real_node}
use Rattle.cip_digraph.specs.units.Ends.{end_at}
use Rattle.cip_digraph.specs.graph.Graph.{Graph}
use Rattle.cip_digraph.specs.units.Ranked.{Root, Reason, decisions, decisions_along, decisions_behind, has_tie, is_tie}
use Rattle.cip_digraph.specs.units.Ranked.{last_reason, ligand_order, place_order, ranked_places, ranks, side_of}
use Rattle.cip_digraph.specs.units.Ranked.{some_pair, turned_ranks}
use Rattle.cip_digraph.specs.graph.SoundGraphs.{IsSound}
use Rattle.cip_digraph.specs.digraph.View.{real_at, view_children}
use Rattle.cip_digraph.proofs.lemmas.PairTurns.{pairs_mapped}
use Rattle.cip_label.specs.declared.ranked_root.Ranked.{Ranked}
use Rattle.cip_label.specs.declared.ranked_root.Ranked.TheVariants as rankeds
use Rattle.cip_label.specs.Fitting.{IsFit, IsNeighbour}
use Rattle.cip_label.specs.Labelling.{ranked_by, ranked_root}
use Rattle.cip_label.specs.Settings.{LabelContext, cost_in, root_in, seen_in}
use Rattle.cip_label.specs.declared.root_ranker.Ranking.{Ranking}
use Rattle.cip_label.specs.declared.root_ranker.Ranking.TheVariants.{Known, Tied, Over}
use Rattle.cip_label.specs.BranchComparison.{RankedAs, Stands, branch, root_of}
use Rattle.cip_label.proofs.lemmas.LigandNodes.{one_node}

abbrev pub entry : {X : Type 0} → (Ligand → List X) → Option Ligand → List X
entry f None = []
entry f (Some ligand) = f ligand

pub entry_at : {X : Type 0} (f : Ligand → List X) (ligands : List Ligand) (i : ℕ) →
    slice_index_or (map f ligands) i [] ≡ entry f (slice_get ligands i)
entry_at f [] zero = refl
entry_at f [] (suc i) = refl
entry_at f (ligand ∷ ligands) zero = refl
entry_at f (ligand ∷ ligands) (suc i) = entry_at f ligands i

pub All-at : {X : Type 0} (P : X → Type 0) (xs : List X) (i : ℕ) (x : X) → slice_get xs i ≡ Some x → All P xs → P x
All-at P xs i x e all = subst P (get_or_from_slice_get xs i x x e) (all i x (slice_get_within xs i x e))

any_same : (one other : Ligand → Bool) (ligands : List Ligand) →
    ((i : ℕ) (a : Ligand) → slice_get ligands i ≡ Some a → one a ≡ other a) →
    list_any one ligands ≡ list_any other ligands
any_same one other [] same = refl
any_same one other (ligand ∷ ligands) same =
    ap (λ b. b || list_any one ligands) (same zero ligand refl)
    ∙ ap (λ b. other ligand || b) (any_same one other ligands (λ i a e. same (suc i) a e))

pairs_same : (one other : Ligand → Ligand → Bool) (ligands : List Ligand) →
    ((i j : ℕ) (a b : Ligand) → slice_get ligands i ≡ Some a → slice_get ligands j ≡ Some b → one a b ≡ other a b) →
    some_pair one ligands ≡ some_pair other ligands
pairs_same one other [] same = refl
pairs_same one other (ligand ∷ ligands) same =
    ap (λ b. b || some_pair one ligands) (any_same (one ligand) (other ligand) ligands
    (λ j b e. same zero (suc j) ligand b refl e))
    ∙ ap (λ b. list_any (other ligand) ligands || b)
    (pairs_same one other ligands (λ i j a b e f. same (suc i) (suc j) a b e f))

module _ {N M : Type 0} (order : N → N → Option Decision) (ligands : List (List N)) (other_order : M → M →
    Option Decision) (others : List (List M))
    (same : (i j : ℕ) → place_order order ligands i j ≡ place_order other_order others i j) where
  places_same : length ligands ≡ length others → ranked_places order ligands ≡ ranked_places other_order others
  places_same counted =
      ap (λ count. sorted_down (λ i j. side_of (place_order order ligands i j)) (range_with_len 0 count)) counted
      ∙ (λ k. sorted_down (λ i j. side_of (same i j k)) (range_with_len 0 (length others)))

  behind_same : (place : ℕ) (places : List ℕ) → decisions_behind order ligands place places ≡ decisions_behind
      other_order others place places
  behind_same place [] = refl
  behind_same place (next ∷ places) =
      ap (λ d. d ∷ decisions_behind order ligands next places) (same place next)
      ∙ ap (λ rest. place_order other_order others place next ∷ rest) (behind_same next places)

  along_same : (places : List ℕ) → decisions_along order ligands places ≡ decisions_along other_order others places
  along_same [] = refl
  along_same (place ∷ places) = behind_same place places

abbrev built : Bool → List ℕ → List ℕ → Reason → Ranked
built tie places turned reason =
    elim tie as (λ _. Ranked) [ true ↦ rankeds.Tie | false ↦ rankeds.Ordered places turned reason.rule reason.sphere ]

not_larger : (bound cost : ℕ) → cost ≤ bound → nat_lt bound cost ≡ false
not_larger bound cost le = grind (arith, nat_tests)

-- by any order of nodes that branches are in
module _ (graph : Graph) (positions : List (List ℕ)) (root : ℕ) (ligands : List Ligand) (standing : Bool → ℕ → ℕ →
    Option Decision) (by_rules : Bool → Node → Node → Option Decision)
    (sound : IsSound graph) (fit : IsFit graph root ligands)
    (stands : (r_first : Bool) (i j a b : ℕ) → slice_get ligands i ≡ Some (Vertex a) →
    slice_get ligands j ≡ Some (Vertex b) →
    standing r_first a b ≡ by_rules r_first (real_node a (root ∷ [])) (real_node b (root ∷ []))) where
  abbrev node : Ligand → List Node
  node ligand = ligand_node (view_children graph positions (root ∷ []) (real_at (root ∷ []))) ligand

  is_node : (i v : ℕ) → slice_get ligands i ≡ Some (Vertex v) → node (Vertex v) ≡ real_node v (root ∷ []) ∷ []
  is_node i v e = one_node graph sound root positions v
      (All-at (IsNeighbour graph root) ligands i (Vertex v) e fit.beside)

  pair_same : (r_first : Bool) (i j : ℕ) (a b : Ligand) → slice_get ligands i ≡ Some a → slice_get ligands j ≡ Some b →
      ligand_order (standing r_first) (branch a) (branch b) ≡ ligand_order (by_rules r_first) (node a) (node b)
  pair_same r_first i j LonePair LonePair e f = refl
  pair_same r_first i j LonePair (Vertex b) e f = ap (λ n. ligand_order (by_rules r_first) [] n) (sym (is_node j b f))
  pair_same r_first i j (Vertex a) LonePair e f = ap (λ n. ligand_order (by_rules r_first) n []) (sym (is_node i a e))
  pair_same r_first i j (Vertex a) (Vertex b) e f =
      stands r_first i j a b e f ∙ (λ k. ligand_order (by_rules r_first) (sym (is_node i a e) k)
      (sym (is_node j b f) k))

  entry_same : (r_first : Bool) (i j : ℕ) (x y : Option Ligand) → slice_get ligands i ≡ x → slice_get ligands j ≡ y →
      ligand_order (standing r_first) (entry branch x) (entry branch y) ≡ ligand_order (by_rules r_first)
      (entry node x) (entry node y)
  entry_same r_first i j None None e f = refl
  entry_same r_first i j None (Some LonePair) e f = refl
  entry_same r_first i j None (Some (Vertex b)) e f =
      ap (λ n. ligand_order (by_rules r_first) [] n) (sym (is_node j b f))
  entry_same r_first i j (Some LonePair) None e f = refl
  entry_same r_first i j (Some (Vertex a)) None e f =
      ap (λ n. ligand_order (by_rules r_first) n []) (sym (is_node i a e))
  entry_same r_first i j (Some a) (Some b) e f = pair_same r_first i j a b e f

  place_same : (r_first : Bool) (i j : ℕ) → place_order (standing r_first) (map branch ligands) i j ≡ place_order
      (by_rules r_first) (map node ligands) i j
  place_same r_first i j =
      (λ k. ligand_order (standing r_first) (entry_at branch ligands i k) (entry_at branch ligands j k))
      ∙ entry_same r_first i j (slice_get ligands i) (slice_get ligands j) refl refl
      ∙ (λ k. ligand_order (by_rules r_first) (sym (entry_at node ligands i) k) (sym (entry_at node ligands j) k))

  abbrev there : Root Node
  there = record { order = by_rules true; turned = by_rules false; ligands = map node ligands }

  tie_same : has_tie (root_of standing ligands) ≡ has_tie there
  tie_same =
      pairs_mapped branch (λ a b. is_tie (ligand_order (standing true) a b)) ligands
      ∙ pairs_same (λ a b. is_tie (ligand_order (standing true) (branch a) (branch b)))
      (λ a b. is_tie (ligand_order (by_rules true) (node a) (node b))) ligands
      (λ i j a b e f. ap is_tie (pair_same true i j a b e f))
      ∙ sym (pairs_mapped node (λ a b. is_tie (ligand_order (by_rules true) a b)) ligands)

  counted : length (map branch ligands) ≡ length (map node ligands)
  counted = length-map ligands branch ∙ sym (length-map ligands node)

  ranks_same : (r_first : Bool) → ranked_places (standing r_first) (map branch ligands) ≡ ranked_places
      (by_rules r_first) (map node ligands)
  ranks_same r_first = places_same (standing r_first) (map branch ligands) (by_rules r_first) (map node ligands)
      (place_same r_first) counted

  decisions_same : decisions (root_of standing ligands) ≡ decisions there
  decisions_same =
      along_same (standing true) (map branch ligands) (by_rules true) (map node ligands) (place_same true)
      (ranked_places (standing true) (map branch ligands))
      ∙ ap (decisions_along (by_rules true) (map node ligands)) (ranks_same true)

  reason_same : reason_needed (root_of standing ligands ∷ []) ≡ reason_needed (there ∷ [])
  reason_same = ap (λ ds. last_reason (ds ++ [])) decisions_same

  pub ranked_same : ranked_by (root_of standing ligands) ≡ ranked_by there
  ranked_same = λ k. built (tie_same k) (ranks_same true k) (ranks_same false k) (reason_same k)

-- roots that tie alike, with the same ranks and decisions
pub ranked_alike : {N M : Type 0} (one : Root N) (other : Root M) → has_tie one ≡ has_tie other →
    ranks one ≡ ranks other → turned_ranks one ≡ turned_ranks other → decisions one ≡ decisions other →
    ranked_by one ≡ ranked_by other
ranked_alike one other tie same turned decided =
    λ k. built (tie k) (same k) (turned k) (last_reason (decided k ++ []))

module _ (setting : LabelContext) (root : ℕ) (ligands : List Ligand) (standing : Stands) (sound : IsSound setting.graph)
    (fit : IsFit setting.graph root ligands) where
  abbrev by_all : Bool → Node → Node → Option Decision
  by_all r_first = order (seen_in setting root) r_first

  abbrev if_over : Ranked → Bool → Ranked
  if_over within over = elim over as (λ _. Ranked) [ true ↦ rankeds.Over | false ↦ within ]

  pub ranked_as : (bound : ℕ) (ranking : Ranking) → ranking ≡ Known →
      RankedAs setting bound root ligands standing ranking →
      ranked_by (root_of standing ligands) ≡ ranked_root setting bound (end_at root ligands)
  ranked_as bound Known is node_data =
      ranked_same setting.graph setting.positions root ligands standing by_all sound fit node_data.1.each
      ∙ ap (if_over (ranked_by (root_in setting (end_at root ligands))))
      (sym (not_larger bound (cost_in setting (end_at root ligands)) node_data.0))
  ranked_as bound Tied is node_data = let bad : Tied ≡ Known = is in cc
  ranked_as bound Over is node_data = let bad : Over ≡ Known = is in cc
