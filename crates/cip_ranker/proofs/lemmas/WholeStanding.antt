-- Ligands of a root whose branches were followed to their ends have the order by all rules.
use Rattle.std.proofs.Common.{◌≡◌, ◌∷◌, [], ℕ, Bool, true, false, List, map, slice_get, Some, refl, sym, ap, ◌∙◌}
use Rattle.std.specs.declared.option.Option.{Option}
use Rattle.std.specs.List.{AllByRecursion, list_all}
use Rattle.cip_arena.specs.Growth.{Growth}
use Rattle.cip_branches.specs.Deciding.{Branched}
use Rattle.cip_rank.specs.declared.rules.Rules.{Rules}
use Rattle.cip_mol.specs.declared.labels.outcome.Rule.{Rule}
use Rattle.cip_mol.specs.declared.labels.outcome.Rule.TheVariants.{R1a, R1b, R2, R3, R4a, R4b, R4c, R5}
use Rattle.cip_mol.specs.declared.labels.descriptor.Descriptor.{Descriptor}
use Rattle.cip_mol.specs.declared.site.Ligand.{Ligand}
use Rattle.cip_mol.specs.declared.site.Ligand.TheVariants.{Vertex}
use Rattle.cip_mol.specs.declared.site.Unit as units
use Rattle.cip_digraph.specs.declared.decisions.decision.Decision.{Decision}
use Rattle.cip_digraph.specs.digraph.Digraph.{Node, real_node}
use Rattle.cip_digraph.specs.graph.Graph.{Graph, neighbours}
use Rattle.cip_digraph.specs.graph.SoundGraphs.{IsSound}
use Rattle.cip_digraph.specs.rings.Alternating.{is_in}
use Rattle.cip_digraph.specs.rules.Auxiliary.{auxiliary}
use Rattle.cip_digraph.specs.rules.Decisions.{order}
use Rattle.cip_digraph.specs.rules.EarlyOrder.{seen_at}
use Rattle.cip_digraph.specs.rules.Orders.{Seen}
use Rattle.cip_constitution.specs.FollowedOut.{AreConstituted, AreOrdered, node_of}
use Rattle.cip_constitution.specs.Following.{Trying, named}
use Rattle.cip_constitution.specs.Noting.{asked_by}
use Rattle.cip_constitution.specs.Pairs.{pairs_of}
use Rattle.cip_constitution.proofs.lemmas.followed.Pairs.{asked_within}
use Rattle.cip_label.proofs.lemmas.LigandNodes.{one_node}
use Rattle.cip_digraph.specs.declared.decisions.branch_pair.BranchPair.{BranchPair}
use Rattle.cip_digraph.specs.Asking.{AreWithin, is_decided, with_found}
use Rattle.cip_rules.specs.DescriptorMap.{AreDescriptorsOf}
use Rattle.cip_rules.specs.Orders.{decided_in_turn}
use Rattle.cip_rules.proofs.lemmas.RulesGoOn.{order_told}
use Rattle.cip_ranker.specs.Standing.{Standing, asked_in, by_vertices, standing_of}
use Rattle.cip_ranker.proofs.lemmas.PairedStanding.{stands_paired}

abbrev early_rules : List Rule
early_rules = R1a ∷ R1b ∷ R2 ∷ []

abbrev late_rules : List Rule
late_rules = R3 ∷ R4a ∷ R4b ∷ R4c ∷ R5 ∷ []

-- which descriptor is above the other has no part in constitution
either_way : {N : Type 0} (seen : Seen N) (r_first : Bool) (node : ℕ → N)
    → decided_in_turn seen r_first early_rules node ≡ decided_in_turn seen true early_rules node
either_way seen r_first node = refl

module _ (rules : Rules) (g : Graph) (positions : List (List ℕ)) (all : List units.Unit) (a : Growth)
    (sound : IsSound g) (ligands : List Ligand)
    (beside : (i vertex : ℕ) → slice_get ligands i ≡ Some (Vertex vertex)
    → is_in vertex (neighbours g a.root) ≡ true) (trying : Trying)
    (are : AreConstituted rules g positions a (pairs_of ligands) trying.branched trying.noted) where
  abbrev now : Branched
  now = trying.branched

  abbrev descriptor : List ℕ → Option Descriptor
  descriptor = auxiliary rules g positions all

  abbrev seen : Seen Node
  seen = seen_at rules g positions all a.root

  abbrev node : ℕ → Node
  node = node_of rules g positions a now

  abbrev find : Bool → ℕ → ℕ → Option Decision
  find r_first n m = order seen r_first (node n) (node m)

  abbrev begin : List BranchPair
  begin = map (asked_by are.branch) (pairs_of ligands)

  begin_within : AllByRecursion (AreWithin are.count) begin
  begin_within = asked_within g positions a.root a.bound are.branch are.count are.within (pairs_of ligands)

  node_is : (i vertex : ℕ) → slice_get ligands i ≡ Some (Vertex vertex)
      → node (are.branch vertex) ≡ real_node vertex (a.root ∷ [])
  node_is i vertex at = are.stands vertex (real_node vertex (a.root ∷ []))
      (one_node g sound a.root positions vertex (beside i vertex at))

  -- what is found by all rules is the order
  pub stands_whole : (standing : Standing)
      → ((r_first : Bool) → asked_in standing r_first
      ≡ by_vertices (pairs_of ligands) (map (with_found (find r_first)) begin))
      → (r_first : Bool) (i j v w : ℕ) → slice_get ligands i ≡ Some (Vertex v)
      → slice_get ligands j ≡ Some (Vertex w)
      → standing_of standing r_first v w ≡ order seen r_first (real_node v (a.root ∷ [])) (real_node w (a.root ∷ []))
  stands_whole standing requested =
      stands_paired seen a.root ligands are.branch find
      (λ r_first i j v w at_v at_w. ap (λ n. order seen r_first n (node (are.branch w))) (node_is i v at_v)
      ∙ ap (order seen r_first (real_node v (a.root ∷ []))) (node_is j w at_w)) standing requested

  -- where constitution decides all pairs, it is what all rules find
  pub found_early : list_all is_decided trying.noted ≡ true → (r_first : Bool)
      → trying.noted ≡ map (with_found (find r_first)) begin
  found_early done r_first =
      order_told seen r_first node node are.count begin begin_within early_rules late_rules refl trying.noted
      ((are.decided descriptor).noted ∙ ap (λ f. map (with_found f) begin) (sym (either_way seen r_first node))) done

  -- and where it doesn't, descriptors say what all rules find
  pub found_late : list_all is_decided trying.noted ≡ false → (descriptors : List (Option Descriptor))
      → AreDescriptorsOf (named g positions a.root a.bound) seen.descriptor descriptors now → (natural turned : List BranchPair)
      → AreOrdered trying descriptors natural turned
      → (natural ≡ map (with_found (find true)) begin) × (turned ≡ map (with_found (find false)) begin)
  found_late undone descriptors have natural turned ordered =
      ordered.each seen (named g positions a.root a.bound) node are.count begin begin_within
      ((are.decided descriptor).stands undone) have
