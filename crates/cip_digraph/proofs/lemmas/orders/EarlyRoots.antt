-- A root whose ligands all differ by Rule 1a within a sphere.
use Rattle.std.proofs.Common.{◌≡◌, ◌≤◌, ◌+◌, ℕ, List, [], ◌∷◌, length, map, ap, ◌∙◌, true, false}
use Rattle.std.specs.List.{AllByRecursion}
use Rattle.cip_rank.specs.declared.rules.Rules.{Rules}
use Rattle.cip_mol.specs.declared.site.Ligand.{Ligand}
use Rattle.cip_mol.specs.declared.site.Unit as units
use Rattle.cip_digraph.specs.rules.Auxiliary.{ligand_node}
use Rattle.cip_digraph.specs.digraph.Digraph.{real_node}
use Rattle.cip_digraph.specs.rules.EarlyOrder.{order_within, IsToldWithin, seen_at, differ_within}
use Rattle.cip_digraph.specs.units.Ends.{End}
use Rattle.cip_digraph.specs.graph.Graph.{Graph}
use Rattle.cip_digraph.specs.outcome.Outcomes.{is_in_unit, end_root}
use Rattle.cip_digraph.specs.units.Ranked.{ranks, decisions_along}
use Rattle.cip_digraph.specs.graph.SoundGraphs.{IsSound}
use Rattle.cip_digraph.specs.digraph.View.{view_children}
use Rattle.cip_digraph.proofs.lemmas.orders.Early.{ranks_told, along_told, no_tie}
use Rattle.cip_digraph.proofs.lemmas.tree.Ligands.{one_at_most}

module _ (rules : Rules) (graph : Graph) (positions : List (List ℕ)) (all : List units.Unit) (end : End) (sphere : ℕ)
    (sound : IsSound graph) where
  each_short : (ligands : List Ligand) → AllByRecursion (λ nodes. length nodes ≤ 1)
      (map (ligand_node (view_children graph positions (end.at ∷ []) (real_node end.at []))) ligands)
  each_short [] = tt
  each_short (ligand ∷ ligands) = (one_at_most graph positions sound end.at ligand, each_short ligands)

  pub settled_order : 1 ≤ sphere → sphere ≤ (seen_at rules graph positions all end.at).height + 1 → differ_within rules
      graph positions all end sphere ≡ true
      → IsToldWithin (seen_at rules graph positions all end.at) sphere (end_root rules graph positions all end)
  settled_order some low e =
      let seen = seen_at rules graph positions all end.at in
      let root = end_root rules graph positions all end in
      let node = real_node end.at [] in
      let in_unit = is_in_unit rules graph positions all in
      let short = each_short end.ligands in
      record {
        tie = no_tie seen node root.ligands in_unit sphere some low short e true;
        ranks = ranks_told seen node root.ligands in_unit sphere some low short e true;
        turned_ranks = ranks_told seen node root.ligands in_unit sphere some low short e false;
        decisions = along_told seen node root.ligands in_unit sphere some low short e true (ranks root)
            ∙ ap (decisions_along (order_within seen sphere) root.ligands) (ranks_told seen node root.ligands in_unit
            sphere some low short e true);
      }
