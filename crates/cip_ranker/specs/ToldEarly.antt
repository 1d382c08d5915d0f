-- Ligands of a root that two spheres distinguish by Rule 1a, and what is decided between each two of them. Own.
use Rattle.std.specs.Prelude.{ℕ, ◌&&◌, Bool, List, [], ◌∷◌, length, map, nat_le}
use Rattle.std.specs.declared.option.Option.{Option}
use Rattle.cip_mol.specs.declared.labels.outcome.Rule.TheVariants.{R1a}
use Rattle.cip_mol.specs.declared.site.Ligand.{Ligand}
use Rattle.cip_digraph.specs.declared.decisions.decision.Decision.{Decision}
use Rattle.cip_digraph.specs.digraph.Digraph.{digraph, real_node}
use Rattle.cip_digraph.specs.rules.EarlyOrder.{differ_within}
use Rattle.cip_digraph.specs.units.Ends.{end_at}
use Rattle.cip_label.specs.Settings.{LabelContext}
use Rattle.cip_digraph.specs.Asking.{with_found}
use Rattle.cip_rules.specs.Orders.{found_below}
use Rattle.cip_digraph.specs.declared.decisions.branch_pair.BranchPair.{BranchPair}
use Rattle.cip_constitution.specs.Noting.{asked_by, by_atoms}
use Rattle.cip_constitution.specs.Pairs.{pairs_of}

module _ (setting : LabelContext) (root : ℕ) where
  -- the digraph has at most n nodes up to its second sphere, within which each two ligands differ
  abbrev pub is_told_early : List Ligand → ℕ → Bool
  is_told_early ligands bound =
      nat_le (length (digraph setting.graph setting.positions root 2)) bound
      && differ_within setting.rules setting.graph setting.positions setting.units (end_at root ligands) 2

  -- what Rule 1a decides within it between the branches at two neighbours
  abbrev pub found_early : ℕ → ℕ → Option Decision
  found_early =
      found_below R1a (by_atoms setting.graph setting.positions root 0) (λ vertex. real_node vertex (root ∷ [])) 2

  -- and of each two ligands
  abbrev pub noted_early : List Ligand → List BranchPair
  noted_early ligands = map (with_found found_early) (map (asked_by (λ vertex. vertex)) (pairs_of ligands))
