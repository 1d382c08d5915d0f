-- The branches of two ligands as they are asked about. Own.
use Rattle.std.specs.Prelude.{ℕ, List, [], ◌∷◌, ◌++◌, map, None, Some, unwrap_or}
use Rattle.std.specs.declared.option.Option.{Option}
use Rattle.std.specs.declared.cmp.Ordering.{Ordering}
use Rattle.std.specs.declared.cmp.Ordering.TheVariants.{Less, Greater}
use Rattle.cip_mol.specs.declared.labels.outcome.Rule.TheVariants.{R1a}
use Rattle.cip_digraph.specs.declared.decisions.decision.Decision.{Decision}
use Rattle.cip_digraph.specs.declared.decisions.branch_pair.BranchPair.{BranchPair}
use Rattle.cip_aux_rank.specs.LigandBranches.{branch_of}

abbrev pub asked_between : ℕ → ℕ → Option Decision → BranchPair
asked_between first second decision = record { first = first; second = second; decision = decision }

-- decided by Rule 1a, in a sphere that isn't kept
abbrev pub known : Ordering → Option Decision
known side = Some (record { side = side; rule = R1a; sphere = 1 })

-- the branch of a ligand, the first one where it has none
abbrev pub branch_at : List ℕ → ℕ → ℕ
branch_at tops ligand = unwrap_or (branch_of tops ligand) 0

-- two ligands by number: a lone pair is below every node
abbrev pub asked_of : List ℕ → Option ℕ → Option ℕ → BranchPair
asked_of tops None None = asked_between 0 0 None
asked_of tops None (Some b) = asked_between 0 0 (known Less)
asked_of tops (Some a) None = asked_between 0 0 (known Greater)
asked_of tops (Some a) (Some b) = asked_between (branch_at tops a) (branch_at tops b) None

abbrev pub asked_pairs : List ℕ → List (Option ℕ) → List BranchPair
asked_pairs tops [] = []
asked_pairs tops (ligand ∷ ligands) = map (asked_of tops ligand) ligands ++ asked_pairs tops ligands
