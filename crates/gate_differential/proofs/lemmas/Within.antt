-- Branches of neighbours, and a pair of them.
use Rattle.std.proofs.Common.{◌≡◌, ◌<◌, ℕ, List, [], ◌∷◌, All, Some, length}
use Rattle.std.proofs.lemmas.List.Elements.{All-from_recursion}
use Rattle.cip_digraph.specs.declared.decisions.branch_pair.BranchPair.{BranchPair}
use Rattle.cip_digraph.specs.Asking.{AreWithin}
use Rattle.cip_aux_rank.specs.LigandBranches.{branch_of}
use Rattle.cip_aux_rank.proofs.lemmas.AskedSides.{branch_is}

pub branch_within : (tops : List ℕ) (ligand branch : ℕ) → branch_of tops ligand ≡ Some branch → branch < length tops
branch_within tops ligand branch e = (branch_is tops ligand branch e).1

pub one_within : (count : ℕ) (one : BranchPair) → AreWithin count one → All (AreWithin count) (one ∷ [])
one_within count one within k d h = All-from_recursion (AreWithin count) (one ∷ []) (within, tt) k d h
