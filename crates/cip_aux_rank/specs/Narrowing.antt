-- Pairs that are asked about once more, by the branches of open pairs alone. Own.
use Rattle.std.specs.Prelude.{◌≡◌, ◌==◌, ◌&&◌, ◌||◌, ℕ, Bool, false, not, List, None, Some, filter, length, map, slice_index}
use Rattle.std.specs.List.{AllByRecursion, list_all, list_any}
use Rattle.std.specs.declared.option.Option.{Option}
use Rattle.cip_aux.specs.Views.{DigraphView, seen_sides}
use Rattle.cip_branches.specs.Deciding.{Branched}
use Rattle.cip_digraph.specs.rules.Decisions.{order}
use Rattle.cip_digraph.specs.Sides.{pair_sides}
use Rattle.cip_digraph.specs.Asking.{AreWithin, is_decided, with_found}
use Rattle.cip_digraph.specs.declared.decisions.branch_pair.BranchPair.{BranchPair}
use Rattle.cip_mol.specs.declared.labels.descriptor.Descriptor.{Descriptor}
use Rattle.cip_aux.specs.Turning.{side_at}
use Rattle.cip_aux_rank.specs.Asking.{asked_between, asked_of}
use Rattle.cip_aux_rank.specs.LigandBranches.{AreConstituted, seen_at, top_node}

-- what all rules decide between these pairs of branches says how ligands compare, whichever descriptors there are
pub record SidesAreTold (sight : DigraphView) (node : ℕ) (tops : List ℕ) (requested : List BranchPair) (ligands : List (Option ℕ)) : Type 0
  where
    pub each : (descriptor : List ℕ → Option Descriptor) (r_first : Bool)
        → map side_at (map (with_found (λ a b. order (seen_at sight node descriptor) r_first (top_node sight tops a)
        (top_node sight tops b))) requested) ≡ pair_sides (seen_sides sight node descriptor r_first) ligands

-- constitution left its branches so, with a pair open; and the pairs describe these ligands
pub record LeavesOpen (sight : DigraphView) (node : ℕ) (tops : List ℕ) (now : Branched) (pairs : List BranchPair)
    (ligands : List (Option ℕ)) : Type 0 where
  pub requested : List BranchPair
  pub within : AllByRecursion (AreWithin (length tops)) requested
  pub tell : SidesAreTold sight node tops requested ligands
  pub constituted : AreConstituted sight node tops now requested pairs
  pub undone : list_all is_decided pairs ≡ false

-- a node is at the top of one of two branches, between which nothing is decided
abbrev pub is_top_of : List ℕ → ℕ → BranchPair → Bool
is_top_of tops top pair =
    not (is_decided pair) && ((slice_index tops pair.first == top) || (slice_index tops pair.second == top))

abbrev pub is_open_top : List ℕ → List BranchPair → ℕ → Bool
is_open_top tops pairs top = list_any (is_top_of tops top) pairs

-- the tops of the branches in open pairs
abbrev pub unresolved_tops : List ℕ → List BranchPair → List (Option ℕ)
unresolved_tops tops pairs = map Some (filter (is_open_top tops pairs) tops)

-- the same two nodes at the tops of other branches; of two that are distinguished they don't matter
abbrev pub moved : List ℕ → List ℕ → BranchPair → BranchPair
moved tops others pair = elim pair.decision as (λ _. BranchPair) [
  | None ↦ asked_of others (Some (slice_index tops pair.first)) (Some (slice_index tops pair.second))
  | Some found ↦ asked_between 0 0 (Some found)
]
