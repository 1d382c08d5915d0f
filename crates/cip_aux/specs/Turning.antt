-- How what is decided between each two ligands turns a sense. Own.
use Rattle.std.specs.Prelude.{Bool, List, map}
use Rattle.std.specs.declared.cmp.Ordering.{Ordering}
use Rattle.std.specs.declared.option.Option.{Option}
use Rattle.cip_digraph.specs.Sides.{found_side}
use Rattle.cip_digraph.specs.TurnsOf.{turns_of}
use Rattle.cip_digraph.specs.declared.decisions.branch_pair.BranchPair.{BranchPair}
use Rattle.cip_aux.specs.declared.ligand_ranker.FoundParity.{FoundParity}

-- which of two precedes
abbrev pub side_at : BranchPair → Option Ordering
side_at requested = found_side requested.decision

-- the turns by what is decided with R and with S first in the last rule
abbrev pub found_by : Bool → List BranchPair → List BranchPair → FoundParity
found_by by_constitution pairs turned = record {
  parities = turns_of (map side_at pairs) (map side_at turned);
  by_constitution = by_constitution;
}
