use Rattle.std.proofs.Common.{refl}
use Rattle.cip_rank.specs.Comparison.{sets, comparison}
use Rattle.cip_laws.proofs.ranking.trees.worked_trees_are_compared.Goals as goal

pub returns : goal.returns
unfolding comparison sets
returns c = record {
  carbons_tie = refl;
  aldehyde_precedes = refl;
  hydroxyl_precedes = refl;
  branches_tie = refl;
  whole_sphere_decides = refl;
  and_stays = refl;
  first_children_differ = refl;
  shorter_is_lower = refl;
  first_place_decides = refl;
  none_is_lowest = refl;
  earlier_decides = refl;
}
