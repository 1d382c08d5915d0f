-- Which key of branches is compared. Own.
use Rattle.std.specs.Prelude.{ℤ, pos}
use Rattle.cip_digraph.specs.rules.Keys.{lower_precedes}
use Rattle.cip_tree.specs.Branches.{Branch, distance}
use Rattle.cip_tree.specs.declared.comparing.Key.{Key}
use Rattle.cip_tree.specs.declared.comparing.Key.TheVariants.{Atomic, Distance, Mass}

abbrev pub key_of : Key → Branch → ℤ
key_of Atomic = λ branch. pos branch.label.atomic
key_of (Distance rules) = λ branch. lower_precedes (distance rules branch.label)
key_of Mass = λ branch. pos branch.label.mass
