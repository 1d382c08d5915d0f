use Rattle.std.proofs.Common.{◌∙◌, ap, length, arith}
use Rattle.cip_orient.proofs.lemmas.FirstPlaces.{first_listed}
use Rattle.std.proofs.lemmas.Grind.{common_steps}
use Rattle.cip_orient.proofs.flat_centre.places.Goals as goal

pub loop-number-init : goal.loop-number-init
loop-number-init c =
    let first = rw c.new-places.ensures at c.push.ensures in
    record {
      so_far = first ∙ first_listed c.args.directions.now c.requires.some;
      counted = ap length first;
    }

pub loop-number-preserved : goal.loop-number-preserved
loop-number-preserved c = grind (arith, common_steps)

pub returns : goal.returns
returns c = grind (arith, common_steps)
