use Rattle.std.proofs.Common.{arith}
use Rattle.std.proofs.lemmas.Grind.{common_steps}
use Rattle.cip_num.proofs.lemmas.Sizes.{flat_back, flat_product_back, flat_product_small}
use Rattle.cip_num.proofs.plane.small_product.Goals as goal

pub returns-clause-value : goal.returns-clause-value
returns-clause-value c =
    rw (flat_back c.args.a c.requires.a, flat_back c.args.b c.requires.b)
    (flat_product_back c.args.a c.args.b c.requires.a c.requires.b)

pub returns-clause-small : goal.returns-clause-small
returns-clause-small c =
    rw (
      flat_back c.args.a c.requires.a,
      flat_back c.args.b c.requires.b,
      flat_product_back c.args.a c.args.b c.requires.a c.requires.b,
    )
    (flat_product_small c.args.a c.args.b c.requires.a c.requires.b)

pub overflow_mul-result : goal.overflow_mul-result
overflow_mul-result c = grind (arith, common_steps)
