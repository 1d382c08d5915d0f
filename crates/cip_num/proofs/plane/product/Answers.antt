use Rattle.std.proofs.Common.{◌≤◌, ◌∙◌, arith}
use Rattle.std.specs.Prelude.{unsigned_abs}
use Rattle.cip_num.proofs.lemmas.Sizes.{flat_back, flat_product_small, minor_back, product_back}
use Rattle.cip_num.proofs.plane.product.Goals as goal

pub returns-clause-value : goal.returns-clause-value
returns-clause-value c =
    let small : unsigned_abs c.args.a ≤ 2000000000000000000 = omega (arith, c.requires.a) in
    let low : unsigned_abs c.args.b ≤ 2000000000000000000 = omega (arith, c.requires.b) in
    rw (
      c.from.ensures ∙ flat_back c.args.a c.requires.a,
      c.from-2.ensures ∙ flat_back c.args.b c.requires.b,
      minor_back c.args.a small,
      minor_back c.args.b low,
      product_back c.args.a c.args.b small low,
    )

pub returns-clause-small : goal.returns-clause-small
returns-clause-small c =
    let small : unsigned_abs c.args.a ≤ 2000000000000000000 = omega (arith, c.requires.a) in
    let low : unsigned_abs c.args.b ≤ 2000000000000000000 = omega (arith, c.requires.b) in
    rw (
      c.from.ensures ∙ flat_back c.args.a c.requires.a,
      c.from-2.ensures ∙ flat_back c.args.b c.requires.b,
      minor_back c.args.a small,
      minor_back c.args.b low,
      product_back c.args.a c.args.b small low,
    )
    (flat_product_small c.args.a c.args.b c.requires.a c.requires.b)
