use Rattle.cip_num.proofs.lemmas.Sizes.{flat_kept, flat_size_kept}
use Rattle.cip_num.proofs.plane.lean.Goals as goal

pub small_product-requires-clause-a : goal.small_product-requires-clause-a
small_product-requires-clause-a c = flat_kept c.args.u.x c.requires.u.x

pub small_product-requires-clause-b : goal.small_product-requires-clause-b
small_product-requires-clause-b c = flat_kept c.args.v.x c.requires.v.x

pub small_product-requires-2-clause-a : goal.small_product-requires-2-clause-a
small_product-requires-2-clause-a c = flat_kept c.args.u.y c.requires.u.y

pub small_product-requires-2-clause-b : goal.small_product-requires-2-clause-b
small_product-requires-2-clause-b c = flat_kept c.args.v.y c.requires.v.y

pub small_total-requires-clause-a : goal.small_total-requires-clause-a
small_total-requires-clause-a c = flat_size_kept c.small_product.result c.small_product.ensures.small

pub small_total-requires-clause-b : goal.small_total-requires-clause-b
small_total-requires-clause-b c = flat_size_kept c.small_product-2.result c.small_product-2.ensures.small
