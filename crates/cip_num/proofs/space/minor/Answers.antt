use Rattle.std.proofs.Common.{◌≡◌, ◌≤◌, ◌∙◌}
use Rattle.std.specs.Prelude.{ℤ, ◌*ℤ◌, ◌-ℤ◌, unsigned_abs}
use Rattle.cip_num.proofs.lemmas.Sizes.{flat_back, flat_kept, flat_product_kept, flat_product_size, minor_back, minor_kept}
use mir.Syntax.{w64, w128}
use mir.Val.{to_z, of_z}
use Rattle.cip_num.proofs.space.minor.Goals as goal

-- a product in memory, of numbers in memory
product_is : (m p q : ℤ) → unsigned_abs m ≤ 1000000000000000000 → unsigned_abs p ≤ 1000000000
    → unsigned_abs q ≤ 1000000000 → m ≡ to_z w64 (of_z w64 p) *ℤ to_z w64 (of_z w64 q)
    → to_z w128 (of_z w128 m) ≡ p *ℤ q
product_is m p q small at_p at_q is =
    flat_product_size m small ∙ is ∙ (λ i. flat_back p at_p i *ℤ flat_back q at_q i)

pub product-requires-clause-a : goal.product-requires-clause-a
product-requires-clause-a c = flat_kept c.args.p c.requires.p

pub product-requires-clause-b : goal.product-requires-clause-b
product-requires-clause-b c = flat_kept c.args.s c.requires.s

pub product-requires-2-clause-a : goal.product-requires-2-clause-a
product-requires-2-clause-a c = flat_kept c.args.q c.requires.q

pub product-requires-2-clause-b : goal.product-requires-2-clause-b
product-requires-2-clause-b c = flat_kept c.args.r c.requires.r

pub difference-requires-clause-a : goal.difference-requires-clause-a
difference-requires-clause-a c = flat_product_kept c.product.result c.product.ensures.small

pub difference-requires-clause-b : goal.difference-requires-clause-b
difference-requires-clause-b c = flat_product_kept c.product-2.result c.product-2.ensures.small

pub returns-clause-value : goal.returns-clause-value
returns-clause-value c =
    minor_back c.difference.result c.difference.ensures.small ∙ c.difference.ensures.value
    ∙ (λ i. product_is c.product.result c.args.p c.args.s c.product.ensures.small c.requires.p c.requires.s
    c.product.ensures.value i
    -ℤ product_is c.product-2.result c.args.q c.args.r c.product-2.ensures.small c.requires.q c.requires.r
    c.product-2.ensures.value i)

pub returns-clause-small : goal.returns-clause-small
returns-clause-small c = minor_kept c.difference.result c.difference.ensures.small
