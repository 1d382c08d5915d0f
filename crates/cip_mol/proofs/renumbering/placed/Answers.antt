use Rattle.std.proofs.Common.{◌≡◌, ◌<◌, length, subst, arith, rules}
use Rattle.cip_mol.proofs.lemmas.Permutations.{as_many, place_below}
use Rattle.cip_mol.proofs.lemmas.Placing.{StandAtPlaces, none_stands, one_more_stands, all_stand}
use Rattle.cip_mol.proofs.renumbering.placed.Goals as goal

pub loop-k-init : goal.loop-k-init
loop-k-init g c = none_stands c.args.places.now c.args.items.now c.in-Ok.there.items (omega (arith, c.in-Ok.there.ok, c.in-Ok.ensures.len))

pub offset_bounds-places-k : goal.offset_bounds-places-k
offset_bounds-places-k g c =
    let long = as_many _ _ c.requires in
    let within : c.loop-k.k < length c.args.places.now = omega (arith, long, c.loop-k-test.true) in
    search rules

pub bounds-places-k : goal.bounds-places-k
bounds-places-k g c = let long = as_many _ _ c.requires in omega (arith, long, c.loop-k-test.true)

pub index_mut-requires : goal.index_mut-requires
index_mut-requires g c =
    let below = place_below _ _ c.requires c.loop-k.k 0 c.loop-k-test.true in
    omega (arith, below, c.loop-k.invariant.len)

pub loop-k-preserved : goal.loop-k-preserved
loop-k-preserved g c =
    one_more_stands _ _ c.requires c.loop-k.k c.loop-k.there.items 0 c.index-items-k.result c.loop-k.invariant
    c.loop-k-test.true c.index-items-k.is

pub returns : goal.returns
returns g c none =
    let all : c.loop-k.k ≡ length c.args.items.now = omega (arith, c.loop-k-test.false, c.loop-k.auto.k-end) in
    all_stand _ _ c.requires none c.loop-k.there.items (subst (λ count. StandAtPlaces c.args.places.now c.args.items.now count c.loop-k.there.items) all c.loop-k.invariant)
