use Rattle.std.proofs.Common.{◌≡◌, drop}
use Rattle.std.specs.List.{flat_map}
use Rattle.cip_digraph.specs.rings.SmallRings.{with_new}
use Rattle.cip_undefined.specs.Branches.{ends_at}
use Rattle.cip_undefined.proofs.reach.add_sites.Given as goal

abbrev pub invariant-loop-site : goal.invariant-loop-site
invariant-loop-site l =
    with_new l.free (flat_map ends_at (drop l.site-index l.sites))
    ≡ with_new l.initial.free (flat_map ends_at l.sites)
