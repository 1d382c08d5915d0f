use Rattle.std.proofs.Common.{◌≡◌, drop}
use Rattle.std.specs.List.{list_any}
use Rattle.cip_undefined.specs.Branches.{is_free}
use Rattle.cip_undefined.proofs.reach.has_free.Given as goal

abbrev pub invariant-loop-place : goal.invariant-loop-place
invariant-loop-place l =
    list_any (is_free l.free l.site) (drop l.place l.reached) ≡ list_any (is_free l.free l.site) l.reached
