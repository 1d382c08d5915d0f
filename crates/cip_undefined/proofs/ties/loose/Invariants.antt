use Rattle.std.proofs.Common.{◌≡◌, ◌++◌, drop}
use Rattle.cip_undefined.specs.Ties.{loose}
use Rattle.cip_undefined.proofs.ties.loose.Given as goal

abbrev pub invariant-loop-site : goal.invariant-loop-site
invariant-loop-site g l = record {
  so_far : l.left.items ++ loose l.setting l.fn.labeller l.fn.free.free (drop l.site-index l.sites)
      ≡ loose l.setting l.fn.labeller l.fn.free.free l.sites;
  kept : l.labeller ≡ l.fn.labeller;
  still : l.free ≡ l.fn.free;
}
