use Rattle.std.proofs.Common.{◌≡◌, ◌≤◌, All}
use Rattle.cip_label.specs.Fitting.{IsFitSite}
use Rattle.cip_undefined.specs.Branches.{free_atoms}
use Rattle.cip_undefined.specs.Ties.{loose_after}
use Rattle.cip_undefined.proofs.ties.settle.Given as goal

abbrev pub invariant-loop : goal.invariant-loop
invariant-loop g l = record {
  left : l.left.items ≡ loose_after l.setting l.fn.labeller l.counter l.others l.fn.sites.items;
  free : l.free ≡ record { graph = l.setting.graph; free = free_atoms l.others l.left.items };
  fit : All (IsFitSite l.setting.graph) l.left.items;
  kept : l.labeller ≡ l.fn.labeller;
}
