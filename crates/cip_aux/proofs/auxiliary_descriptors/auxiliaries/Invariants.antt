use Rattle.std.proofs.Common.{◌≡◌, ◌-◌}
use Rattle.cip_aux.specs.ParityCache.{AreKept, sites_in}
use Rattle.cip_aux.specs.DescriptorsInside.{HaveDescriptors}
use Rattle.cip_aux.specs.Views.{sight_of}
use Rattle.cip_aux.proofs.auxiliary_descriptors.auxiliaries.Given as goal

abbrev pub invariant-loop-done : goal.invariant-loop-done
invariant-loop-done g l = record {
  room : g.V.LigandRanker.room l.viewer ≡ g.V.LigandRanker.room l.initial.viewer;
  stands : g.V.LigandRanker.stands l.viewer (sight_of l.whole);
  bound : l.descriptors.bound ≡ l.fn.descriptors.bound;
  kept : AreKept (sight_of l.whole) (sites_in l.fn.requested.units.now) l.kept.items;
  kept_room : l.kept.room ≡ l.initial.kept.room;
  descriptors : HaveDescriptors (sight_of l.whole) l.fn.requested.units.now l.fn.requested.flags.now (l.count - l.done) l.descriptors.descriptors;
}
