use Rattle.std.proofs.Common.{◌≡◌, ◌<◌, All, length}
use Rattle.cip_aux.specs.ParityCache.{AreKept, sites_in}
use Rattle.cip_aux.proofs.lemmas.UnitLetters.{Leaves}
use Rattle.cip_aux.proofs.node_descriptor.node_descriptor.Given as goal

abbrev pub invariant-loop-rest : goal.invariant-loop-rest
invariant-loop-rest g l = record {
  room : g.V.LigandRanker.room l.viewer ≡ g.V.LigandRanker.room l.initial.viewer;
  stands : g.V.LigandRanker.stands l.viewer l.inner.sight;
  kept : AreKept l.inner.sight (sites_in l.units) l.kept.items;
  kept_room : l.kept.room ≡ l.initial.kept.room;
  low : All (λ place. place < length l.units) l.rest;
  left : Leaves l.inner l.inner.from l.units l.rest;
}

abbrev pub decreases-loop-rest : goal.decreases-loop-rest
decreases-loop-rest g l = length l.rest
