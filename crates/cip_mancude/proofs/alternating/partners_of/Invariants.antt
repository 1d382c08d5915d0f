use Rattle.std.proofs.Common.{take}
use Rattle.cip_mancude.specs.Partners.{ArePartnersBy}
use Rattle.cip_mancude.proofs.alternating.partners_of.Given as goal

abbrev pub invariant-loop-edge : goal.invariant-loop-edge
invariant-loop-edge l = ArePartnersBy l.graph (take l.edge-index l.graph.edges) l.partners.items
