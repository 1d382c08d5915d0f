use Rattle.std.proofs.Common.{◌∙◌, ap, sym, refl, subst, true, false}
use Rattle.cip_mol.specs.Ends.{between_in, between_of}
use Rattle.cip_mol.specs.declared.site.Unit as units
use Rattle.cip_digraph.specs.rules.Auxiliary.{nearer_first}
use Rattle.cip_digraph.specs.LentEnds.{ends_in}
use Rattle.cip_aux.specs.DescriptorsInside.{AreEndTurns}
use Rattle.cip_aux.specs.UnitIndex.{unit_at}
use Rattle.cip_aux.proofs.lemmas.Keeping.{found_told, lent_turns, told_kept}
use Rattle.cip_aux.proofs.lemmas.LentEnds.{lent_joined}
use Rattle.cip_aux.proofs.node_descriptor.turns_here.Goals as goal

pub unit_parity-requires-clause-joined : goal.unit_parity-requires-clause-joined
unit_parity-requires-clause-joined g c =
    let here = c.args.here.now in
    let site = ap (λ (unit : units.Unit). unit.site) c.unit.ensures in
    lent_joined c.args.inner.now.sight.graph c.ends-ends.result (unit_at here.units.now here.place).site
    (c.ends-ends.ensures.site ∙ site) (c.ends-ends.ensures.between ∙ ap between_of site) c.requires.joined

pub returns-then-found-clause-kept : goal.returns-then-found-clause-kept
returns-then-found-clause-kept g c =
    let inner = c.args.inner.now in
    let here = c.args.here.now in
    let found = c.in-Ok.found in
    let all = here.units.now in
    let site = ap (λ (unit : units.Unit). unit.site) c.unit.ensures in
    told_kept inner here.vertex all here.place c.requires.vertex found.parities c.args.kept.now c.keep.new.kept
    c.from-then-found.result c.from-then-found.ensures
    (lent_turns inner here.vertex true found.parities c.ends-ends.result (unit_at all here.place).site
    (c.ends-ends.ensures.site ∙ site) (c.ends-ends.ensures.between ∙ ap between_of site)
    (subst (λ b. AreEndTurns inner inner.from b (between_in c.ends-ends.result)
    (nearer_first here.vertex (ends_in c.ends-ends.result)) found.parities) c.if-found.true c.in-Ok.ensures.parities))
    c.requires.kept c.keep.ensures.none c.keep.ensures.some

pub unit_parity-requires-clause-ready : goal.unit_parity-requires-clause-ready
unit_parity-requires-clause-ready g c = c.requires.ready

pub unit_parity-requires-clause-vertex : goal.unit_parity-requires-clause-vertex
unit_parity-requires-clause-vertex g c = c.requires.vertex

pub unit_parity-requires-clause-stands : goal.unit_parity-requires-clause-stands
unit_parity-requires-clause-stands g c = c.requires.stands

pub returns-in_default-clause-room : goal.returns-in_default-clause-room
returns-in_default-clause-room g c = c.unit_parity.ensures.room

pub returns-in_default-clause-stands : goal.returns-in_default-clause-stands
returns-in_default-clause-stands g c = c.unit_parity.ensures.stands

pub returns-in_default-clause-kept : goal.returns-in_default-clause-kept
returns-in_default-clause-kept g c = c.requires.kept

pub returns-then-found-clause-room : goal.returns-then-found-clause-room
returns-then-found-clause-room g c = c.unit_parity.ensures.room

pub returns-then-found-clause-stands : goal.returns-then-found-clause-stands
returns-then-found-clause-stands g c = c.unit_parity.ensures.stands

pub returns-else-found-clause-room : goal.returns-else-found-clause-room
returns-else-found-clause-room g c = c.unit_parity.ensures.room

pub returns-else-found-clause-stands : goal.returns-else-found-clause-stands
returns-else-found-clause-stands g c = c.unit_parity.ensures.stands

pub returns-else-found-clause-kept : goal.returns-else-found-clause-kept
returns-else-found-clause-kept g c = c.requires.kept

pub returns-else-found-clause-parities : goal.returns-else-found-clause-parities
returns-else-found-clause-parities g c =
    let inner = c.args.inner.now in
    let here = c.args.here.now in
    let found = c.in-Ok.found in
    let site = ap (λ (unit : units.Unit). unit.site) c.unit.ensures in
    lent_turns inner here.vertex false found.parities c.ends-ends.result (unit_at here.units.now here.place).site
    (c.ends-ends.ensures.site ∙ site) (c.ends-ends.ensures.between ∙ ap between_of site)
    (subst (λ b. AreEndTurns inner inner.from b (between_in c.ends-ends.result)
    (nearer_first here.vertex (ends_in c.ends-ends.result)) found.parities) c.if-found.false c.in-Ok.ensures.parities)

pub returns-in-Some-clause-parities : goal.returns-in-Some-clause-parities
returns-in-Some-clause-parities g c =
    let here = c.args.here.now in
    found_told c.args.inner.now here.vertex here.units.now here.place c.requires.vertex c.args.kept.now.items
    c.from.result c.in-Some.turn c.from.ensures c.requires.kept (sym c.of.ensures ∙ c.in-Some.is)

pub returns-in-Some-clause-kept_room : goal.returns-in-Some-clause-kept_room
returns-in-Some-clause-kept_room g c = refl

pub returns-in-Some-clause-stands : goal.returns-in-Some-clause-stands
returns-in-Some-clause-stands g c = c.requires.stands

pub returns-in-Some-clause-room : goal.returns-in-Some-clause-room
returns-in-Some-clause-room g c = refl
