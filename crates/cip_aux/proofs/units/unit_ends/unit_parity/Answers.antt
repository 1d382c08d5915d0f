use Rattle.cip_aux.specs.declared.ligand_ranker.FoundParity.{FoundParity}
use Rattle.cip_aux.specs.DescriptorsInside.{AreRootTurns, AreEndTurns}
use Rattle.cip_digraph.specs.rules.Auxiliary.{nearer_first}
use Rattle.cip_digraph.specs.units.Ends.{end_at}
use Rattle.std.specs.Prelude.{IfOk}
use Rattle.cip_mol.specs.Ends.{between_in}
use Rattle.cip_mol.specs.declared.ends.Ends.{Ends}
use Rattle.cip_digraph.specs.LentEnds.{ends_in}
use Rattle.std.proofs.Common.{[], ◌∷◌, sym, subst}
use Rattle.cip_aux.proofs.lemmas.EndTurns.{centre_is}
use Rattle.cip_aux.proofs.lemmas.NodeDescriptors.{ok_by}
use Rattle.cip_aux.specs.InnerContext.{Ready}
use Rattle.cip_aux.proofs.units.unit_ends.unit_parity.Goals as goal

pub returns-then-end-vertex-clause-parities : goal.returns-then-end-vertex-clause-parities
returns-then-end-vertex-clause-parities g c =
    let inner = c.args.inner.now in
    let ends = nearer_first c.args.vertex (end_at c.in-One.end.at c.in-One.end.ligands.now ∷ []) in
    subst (λ (of : Ends). IfOk c.turns_at.result (λ found. AreEndTurns inner inner.from found.by_constitution
    (between_in of) (nearer_first c.args.vertex (ends_in of)) found.parities)) (sym c.in-One.is) (ok_by
    (λ (found : FoundParity). AreRootTurns inner c.from.result found.by_constitution c.in-One.end.ligands.now
    found.parities)
    (λ (found : FoundParity). AreEndTurns inner inner.from found.by_constitution [] ends found.parities) c.turns_at.result
    (λ found are.
    centre_is inner c.from.result c.in-One.end.at c.args.vertex found.by_constitution c.in-One.end.ligands.now
    found.parities c.if-end-vertex.true c.from.ensures are)
    c.turns_at.ensures.parities)

pub turns_at-requires-clause-ready : goal.turns_at-requires-clause-ready
turns_at-requires-clause-ready g c = subst (Ready c.args.inner.now) (sym c.from.ensures) c.requires.ready

pub turns_at-requires-clause-stands : goal.turns_at-requires-clause-stands
turns_at-requires-clause-stands g c = c.requires.stands

pub returns-then-end-vertex-clause-room : goal.returns-then-end-vertex-clause-room
returns-then-end-vertex-clause-room g c = c.turns_at.ensures.room

pub returns-then-end-vertex-clause-stands : goal.returns-then-end-vertex-clause-stands
returns-then-end-vertex-clause-stands g c = c.turns_at.ensures.stands

pub ends_turns-requires-clause-stands : goal.ends_turns-requires-clause-stands
ends_turns-requires-clause-stands g c = c.requires.stands

pub ends_turns-requires-clause-ready : goal.ends_turns-requires-clause-ready
ends_turns-requires-clause-ready g c = c.requires.ready

pub ends_turns-requires-then-ends-vertex-2-clause-ready : goal.ends_turns-requires-then-ends-vertex-2-clause-ready
ends_turns-requires-then-ends-vertex-2-clause-ready g c = c.requires.ready

pub ends_turns-requires-then-ends-vertex-2-clause-stands : goal.ends_turns-requires-then-ends-vertex-2-clause-stands
ends_turns-requires-then-ends-vertex-2-clause-stands g c = c.requires.stands

pub returns-then-ends-vertex-clause-stands : goal.returns-then-ends-vertex-clause-stands
returns-then-ends-vertex-clause-stands g c = c.ends_turns.ensures.stands

pub returns-then-ends-vertex-clause-room : goal.returns-then-ends-vertex-clause-room
returns-then-ends-vertex-clause-room g c = c.ends_turns.ensures.room
