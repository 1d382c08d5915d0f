use Rattle.std.proofs.Common.{◌∙◌, refl, sym, ap, subst, [], ◌∷◌}
use Rattle.cip_digraph.specs.digraph.NodeList.{parents_of}
use Rattle.cip_digraph.specs.units.Ends.{end_at}
use Rattle.std.specs.Prelude.{option_to_list}
use Rattle.cip_aux.specs.declared.ligand_ranker.FoundParity.{FoundParity}
use Rattle.cip_aux.specs.InnerContext.{Ready}
use Rattle.cip_aux.specs.Joining.{far_number}
use Rattle.cip_aux.specs.DescriptorsInside.{AreRootTurns, AreEndTurns}
use Rattle.cip_aux.specs.Neighbours.{shape_at}
use Rattle.cip_aux.specs.Views.{DigraphView}
use Rattle.cip_aux.proofs.lemmas.EndTurns.{far_ready, no_far, near_ties, both_ends}
use Rattle.cip_aux.proofs.units.unit_ends.ends_turns.Goals as goal

pub returns-in_default-clause-parities : goal.returns-in_default-clause-parities
returns-in_default-clause-parities g c =
    let inner = c.args.inner.now in
    let ends = c.args.ends.now in
    let node_data = c.nodes.ensures.node_data ∙ ap (λ (s : DigraphView). s.node_data) c.whole.ensures in
    subst (λ (found : FoundParity). AreEndTurns inner inner.from found.by_constitution (option_to_list ends.between)
    (end_at ends.nearer.at ends.nearer.ligands.now ∷ end_at ends.far.at ends.far.ligands.now ∷ []) found.parities)
    (sym c.no_turns.ensures)
    (no_far inner inner.from c.requires.ready ends.between ends.far.at ends.nearer.ligands.now ends.far.ligands.now ends.nearer.at
    c.requires.joins
    (sym c.in_default.is ∙ c.far_end.ensures
    ∙ (λ i. far_number (shape_at (node_data i)) (parents_of (node_data i)) (c.from-node.ensures i) ends.between ends.far.at)))

pub turns_at-requires-else-is_none-clause-ready : goal.turns_at-requires-else-is_none-clause-ready
turns_at-requires-else-is_none-clause-ready g c =
    let inner = c.args.inner.now in
    let ends = c.args.ends.now in
    let node_data = c.nodes.ensures.node_data ∙ ap (λ (s : DigraphView). s.node_data) c.whole.ensures in
    far_ready inner inner.from c.requires.ready ends.between ends.far.at c.in-Some.other
    (sym c.in-Some.is ∙ c.far_end.ensures
    ∙ (λ i. far_number (shape_at (node_data i)) (parents_of (node_data i)) (c.from-node.ensures i) ends.between ends.far.at))

pub returns-then-is_none-clause-parities : goal.returns-then-is_none-clause-parities
returns-then-is_none-clause-parities g c =
    let inner = c.args.inner.now in
    let ends = c.args.ends.now in
    let one = c.in-Ok.one in
    let node_data = c.nodes.ensures.node_data ∙ ap (λ (s : DigraphView). s.node_data) c.whole.ensures in
    near_ties inner inner.from c.requires.ready ends.between ends.far.at ends.nearer.ligands.now ends.far.ligands.now ends.nearer.at
    c.in-Some.other one.by_constitution one.parities c.if-is_none.ensures
    (sym c.in-Some.is ∙ c.far_end.ensures
    ∙ (λ i. far_number (shape_at (node_data i)) (parents_of (node_data i)) (c.from-node.ensures i) ends.between ends.far.at))
    (subst (λ n. AreRootTurns inner n one.by_constitution ends.nearer.ligands.now one.parities) c.from-node.ensures
    c.in-Ok.ensures.parities)

pub returns-in-Ok-turns_at-clause-parities : goal.returns-in-Ok-turns_at-clause-parities
returns-in-Ok-turns_at-clause-parities g c =
    let inner = c.args.inner.now in
    let ends = c.args.ends.now in
    let one = c.in-Ok.one in
    let two = c.in-Ok-turns_at.two in
    let node_data = c.nodes.ensures.node_data ∙ ap (λ (s : DigraphView). s.node_data) c.whole.ensures in
    subst (λ (found : FoundParity). AreEndTurns inner inner.from found.by_constitution (option_to_list ends.between)
    (end_at ends.nearer.at ends.nearer.ligands.now ∷ end_at ends.far.at ends.far.ligands.now ∷ []) found.parities)
    (sym c.both_found.ensures)
    (both_ends inner inner.from c.requires.ready ends.between ends.far.at ends.nearer.ligands.now ends.far.ligands.now ends.nearer.at
    c.in-Some.other one.by_constitution two.by_constitution one.parities two.parities
    (sym c.in-Some.is ∙ c.far_end.ensures
    ∙ (λ i. far_number (shape_at (node_data i)) (parents_of (node_data i)) (c.from-node.ensures i) ends.between ends.far.at))
    (subst (λ n. AreRootTurns inner n one.by_constitution ends.nearer.ligands.now one.parities) c.from-node.ensures
    c.in-Ok.ensures.parities)
    c.in-Ok-turns_at.ensures.parities)

pub returns-in_default-clause-room : goal.returns-in_default-clause-room
returns-in_default-clause-room g c = refl

pub returns-in_default-clause-stands : goal.returns-in_default-clause-stands
returns-in_default-clause-stands g c = c.requires.stands

pub turns_at-requires-clause-ready : goal.turns_at-requires-clause-ready
turns_at-requires-clause-ready g c = subst (Ready c.args.inner.now) (sym c.from-node.ensures) c.requires.ready

pub turns_at-requires-clause-stands : goal.turns_at-requires-clause-stands
turns_at-requires-clause-stands g c = c.requires.stands

pub returns-in_default-turns_at-clause-room : goal.returns-in_default-turns_at-clause-room
returns-in_default-turns_at-clause-room g c = c.turns_at.ensures.room

pub returns-in_default-turns_at-clause-stands : goal.returns-in_default-turns_at-clause-stands
returns-in_default-turns_at-clause-stands g c = c.turns_at.ensures.stands

pub returns-then-is_none-clause-room : goal.returns-then-is_none-clause-room
returns-then-is_none-clause-room g c = c.turns_at.ensures.room

pub returns-then-is_none-clause-stands : goal.returns-then-is_none-clause-stands
returns-then-is_none-clause-stands g c = c.turns_at.ensures.stands

pub turns_at-requires-else-is_none-clause-stands : goal.turns_at-requires-else-is_none-clause-stands
turns_at-requires-else-is_none-clause-stands g c = c.turns_at.ensures.stands

pub returns-in_default-turns_at-2-clause-room : goal.returns-in_default-turns_at-2-clause-room
returns-in_default-turns_at-2-clause-room g c = c.turns_at-else-is_none.ensures.room ∙ c.turns_at.ensures.room

pub returns-in_default-turns_at-2-clause-stands : goal.returns-in_default-turns_at-2-clause-stands
returns-in_default-turns_at-2-clause-stands g c = c.turns_at-else-is_none.ensures.stands

pub returns-in-Ok-turns_at-clause-room : goal.returns-in-Ok-turns_at-clause-room
returns-in-Ok-turns_at-clause-room g c = c.turns_at-else-is_none.ensures.room ∙ c.turns_at.ensures.room

pub returns-in-Ok-turns_at-clause-stands : goal.returns-in-Ok-turns_at-clause-stands
returns-in-Ok-turns_at-clause-stands g c = c.turns_at-else-is_none.ensures.stands
