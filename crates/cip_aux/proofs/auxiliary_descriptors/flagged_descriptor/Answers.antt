use Rattle.std.proofs.Common.{◌≡◌, ◌∙◌, refl, sym, ap, subst, cond, None, IfOk, rules}
use Rattle.std.specs.declared.option.Option.{Option}
use Rattle.cip_mol.specs.declared.labels.descriptor.Descriptor.{Descriptor}
use Rattle.cip_digraph.specs.digraph.NodeList.{told_at}
use Rattle.cip_digraph.specs.digraph.Telling.{node_at}
use Rattle.cip_aux.specs.InnerContext.{InnerContext, Ready}
use Rattle.cip_aux.specs.ParityCache.{AreKept, sites_in}
use Rattle.cip_aux.specs.DescriptorsInside.{IsFirstLetter, UnitsJoin, descriptor_at_node, flag_at}
use Rattle.cip_aux.specs.Neighbours.{atom_told}
use Rattle.cip_aux.specs.Views.{IsReal, sight_of}
use Rattle.cip_aux.proofs.lemmas.NodeDescriptors.{atom_stands, inner_is, inner_described, ok_by, root_descriptor, some_number}
use Rattle.cip_aux.proofs.auxiliary_descriptors.flagged_descriptor.Goals as goal

pub node_descriptor-requires-clause-ready : goal.node_descriptor-requires-clause-ready
node_descriptor-requires-clause-ready g c =
    let sight = sight_of c.args.whole.now in
    let all = c.args.requested.now.units.now in
    let node = c.args.behind.now.node in
    let atom = atom_stands sight c.requires.shows node c.in-Some.vertex c.requires.within
    ((λ i. atom_told (told_at (sym c.nodes.ensures.node_data i) node)) ∙ sym c.atom_at.ensures ∙ c.in-Some.is) in
    let below = inner_described (record { sight = sight; from = node; descriptors = c.args.behind.now.descriptors.now.descriptors })
    c.requires.shows all c.args.requested.now.flags.now c.requires.requested (sym c.is_at.ensures ∙ c.if-is_at.true)
    c.requires.behind in
    subst (λ (inner : InnerContext). Ready inner inner.from) (sym c.new-inner.ensures)
    (record { shows = c.requires.shows; real = atom.0; descriptors = below.len })

pub node_descriptor-requires-clause-vertex : goal.node_descriptor-requires-clause-vertex
node_descriptor-requires-clause-vertex g c =
    let sight = sight_of c.args.whole.now in
    let all = c.args.requested.now.units.now in
    let node = c.args.behind.now.node in
    let atom = atom_stands sight c.requires.shows node c.in-Some.vertex c.requires.within
    ((λ i. atom_told (told_at (sym c.nodes.ensures.node_data i) node)) ∙ sym c.atom_at.ensures ∙ c.in-Some.is) in
    subst (λ (inner : InnerContext). c.in-Some.vertex ≡ (node_at inner.sight.nodes inner.from).vertex)
    (sym c.new-inner.ensures) atom.1

pub node_descriptor-requires-clause-joined : goal.node_descriptor-requires-clause-joined
node_descriptor-requires-clause-joined g c =
    subst (λ (inner : InnerContext). UnitsJoin inner.sight c.args.requested.now.units.now) (sym c.new-inner.ensures)
    c.requires.joined

pub node_descriptor-requires-clause-stands : goal.node_descriptor-requires-clause-stands
node_descriptor-requires-clause-stands g c =
    subst (λ (inner : InnerContext). g.V.LigandRanker.stands c.args.viewer.now inner.sight) (sym c.new-inner.ensures)
    c.requires.stands

pub node_descriptor-requires-clause-kept : goal.node_descriptor-requires-clause-kept
node_descriptor-requires-clause-kept g c =
    subst (λ (inner : InnerContext). AreKept inner.sight (sites_in c.args.requested.now.units.now) c.args.kept.now.items)
    (sym c.new-inner.ensures) c.requires.kept

pub returns-in_default-clause-descriptor : goal.returns-in_default-clause-descriptor
returns-in_default-clause-descriptor g c =
    let sight = sight_of c.args.whole.now in
    let all = c.args.requested.now.units.now in
    let node = c.args.behind.now.node in
    let found = descriptor_at_node sight all (node_at sight.nodes node) in
    let here = sym (ap (λ b. cond b found None) (sym c.is_at.ensures ∙ c.if-is_at.true)) in
    let none : ◌≡◌ {A = Option Descriptor} None found = search rules in
    none ∙ here

pub returns-then-node-eq0-clause-descriptor : goal.returns-then-node-eq0-clause-descriptor
returns-then-node-eq0-clause-descriptor g c =
    let sight = sight_of c.args.whole.now in
    let all = c.args.requested.now.units.now in
    let node = c.args.behind.now.node in
    let atom = atom_stands sight c.requires.shows node c.in-Some.vertex c.requires.within
    ((λ i. atom_told (told_at (sym c.nodes.ensures.node_data i) node)) ∙ sym c.atom_at.ensures ∙ c.in-Some.is) in
    let found = descriptor_at_node sight all (node_at sight.nodes node) in
    let here = sym (ap (λ b. cond b found None) (sym c.is_at.ensures ∙ c.if-is_at.true)) in
    subst (λ n. ◌≡◌ {A = Option Descriptor} None (descriptor_at_node sight all (node_at sight.nodes n)))
    (sym c.if-node-eq0.true)
    (root_descriptor sight c.requires.shows all (subst (IsReal sight.nodes) c.if-node-eq0.true atom.0)) ∙ here

pub returns-else-node-eq0-clause-descriptor : goal.returns-else-node-eq0-clause-descriptor
returns-else-node-eq0-clause-descriptor g c =
    let sight = sight_of c.args.whole.now in
    let all = c.args.requested.now.units.now in
    let node = c.args.behind.now.node in
    let atom = atom_stands sight c.requires.shows node c.in-Some.vertex c.requires.within
    ((λ i. atom_told (told_at (sym c.nodes.ensures.node_data i) node)) ∙ sym c.atom_at.ensures ∙ c.in-Some.is) in
    let below = inner_described (record { sight = sight; from = node; descriptors = c.args.behind.now.descriptors.now.descriptors })
    c.requires.shows all c.args.requested.now.flags.now c.requires.requested (sym c.is_at.ensures ∙ c.if-is_at.true)
    c.requires.behind in
    let found = descriptor_at_node sight all (node_at sight.nodes node) in
    let here = sym (ap (λ b. cond b found None) (sym c.is_at.ensures ∙ c.if-is_at.true)) in
    let inner : InnerContext = record { sight = sight; from = node; descriptors = c.args.behind.now.descriptors.now.descriptors } in
    ok_by (IsFirstLetter inner node all)
    (λ descriptor. descriptor ≡ cond (flag_at c.args.requested.now.flags.now node) found None) c.node_descriptor.result
    (λ descriptor first.
    inner_is inner c.requires.shows all descriptor (some_number node (λ h. c.if-node-eq0.false h)) atom.0 below first
    ∙ here)
    (subst (λ (of : InnerContext). IfOk c.node_descriptor.result (IsFirstLetter of of.from all)) c.new-inner.ensures
    c.node_descriptor.ensures.letter)

pub returns-else-node-eq0-clause-room : goal.returns-else-node-eq0-clause-room
returns-else-node-eq0-clause-room g c =
    c.node_descriptor.ensures.room

pub returns-else-node-eq0-clause-stands : goal.returns-else-node-eq0-clause-stands
returns-else-node-eq0-clause-stands g c =
    subst (λ (inner : InnerContext). g.V.LigandRanker.stands c.node_descriptor.new.viewer inner.sight) c.new-inner.ensures
    c.node_descriptor.ensures.stands

pub returns-else-node-eq0-clause-kept : goal.returns-else-node-eq0-clause-kept
returns-else-node-eq0-clause-kept g c =
    subst (λ (inner : InnerContext). AreKept inner.sight (sites_in c.args.requested.now.units.now) c.node_descriptor.new.kept.items)
    c.new-inner.ensures c.node_descriptor.ensures.kept

pub returns-else-node-eq0-clause-kept_room : goal.returns-else-node-eq0-clause-kept_room
returns-else-node-eq0-clause-kept_room g c =
    c.node_descriptor.ensures.kept_room

pub returns-in_default-clause-room : goal.returns-in_default-clause-room
returns-in_default-clause-room g c =
    refl

pub returns-in_default-clause-stands : goal.returns-in_default-clause-stands
returns-in_default-clause-stands g c =
    c.requires.stands

pub returns-in_default-clause-kept : goal.returns-in_default-clause-kept
returns-in_default-clause-kept g c =
    c.requires.kept

pub returns-then-node-eq0-clause-room : goal.returns-then-node-eq0-clause-room
returns-then-node-eq0-clause-room g c =
    refl

pub returns-then-node-eq0-clause-stands : goal.returns-then-node-eq0-clause-stands
returns-then-node-eq0-clause-stands g c =
    c.requires.stands

pub returns-then-node-eq0-clause-kept : goal.returns-then-node-eq0-clause-kept
returns-then-node-eq0-clause-kept g c =
    c.requires.kept

pub returns-else-is_at-clause-room : goal.returns-else-is_at-clause-room
returns-else-is_at-clause-room g c =
    refl

pub returns-else-is_at-clause-stands : goal.returns-else-is_at-clause-stands
returns-else-is_at-clause-stands g c =
    c.requires.stands

pub returns-else-is_at-clause-kept : goal.returns-else-is_at-clause-kept
returns-else-is_at-clause-kept g c =
    c.requires.kept

pub returns-else-is_at-clause-descriptor : goal.returns-else-is_at-clause-descriptor
returns-else-is_at-clause-descriptor g c =
    let sight = sight_of c.args.whole.now in
    let all = c.args.requested.now.units.now in
    let node = c.args.behind.now.node in
    let found = descriptor_at_node sight all (node_at sight.nodes node) in
    sym (ap (λ b. cond b found None) (sym c.is_at.ensures ∙ c.if-is_at.false))
