use Rattle.std.proofs.Common.{◌∙◌, ℕ, List, length, sym, ap, subst, arith}
use Rattle.std.specs.declared.option.Option.{Option}
use Rattle.cip_partition.specs.Keys.{AreKeyed}
use Rattle.cip_mol.specs.declared.labels.descriptor.Descriptor.{Descriptor}
use Rattle.cip_digraph.specs.digraph.NodeList.{parents_of}
use Rattle.cip_digraph.specs.digraph.Telling.{node_at}
use Rattle.cip_rules.specs.DescriptorMap.{AreDescriptorsOf}
use Rattle.cip_aux.specs.Views.{DigraphView}
use Rattle.cip_aux.proofs.lemmas.WholeTold.{parents_len}
use Rattle.cip_aux_rank.specs.NodeDescriptors.{descriptors_below}
use Rattle.cip_aux_rank.specs.LigandBranches.{described_by}
use Rattle.cip_aux_rank.proofs.lemmas.Configured.{counted_are, counted_keyed, descriptors_are}
use Rattle.cip_aux_rank.proofs.ranker.configure.Goals as goal

pub returns-then-all_below-clause-ordered : goal.returns-then-all_below-clause-ordered
returns-then-all_below-clause-ordered g c = λ begin descriptor within is undone agrees.
    let inner = c.args.inner.now in
    let ligand_branches = c.args.ligand_branches.now in
    c.apply_rules_3_to_5.ensures.decided inner.sight c.args.node begin descriptor within is undone
    (subst (λ (descriptors : List (Option Descriptor)). AreDescriptorsOf (node_at inner.sight.nodes) (described_by descriptor) descriptors
    ligand_branches.now) (sym c.descriptors-all.ensures)
    (descriptors_are inner c.args.node c.requires.ready ligand_branches.tops c.requires.tops ligand_branches.now c.requires.placed
    (sym c.from-from.ensures ∙ c.if-from-node.true) (c.all_below.ensures.down c.if-all_below.true) descriptor agrees))

pub apply_rules_3_to_5-requires-else-from-node-clause-keyed : goal.apply_rules_3_to_5-requires-else-from-node-clause-keyed
apply_rules_3_to_5-requires-else-from-node-clause-keyed g c =
    let inner = c.args.inner.now in
    let ligand_branches = c.args.ligand_branches.now in
    let parents = c.table.ensures
    ∙ ap parents_of (c.nodes.ensures.node_data ∙ ap (λ (s : DigraphView). s.node_data) c.whole.ensures) in
    subst (λ (descriptors : List (Option Descriptor)). AreKeyed (length descriptors) ligand_branches.now.layers.place_tree)
    (sym (λ i. descriptors_below (parents i) (c.from-from.ensures i) (c.descriptors-all.ensures i)))
    (counted_keyed inner c.args.node c.requires.ready ligand_branches.tops ligand_branches.now c.requires.placed)

pub returns-else-from-node-clause-ordered : goal.returns-else-from-node-clause-ordered
returns-else-from-node-clause-ordered g c = λ begin descriptor within is undone agrees.
    let inner = c.args.inner.now in
    let ligand_branches = c.args.ligand_branches.now in
    let parents = c.table.ensures
    ∙ ap parents_of (c.nodes.ensures.node_data ∙ ap (λ (s : DigraphView). s.node_data) c.whole.ensures) in
    c.apply_rules_3_to_5-else-from-node.ensures.decided inner.sight c.args.node begin descriptor within is undone
    (subst (λ (descriptors : List (Option Descriptor)). AreDescriptorsOf (node_at inner.sight.nodes) (described_by descriptor) descriptors
    ligand_branches.now) (sym (λ i. descriptors_below (parents i) (c.from-from.ensures i) (c.descriptors-all.ensures i)))
    (counted_are inner c.args.node c.requires.ready ligand_branches.tops ligand_branches.now c.requires.placed descriptor agrees))

pub apply_rules_3_to_5-requires-clause-followed : goal.apply_rules_3_to_5-requires-clause-followed
apply_rules_3_to_5-requires-clause-followed g c = c.requires.placed.followed

pub apply_rules_3_to_5-requires-clause-keyed : goal.apply_rules_3_to_5-requires-clause-keyed
apply_rules_3_to_5-requires-clause-keyed g c =
    let ready = c.requires.ready in
    subst (λ n. AreKeyed n c.args.ligand_branches.now.now.layers.place_tree)
    (sym (ap (λ (descriptors : List (Option Descriptor)). length descriptors) c.descriptors-all.ensures ∙ ready.descriptors ∙ ready.shows.node_data.len
    ∙ parents_len c.args.inner.now.sight.node_data)) c.requires.placed.keyed

pub apply_rules_3_to_5-requires-clause-room : goal.apply_rules_3_to_5-requires-clause-room
apply_rules_3_to_5-requires-clause-room g c =
    let few = c.requires.placed.few in
    let room = c.requires.room in
    omega (arith, few, room)

pub apply_rules_3_to_5-requires-clause-len : goal.apply_rules_3_to_5-requires-clause-len
apply_rules_3_to_5-requires-clause-len g c = c.requires.len

pub returns-then-all_below-clause-same : goal.returns-then-all_below-clause-same
returns-then-all_below-clause-same g c = c.apply_rules_3_to_5.ensures.same

pub returns-then-all_below-clause-bound : goal.returns-then-all_below-clause-bound
returns-then-all_below-clause-bound g c = c.apply_rules_3_to_5.ensures.bound

pub invariant_of-descriptors : goal.invariant_of-descriptors
invariant_of-descriptors g c =
    let ready = c.requires.ready in
    let parents = c.table.ensures
    ∙ ap parents_of (c.nodes.ensures.node_data ∙ ap (λ (s : DigraphView). s.node_data) c.whole.ensures) in
    record {
      len = ap (λ (descriptors : List (Option Descriptor)). length descriptors) c.descriptors-all.ensures ∙ ready.descriptors
          ∙ ready.shows.node_data.len ∙ sym (ap (λ (ps : List ℕ). length ps) parents);
    }

pub apply_rules_3_to_5-requires-else-from-node-clause-followed : goal.apply_rules_3_to_5-requires-else-from-node-clause-followed
apply_rules_3_to_5-requires-else-from-node-clause-followed g c = c.requires.placed.followed

pub apply_rules_3_to_5-requires-else-from-node-clause-room : goal.apply_rules_3_to_5-requires-else-from-node-clause-room
apply_rules_3_to_5-requires-else-from-node-clause-room g c =
    let few = c.requires.placed.few in
    let room = c.requires.room in
    omega (arith, few, room)

pub apply_rules_3_to_5-requires-else-from-node-clause-len : goal.apply_rules_3_to_5-requires-else-from-node-clause-len
apply_rules_3_to_5-requires-else-from-node-clause-len g c = c.requires.len

pub returns-else-from-node-clause-same : goal.returns-else-from-node-clause-same
returns-else-from-node-clause-same g c = c.apply_rules_3_to_5-else-from-node.ensures.same

pub returns-else-from-node-clause-bound : goal.returns-else-from-node-clause-bound
returns-else-from-node-clause-bound g c = c.apply_rules_3_to_5-else-from-node.ensures.bound
