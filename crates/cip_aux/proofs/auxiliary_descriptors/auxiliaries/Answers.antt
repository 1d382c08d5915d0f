use Rattle.std.proofs.Common.{◌≡◌, ◌<◌, ◌-◌, ◌+◌, ◌∙◌, refl, sym, ap, subst, arith, length, slice_set}
use Rattle.cip_digraph.specs.NodeDescriptors.{NodeDescriptors}
use Rattle.cip_digraph.specs.digraph.NodeList.{parents_of}
use Rattle.cip_aux.specs.DescriptorsInside.{HaveDescriptors}
use Rattle.cip_aux.specs.Views.{sight_of}
use Rattle.cip_aux.proofs.lemmas.NodeDescriptors.{none_yet, one_more}
use Rattle.cip_aux.proofs.lemmas.SitesJoin.{units_join}
use Rattle.cip_aux.proofs.lemmas.Data.{whole_shows}
use Rattle.cip_aux.proofs.lemmas.WholeTold.{parents_len}
use Rattle.cip_aux.proofs.auxiliary_descriptors.auxiliaries.Goals as goal

pub flagged_descriptor-requires-clause-shows : goal.flagged_descriptor-requires-clause-shows
flagged_descriptor-requires-clause-shows g c =
    whole_shows c.args.whole.now c.nodes.ensures.whole

pub flagged_descriptor-requires-clause-joined : goal.flagged_descriptor-requires-clause-joined
flagged_descriptor-requires-clause-joined g c =
    units_join (sight_of c.args.whole.now) c.args.requested.now.units.now c.nodes.ensures.whole.sound c.requires.sites

pub loop-done-preserved : goal.loop-done-preserved
loop-done-preserved g c =
    let sight = sight_of c.args.whole.now in
    let all = c.args.requested.now.units.now in
    let flags = c.args.requested.now.flags.now in
    let are = HaveDescriptors sight all flags in
    let old = c.loop-done.descriptors.descriptors in
    let count = c.len-count.result in
    let node = count - 1 - c.loop-done.done in
    let shows = whole_shows c.args.whole.now c.nodes.ensures.whole in
    let many : count ≡ length sight.nodes =
    c.len-count.ensures.len ∙ ap length c.table.ensures ∙ ap (λ all. length (parents_of all)) c.nodes.ensures.node_data
    ∙ sym shows.node_data.len in
    let now : count - c.loop-done.done ≡ node + 1 = omega (arith, c.loop-done-test.true) in
    let next : node ≡ count - (c.loop-done.done + 1) = omega (arith, c.loop-done-test.true) in
    let low : node < length sight.nodes = omega (arith, many, c.loop-done-test.true) in
    record {
      room = c.flagged_descriptor.ensures.room ∙ c.loop-done.invariant.room;
      stands = c.flagged_descriptor.ensures.stands;
      bound = ap (λ (descriptors : NodeDescriptors). descriptors.bound) c.set.ensures ∙ c.loop-done.invariant.bound;
      kept = c.flagged_descriptor.ensures.kept;
      kept_room = c.flagged_descriptor.ensures.kept_room ∙ c.loop-done.invariant.kept_room;
      descriptors = subst (are (count - (c.loop-done.done + 1))) (sym (ap (λ (descriptors : NodeDescriptors). descriptors.descriptors) c.set.ensures))
          (subst (λ k. are k (slice_set old node c.in-Ok.descriptor)) next
          (one_more sight all flags node old c.in-Ok.descriptor low c.in-Ok.ensures.descriptor
          (subst (λ k. are k old) now c.loop-done.invariant.descriptors)));
    }

pub flagged_descriptor-requires-clause-within : goal.flagged_descriptor-requires-clause-within
flagged_descriptor-requires-clause-within g c =
    let sight = sight_of c.args.whole.now in
    let shows = whole_shows c.args.whole.now c.nodes.ensures.whole in
    let many : c.len-count.result ≡ length sight.nodes =
    c.len-count.ensures.len ∙ ap length c.table.ensures ∙ ap (λ all. length (parents_of all)) c.nodes.ensures.node_data
    ∙ sym shows.node_data.len in
    omega (arith, many, c.loop-done-test.true)

pub flagged_descriptor-requires-clause-requested : goal.flagged_descriptor-requires-clause-requested
flagged_descriptor-requires-clause-requested g c = c.requires.requested

pub flagged_descriptor-requires-clause-behind : goal.flagged_descriptor-requires-clause-behind
flagged_descriptor-requires-clause-behind g c =
    let requested = c.args.requested.now in
    let count = c.len-count.result in
    let now : count - c.loop-done.done ≡ count - 1 - c.loop-done.done + 1 = omega (arith, c.loop-done-test.true) in
    subst (λ k. HaveDescriptors (sight_of c.args.whole.now) requested.units.now requested.flags.now k c.loop-done.descriptors.descriptors) now
    c.loop-done.invariant.descriptors

pub flagged_descriptor-requires-clause-stands : goal.flagged_descriptor-requires-clause-stands
flagged_descriptor-requires-clause-stands g c = c.loop-done.invariant.stands

pub flagged_descriptor-requires-clause-kept : goal.flagged_descriptor-requires-clause-kept
flagged_descriptor-requires-clause-kept g c = c.loop-done.invariant.kept

pub returns-in_default-clause-room : goal.returns-in_default-clause-room
returns-in_default-clause-room g c = c.flagged_descriptor.ensures.room ∙ c.loop-done.invariant.room

pub returns-in_default-clause-stands : goal.returns-in_default-clause-stands
returns-in_default-clause-stands g c = c.flagged_descriptor.ensures.stands

pub returns-in_default-clause-kept : goal.returns-in_default-clause-kept
returns-in_default-clause-kept g c = c.flagged_descriptor.ensures.kept

pub clear-requires : goal.clear-requires
clear-requires g c =
    let many : c.len-count.result ≡ length c.args.whole.now.node_data =
    c.len-count.ensures.len ∙ ap length c.table.ensures ∙ ap (λ all. length (parents_of all)) c.nodes.ensures.node_data
    ∙ parents_len c.args.whole.now.node_data in
    let bound = c.requires.bound in
    omega (arith, many, bound)

pub loop-done-init : goal.loop-done-init
loop-done-init g c =
    let sight = sight_of c.args.whole.now in
    let all = c.args.requested.now.units.now in
    let flags = c.args.requested.now.flags.now in
    let shows = whole_shows c.args.whole.now c.nodes.ensures.whole in
    let many : c.len-count.result ≡ length sight.nodes =
    c.len-count.ensures.len ∙ ap length c.table.ensures ∙ ap (λ all. length (parents_of all)) c.nodes.ensures.node_data
    ∙ sym shows.node_data.len in
    record {
      room = refl;
      stands = c.requires.stands;
      bound = ap (λ (descriptors : NodeDescriptors). descriptors.bound) c.clear.ensures;
      kept = c.requires.kept;
      kept_room = refl;
      descriptors = subst (HaveDescriptors sight all flags (c.len-count.result - 0))
          (sym (ap (λ (descriptors : NodeDescriptors). descriptors.descriptors) c.clear.ensures)) (none_yet sight all flags c.len-count.result many);
    }

pub set-requires : goal.set-requires
set-requires g c =
    let sight = sight_of c.args.whole.now in
    let shows = whole_shows c.args.whole.now c.nodes.ensures.whole in
    let many : c.len-count.result ≡ length sight.nodes =
    c.len-count.ensures.len ∙ ap length c.table.ensures ∙ ap (λ all. length (parents_of all)) c.nodes.ensures.node_data
    ∙ sym shows.node_data.len in
    let len = c.loop-done.invariant.descriptors.len in
    omega (arith, many, len, c.loop-done-test.true)

pub returns-in_default-clause-bound : goal.returns-in_default-clause-bound
returns-in_default-clause-bound g c = c.loop-done.invariant.bound

pub returns-in_default-clause-kept_room : goal.returns-in_default-clause-kept_room
returns-in_default-clause-kept_room g c = c.flagged_descriptor.ensures.kept_room ∙ c.loop-done.invariant.kept_room

pub returns-clause-room : goal.returns-clause-room
returns-clause-room g c = c.loop-done.invariant.room

pub returns-clause-stands : goal.returns-clause-stands
returns-clause-stands g c = c.loop-done.invariant.stands

pub returns-clause-bound : goal.returns-clause-bound
returns-clause-bound g c = c.loop-done.invariant.bound

pub returns-clause-kept : goal.returns-clause-kept
returns-clause-kept g c = c.loop-done.invariant.kept

pub returns-clause-kept_room : goal.returns-clause-kept_room
returns-clause-kept_room g c = c.loop-done.invariant.kept_room

pub returns-clause-descriptors : goal.returns-clause-descriptors
returns-clause-descriptors g c =
    let requested = c.args.requested.now in
    let none : c.len-count.result - c.loop-done.done ≡ 0 = omega (arith, c.loop-done-test.false) in
    subst (λ k. HaveDescriptors (sight_of c.args.whole.now) requested.units.now requested.flags.now k c.loop-done.descriptors.descriptors) none
    c.loop-done.invariant.descriptors
