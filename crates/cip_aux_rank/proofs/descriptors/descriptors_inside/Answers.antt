use Rattle.std.proofs.Common.{◌≡◌, ◌∙◌, ap, sym, subst, arith, true, Bool, List, length, map, replicate, [], rules}
use Rattle.std.proofs.lemmas.List.Elements.{All-nil}
use Rattle.cip_digraph.specs.digraph.NodeList.{parents_of}
use Rattle.cip_aux.specs.ParityCache.{AreKept, sites_in}
use Rattle.cip_aux.specs.DescriptorsInside.{descriptor_at_node, flag_at, HaveDescriptors, AreWanted}
use Rattle.cip_aux.specs.Views.{sight_of}
use Rattle.cip_aux.proofs.lemmas.Keeping.{none_kept}
use Rattle.cip_aux.proofs.lemmas.NodeDescriptors.{all_described}
use Rattle.cip_aux.proofs.lemmas.Data.{whole_shows}
use Rattle.cip_aux_rank.proofs.lemmas.WantedNodes.{all_wanted, on_by, wanted_at}
use Rattle.cip_aux_rank.specs.RankingCache.{AreOpen}
use Rattle.cip_aux_rank.specs.Room.{Room}
use Rattle.cip_aux_rank.proofs.descriptors.descriptors_inside.Goals as goal

pub auxiliaries-found-requires-clause-requested : goal.auxiliaries-found-requires-clause-requested
auxiliaries-found-requires-clause-requested g c =
    let parents = parents_of c.args.whole.now.node_data in
    let made : c.in-Ok.flags.items ≡ replicate c.len-count.result true = search rules in
    subst (AreWanted parents) (sym (c.as_slice.ensures.value ∙ made))
    (all_wanted parents c.len-count.result
    (c.len-count.ensures.len ∙ ap length c.table.ensures ∙ ap (λ all. length (parents_of all)) c.nodes.ensures.node_data))

pub auxiliaries-found-requires-clause-kept : goal.auxiliaries-found-requires-clause-kept
auxiliaries-found-requires-clause-kept g c =
    let sight = sight_of c.args.whole.now in
    let sites = sites_in c.args.units.now in
    let made : c.in-Ok.none.items ≡ [] = search rules in
    subst (AreKept sight sites) (sym made)
    (none_kept sight sites)

pub returns-clause-descriptors : goal.returns-clause-descriptors
returns-clause-descriptors g c =
    let whole = c.args.whole.now in
    let sight = sight_of whole in
    let all = c.args.units.now in
    let descriptors = c.auxiliaries-found.new.descriptors.descriptors in
    let shows = whole_shows whole c.nodes.ensures.whole in
    let count : c.len-count.result ≡ length sight.nodes =
    c.len-count.ensures.len ∙ ap length c.table.ensures ∙ ap (λ node_data. length (parents_of node_data)) c.nodes.ensures.node_data
    ∙ sym shows.node_data.len in
    let made : c.in-Ok.flags.items ≡ replicate c.len-count.result true = search rules in
    on_by (HaveDescriptors sight all c.as_slice.result.now 0 descriptors) (descriptors ≡ map (descriptor_at_node sight all) sight.nodes)
    c.auxiliaries-found.result
    (λ are.
    all_described sight all c.as_slice.result.now descriptors
    (λ k low. subst (λ (flags : List Bool). flag_at flags k ≡ true)
    (sym (c.as_slice.ensures.value ∙ made))
    (wanted_at c.len-count.result k (omega (arith, low, count)))) are)
    c.auxiliaries-found.ensures.descriptors

pub auxiliaries-found-requires-clause-stands : goal.auxiliaries-found-requires-clause-stands
auxiliaries-found-requires-clause-stands g c =
    subst (λ (room : Room). AreOpen room.bound (sight_of c.args.whole.now) room.looks) (sym c.begin.ensures) (record
    { room = c.requires.room; each = All-nil _ })

pub returns-clause-room : goal.returns-clause-room
returns-clause-room g c = c.auxiliaries-found.ensures.room ∙ ap (λ (room : Room). room.bound) c.begin.ensures

pub auxiliaries-found-requires-clause-sites : goal.auxiliaries-found-requires-clause-sites
auxiliaries-found-requires-clause-sites g c = c.requires.sites

pub auxiliaries-found-requires-clause-bound : goal.auxiliaries-found-requires-clause-bound
auxiliaries-found-requires-clause-bound g c = c.requires.bound

pub returns-clause-bound : goal.returns-clause-bound
returns-clause-bound g c = c.auxiliaries-found.ensures.bound
