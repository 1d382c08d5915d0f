use Rattle.std.proofs.Common.{rules, ◌≡◌, ◌++◌, ℕ, Bool, true, List, slice_index, take, drop, length, ap, ◌∙◌, subst, arith, sym}
use Rattle.std.proofs.lemmas.Grind.{common_steps}
use Rattle.std.proofs.Math.Seq.{take-append_seam}
use Rattle.cip_aux.specs.DescriptorsInside.{HaveDescriptors, flag_at, AreWanted}
use Rattle.cip_aux.specs.Views.{sight_of, DigraphView, WholeDigraph}
use Rattle.cip_branches.specs.Standing.{WantedIn}
use Rattle.cip_partition.specs.Keys.{AreKeyed}
use Rattle.cip_ranker.specs.Rooting.{whole_at}
use Rattle.cip_ranker.proofs.lemmas.KnownRoots.{on_ok}
use Rattle.cip_ranker.proofs.lemmas.RootDescriptors.{hold_descriptors, wanted_set}
use Rattle.cip_aux.specs.ParityCache.{sites_in}
use Rattle.cip_aux.proofs.lemmas.Keeping.{same_kept}
use Rattle.cip_digraph.specs.units.Units.{sites_of}
use Rattle.cip_aux_rank.specs.RankingCache.{AreOpen}
use Rattle.cip_digraph.specs.digraph.NodeList.{parents_of}
use Rattle.cip_mol.specs.declared.site.Unit as units
use Rattle.cip_ranker.proofs.whole_digraph.find_descriptors.Goals as goal

pub returns-clause-descriptors : goal.returns-clause-descriptors
returns-clause-descriptors c =
    let setting = c.args.rooted.now.setting.now in
    let arena = c.args.rooted.now.arena.now in
    let work = c.args.work.now in
    let flags = c.flag_subtrees.new.flags in
    let descriptors = c.auxiliaries.new.descriptors.descriptors in
    let count : c.in-Ok.flags.len ≡ length flags = search rules in
    let unresolved : c.as_slice-2.result.now ≡ flags = c.as_slice-2.ensures.value
    ∙ ap (λ n. take n (flags ++ drop (length flags) c.in-Ok.flags.items)) count
    ∙ take-append_seam flags (drop (length flags) c.in-Ok.flags.items) in
    let now = work.branched in
    let many : length arena.nodes ≡ length c.as_mut_slice-flagged.result.now = grind (arith, common_steps) in
    let flagged : (t place : ℕ) → WantedIn now t place
    → flag_at flags (slice_index now.layers.place_tree.nodes place) ≡ true =
    λ t place p.
    let node = slice_index now.layers.place_tree.nodes place in
    c.flag_subtrees.ensures.kept node
    (ap (λ (fs : List Bool). flag_at fs node) c.flag_unresolved_nodes.ensures.flagged
    ∙ wanted_set now c.as_mut_slice-flagged.result.now
    (subst (λ n. AreKeyed n now.layers.place_tree) many c.requires.constituted.keyed) c.requires.constituted.followed t place p) in
    on_ok c.auxiliaries.result c.auxiliaries.ensures.descriptors
    (λ are. hold_descriptors setting arena c.requires.rooted.holds work.pairs work.branched work.noted
    c.requires.constituted flags descriptors flagged
    (subst (λ (fs : List Bool). HaveDescriptors (sight_of (whole_at setting arena)) setting.units fs 0 descriptors) unresolved
    (subst (λ (whole : WholeDigraph). HaveDescriptors (sight_of whole) setting.units c.as_slice-2.result.now 0 descriptors)
    c.whole_digraph-whole.ensures
    (subst (λ (us : List units.Unit). HaveDescriptors (sight_of c.whole_digraph-whole.result) us c.as_slice-2.result.now 0 descriptors)
    (c.in-Ok-new.ensures ∙ c.as_slice.ensures ∙ c.units.ensures.value) are))))

pub flag_subtrees-requires : goal.flag_subtrees-requires
flag_subtrees-requires c = grind (arith, common_steps)

pub auxiliaries-requires-clause-kept : goal.auxiliaries-requires-clause-kept
auxiliaries-requires-clause-kept c =
    let setting = c.args.rooted.now.setting.now in
    let arena = c.args.rooted.now.arena.now in
    let all = c.in-Ok-new.ensures ∙ c.as_slice.ensures ∙ c.units.ensures.value in
    same_kept (sight_of (whole_at setting arena)) (sight_of c.whole_digraph-whole.result)
    (sites_of setting.graph setting.positions) (sites_in c.in-Ok-new.units) c.args.tables.now.parities.items
    (ap sight_of (sym c.whole_digraph-whole.ensures)) (sym (ap sites_in all ∙ c.units.ensures.proper.sites))
    c.requires.parities.0

pub auxiliaries-requires-clause-stands : goal.auxiliaries-requires-clause-stands
auxiliaries-requires-clause-stands c =
    let aux_ranker = c.args.tables.now.aux_ranker in
    subst (λ (sight : DigraphView). AreOpen aux_ranker.bound sight aux_ranker.looks) (ap sight_of (sym c.whole_digraph-whole.ensures))
    c.requires.parities.1

pub returns-clause-parities : goal.returns-clause-parities
returns-clause-parities c =
    let setting = c.args.rooted.now.setting.now in
    let arena = c.args.rooted.now.arena.now in
    let all = c.in-Ok-new.ensures ∙ c.as_slice.ensures ∙ c.units.ensures.value in
    let looks = c.auxiliaries.new.viewer.looks in (
      same_kept (sight_of c.whole_digraph-whole.result) (sight_of (whole_at setting arena)) (sites_in c.in-Ok-new.units)
          (sites_of setting.graph setting.positions) c.auxiliaries.new.kept.items
          (ap sight_of c.whole_digraph-whole.ensures) (ap sites_in all ∙ c.units.ensures.proper.sites)
          c.auxiliaries.ensures.kept,
      subst (λ (sight : DigraphView). AreOpen c.auxiliaries.new.viewer.bound sight looks)
          (ap sight_of c.whole_digraph-whole.ensures) c.auxiliaries.ensures.stands,
    )

pub auxiliaries-requires-clause-requested : goal.auxiliaries-requires-clause-requested
auxiliaries-requires-clause-requested c =
    let flags = c.flag_subtrees.new.flags in
    let count : c.in-Ok.flags.len ≡ length flags = search rules in
    let unresolved : c.as_slice-2.result.now ≡ flags = c.as_slice-2.ensures.value
    ∙ ap (λ n. take n (flags ++ drop (length flags) c.in-Ok.flags.items)) count
    ∙ take-append_seam flags (drop (length flags) c.in-Ok.flags.items) in
    subst (λ (whole : WholeDigraph). AreWanted (parents_of whole.node_data) c.as_slice-2.result.now) (sym c.whole_digraph-whole.ensures)
    (subst (AreWanted (parents_of c.args.rooted.now.arena.now.nodes)) (sym unresolved)
    (subst (λ (ps : List ℕ). AreWanted ps flags) c.table.ensures c.flag_subtrees.ensures.below))
