use Rattle.std.proofs.Common.{◌≤◌, ◌∙◌, length, refl, sym, ap, subst}
use Rattle.cip_digraph.specs.digraph.NodeList.{parents_of}
use Rattle.cip_rules.specs.Taking.{AreSame}
use Rattle.cip_aux_rank.specs.LigandBranches.{AreTops, LigandBranches}
use Rattle.cip_aux_rank.specs.RankingCache.{look_of}
use Rattle.cip_aux_rank.specs.declared.cached.cache.CachedRanking.{CachedRanking}
use Rattle.cip_aux_rank.proofs.lemmas.AskedTops.{asked_tops_are}
use Rattle.cip_aux_rank.proofs.lemmas.OpenAgain.{open_still, stands_open}
use Rattle.cip_aux_rank.proofs.cached.cached_ranking.resume.Goals as goal

pub configured-found-requires-clause-room : goal.configured-found-requires-clause-room
configured-found-requires-clause-room g c =
    subst (λ n. length c.args.inner.now.sight.node_data ≤ n) (sym (ap (λ (n : LigandBranches). n.bound) c.stand_again.ensures.ligand_branches))
    c.requires.bound

pub configured-found-requires-clause-ready : goal.configured-found-requires-clause-ready
configured-found-requires-clause-ready g c = c.requires.ready

pub configured-found-requires-clause-tops : goal.configured-found-requires-clause-tops
configured-found-requires-clause-tops g c =
    let entry = c.args.entry.now in
    let parents = parents_of c.args.inner.now.sight.node_data in
    subst (AreTops parents entry.node) (sym (ap (λ (n : LigandBranches). n.tops) c.stand_again.ensures.ligand_branches))
    (asked_tops_are parents entry.tops.items entry.node)

pub configured-found-requires-clause-placed : goal.configured-found-requires-clause-placed
configured-found-requires-clause-placed g c =
    (stands_open c.args.ligand_branches.now.bound c.args.inner.now.sight (look_of c.args.entry.now) c.requires.open
    c.stand_again.new.ligand_branches c.stand_again.ensures.ligand_branches c.args.entry.now.pairs.items refl).constituted.placed

pub swap-requires : goal.swap-requires
swap-requires g c = c.stand_again.ensures.room ∙ sym c.configured-found.ensures.bound

pub returns-clause-parities : goal.returns-clause-parities
returns-clause-parities g c =
    c.configured-found.ensures.parities c.args.entry.now.ligands.items
    (stands_open c.args.ligand_branches.now.bound c.args.inner.now.sight (look_of c.args.entry.now) c.requires.open
    c.stand_again.new.ligand_branches c.stand_again.ensures.ligand_branches _
    (c.as_mut_slice.ensures.value ∙ c.in-Ok.ensures.items ∙ c.deref.ensures.value))

pub returns-clause-open : goal.returns-clause-open
returns-clause-open g c =
    let then = c.swap.new.other in
    open_still c.args.ligand_branches.now.bound c.args.inner.now.sight (look_of c.args.entry.now) _ c.requires.open
    c.stand_again.new.ligand_branches.now then (ap (λ (n : LigandBranches). n.now) c.stand_again.ensures.ligand_branches)
    (subst (AreSame c.stand_again.new.ligand_branches.now) (sym c.swap.ensures.other) c.configured-found.ensures.same)
    (c.swap.ensures.room ∙ ap (λ (n : LigandBranches). n.bound) c.swap.ensures.own ∙ c.configured-found.ensures.bound
    ∙ ap (λ (n : LigandBranches). n.bound) c.stand_again.ensures.ligand_branches)
    (ap (λ (entry : CachedRanking). look_of (record entry { branches = then })) c.stand_again.ensures.entry)

pub returns-in_default-clause-open : goal.returns-in_default-clause-open
returns-in_default-clause-open g c = c.requires.open

pub returns-clause-ligand_branches : goal.returns-clause-ligand_branches
returns-clause-ligand_branches g c =
    ap (λ (n : LigandBranches). n.bound) c.swap.ensures.own ∙ c.configured-found.ensures.bound
    ∙ ap (λ (n : LigandBranches). n.bound) c.stand_again.ensures.ligand_branches
