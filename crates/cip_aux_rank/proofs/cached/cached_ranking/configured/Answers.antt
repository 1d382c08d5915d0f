use Rattle.std.proofs.Common.{sym, subst, ap, ◌∙◌, List, length}
use Rattle.cip_aux.specs.DescriptorsInside.{AreSeenTurns}
use Rattle.cip_aux_rank.proofs.lemmas.SeenTurns.{ordered_seen}
use Rattle.cip_digraph.specs.declared.decisions.branch_pair.BranchPair.{BranchPair}
use Rattle.cip_aux_rank.proofs.cached.cached_ranking.configured.Goals as goal

pub returns-clause-parities : goal.returns-clause-parities
returns-clause-parities g c = λ ligands left.
    let inner = c.args.inner.now in
    subst (AreSeenTurns inner c.args.node ligands) (sym c.of-found.ensures)
    (ordered_seen inner c.args.node c.args.ligand_branches.now.tops left.requested ligands left.tell c.configure.new.pairs
    c.configure.new.turned (λ descriptor agrees.
    c.configure.ensures.ordered left.requested descriptor left.within left.constituted left.undone agrees))

pub configure-requires-clause-len : goal.configure-requires-clause-len
configure-requires-clause-len g c =
    ap (λ (pairs : List BranchPair). length pairs) (c.as_mut_slice-others.ensures.value ∙ c.in-Ok.ensures.items)

pub configure-requires-clause-placed : goal.configure-requires-clause-placed
configure-requires-clause-placed g c = c.requires.placed

pub configure-requires-clause-ready : goal.configure-requires-clause-ready
configure-requires-clause-ready g c = c.requires.ready

pub configure-requires-clause-room : goal.configure-requires-clause-room
configure-requires-clause-room g c = c.requires.room

pub configure-requires-clause-tops : goal.configure-requires-clause-tops
configure-requires-clause-tops g c = c.requires.tops

pub returns-clause-bound : goal.returns-clause-bound
returns-clause-bound g c = c.configure.ensures.bound

pub returns-clause-same : goal.returns-clause-same
returns-clause-same g c = c.configure.ensures.same
