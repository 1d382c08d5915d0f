use Rattle.std.proofs.Common.{◌≡◌, ◌+◌, ◌∙◌, length, List, sym, subst}
use Rattle.std.specs.Prelude.{OnOk, Some, slice_get}
use Rattle.cip_aux.specs.Views.{sight_of}
use Rattle.cip_aux_rank.specs.RankingCache.{AreOpen, LigandQuery, look_of}
use Rattle.cip_aux_rank.proofs.lemmas.OpenAgain.{last_is, one_longer, opened, pushed_open}
use Rattle.cip_aux_rank.proofs.cached.cached_ranking.keep.Goals as goal

pub narrowed-requires-clause-room : goal.narrowed-requires-clause-room
narrowed-requires-clause-room g c = c.requires.open.room

pub returns-in_default-clause-open : goal.returns-in_default-clause-open
returns-in_default-clause-open g c = c.requires.open

pub returns-in_default-taken-clause-open : goal.returns-in_default-taken-clause-open
returns-in_default-taken-clause-open g c =
    subst (AreOpen c.args.ligand_branches.now.bound (sight_of c.args.whole.now)) (sym c.taken.ensures.kept) c.requires.open

pub returns-clause-more : goal.returns-clause-more
returns-clause-more g c =
    subst (λ (before : List LigandQuery). OnOk c.push.result (length c.push.new.self ≡ length before + 1))
    c.in-Ok-taken.ensures.kept
    (one_longer c.push.result c.taken.new.kept c.push.new.self (look_of c.in-Ok-taken.entry) c.push.ensures.added)

pub returns-clause-open : goal.returns-clause-open
returns-clause-open g c =
    let bound = c.args.ligand_branches.now.bound in
    let sight = sight_of c.args.whole.now in
    let requested = c.args.requested.now in
    let ligand_branches = c.narrowed.new.ligand_branches in
    let taken = c.in-Ok-taken.ensures in
    pushed_open bound sight c.push.result c.taken.new.kept c.push.new.self (look_of c.in-Ok-taken.entry)
    c.push.ensures.added c.push.ensures.refused
    (subst (AreOpen bound sight) (sym c.in-Ok-taken.ensures.kept) c.requires.open)
    (opened bound sight (look_of c.in-Ok-taken.entry) requested.node requested.ligands.now c.in-Ok.tops.items ligand_branches.tops
    ligand_branches.now c.narrowed.new.pairs taken.node taken.ligands taken.looked taken.pairs taken.branches taken.ranks
    taken.numbers (taken.room ∙ c.in-Ok.ensures.bound) c.in-Ok.ensures.tops c.in-Ok.ensures.left)

pub returns-clause-last : goal.returns-clause-last
returns-clause-last g c =
    let requested = c.args.requested.now in
    subst (λ (before : List LigandQuery). OnOk c.push.result ((l : LigandQuery) → slice_get c.push.new.self (length before) ≡ Some l
    → (l.node ≡ requested.node) × (l.ligands ≡ requested.ligands.now))) c.in-Ok-taken.ensures.kept
    (last_is c.push.result c.taken.new.kept c.push.new.self (look_of c.in-Ok-taken.entry) requested.node requested.ligands.now
    c.push.ensures.added c.in-Ok-taken.ensures.node c.in-Ok-taken.ensures.ligands)

pub narrowed-requires-clause-left : goal.narrowed-requires-clause-left
narrowed-requires-clause-left g c = c.requires.left

pub narrowed-requires-clause-real : goal.narrowed-requires-clause-real
narrowed-requires-clause-real g c = c.requires.real

pub narrowed-requires-clause-tops : goal.narrowed-requires-clause-tops
narrowed-requires-clause-tops g c = c.requires.tops

pub narrowed-requires-clause-node : goal.narrowed-requires-clause-node
narrowed-requires-clause-node g c = c.requires.node
