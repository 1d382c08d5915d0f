use Rattle.std.proofs.Common.{◌≤◌, ◌∙◌, length, sym, ap, subst, arith}
use Rattle.std.proofs.lemmas.Grind.{common_steps}
use Rattle.cip_aux.specs.Views.{DigraphView}
use Rattle.cip_digraph.specs.digraph.NodeList.{parents_of}
use Rattle.cip_aux_rank.specs.LigandBranches.{LigandBranches, asked_tops}
use Rattle.cip_aux_rank.specs.RankingCache.{AreOpen}
use Rattle.cip_aux_rank.proofs.cached.cached_ranking.rank_uncached.Goals as goal

pub begin-requires-clause-room : goal.begin-requires-clause-room
begin-requires-clause-room g c =
    subst (λ (s : DigraphView). length s.node_data ≤ c.args.ligand_branches.now.bound) (sym c.whole.ensures) c.requires.open.room

pub look_at-found-requires-clause-tops : goal.look_at-found-requires-clause-tops
look_at-found-requires-clause-tops g c =
    let requested = c.args.requested.now in
    ap (λ (n : LigandBranches). n.tops) c.begin.ensures
    ∙ ap (λ (s : DigraphView). asked_tops (parents_of s.node_data) requested.ligands.now requested.node) c.whole.ensures

pub look_at-found-requires-clause-pairs : goal.look_at-found-requires-clause-pairs
look_at-found-requires-clause-pairs g c = c.as_mut_slice.ensures.value ∙ c.in-Ok.ensures

pub look_at-found-requires-clause-open : goal.look_at-found-requires-clause-open
look_at-found-requires-clause-open g c =
    subst (λ n. AreOpen n c.args.inner.now.sight c.args.kept.now) (sym (ap (λ (n : LigandBranches). n.bound) c.begin.ensures))
    c.requires.open

pub returns-in_default-clause-open : goal.returns-in_default-clause-open
returns-in_default-clause-open g c = c.requires.open

pub returns-clause-parities : goal.returns-clause-parities
returns-clause-parities g c = c.look_at-found.ensures.parities

pub returns-clause-open : goal.returns-clause-open
returns-clause-open g c =
    subst (λ n. AreOpen n c.args.inner.now.sight c.look_at-found.new.kept)
    (ap (λ (n : LigandBranches). n.bound) c.begin.ensures) c.look_at-found.ensures.open

pub returns-clause-ligand_branches : goal.returns-clause-ligand_branches
returns-clause-ligand_branches g c = c.look_at-found.ensures.ligand_branches ∙ ap (λ (n : LigandBranches). n.bound) c.begin.ensures

pub begin-requires-clause-node : goal.begin-requires-clause-node
begin-requires-clause-node g c = grind (arith, common_steps)

pub look_at-found-requires-clause-next : goal.look_at-found-requires-clause-next
look_at-found-requires-clause-next g c = c.requires.next

pub look_at-found-requires-clause-ready : goal.look_at-found-requires-clause-ready
look_at-found-requires-clause-ready g c = c.requires.ready
