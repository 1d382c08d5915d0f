use Rattle.std.proofs.Common.{◌≡◌, ◌∙◌, ℕ, List, IfOk, Some, slice_get, sym, ap, subst, arith}
use Rattle.std.proofs.lemmas.Grind.{common_steps}
use Rattle.std.specs.declared.option.Option.{Option}
use Rattle.cip_aux.specs.InnerContext.{Ready}
use Rattle.cip_aux.specs.DescriptorsInside.{AreSeenTurns}
use Rattle.cip_aux.specs.Views.{IsReal, DigraphView}
use Rattle.cip_digraph.specs.digraph.NodeList.{parents_of}
use Rattle.cip_aux_rank.specs.Narrowing.{LeavesOpen}
use Rattle.cip_aux_rank.specs.LigandBranches.{AreTops, asked_tops}
use Rattle.cip_aux_rank.specs.RankingCache.{AreOpen}
use Rattle.cip_aux_rank.proofs.lemmas.AskedTops.{asked_tops_are}
use Rattle.cip_aux_rank.proofs.lemmas.OpenAgain.{some_at}
use Rattle.cip_aux_rank.proofs.cached.cached_ranking.look_further.Goals as goal

pub keep-requires-clause-node : goal.keep-requires-clause-node
keep-requires-clause-node g c = grind (arith, common_steps)

pub keep-requires-clause-real : goal.keep-requires-clause-real
keep-requires-clause-real g c =
    subst (λ (s : DigraphView). IsReal s.nodes c.args.requested.now.node) (sym c.whole.ensures) c.requires.ready.real

pub keep-requires-clause-tops : goal.keep-requires-clause-tops
keep-requires-clause-tops g c =
    let requested = c.args.requested.now in
    c.requires.tops ∙ ap (λ (s : DigraphView). asked_tops (parents_of s.node_data) requested.ligands.now requested.node) (sym c.whole.ensures)

pub keep-requires-clause-left : goal.keep-requires-clause-left
keep-requires-clause-left g c =
    let requested = c.args.requested.now in
    let ligand_branches = c.args.ligand_branches.now in
    subst (λ (s : DigraphView). LeavesOpen s requested.node ligand_branches.tops ligand_branches.now c.args.pairs.now requested.ligands.now)
    (sym c.whole.ensures) c.requires.left

pub keep-requires-clause-open : goal.keep-requires-clause-open
keep-requires-clause-open g c =
    subst (λ (s : DigraphView). AreOpen c.args.ligand_branches.now.bound s c.args.kept.now) (sym c.whole.ensures) c.requires.open

pub resume-requires-clause-place : goal.resume-requires-clause-place
resume-requires-clause-place g c = omega (arith, c.len-place.ensures, c.in-Ok.ensures.more)

pub resume-requires-clause-ready : goal.resume-requires-clause-ready
resume-requires-clause-ready g c = λ entry at.
    subst (Ready c.args.inner.now) (sym (c.in-Ok.ensures.last entry
    (subst (λ n. slice_get c.keep.new.kept n ≡ Some entry) c.len-place.ensures at)).0) c.requires.ready

pub resume-requires-clause-open : goal.resume-requires-clause-open
resume-requires-clause-open g c =
    subst (λ n. AreOpen n c.args.inner.now.sight c.keep.new.kept) (sym c.in-Ok.ensures.ligand_branches)
    (subst (λ (s : DigraphView). AreOpen c.args.ligand_branches.now.bound s c.keep.new.kept) c.whole.ensures c.in-Ok.ensures.open)

pub returns-in_default-clause-open : goal.returns-in_default-clause-open
returns-in_default-clause-open g c =
    subst (λ (s : DigraphView). AreOpen c.args.ligand_branches.now.bound s c.keep.new.kept) c.whole.ensures c.keep.ensures.open

pub returns-in_default-clause-ligand_branches : goal.returns-in_default-clause-ligand_branches
returns-in_default-clause-ligand_branches g c = c.keep.ensures.ligand_branches

pub returns-in-Ok-clause-parities : goal.returns-in-Ok-clause-parities
returns-in-Ok-clause-parities g c =
    let inner = c.args.inner.now in
    let place = c.len-place.ensures in
    let more = c.in-Ok.ensures.more in
    let found = some_at c.keep.new.kept c.len-place.result (omega (arith, place, more)) in
    let last = c.in-Ok.ensures.last found.0
    (subst (λ n. slice_get c.keep.new.kept n ≡ Some found.0) place found.1) in
    subst (λ (n : ℕ). IfOk c.resume.result (AreSeenTurns inner n c.args.requested.now.ligands.now)) last.0
    (subst (λ (ls : List (Option ℕ)). IfOk c.resume.result (AreSeenTurns inner found.0.node ls)) last.1
    (c.resume.ensures.parities found.0 found.1))

pub returns-in-Ok-clause-open : goal.returns-in-Ok-clause-open
returns-in-Ok-clause-open g c =
    subst (λ n. AreOpen n c.args.inner.now.sight c.resume.new.self) c.in-Ok.ensures.ligand_branches c.resume.ensures.open

pub returns-in-Ok-clause-ligand_branches : goal.returns-in-Ok-clause-ligand_branches
returns-in-Ok-clause-ligand_branches g c = c.resume.ensures.ligand_branches ∙ c.in-Ok.ensures.ligand_branches

pub configured-requires-clause-room : goal.configured-requires-clause-room
configured-requires-clause-room g c = c.requires.open.room

pub configured-requires-clause-ready : goal.configured-requires-clause-ready
configured-requires-clause-ready g c = c.requires.ready

pub configured-requires-clause-tops : goal.configured-requires-clause-tops
configured-requires-clause-tops g c =
    let requested = c.args.requested.now in
    let parents = parents_of c.args.inner.now.sight.node_data in
    subst (AreTops parents requested.node) (sym c.requires.tops) (asked_tops_are parents requested.ligands.now requested.node)

pub configured-requires-clause-placed : goal.configured-requires-clause-placed
configured-requires-clause-placed g c = c.requires.left.constituted.placed

pub returns-else-has_room-clause-parities : goal.returns-else-has_room-clause-parities
returns-else-has_room-clause-parities g c = c.configured.ensures.parities c.args.requested.now.ligands.now c.requires.left

pub returns-else-has_room-clause-open : goal.returns-else-has_room-clause-open
returns-else-has_room-clause-open g c = c.requires.open

pub returns-else-has_room-clause-ligand_branches : goal.returns-else-has_room-clause-ligand_branches
returns-else-has_room-clause-ligand_branches g c = c.configured.ensures.bound
