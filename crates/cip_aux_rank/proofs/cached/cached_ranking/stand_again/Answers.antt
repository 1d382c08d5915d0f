use Rattle.std.proofs.Common.{ℕ, List, ◌≤◌, ◌∙◌, length, sym, ap, subst, arith}
use Rattle.std.proofs.lemmas.Grind.{common_steps}
use Rattle.std.specs.declared.option.Option.{Option}
use Rattle.cip_aux.specs.Views.{DigraphView, sight_of}
use Rattle.cip_branches.specs.Deciding.{Branched}
use Rattle.cip_branches.specs.Saving.{restored}
use Rattle.cip_digraph.specs.digraph.NodeList.{parents_of}
use Rattle.cip_aux_rank.specs.LigandBranches.{LigandBranches, asked_tops}
use Rattle.cip_aux_rank.specs.RankingCache.{look_of, looked_at}
use Rattle.cip_aux_rank.proofs.lemmas.OpenAgain.{stood_again}
use Rattle.cip_aux_rank.proofs.cached.cached_ranking.stand_again.Goals as goal

pub begin-requires-clause-room : goal.begin-requires-clause-room
begin-requires-clause-room g c =
    subst (λ (s : DigraphView). length s.node_data ≤ c.args.ligand_branches.now.bound) (sym c.whole.ensures) c.requires.bound

pub begin-requires-clause-node : goal.begin-requires-clause-node
begin-requires-clause-node g c = grind (arith, common_steps)

pub swap-requires : goal.swap-requires
swap-requires g c = c.requires.open.room ∙ sym (ap (λ (ligand_branches : LigandBranches). ligand_branches.bound) c.begin.ensures)

pub restore-requires-clause-numbers : goal.restore-requires-clause-numbers
restore-requires-clause-numbers g c = grind (arith, common_steps)

pub restore-requires-clause-rows : goal.restore-requires-clause-rows
restore-requires-clause-rows g c = grind (arith, common_steps)

pub restore-requires-clause-unresolved : goal.restore-requires-clause-unresolved
restore-requires-clause-unresolved g c = grind (arith, common_steps)

pub returns-clause-ligand_branches : goal.returns-clause-ligand_branches
returns-clause-ligand_branches g c =
    let ligand_branches = c.args.ligand_branches.now in
    let entry = c.args.entry.now in
    let parents = parents_of (sight_of c.whole.result.now).node_data in
    stood_again ligand_branches c.begin.new.self c.swap.new.self c.restore.new.self (looked_at (sight_of c.whole.result.now) (look_of entry))
    entry.branches entry.ranks
    (c.begin.ensures
    ∙ ap (λ (ls : List (Option ℕ)). record ligand_branches { tops = asked_tops parents ls entry.node }) c.as_slice.ensures.value)
    c.swap.ensures.own c.restore.ensures
    ∙ ap (λ (s : DigraphView). record ligand_branches {
      tops = looked_at s (look_of entry);
      now = restored entry.ranks entry.branches;
    }) c.whole.ensures

pub returns-clause-entry : goal.returns-clause-entry
returns-clause-entry g c =
    ap (λ (branches : Branched). record c.args.entry.now { branches = branches })
    (c.swap.ensures.other ∙ ap (λ (ligand_branches : LigandBranches). ligand_branches.now) c.begin.ensures)

pub returns-clause-room : goal.returns-clause-room
returns-clause-room g c = c.swap.ensures.room ∙ sym (ap (λ (ligand_branches : LigandBranches). ligand_branches.bound) c.restore.ensures)
