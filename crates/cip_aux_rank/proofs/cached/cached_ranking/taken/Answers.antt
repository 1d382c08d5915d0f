use Rattle.std.proofs.Common.{ap, ◌∙◌, arith, refl}
use Rattle.std.proofs.lemmas.Grind.{common_steps}
use Rattle.cip_aux_rank.specs.LigandBranches.{LigandBranches}
use Rattle.cip_aux_rank.proofs.cached.cached_ranking.taken.Goals as goal

pub returns-clause-bound : goal.returns-clause-bound
returns-clause-bound c = ap (λ (ligand_branches : LigandBranches). ligand_branches.bound) c.swap.ensures.own

pub returns-clause-room : goal.returns-clause-room
returns-clause-room c = c.swap.ensures.room ∙ ap (λ (ligand_branches : LigandBranches). ligand_branches.bound) c.swap.ensures.own

pub swap-requires : goal.swap-requires
swap-requires c = grind (arith, common_steps)

pub save-requires : goal.save-requires
save-requires c = grind (arith, common_steps)

pub returns-clause-ligands : goal.returns-clause-ligands
returns-clause-ligands c = grind (arith, common_steps)

pub returns-clause-looked : goal.returns-clause-looked
returns-clause-looked c = grind (arith, common_steps)

pub returns-clause-pairs : goal.returns-clause-pairs
returns-clause-pairs c = grind (arith, common_steps)

pub returns-in_default-clause-bound : goal.returns-in_default-clause-bound
returns-in_default-clause-bound c = refl
