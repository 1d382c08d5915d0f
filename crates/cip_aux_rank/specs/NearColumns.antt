-- What holds of the columns of followed ligands. Own.
use Rattle.std.specs.Prelude.{◌≡◌, ◌<◌, ◌≤◌, ◌+◌, ◌^◌, ℕ, false, slice_index_or, vec_capacity}
use Rattle.cip_aux_rank.specs.LigandBranches.{LigandBranches}
use Rattle.cip_aux_rank.specs.declared.branches.ligand_branches.LigandBranches.TheInside.{Inside}

abbrev pub nearing_of : Inside → LigandBranches
nearing_of a = record { bound = a.bound; tops = a.tops.items; now = a.branches }

-- there is room for all nodes, and no flag is set
pub record HaveRoom (a : Inside) : Type 0 where
  pub few : a.bound < 2 ^ 31
  pub branches : a.branches.layers.place_tree.room ≡ a.bound
  pub tops : a.tops.room ≡ a.bound + 1
  pub steps : a.steps.room ≡ a.bound
  pub readings : a.readings.bound ≡ a.bound
  pub way : a.bound ≤ vec_capacity a.way
  pub off : (k : ℕ) → slice_index_or a.way.items k false ≡ false
