-- What the ligands of a root are tried on: a digraph that was grown, and the branches that follow it. Own.
use Rattle.std.specs.Prelude.{◌≤◌, ◌<◌, ◌-◌, ℕ, Bool, List, length}
use Rattle.cip_mol.specs.declared.site.Ligand.{Ligand}
use Rattle.cip_arena.specs.Growth.{Growth, Holds}
use Rattle.cip_branches.specs.Deciding.{Branched}
use Rattle.cip_partition.specs.Keys.{AreKeyed}
use Rattle.cip_digraph.specs.digraph.Digraph.{sphere}
use Rattle.cip_digraph.specs.graph.SoundGraphs.{IsSound}
use Rattle.cip_digraph.specs.declared.decisions.branch_pair.BranchPair.{BranchPair}
use Rattle.cip_constitution.specs.declared.ties.branch_ends.TieTest.{TieTest}
use Rattle.cip_constitution.specs.declared.pairs.VertexPair.{VertexPair}
use Rattle.cip_constitution.specs.declared.context.RootContext as given
use Rattle.cip_constitution.specs.Alike.{is_closed_ligand, alike_told}
use Rattle.cip_constitution.specs.Closing.{keeps_open}
use Rattle.cip_constitution.specs.Ending.{EndsElsewhere, LigandEndsElsewhere, NotAnew}
use Rattle.cip_constitution.specs.Following.{Trying, Follows, numbers_of}
use Rattle.cip_constitution.specs.Noting.{Notes}
use Rattle.cip_constitution.specs.Settling.{RootContext, setting_of}

abbrev pub node_data : given.RootContext → RootContext
node_data setting =
    setting_of setting.rules setting.graph.now setting.positions.now setting.units.now setting.ligands.now

-- the digraph of a root is grown to a sphere that has nodes
pub record IsGrown (setting : RootContext) (growth : Growth) : Type 0 where
  pub holds : Holds setting.graph setting.positions growth
  pub sound : IsSound setting.graph
  pub root : growth.root < length setting.graph.vertices
  pub some : 0 < growth.sphere
  pub last : 0 < length (sphere setting.graph setting.positions growth.root growth.sphere)
  pub nodes : 0 < length growth.nodes
  pub fits : length growth.nodes ≤ growth.bound

-- a node keeps its branch open: an atom of a unit, or a node of the last sphere that has children
abbrev pub is_open_in : RootContext → Growth → ℕ → Bool
is_open_in setting = keeps_open setting.rules setting.graph setting.positions setting.units

-- branches follow it up to a sphere
abbrev pub FollowsTo : RootContext → Growth → ℕ → Branched → Type 0
FollowsTo setting growth = Follows setting.graph setting.positions growth.root growth.bound

-- what is decided between pairs is noted up to a sphere
abbrev pub NotesTo : RootContext → Growth → ℕ → List VertexPair → List BranchPair → Type 0
NotesTo setting growth = Notes setting.graph setting.positions growth.root growth.bound

-- what settling keeps follows it up to a sphere
pub record KeepsTo (setting : RootContext) (growth : Growth) (sphere : ℕ) (trying : Trying) : Type 0 where
  pub follows : FollowsTo setting growth sphere trying.branched
  pub notes : NotesTo setting growth sphere trying.pairs trying.noted

-- the digraph was grown by a sphere, and what is kept follows it up to the one before, from the first sphere on
pub record IsAhead (setting : RootContext) (growth : Growth) (trying : Trying) : Type 0 where
  pub grown : IsGrown setting growth
  pub kept : 1 < growth.sphere → KeepsTo setting growth (growth.sphere - 1) trying

module _ (trial : TieTest) where
  -- the places of branches show nodes of the digraph
  abbrev pub HasKeys : Type 0
  HasKeys = AreKeyed (length trial.arena.now.nodes) trial.branches.now.layers.place_tree

  abbrev pub is_closed_in : Ligand → Bool
  is_closed_in =
      is_closed_ligand trial.setting.rules trial.setting.graph.now trial.setting.positions.now
      trial.setting.units.now trial.arena.now

  abbrev pub are_alike_in : Ligand → Ligand → Bool
  are_alike_in =
      alike_told trial.setting.rules trial.setting.graph.now trial.setting.positions.now trial.setting.units.now
      trial.arena.now (numbers_of trial.branches.now)

  abbrev pub IsElsewhere : ℕ → Type 0
  IsElsewhere =
      EndsElsewhere trial.setting.graph.now trial.setting.positions.now trial.arena.now trial.branches.now

  abbrev pub IsLigandElsewhere : Ligand → Type 0
  IsLigandElsewhere =
      LigandEndsElsewhere trial.setting.graph.now trial.setting.positions.now trial.arena.now trial.branches.now

  abbrev pub AreNotAnew : Ligand → Ligand → Type 0
  AreNotAnew =
      NotAnew trial.setting.rules trial.setting.graph.now trial.setting.positions.now trial.setting.units.now
      trial.arena.now trial.branches.now
