-- A root whose digraph was grown, and the descriptors inside it. Own.
use Rattle.std.specs.Prelude.{◌≡◌, ◌≤◌, ℕ, List, length}
use Rattle.std.specs.declared.option.Option.{Option}
use Rattle.cip_arena.specs.Growth.{Growth, Holds}
use Rattle.cip_aux.specs.ParityCache.{AreKept}
use Rattle.cip_aux.specs.Views.{WholeDigraph, sight_of}
use Rattle.cip_branches.specs.Deciding.{Branched}
use Rattle.cip_constitution.specs.FollowedOut.{seen_with}
use Rattle.cip_constitution.specs.Following.{named}
use Rattle.cip_digraph.specs.rules.Auxiliary.{auxiliary}
use Rattle.cip_digraph.specs.units.Units.{sites_of}
use Rattle.cip_aux_rank.specs.RankingCache.{AreOpen}
use Rattle.cip_label.specs.Fitting.{IsFit}
use Rattle.cip_label.specs.Settings.{LabelContext}
use Rattle.cip_rules.specs.DescriptorMap.{AreDescriptorsOf}
use Rattle.cip_mol.specs.declared.labels.descriptor.Descriptor.{Descriptor}
use Rattle.cip_mol.specs.declared.site.Ligand.{Ligand}
use Rattle.cip_ranker.specs.declared.whole_digraph.RankTables.{RankTables}

-- the digraph of a root with fit ligands is known as far as it was grown, and there is room for it
pub record IsRooted (setting : LabelContext) (root : ℕ) (ligands : List Ligand) (arena : Growth) : Type 0 where
  pub holds : Holds setting.graph setting.positions arena
  pub at : arena.root ≡ root
  pub fit : IsFit setting.graph root ligands
  pub fits : length arena.nodes ≤ arena.bound

-- a digraph that is whole
abbrev pub whole_at : LabelContext → Growth → WholeDigraph
whole_at setting arena = record {
  rules = setting.rules;
  graph = setting.graph;
  positions = setting.positions;
  root = arena.root;
  last = arena.sphere;
  node_data = arena.nodes;
}

-- there is room for n nodes
pub record HasRoom (bound : ℕ) (tables : RankTables) : Type 0 where
  pub aux_ranker : bound ≤ tables.aux_ranker.bound
  pub descriptors : bound ≤ tables.descriptors.bound
  pub readings : bound ≤ tables.readings.bound
  pub parities : bound ≤ tables.parities.room
  pub aside : bound ≤ tables.aside.ranks.room

-- the descriptors of a digraph
abbrev pub descriptor_in : LabelContext → List ℕ → Option Descriptor
descriptor_in setting = auxiliary setting.rules setting.graph setting.positions setting.units

-- descriptors are those of the nodes in branches that are unresolved, and each node has an entry
pub record HoldDescriptors (setting : LabelContext) (arena : Growth) (now : Branched) (descriptors : List (Option Descriptor)) : Type 0
  where
    pub len : length descriptors ≡ length arena.nodes
    pub each : AreDescriptorsOf (named setting.graph setting.positions arena.root arena.bound)
        (seen_with setting.rules setting.graph setting.positions arena (descriptor_in setting)).descriptor descriptors now

-- what is kept of the nodes inside is that of the units at the sites of the graph, and tied rankings are rankings in it
abbrev pub HaveTurns : LabelContext → Growth → RankTables → Type 0
HaveTurns setting arena tables =
    AreKept (sight_of (whole_at setting arena)) (sites_of setting.graph setting.positions) tables.parities.items
    × AreOpen tables.aux_ranker.bound (sight_of (whole_at setting arena)) tables.aux_ranker.looks
