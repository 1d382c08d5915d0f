-- What is kept of a root, so that it is ranked once more by other senses of units. Own.
use Rattle.std.specs.Prelude.{◌≡◌, ◌≤◌, ℕ, false, List, [], length, None, Some}
use Rattle.std.specs.List.{list_all}
use Rattle.std.specs.declared.option.Option.{Option}
use Rattle.cip_arena.specs.Growth.{Growth, Holds}
use Rattle.cip_branches.specs.Saving.{restored}
use Rattle.cip_constitution.specs.Aside.{Fits}
use Rattle.cip_constitution.specs.FollowedOut.{AreConstituted}
use Rattle.cip_constitution.specs.Following.{Trying}
use Rattle.cip_constitution.specs.Pairs.{pairs_of}
use Rattle.cip_constitution.specs.Settling.{SettledAs}
use Rattle.cip_constitution.specs.declared.steps.settling.Settled.TheVariants.{Whole}
use Rattle.cip_label.specs.Settings.{LabelContext, StandAtSites, setting_of}
use Rattle.cip_label.specs.BranchComparison.{RankedAs}
use Rattle.cip_label.specs.declared.root_ranker.Ranking.{Ranking}
use Rattle.cip_label.specs.declared.root_ranker.Ranking.TheVariants.{Known}
use Rattle.cip_digraph.specs.Asking.{is_decided}
use Rattle.cip_digraph.specs.declared.decisions.branch_pair.BranchPair.{BranchPair}
use Rattle.cip_mol.specs.declared.site.Ligand.{Ligand}
use Rattle.cip_mol.specs.declared.site.Unit as units
use Rattle.cip_ranker.specs.Desks.{settled_by}
use Rattle.cip_ranker.specs.Rooting.{HasRoom, HaveTurns}
use Rattle.cip_ranker.specs.Standing.{both_as, standing_of}
use Rattle.cip_ranker.specs.declared.workspace.Workspace.{Workspace}
use Rattle.cip_ranker.specs.declared.caches.cache_key.CacheKey.{CacheKey}
use Rattle.cip_ranker.specs.declared.caches.cache.CachedResult.{CachedResult}
use Rattle.cip_ranker.specs.declared.caches.cache.CachedResult.TheVariants.{Final, Open}
use Rattle.cip_ranker.specs.declared.whole_digraph.RankTables.{RankTables}

-- a root as it is asked about, but for the senses of units
abbrev pub kept_of : LabelContext → ℕ → List Ligand → CacheKey
kept_of setting root ligands = record {
  rules = setting.rules;
  graph = setting.graph;
  positions = setting.positions;
  root = root;
  ligands = ligands;
}

-- the same with these units
abbrev pub with_units : CacheKey → List units.Unit → LabelContext
with_units kept all = setting_of kept.rules kept.graph kept.positions all

abbrev pub ranking_in : CachedResult → Ranking
ranking_in (Final ranking) = ranking
ranking_in Open = Known

module _ (kept : CacheKey) where
  -- its ligands are ranked so by what is noted of them, whatever the senses of units are
  pub record StandsAnyway (bound : ℕ) (noted : List BranchPair) (ranking : Ranking) : Type 0 where
    pub each : (all : List units.Unit) → StandAtSites kept.graph kept.positions all
        → RankedAs (with_units kept all) bound kept.root kept.ligands (standing_of (both_as noted)) ranking

  -- all of its digraph was needed, and no sphere of it gave the order, whatever they are
  pub record IsWholeAnyway (arena : Growth) : Type 0 where
    pub each : (all : List units.Unit) → StandAtSites kept.graph kept.positions all
        → SettledAs (settled_by (with_units kept all) kept.ligands) arena Whole

  -- Its digraph is whole, and its branches can be restored as constitution left them, with a pair that is not
  -- decided yet.
  pub record IsOpen (arena : Growth) (work : Trying) (tables : RankTables) : Type 0 where
    pub holds : Holds kept.graph kept.positions arena
    pub at : arena.root ≡ kept.root
    pub fits : length arena.nodes ≤ arena.bound
    pub settled : IsWholeAnyway arena
    pub pairs : work.pairs ≡ pairs_of kept.ligands
    pub aside : Fits tables.aside.ranks work.branched
    pub len : length tables.aside.noted.items ≡ length work.noted
    pub constituted : AreConstituted kept.rules kept.graph kept.positions arena (pairs_of kept.ligands)
        (restored tables.aside.ranks work.branched) tables.aside.noted.items
    pub undone : list_all is_decided tables.aside.noted.items ≡ false
    pub parities : HaveTurns (with_units kept []) arena tables

  -- what was found of it was found so
  abbrev pub FoundAs : Growth → Trying → RankTables → CachedResult → Type 0
  FoundAs arena work tables (Final ranking) = StandsAnyway arena.bound tables.aside.noted.items ranking
  FoundAs arena work tables Open = IsOpen arena work tables

-- all tables have room for n nodes
pub record HaveRoom (bound : ℕ) (workspace : Workspace) : Type 0 where
  pub arena : workspace.arena.bound ≡ bound
  pub work : workspace.work.bound ≡ bound
  pub tables : HasRoom bound workspace.tables

-- where something was found of a root that is kept, it was found so
abbrev pub KeptAs : Workspace → Option CachedResult → Option CacheKey → Type 0
KeptAs workspace None root = Unit {0}
KeptAs workspace (Some found) None = Unit {0}
KeptAs workspace (Some found) (Some kept) = FoundAs kept workspace.arena workspace.work workspace.tables found

pub record IsReady (bound : ℕ) (workspace : Workspace) : Type 0 where
  pub room : HaveRoom bound workspace
  pub kept : KeptAs workspace workspace.root_cache.found workspace.root_cache.root
