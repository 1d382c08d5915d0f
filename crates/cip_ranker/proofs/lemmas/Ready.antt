-- What is kept of a root, where something is.
use Rattle.std.proofs.Common.{◌≡◌, ℕ, Some, sym, subst}
use Rattle.std.specs.declared.option.Option.{Option}
use Rattle.cip_label.specs.Settings.{IsProper, LabelContext}
use Rattle.cip_label.specs.BranchComparison.{RankedAs}
use Rattle.cip_label.specs.declared.root_ranker.Ranking.{Ranking}
use Rattle.cip_digraph.specs.declared.decisions.branch_pair.BranchPair.{BranchPair}
use Rattle.cip_mol.specs.declared.site.Ligand.{Ligand}
use Rattle.std.specs.Prelude.{List}
use Rattle.cip_ranker.specs.Keeping.{FoundAs, HaveRoom, IsOpen, IsReady, KeptAs, StandsAnyway, kept_of}
use Rattle.cip_ranker.specs.Standing.{Standing, both_as, standing_of}
use Rattle.cip_ranker.specs.declared.workspace.Workspace.{Workspace}
use Rattle.cip_ranker.specs.declared.caches.cache_key.CacheKey.{CacheKey}
use Rattle.cip_ranker.specs.declared.caches.cache.CachedResult.{CachedResult}
use Rattle.cip_ranker.specs.declared.caches.cache.CachedResult.TheVariants.{Open}

pub found_kept : (workspace : Workspace) (found : CachedResult) (kept : CacheKey) → workspace.root_cache.found ≡ Some found
    → workspace.root_cache.root ≡ Some kept → KeptAs workspace workspace.root_cache.found workspace.root_cache.root
    → FoundAs kept workspace.arena workspace.work workspace.tables found
found_kept workspace found kept some root is =
    subst (λ (root : Option CacheKey). KeptAs workspace (Some found) root) root
    (subst (λ (found : Option CachedResult). KeptAs workspace found workspace.root_cache.root) some is)

-- what holds for any senses of units holds for those of a setting
pub told_ranked : (setting : LabelContext) (root : ℕ) (ligands : List Ligand) (bound : ℕ) (noted : List BranchPair)
    (ranking : Ranking) (standing : Standing) → IsProper setting
    → StandsAnyway (kept_of setting root ligands) bound noted ranking → standing.natural ≡ noted
    → standing.turned ≡ noted → RankedAs setting bound root ligands (standing_of standing) ranking
told_ranked setting root ligands bound noted ranking standing proper node_data natural turned =
    let are : standing ≡ both_as noted = λ i. record { natural = natural i; turned = turned i } in
    subst (λ (s : Standing). RankedAs setting bound root ligands (standing_of s) ranking) (sym are)
    (node_data.each setting.units proper.sites)

-- an open root that is kept, whose branches are as they were set aside
pub open_ready : (bound : ℕ) (workspace : Workspace) (found : CachedResult) (kept : CacheKey) → HaveRoom bound workspace
    → workspace.root_cache.found ≡ Some found → workspace.root_cache.root ≡ Some kept → found ≡ Open
    → IsOpen kept workspace.arena workspace.work workspace.tables → IsReady bound workspace
open_ready bound workspace found kept room some root is stands = record {
  room = room;
  kept = subst (λ (found : Option CachedResult). KeptAs workspace found workspace.root_cache.root) (sym some)
      (subst (λ (root : Option CacheKey). KeptAs workspace (Some found) root) (sym root)
      (subst (FoundAs kept workspace.arena workspace.work workspace.tables) (sym is) stands));
}
