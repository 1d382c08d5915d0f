-- Looks that constitution leaves open, as they are kept. Own.
use Rattle.std.specs.Prelude.{◌≡◌, ◌≤◌, ℕ, List, All, length}
use Rattle.std.specs.declared.option.Option.{Option}
use Rattle.cip_aux.specs.Views.{DigraphView}
use Rattle.cip_branches.specs.Deciding.{Branched}
use Rattle.cip_branches.specs.Saving.{Checkpoint, saved_of}
use Rattle.cip_digraph.specs.digraph.NodeList.{parents_of}
use Rattle.cip_rules.specs.Taking.{AreSame}
use Rattle.cip_digraph.specs.declared.decisions.branch_pair.BranchPair.{BranchPair}
use Rattle.cip_aux_rank.specs.Narrowing.{LeavesOpen}
use Rattle.cip_aux_rank.specs.LigandBranches.{asked_tops}
use Rattle.cip_aux_rank.specs.declared.cached.cache.CachedRanking.{CachedRanking}

-- the node that is looked from, its ligands, the tops of the branches that are kept, what constitution decides between
-- each two ligands, the branches, and the ranks of these as constitution left them
pub record LigandQuery : Type 0 where
  pub node : ℕ
  pub ligands : List (Option ℕ)
  pub tops : List (Option ℕ)
  pub pairs : List BranchPair
  pub branched : Branched
  pub ranks : Checkpoint

abbrev pub look_of : CachedRanking → LigandQuery
look_of entry = record {
  node = entry.node;
  ligands = entry.ligands.items;
  tops = entry.tops.items;
  pairs = entry.pairs.items;
  branched = entry.branches;
  ranks = entry.ranks;
}

-- it is a ranking of these ligands from this node
abbrev pub Asks : LigandQuery → ℕ → List (Option ℕ) → Type 0
Asks entry node ligands = (entry.node ≡ node) × (entry.ligands ≡ ligands)

-- the nodes at the tops of its branches
abbrev pub looked_at : DigraphView → LigandQuery → List ℕ
looked_at sight entry = asked_tops (parents_of sight.node_data) entry.tops entry.node

-- Constitution left its branches so, with a pair open; only their ranks have changed since.
pub record IsOpen (bound : ℕ) (sight : DigraphView) (entry : LigandQuery) : Type 0 where
  pub begin : Branched
  pub left : LeavesOpen sight entry.node (looked_at sight entry) begin entry.pairs entry.ligands
  pub ranks : entry.ranks ≡ saved_of entry.ranks.room begin
  pub numbers : length begin.layers.ranked.numbers ≡ length begin.layers.place_tree.place_parents
  pub same : AreSame begin entry.branched
  pub room : entry.branched.layers.place_tree.room ≡ bound

-- there is room for a digraph of n nodes, and these are tied rankings in it
pub record AreOpen (bound : ℕ) (sight : DigraphView) (looks : List LigandQuery) : Type 0 where
  pub room : length sight.node_data ≤ bound
  pub each : All (IsOpen bound sight) looks
