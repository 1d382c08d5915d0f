-- Branches that were set aside, so that they can be restored. Own.
use Rattle.std.specs.Prelude.{◌≡◌, length}
use Rattle.cip_branches.specs.Deciding.{Branched}
use Rattle.cip_branches.specs.Saving.{Checkpoint}

-- what was set aside is that of branches with as many places
pub record Fits (saved : Checkpoint) (now : Branched) : Type 0 where
  pub rows : length saved.rows ≡ length now.layers.ranked.rows
  pub numbers : length saved.numbers ≡ length now.layers.place_tree.place_parents
  pub unresolved : length saved.unresolved ≡ length now.unresolved
