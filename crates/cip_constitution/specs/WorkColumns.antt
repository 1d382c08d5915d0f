-- The room that the columns of settling keep. Own.
use Rattle.std.specs.Prelude.{◌≡◌, ◌≤◌, ◌-◌, length, vec_capacity}
use Rattle.cip_constitution.specs.Following.{Trying}
use Rattle.cip_constitution.specs.declared.work.Work.TheInside.{Inside}

abbrev pub trying_of : Inside → Trying
trying_of columns = record {
  bound = columns.bound;
  branched = columns.branches;
  pairs = columns.pairs.items;
  noted = columns.noted.items;
}

-- all nodes but the root may have a place; and there is room for each two of four ligands
pub record HaveRoom (columns : Inside) : Type 0 where
  pub branches : columns.branches.layers.place_tree.room ≡ columns.bound - 1
  pub tops : columns.tops.room ≡ columns.bound
  pub pairs : 6 ≤ vec_capacity columns.pairs
  pub few : length columns.pairs.items ≤ 6
  pub noted : 6 ≤ vec_capacity columns.noted
  pub saved : columns.saved.room ≡ columns.bound - 1
  pub under : columns.bound ≤ vec_capacity columns.under
