-- What the list of a vertex's positions is: ascending, and of three at most, as of the neighbours of an alternating
-- atom. Own.
use Rattle.std.specs.Prelude.{◌≡◌, ◌<◌, ◌≤◌, ℕ, List, length, take}
use Rattle.std.specs.List.{AllPairs}
use Rattle.cip_digraph.specs.declared.drawing.positions.PositionList.{PositionList}

pub record IsPositionList (positions : List ℕ) : Type 0 where
  pub ascending : AllPairs ◌<◌ positions
  pub few : length positions ≤ 3

-- those that are kept as the first of three numbers
abbrev pub listed : PositionList → List ℕ
listed list = take list.count list.numbers

pub record IsKept (list : PositionList) : Type 0 where
  pub long : length list.numbers ≡ 3
  pub within : list.count ≤ 3
  pub positions : IsPositionList (listed list)
