-- The atoms of units, flagged by vertex. Own.
use Rattle.std.specs.Prelude.{◌≡◌, ◌<◌, ℕ, Bool, true, false, List, length, flat_map, slice_index_or, slice_set}
use Rattle.std.specs.List.{fold}
use Rattle.cip_mol.specs.declared.site.Unit as units
use Rattle.cip_digraph.specs.rings.Alternating.{is_in}
use Rattle.cip_digraph.specs.units.Ends.{atoms_of}
use Rattle.cip_digraph.specs.declared.unit_flags.FlaggedUnits.TheInside.{Inside}

-- the flag of a vertex is set, where the column reaches so far
abbrev pub with_flag : ℕ → List Bool → List Bool
with_flag vertex flags = slice_set flags vertex true

-- those of some vertices are set, one after the other
abbrev pub with_flags : List ℕ → List Bool → List Bool
with_flags vertices flags = fold (λ before vertex. with_flag vertex before) flags vertices

-- each flag says whether its vertex is an atom of a unit
pub record AreUnitFlags (all : List units.Unit) (flags : List Bool) : Type 0 where
  pub each : (vertex : ℕ) → vertex < length flags →
      slice_index_or flags vertex false ≡ is_in vertex (flat_map (λ unit. atoms_of unit.site) all)

abbrev pub HoldUnitFlags : Inside → Type 0
HoldUnitFlags columns = AreUnitFlags columns.units.now columns.flags.items
