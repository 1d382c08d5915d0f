-- The units of known geometry that end at a vertex. Own.
use Rattle.std.specs.Prelude.{◌≡◌, ◌<◌, ℕ, Bool, true, false, ◌==◌, ◌&&◌, List, [], ◌++◌, ◌∷◌, All, cond, filter, length, map, slice_index_or, slice_set}
use Rattle.std.specs.List.{list_any}
use Rattle.cip_mol.specs.declared.site.Cause.TheVariants.{NoMark}
use Rattle.cip_mol.specs.declared.site.Geometry.{Geometry}
use Rattle.cip_mol.specs.declared.site.Geometry.TheVariants.{Known, Unknown}
use Rattle.cip_mol.specs.declared.site.Site.{Site}
use Rattle.cip_mol.specs.declared.site.Site.TheVariants.{Centre}
use Rattle.cip_mol.specs.declared.site.Unit as units
use Rattle.cip_digraph.specs.units.Ends.{ends_of}

abbrev pub is_known : Geometry → Bool
is_known (Known sense) = true
is_known (Unknown cause) = false

abbrev pub ends_at_site : ℕ → Site → Bool
ends_at_site vertex site = list_any (λ end. end.at == vertex) (ends_of site)

abbrev pub ends_at : ℕ → units.Unit → Bool
ends_at vertex unit = is_known unit.geometry && ends_at_site vertex unit.site

abbrev pub no_unit : units.Unit
no_unit = record { site = Centre 0 []; geometry = Unknown NoMark }

abbrev pub unit_at : List units.Unit → ℕ → units.Unit
unit_at all place = slice_index_or all place no_unit

-- the places of those of some first units that end at a vertex, in order
pub record ArePlaces (all first : List units.Unit) (vertex : ℕ) (places : List ℕ) : Type 0 where
  pub low : All (λ place. place < length all) places
  pub units : map (unit_at all) places ≡ filter (ends_at vertex) first

abbrev pub row : List (List ℕ) → ℕ → List ℕ
row rows vertex = slice_index_or rows vertex []

-- a place at the end of a vertex's row
abbrev pub with_last : ℕ → ℕ → List (List ℕ) → List (List ℕ)
with_last vertex place rows = slice_set rows vertex (row rows vertex ++ place ∷ [])

-- each row has the places of those of some first units that end at its vertex
pub record AreRows (all first : List units.Unit) (rows : List (List ℕ)) : Type 0 where
  pub each : (vertex : ℕ) → ArePlaces all first vertex (row rows vertex)

-- each row is as it was, and with a place at its end where a test passes
pub record AreAdded (test : ℕ → Bool) (place : ℕ) (old new : List (List ℕ)) : Type 0 where
  pub each : (vertex : ℕ) → row new vertex ≡ row old vertex ++ cond (test vertex) (place ∷ []) []
