-- Spheres of rows, refined one after another from the outside inwards. Own.
use Rattle.std.specs.Prelude.{◌≡◌, ◌≢◌, ◌<◌, ◌≤◌, ℕ, suc, true, List, length, slice_index}
use Rattle.std.specs.List.{AllByRecursion}
use Rattle.cip_partition.specs.Kids.{kid_set}
use Rattle.cip_partition.specs.Parting.{is_class_start}
use Rattle.cip_branches.specs.Refining.{Refines}
use Rattle.cip_partition.specs.Rows.{IsRow, AreClassed}

abbrev pub in_sphere : List ℕ → List ℕ → ℕ → ℕ → Type 0
in_sphere rows starts t place = IsRow rows (slice_index starts t) (slice_index starts (suc t)) place

-- The spheres up to the last one are in rows, each after the one before, in classes. Children are in the next
-- sphere and know their parents.
pub record AreSpheres (kids : ℕ → List ℕ) (place_parents rows starts : List ℕ) (last : ℕ) (numbers : List ℕ) : Type 0 where
  pub rise : (t : ℕ) → t ≤ last → slice_index starts t ≤ slice_index starts (suc t)
  pub ends : (t row : ℕ) → slice_index starts t ≤ row → row < slice_index starts (suc t) → t ≤ last
  pub within : (t : ℕ) → t ≤ last → slice_index starts (suc t) ≤ length rows
  pub classed : (t : ℕ) → t ≤ last → AreClassed rows numbers (slice_index starts t) (slice_index starts (suc t))
  pub once : (t u place : ℕ) → in_sphere rows starts t place → in_sphere rows starts u place → t ≡ u
  pub node_data : (t place : ℕ) → t < last → in_sphere rows starts t place
      → AllByRecursion (λ kid. in_sphere rows starts (suc t) kid × (slice_index place_parents kid ≡ place)) (kids place)
  pub parent_place : (t place : ℕ) → t < last → in_sphere rows starts (suc t) place
      → in_sphere rows starts t (slice_index place_parents place)

-- Places that tied before have the same sets of before. In the sphere next to the new one only where the children
-- have their numbers of before.
pub record AreSteadyBefore (kids : ℕ → List ℕ) (rows starts : List ℕ) (far : ℕ) (before start : List ℕ) : Type 0 where
  pub begins : (t place : ℕ) → t ≤ far → in_sphere rows starts t place
      → slice_index start place ≡ slice_index before place
  pub same : (t a b : ℕ) → t ≤ far → in_sphere rows starts t a → in_sphere rows starts t b
      → slice_index before a ≡ slice_index before b
      → (t ≡ far → AllByRecursion (λ kid. slice_index start kid ≡ slice_index before kid) (kids a))
      → (t ≡ far → AllByRecursion (λ kid. slice_index start kid ≡ slice_index before kid) (kids b))
      → kid_set kids before a ≡ kid_set kids before b

-- each sphere has the same places in other rows
pub record SamePlaces (rows new_rows starts : List ℕ) : Type 0 where
  pub here : (t place : ℕ) → in_sphere rows starts t place → in_sphere new_rows starts t place
  pub there : (t place : ℕ) → in_sphere new_rows starts t place → in_sphere rows starts t place
  pub len : length new_rows ≡ length rows

-- the places of a sphere have their numbers of before
pub record Stands (rows starts : List ℕ) (t : ℕ) (before now : List ℕ) : Type 0 where
  pub each : (place : ℕ) → in_sphere rows starts t place → slice_index now place ≡ slice_index before place

-- all places but those of the spheres from t to `far` have their numbers of before
pub record StandBut (rows starts : List ℕ) (t far : ℕ) (before now : List ℕ) : Type 0 where
  pub each : (place : ℕ) → ((u : ℕ) → t ≤ u → u ≤ far → in_sphere rows starts u place → ⊥)
      → slice_index now place ≡ slice_index before place

-- A sphere has to be looked at: a place of a class of two and more has a child with another number than before.
pub record IsStirred (place_parents rows starts : List ℕ) (before start now : List ℕ) (t : ℕ) : Type 0 where
  pub kid : ℕ
  pub at : in_sphere rows starts (suc t) kid
  pub differs : slice_index now kid ≢ slice_index before kid
  pub shared : is_class_start rows start (slice_index start (slice_index place_parents kid)) (slice_index starts (suc t)) ≡ true

-- all spheres from t to `far` have to be looked at
pub record AreStirred (place_parents rows starts : List ℕ) (t far : ℕ) (before start now : List ℕ) : Type 0 where
  pub each : (u : ℕ) → t ≤ u → u ≤ far → IsStirred place_parents rows starts before start now u

-- of the spheres up to `far`, all from t on have to be looked at, and the one before t does not
pub record IsInnermost (place_parents rows starts : List ℕ) (t far : ℕ) (before start now : List ℕ) : Type 0 where
  pub high : t ≤ suc far
  pub dirty : AreStirred place_parents rows starts t far before start now
  pub stands : (u : ℕ) → t ≡ suc u → IsStirred place_parents rows starts before start now u → ⊥

-- the spheres from t on are refined, and the rows of all before are unchanged
pub record Refinement (kids : ℕ → List ℕ) (place_parents rows starts : List ℕ) (far last : ℕ) (start : List ℕ) (t : ℕ)
    (new_rows numbers : List ℕ) : Type 0 where
  pub refines : Refines kids (in_sphere rows starts) far t start numbers
  pub places : SamePlaces rows new_rows starts
  pub spheres : AreSpheres kids place_parents new_rows starts last numbers
  pub stand : StandBut rows starts t far start numbers
  pub still : (row : ℕ) → row < slice_index starts t → slice_index new_rows row ≡ slice_index rows row
