-- The group of a name among others.
use Rattle.std.proofs.Common.{◌≡◌, ◌<◌, ◌≤◌, ◌+◌, ℕ, zero, suc, List, [], ◌∷◌, ◌++◌, Some, None, Bool, true, false, not, cond, refl, ap, ◌∙◌, length, get_or, arith, nat_lt}
use Rattle.std.specs.Prelude.{slice_set}
use Rattle.std.specs.List.{position, position_or_len}
use Rattle.std.proofs.lemmas.Bool.{ltb-true, ltb-false}
use Rattle.cip_stereogroups.specs.declared.groups.Group.{Group}
use Rattle.cip_stereogroups.specs.declared.kinds.GroupKind.{GroupKind}
use Rattle.cip_stereogroups.specs.Grouping.{kinds_of, with_line}
use Rattle.cip_stereogroups.specs.Names.{same_kind}

-- a place that a test tells
pub placed_by : (b : Bool) (n place : ℕ) → Some place ≡ cond b (Some n) None → (b ≡ true) × (place ≡ n)
placed_by true n place e = (refl, (let same : place ≡ n = cc in same))
placed_by false n place e = absurd cc

pub unplaced_by : (b : Bool) (n : ℕ) → None ≡ cond b (Some n) None → b ≡ false
unplaced_by true n e = absurd cc
unplaced_by false n e = refl

pub count_kinds : (groups : List Group) → length (kinds_of groups) ≡ length groups
count_kinds [] = refl
count_kinds (group ∷ groups) = ap suc (count_kinds groups)

-- a group with other atoms keeps its name
pub kinds_stay : (groups : List Group) (place : ℕ) (old : Group) (more : List ℕ) → old ≡ get_or groups place old
    → kinds_of (slice_set groups place (record { kind = old.kind; line = old.line; atoms = more })) ≡ kinds_of groups
kinds_stay [] place old more at = refl
kinds_stay (group ∷ groups) zero old more at = ap (λ (one : Group). one.kind ∷ kinds_of groups) at
kinds_stay (group ∷ groups) (suc place) old more at =
    ap (λ kinds. group.kind ∷ kinds) (kinds_stay groups place old more at)

pub kinds_grow : (groups : List Group) (new : Group) → kinds_of groups ++ new.kind ∷ [] ≡ kinds_of (groups ++ new ∷ [])
kinds_grow [] new = refl
kinds_grow (group ∷ groups) new = ap (λ kinds. group.kind ∷ kinds) (kinds_grow groups new)

module _ (kind : GroupKind) (number : ℕ) (atoms : List ℕ) where
  abbrev place_in : List Group → ℕ
  place_in groups = position_or_len (same_kind kind) (kinds_of groups)

  abbrev joined : Group → Group
  joined group = record { kind = group.kind; line = group.line; atoms = group.atoms ++ atoms }

  abbrev new : Group
  new = record { kind = kind; line = number; atoms = atoms }

  put_at : (groups : List Group) (place : ℕ) (d : Group) → place ≡ place_in groups → place < length groups
      → slice_set groups place (joined (get_or groups place d)) ≡ with_line kind number atoms groups
  put_at [] place d e lt = absurd (omega (arith, lt))
  put_at (group ∷ groups) place d e lt =
      by (same_kind kind group.kind) (λ inside. put_at groups (place_in groups) d refl inside) e
    where
      by : (b : Bool)
          → (place_in groups < length groups
          → slice_set groups (place_in groups) (joined (get_or groups (place_in groups) d))
          ≡ with_line kind number atoms groups)
          → place ≡ cond (not b) (1 + place_in groups) 0
          → slice_set (group ∷ groups) place (joined (get_or (group ∷ groups) place d))
          ≡ cond b (joined group ∷ groups) (group ∷ with_line kind number atoms groups)
      by true rest is = rw is refl
      by false rest is =
          let next : place ≡ suc (place_in groups) = omega (arith, is) in
          let inside : place_in groups < length groups = omega (arith, next, lt) in
          rw next (ap (λ others. group ∷ others) (rest inside))

  put_behind : (groups : List Group) → length groups ≤ place_in groups
      → groups ++ new ∷ [] ≡ with_line kind number atoms groups
  put_behind [] le = refl
  put_behind (group ∷ groups) le = by (same_kind kind group.kind) (put_behind groups) le
    where
      by : (b : Bool)
          → (length groups ≤ place_in groups → groups ++ new ∷ [] ≡ with_line kind number atoms groups)
          → suc (length groups) ≤ cond (not b) (1 + place_in groups) 0
          → group ∷ (groups ++ new ∷ []) ≡ cond b (joined group ∷ groups) (group ∷ with_line kind number atoms groups)
      by true rest far = absurd (omega (arith, far))
      by false rest far = ap (λ others. group ∷ others) (rest (omega (arith, far)))

  line_joined : (groups : List Group) (place : ℕ) (d : Group)
      → Some place ≡ position (same_kind kind) (kinds_of groups)
      → slice_set groups place (joined (get_or groups place d)) ≡ with_line kind number atoms groups
  line_joined groups place d is =
      let p = placed_by (nat_lt (place_in groups) (length (kinds_of groups))) (place_in groups) place is in
      let lt = ltb-true (place_in groups) (length (kinds_of groups)) p.0 in
      put_at groups place d p.1 (omega (arith, lt, p.1, count_kinds groups))

  -- a line without a group of its name is a new group
  pub line_new : (groups : List Group) → None ≡ position (same_kind kind) (kinds_of groups)
      → groups ++ new ∷ [] ≡ with_line kind number atoms groups
  line_new groups is =
      let le = ltb-false (place_in groups) (length (kinds_of groups))
      (unplaced_by (nat_lt (place_in groups) (length (kinds_of groups))) (place_in groups) is) in
      put_behind groups (omega (arith, le, count_kinds groups))

  -- the atoms of a line put to those of the group of its name
  pub line_written : (groups : List Group) (place : ℕ) (old : Group) (more : List ℕ)
      → Some place ≡ position (same_kind kind) (kinds_of groups)
      → old ≡ get_or groups place old → more ≡ old.atoms ++ atoms
      → slice_set groups place (record { kind = old.kind; line = old.line; atoms = more })
      ≡ with_line kind number atoms groups
  line_written groups place old more is at written =
      ap (λ (all : List ℕ). slice_set groups place (record { kind = old.kind; line = old.line; atoms = all })) written
      ∙ ap (λ group. slice_set groups place (joined group)) at
      ∙ line_joined groups place old is
