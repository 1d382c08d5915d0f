-- Names of groups that are put together.
use Rattle.std.proofs.Common.{◌≡◌, ℕ, List, [], ◌∷◌, ◌++◌, ◌||◌, ◌&&◌, Bool, true, false, not, cond, refl, sym, ap, ◌∙◌, eq-eqb, eqb-true}
use Rattle.std.proofs.Common.{arith}
use Rattle.std.specs.Prelude.{nat_eq}
use Rattle.std.specs.List.{list_any}
use Rattle.std.proofs.lemmas.List.Folds.{list_any-append}
use Rattle.std.proofs.Math.Bool.{or-false}
use Rattle.cip_stereogroups.specs.declared.groups.Group.{Group}
use Rattle.cip_stereogroups.specs.declared.kinds.GroupKind.{GroupKind}
use Rattle.cip_stereogroups.specs.declared.kinds.GroupKind.TheVariants.{Absolute, Racemic, Relative}
use Rattle.cip_stereogroups.specs.Grouping.{kinds_of, with_line}
use Rattle.cip_stereogroups.specs.Names.{same_kind}
use Rattle.cip_laws.specs.GroupLaws.{is_named, holds, are_different}

pub same_is : (one other : GroupKind) → same_kind one other ≡ true → one ≡ other
same_is Absolute Absolute e = refl
same_is (Racemic a) (Racemic b) e = ap Racemic (eqb-true a b e)
same_is (Relative a) (Relative b) e = ap Relative (eqb-true a b e)
same_is one other e = absurd cc

itself : (kind : GroupKind) → same_kind kind kind ≡ true
itself Absolute = refl
itself (Racemic a) = eq-eqb a a refl
itself (Relative a) = eq-eqb a a refl

same_by : (one other : GroupKind) (b : Bool) → same_kind other one ≡ b → same_kind one other ≡ false → b ≡ false
same_by one other false is e = refl
same_by one other true is e = sym (itself one) ∙ ap (same_kind one) (sym (same_is other one is)) ∙ e

-- a name that isn't another one, the other way round
pub apart : (one other : GroupKind) → same_kind one other ≡ false → same_kind other one ≡ false
apart one other e = same_by one other (same_kind other one) refl e ∙ refl

or_again : (a b : Bool) → (a || b) ≡ ((a || b) || a)
or_again a b = grind arith

or_assoc : (a b c : Bool) → (a || (b || c)) ≡ ((a || b) || c)
or_assoc a b c = grind arith

module _ (kind : GroupKind) (number : ℕ) (atoms : List ℕ) where
  -- a line names its own group beside those that are there
  pub named_with : (name : GroupKind) (groups : List Group)
      → is_named name (with_line kind number atoms groups) ≡ (is_named name groups || same_kind name kind)
  named_with name [] = or-false (same_kind name kind)
  named_with name (group ∷ groups) = by (same_kind kind group.kind) refl (named_with name groups)
    where
      by : (b : Bool) → same_kind kind group.kind ≡ b
          → is_named name (with_line kind number atoms groups) ≡ (is_named name groups || same_kind name kind)
          → is_named name (cond b
          (record { kind = group.kind; line = group.line; atoms = group.atoms ++ atoms } ∷ groups)
          (group ∷ with_line kind number atoms groups))
          ≡ ((same_kind name group.kind || is_named name groups) || same_kind name kind)
      by true is rest =
          or_again (same_kind name group.kind) (is_named name groups)
          ∙ ap (λ other. (same_kind name group.kind || is_named name groups) || same_kind name other)
          (sym (same_is kind group.kind is))
      by false is rest =
          ap (λ b. same_kind name group.kind || b) rest
          ∙ or_assoc (same_kind name group.kind) (is_named name groups) (same_kind name kind)

  both_any : (a b c d : Bool) → ((a && (b || c)) || d) ≡ (((a && b) || d) || (a && c))
  both_any a b c d = grind arith

  -- a group of this name holds the atom
  abbrev held : GroupKind → ℕ → Group → Bool
  held name atom group = same_kind name group.kind && list_any (nat_eq atom) group.atoms

  -- the atoms of a line are in the group of its name beside those that are there
  pub held_with : (name : GroupKind) (atom : ℕ) (groups : List Group)
      → holds name atom (with_line kind number atoms groups)
      ≡ (holds name atom groups || (same_kind name kind && list_any (nat_eq atom) atoms))
  held_with name atom [] = or-false (same_kind name kind && list_any (nat_eq atom) atoms)
  held_with name atom (group ∷ groups) = by (same_kind kind group.kind) refl (held_with name atom groups)
    where
      by : (b : Bool) → same_kind kind group.kind ≡ b
          → holds name atom (with_line kind number atoms groups)
          ≡ (holds name atom groups || (same_kind name kind && list_any (nat_eq atom) atoms))
          → holds name atom (cond b
          (record { kind = group.kind; line = group.line; atoms = group.atoms ++ atoms } ∷ groups)
          (group ∷ with_line kind number atoms groups))
          ≡ ((held name atom group || holds name atom groups) || (same_kind name kind && list_any (nat_eq atom) atoms))
      by true is rest =
          ap (λ b. (same_kind name group.kind && b) || holds name atom groups)
          (list_any-append (nat_eq atom) group.atoms atoms)
          ∙ both_any (same_kind name group.kind) (list_any (nat_eq atom) group.atoms) (list_any (nat_eq atom) atoms)
          (holds name atom groups)
          ∙ ap (λ other. (held name atom group || holds name atom groups) || (same_kind name other && list_any (nat_eq atom) atoms))
          (sym (same_is kind group.kind is))
      by false is rest =
          ap (λ b. held name atom group || b) rest
          ∙ or_assoc (held name atom group) (holds name atom groups) (same_kind name kind && list_any (nat_eq atom) atoms)

  -- and names stay different
  pub different_with : (groups : List Group) → are_different (kinds_of groups) ≡ true
      → are_different (kinds_of (with_line kind number atoms groups)) ≡ true
  different_with [] e = refl
  different_with (group ∷ groups) e =
      by (same_kind kind group.kind) refl (is_named group.kind groups) refl e (different_with groups)
    where
      by : (b : Bool) → same_kind kind group.kind ≡ b → (named : Bool) → is_named group.kind groups ≡ named
          → (not named && are_different (kinds_of groups)) ≡ true
          → (are_different (kinds_of groups) ≡ true
          → are_different (kinds_of (with_line kind number atoms groups)) ≡ true)
          → are_different (kinds_of (cond b
          (record { kind = group.kind; line = group.line; atoms = group.atoms ++ atoms } ∷ groups)
          (group ∷ with_line kind number atoms groups))) ≡ true
      by true is named said e rest = ap (λ b. not b && are_different (kinds_of groups)) said ∙ e
      by false is true said e rest = absurd cc
      by false is false said e rest =
          let none : is_named group.kind (with_line kind number atoms groups) ≡ false =
          named_with group.kind groups ∙ ap (λ b. b || same_kind group.kind kind) said ∙ apart kind group.kind is in
          rw none (rest e)

-- lines put to groups, one after the other
abbrev pub joined : List Group → List Group → List Group
joined groups [] = groups
joined groups (line ∷ lines) = joined (with_line line.kind line.line line.atoms groups) lines

pub joined_more : (groups lines more : List Group) → joined (joined groups lines) more ≡ joined groups (lines ++ more)
joined_more groups [] more = refl
joined_more groups (line ∷ lines) more = joined_more (with_line line.kind line.line line.atoms groups) lines more

pub named_joined : (kind : GroupKind) (groups lines : List Group)
    → is_named kind (joined groups lines) ≡ (is_named kind groups || is_named kind lines)
named_joined kind groups [] = sym (or-false (is_named kind groups))
named_joined kind groups (line ∷ lines) =
    named_joined kind (with_line line.kind line.line line.atoms groups) lines
    ∙ ap (λ b. b || is_named kind lines) (named_with line.kind line.line line.atoms kind groups)
    ∙ sym (or_assoc (is_named kind groups) (same_kind kind line.kind) (is_named kind lines))

pub held_joined : (kind : GroupKind) (atom : ℕ) (groups lines : List Group)
    → holds kind atom (joined groups lines) ≡ (holds kind atom groups || holds kind atom lines)
held_joined kind atom groups [] = sym (or-false (holds kind atom groups))
held_joined kind atom groups (line ∷ lines) =
    held_joined kind atom (with_line line.kind line.line line.atoms groups) lines
    ∙ ap (λ b. b || holds kind atom lines) (held_with line.kind line.line line.atoms kind atom groups)
    ∙ sym (or_assoc (holds kind atom groups) (same_kind kind line.kind && list_any (nat_eq atom) line.atoms)
    (holds kind atom lines))

pub different_joined : (groups lines : List Group) → are_different (kinds_of groups) ≡ true
    → are_different (kinds_of (joined groups lines)) ≡ true
different_joined groups [] e = e
different_joined groups (line ∷ lines) e =
    different_joined (with_line line.kind line.line line.atoms groups) lines
    (different_with line.kind line.line line.atoms groups e)
