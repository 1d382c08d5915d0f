-- Atoms of units, one unit after the other.
use Rattle.std.proofs.Common.{◌≡◌, ◌<◌, ◌||◌, ◌==◌, ◌++◌, ℕ, Bool, true, false, List, [], ◌∷◌, length, replicate, ap, sym, refl, ◌∙◌, append-nil, append_assoc, subst, inl, inr}
use Rattle.std.specs.Prelude.{flat_map, slice_index_or}
use Rattle.std.specs.List.{list_any}
use Rattle.std.proofs.lemmas.Bool.{or_left, eqb-true, eq-eqb, eqb-false, cases_Bool}
use Rattle.std.proofs.lemmas.List.{length-set, get_or-set_same, get_or-set_other, get_or-replicate, length-replicate}
use Rattle.std.proofs.lemmas.List.Folds.{list_any-append}
use Rattle.std.proofs.lemmas.List.Sums.{fold-append}
use Rattle.cip_mol.specs.declared.site.Unit as units
use Rattle.cip_digraph.specs.rings.Alternating.{is_in}
use Rattle.cip_digraph.specs.units.Ends.{atoms_of}
use Rattle.cip_digraph.specs.UnitFlags.{with_flag, with_flags, AreUnitFlags}

abbrev pub atoms_in : List units.Unit → List ℕ
atoms_in all = flat_map (λ (unit : units.Unit). atoms_of unit.site) all

pub any_unit : (all : List units.Unit) (vertex : ℕ)
    → list_any (λ (unit : units.Unit). is_in vertex (atoms_of unit.site)) all ≡ is_in vertex (atoms_in all)
any_unit [] vertex = refl
any_unit (unit ∷ others) vertex =
    ap (λ b. is_in vertex (atoms_of unit.site) || b) (any_unit others vertex)
    ∙ sym (list_any-append (λ other. other == vertex) (atoms_of unit.site) (atoms_in others))

-- the atoms of a unit are flagged after those of the units before it
pub flags_more : (before : List units.Unit) (unit : units.Unit) (flags : List Bool)
    → with_flags (atoms_of unit.site) (with_flags (atoms_in before) flags) ≡ with_flags
    (atoms_in (before ++ unit ∷ [])) flags
flags_more before unit flags =
    sym (fold-append (λ flags vertex. with_flag vertex flags) flags (atoms_in before) (atoms_of unit.site))
    ∙ ap (λ vertices. with_flags vertices flags) (sym (more before))
  where
    more : (units : List units.Unit) → atoms_in (units ++ unit ∷ []) ≡ atoms_in units ++ atoms_of unit.site
    more [] = append-nil (atoms_of unit.site)
    more (first ∷ others) =
        ap (λ vertices. atoms_of first.site ++ vertices) (more others)
        ∙ sym (append_assoc (atoms_of first.site) (atoms_in others) (atoms_of unit.site))

abbrev flag_at : List Bool → ℕ → Bool
flag_at flags vertex = slice_index_or flags vertex false

flag_tells : (flagged : ℕ) (flags : List Bool) (vertex : ℕ) → vertex < length flags
    → flag_at (with_flag flagged flags) vertex ≡ ((flagged == vertex) || flag_at flags vertex)
flag_tells flagged flags vertex lt = elim (cases_Bool (flagged == vertex)) [
  | inl here ↦
      let same : flagged ≡ vertex = eqb-true flagged vertex here in
      subst (λ v. flag_at (with_flag flagged flags) v ≡ ((flagged == v) || flag_at flags v)) same
      (get_or-set_same flags flagged true false (subst (λ v. v < length flags) (sym same) lt)
      ∙ sym (or_left (flagged == flagged) (flag_at flags flagged) (eq-eqb flagged flagged refl)))
  | inr other ↦
      get_or-set_other flags flagged vertex true false (λ e. eqb-false flagged vertex other (sym e))
      ∙ sym (ap (λ b. b || flag_at flags vertex) other)
]

or_next : (a b c : Bool) → ((a || b) || c) ≡ (b || (a || c))
or_next true true c = refl
or_next true false c = refl
or_next false true c = refl
or_next false false c = refl

flags_tell : (flagged : List ℕ) (flags : List Bool) (vertex : ℕ) → vertex < length flags
    → flag_at (with_flags flagged flags) vertex ≡ (flag_at flags vertex || is_in vertex flagged)
flags_tell [] flags vertex lt = or_false (flag_at flags vertex)
  where
    or_false : (b : Bool) → b ≡ (b || false)
    or_false true = refl
    or_false false = refl
flags_tell (first ∷ others) flags vertex lt =
    flags_tell others (with_flag first flags) vertex
    (subst (λ n. vertex < n) (sym (length-set flags first true)) lt)
    ∙ ap (λ b. b || is_in vertex others) (flag_tells first flags vertex lt)
    ∙ or_next (first == vertex) (flag_at flags vertex) (is_in vertex others)

flags_len : (flagged : List ℕ) (flags : List Bool) → length (with_flags flagged flags) ≡ length flags
flags_len [] flags = refl
flags_len (first ∷ others) flags = flags_len others (with_flag first flags) ∙ length-set flags first true

-- flags of which none was set before
pub flags_all : (all : List units.Unit) (count : ℕ) → AreUnitFlags all (with_flags (atoms_in all) (replicate count false))
flags_all all count = record {
  each = λ vertex lt.
      let inside = subst (λ n. vertex < n) (flags_len (atoms_in all) (replicate count false)) lt in
      flags_tell (atoms_in all) (replicate count false) vertex inside
      ∙ ap (λ b. b || is_in vertex (atoms_in all)) (none count vertex inside);
}
  where
    none : (count vertex : ℕ) → vertex < length (replicate count false) → flag_at (replicate count false) vertex ≡ false
    none count vertex lt = get_or-replicate count vertex false false
        (subst (λ n. vertex < n) (length-replicate count false) lt)
