-- A loop that tells lines: with those of one item more.
use Rattle.std.proofs.Common.{◌≡◌, ◌<◌, ◌+◌, ◌++◌, ◌∷◌, [], ◌∙◌, ℕ, List, refl, ap, sym, append_assoc, take, map, flat_map, get_or, length}
use Rattle.std.specs.declared.option.Option.{Option}
use Rattle.std.proofs.lemmas.List.{flat_map_more, map_more, take_more}
use Rattle.cip_label.specs.Settings.{LabelContext}
use Rattle.cip_stereogroups.specs.declared.group_outcomes.BothOutcomes.{BothOutcomes}
use Rattle.cip_stereogroups.specs.Outcomes.{both, both_by, outcome_at, turned_at}

module _ {A B : Type 0} (all : List A) (place : ℕ) (one : A) (inside : place < length all) (before : List B) where
  pub line_more : (f : A → B) (line : B) → before ≡ map f (take place all) → line ≡ f (get_or all place one)
      → before ++ line ∷ [] ≡ map f (take (place + 1) all)
  line_more f line so_far is = (λ i. so_far i ++ is i ∷ []) ∙ sym (map_more f all place one inside)

  pub lines_more : (f : A → List B) (more : List B) → before ≡ flat_map f (take place all)
      → more ≡ f (get_or all place one) → before ++ more ≡ flat_map f (take (place + 1) all)
  lines_more f more so_far is =
      (λ i. so_far i ++ is i)
      ∙ flat_map_more f [] (take place all) (get_or all place one)
      ∙ ap (flat_map f) (sym (take_more all place one inside))

-- a line more after those that were there before the first item
pub line_behind : {A B : Type 0} (first : List B) (all : List A) (place : ℕ) (one : A) → place < length all
    → (before : List B) (f : A → B) (line : B) → before ≡ first ++ map f (take place all)
    → line ≡ f (get_or all place one) → before ++ line ∷ [] ≡ first ++ map f (take (place + 1) all)
line_behind first all place one inside before f line so_far is =
    ap (λ lines. lines ++ line ∷ []) so_far
    ∙ append_assoc first (map f (take place all)) (line ∷ [])
    ∙ ap (λ lines. first ++ lines) (line_more all place one inside (map f (take place all)) f line refl is)

-- both outcomes of the centre at an atom of a group, found in settings that are known
pub both_found : (found : Option BothOutcomes) (now bound : ℕ) (drawn turned : LabelContext) (atoms : List ℕ) (atom : ℕ)
    → found ≡ both_by (outcome_at now drawn atom) (outcome_at now turned atom) → now ≡ bound
    → turned ≡ turned_at atoms drawn → found ≡ both bound drawn atoms atom
both_found found now bound drawn turned atoms atom is kept parities =
    is ∙ (λ i. both_by (outcome_at (kept i) drawn atom) (outcome_at (kept i) (parities i) atom))
