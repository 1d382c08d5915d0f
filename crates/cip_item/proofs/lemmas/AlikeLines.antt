-- Records whose lines are of the same kinds, and those that have no label item.
use Rattle.std.proofs.Common.{◌≡◌, ℕ, List, [], ◌∷◌, ◌||◌, refl, ◌∙◌, ap}
use Rattle.std.specs.List.{list_any}
use Rattle.cip_text.specs.Kinds.{is_blank, is_molecule_end}
use Rattle.cip_text.specs.Bodies.{body_contents}
use Rattle.cip_item.specs.Kinds.{is_heading, is_label_heading}
use Rattle.cip_item.specs.Parts.{part_of, part_behind, next_part, first_part, is_label_item, has_label_part, has_label_item}
use Rattle.cip_item.specs.declared.sections.Part.{Part}
use Rattle.cip_item.specs.declared.sections.Part.TheVariants.{Molecule, Between, OtherItem, LabelItem}

-- two contents of the same kind
pub record IsAlike (old new : List ℕ) : Type 0 where
  pub blank : is_blank new ≡ is_blank old
  pub heading : is_heading new ≡ is_heading old
  pub label_heading : is_label_heading new ≡ is_label_heading old
  pub molecule_end : is_molecule_end new ≡ is_molecule_end old

abbrev pub AreAlike : List (List ℕ) → List (List ℕ) → Type 0
AreAlike [] [] = Unit {0}
AreAlike [] (new ∷ news) = ⊥
AreAlike (old ∷ olds) [] = ⊥
AreAlike (old ∷ olds) (new ∷ news) = IsAlike old new × AreAlike olds news

same_part : (before : Part) (old new : List ℕ) → IsAlike old new → part_of before new ≡ part_of before old
same_part Molecule old new a = refl
same_part Between old new a = rw (a.label_heading, a.heading) refl
same_part OtherItem old new a = rw a.label_heading refl
same_part LabelItem old new a = refl

same_behind : (part : Part) (old new : List ℕ) → IsAlike old new → part_behind part new ≡ part_behind part old
same_behind Molecule old new a = rw a.molecule_end refl
same_behind Between old new a = refl
same_behind OtherItem old new a = rw a.blank refl
same_behind LabelItem old new a = rw a.blank refl

same_next : (before : Part) (old new : List ℕ) → IsAlike old new → next_part before new ≡ next_part before old
same_next before old new a =
    ap (λ part. part_behind part new) (same_part before old new a) ∙ same_behind (part_of before old) old new a

same_label : (before : Part) (olds news : List (List ℕ)) → AreAlike olds news
    → has_label_part before news ≡ has_label_part before olds
same_label before [] [] all = refl
same_label before [] (new ∷ news) all = absurd all
same_label before (old ∷ olds) [] all = absurd all
same_label before (old ∷ olds) (new ∷ news) all =
    ap (λ part. is_label_item part || has_label_part (next_part before new) news) (same_part before old new all.0)
    ∙ ap (λ part. is_label_item (part_of before old) || has_label_part part news) (same_next before old new all.0)
    ∙ ap (λ more. is_label_item (part_of before old) || more) (same_label (next_part before old) olds news all.1)

same_end : (olds news : List (List ℕ)) → AreAlike olds news → list_any is_molecule_end news ≡ list_any is_molecule_end
    olds
same_end [] [] all = refl
same_end [] (new ∷ news) all = absurd all
same_end (old ∷ olds) [] all = absurd all
same_end (old ∷ olds) (new ∷ news) all =
    ap (λ ends. ends || list_any is_molecule_end news) all.0.molecule_end
    ∙ ap (λ more. is_molecule_end old || more) (same_end olds news all.1)

same_first : (olds news : List (List ℕ)) → AreAlike olds news → first_part news ≡ first_part olds
same_first olds news all = rw (same_end olds news all) refl

-- whether a record has label items rests on the kinds of its lines
pub same_items : (bytes text : List ℕ) → AreAlike (body_contents bytes) (body_contents text)
    → has_label_item text ≡ has_label_item bytes
same_items bytes text all =
    ap (λ part. has_label_part part (body_contents text)) (same_first (body_contents bytes) (body_contents text) all)
    ∙ same_label (first_part (body_contents bytes)) (body_contents bytes) (body_contents text) all
