-- Once a round leaves all sites, so do all further ones.
use Rattle.std.proofs.Common.{◌≡◌, ◌≤◌, ◌+◌, ◌-◌, ◌∙◌, ℕ, zero, suc, Bool, true, false, not, cond, List, [], ◌∷◌, length, ap, subst, sym, refl, arith, filter}
use Rattle.cip_mol.specs.declared.site.Site.{Site}
use Rattle.cip_label.specs.Settings.{LabelContext}
use Rattle.cip_undefined.specs.Branches.{free_atoms}
use Rattle.cip_undefined.specs.Ties.{is_firm, loose, loose_after}

module _ {X : Type 0} (p : X → Bool) where
  filter_few : (xs : List X) → length (filter p xs) ≤ length xs
  filter_few [] = omega arith
  filter_few (x ∷ xs) = by (p x) (filter_few xs)
    where
      by : (b : Bool) → length (filter p xs) ≤ length xs
          → length (cond b (x ∷ filter p xs) (filter p xs)) ≤ suc (length xs)
      by true few = omega (arith, few)
      by false few = omega (arith, few)

  pub filter_whole : (xs : List X) → length (filter p xs) ≡ length xs → filter p xs ≡ xs
  filter_whole [] e = refl
  filter_whole (x ∷ xs) e = by (p x) (filter_few xs) (filter_whole xs) e
    where
      by : (b : Bool) → length (filter p xs) ≤ length xs → (length (filter p xs) ≡ length xs → filter p xs ≡ xs)
          → length (cond b (x ∷ filter p xs) (filter p xs)) ≡ suc (length xs)
          → cond b (x ∷ filter p xs) (filter p xs) ≡ x ∷ xs
      by true few same e = ap (λ ys. x ∷ ys) (same (omega (arith, e)))
      by false few same e = absurd (omega (arith, few, e))

module _ (setting : LabelContext) (nodes : ℕ) (others : List ℕ) (sites : List Site) where
  abbrev after : ℕ → List Site
  after rounds = loose_after setting nodes rounds others sites

  abbrev next : List Site → List Site
  next left = loose setting nodes (free_atoms others left) left

  stays : (rounds : ℕ) (left : List Site) → left ≡ after rounds → next left ≡ left → (more : ℕ)
      → after (more + rounds) ≡ left
  stays rounds left e same zero =
      let none : 0 + rounds ≡ rounds = omega arith in ap after none ∙ sym e
  stays rounds left e same (suc more) =
      let one : suc more + rounds ≡ suc (more + rounds) = omega arith in
      ap after one ∙ ap next (stays rounds left e same more) ∙ same

  pub settled : (rounds most : ℕ) (left : List Site) → rounds ≤ most → left ≡ after rounds
      → length (next left) ≡ length left → left ≡ after most
  settled rounds most left few e same =
      let sum : (most - rounds) + rounds ≡ most = omega (arith, few) in
      let whole = filter_whole (λ site. not (is_firm setting nodes (free_atoms others left) site)) left same in
      subst (λ n. left ≡ after n) sum (sym (stays rounds left e whole (most - rounds)))
