-- Where no ligand is marked, the order of the directions gives nothing.
use Rattle.std.proofs.Common.{◌≡◌, ℕ, zero, suc, List, [], ◌∷◌, Bool, true, false, cond, ◌==◌, ◌%◌, length, not, refl}
use Rattle.std.proofs.lemmas.Bool.{and_left, and_right, or_from, or_parts, true≢false}
use Rattle.cip_num.specs.declared.plane.Sign.{Sign}
use Rattle.cip_num.specs.declared.plane.Sign.TheVariants.{Minus, Zero, Plus}
use Rattle.cip_num.specs.declared.plane.Vec2.{Vec2}
use Rattle.cip_num.specs.Around.{places}
use Rattle.cip_num.specs.Signs.{is_zero, opposite}
use Rattle.cip_mol.specs.FlatCentres.{has_minus, has_plus, is_marked_between, is_reentrant, turned, turned_by_place, votes}
use Rattle.cip_mol.specs.Marks.{has_mark, mark_at}
use Rattle.cip_mol.specs.declared.site.Cause.TheVariants.{NoMark}
use Rattle.cip_mol.specs.declared.site.Geometry.TheVariants.{Unknown}
use Rattle.cip_orient.specs.OrderedMarks.{by_order}

no_plus : (marks : List Sign) → has_mark marks ≡ false → has_plus marks ≡ false
no_plus [] e = refl
no_plus (Zero ∷ marks) e = no_plus marks e
no_plus (Plus ∷ marks) e = absurd (true≢false e)
no_plus (Minus ∷ marks) e = absurd (true≢false e)

no_minus : (marks : List Sign) → has_mark marks ≡ false → has_minus marks ≡ false
no_minus [] e = refl
no_minus (Zero ∷ marks) e = no_minus marks e
no_minus (Plus ∷ marks) e = absurd (true≢false e)
no_minus (Minus ∷ marks) e = absurd (true≢false e)

zero_turned : (b : Bool) → not (is_zero (cond b Zero (opposite Zero))) ≡ false
zero_turned true = refl
zero_turned false = refl

none_turned : (places : List ℕ) (marks : List Sign) → has_mark marks ≡ false
    → has_mark (turned_by_place places marks) ≡ false
none_turned [] marks e = refl
none_turned (place ∷ places) [] e = refl
none_turned (place ∷ places) (Zero ∷ marks) e =
    or_from (not (is_zero (turned place Zero))) (has_mark (turned_by_place places marks))
    (zero_turned (place % 2 == 0)) (none_turned places marks e)
none_turned (place ∷ places) (Plus ∷ marks) e = absurd (true≢false e)
none_turned (place ∷ places) (Minus ∷ marks) e = absurd (true≢false e)

none_vote : (places : List ℕ) (marks : List Sign) → has_mark marks ≡ false → has_mark (votes places marks) ≡ false
none_vote places marks e = by (length places == 4)
  where
    by : (b : Bool) → has_mark (cond b (turned_by_place places marks) marks) ≡ false
    by true = none_turned places marks e
    by false = e

none_at : (marks : List Sign) (place : ℕ) → has_mark marks ≡ false → not (is_zero (mark_at marks place)) ≡ false
none_at [] place e = refl
none_at (mark ∷ marks) zero e = (or_parts (not (is_zero mark)) (has_mark marks) e).0
none_at (mark ∷ marks) (suc place) e = none_at marks place (or_parts (not (is_zero mark)) (has_mark marks) e).1

module _ (directions : List Vec2) (marks : List Sign) (none : has_mark marks ≡ false) where
  not_between : (inner one other : ℕ) → is_marked_between directions marks inner one other ≡ false
  not_between inner one other =
      and_left (not (is_zero (mark_at marks inner))) _ (none_at marks inner none)

  not_reentrant : is_reentrant directions marks ≡ false
  not_reentrant =
      and_right (length directions == 3) _
      (or_from _ _ (not_between 0 1 2) (or_from _ _ (not_between 1 0 2) (not_between 2 0 1)))

  pub shows_none : by_order directions marks ≡ Unknown NoMark
  shows_none =
      let cast = none_vote (places directions) marks none in
      rw (
        no_plus (votes (places directions) marks) cast,
        no_minus (votes (places directions) marks) cast,
        not_reentrant,
      ) refl
