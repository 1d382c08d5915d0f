-- Ends of paths, what two paths have in common, and how far their nodes are apart.
use Rattle.std.proofs.Common.{◌≡◌, ℕ, suc, ◌+◌, ◌-◌, ◌<◌, ◌≤◌, ◌==◌, ◌&&◌, Bool, true, false, cond, List, [], ◌∷◌, length, refl, sym, ap, ◌∙◌, arith, eq-eqb, eqb-true, inl, inr}
use Rattle.std.specs.Prelude.{drop}
use Rattle.std.proofs.lemmas.Bool.{le-leb, lt-leb, and_parts, cases_order, cases_Bool, both_ways}
use Rattle.cip_digraph.specs.digraph.View.{same_numbers, is_end_of, common, apart}
use Rattle.cip_digraph.proofs.lemmas.tree.Apart.{tail_of}

pub same_itself : (ns : List ℕ) → same_numbers ns ns ≡ true
same_itself [] = refl
same_itself (n ∷ ns) = ap (λ b. b && same_numbers ns ns) (eq-eqb n n refl) ∙ same_itself ns

pub same_are : (ns ms : List ℕ) → same_numbers ns ms ≡ true → ns ≡ ms
same_are [] [] e = refl
same_are [] (m ∷ ms) e = let bad : false ≡ true = e in cc
same_are (n ∷ ns) [] e = let bad : false ≡ true = e in cc
same_are (n ∷ ns) (m ∷ ms) e =
    let parts = and_parts (n == m) (same_numbers ns ms) e in
    let here : n ≡ m = eqb-true n m parts.0 in
    let rest : ns ≡ ms = same_are ns ms parts.1 in
    cc

-- a longer path is no end
pub end_long : (up path : List ℕ) → length path < length up → is_end_of up path ≡ false
end_long up path h =
    ap (λ b. b && same_numbers (drop (length path - length up) path) up) (lt-leb (length up) (length path) h)

pub end_short : (up path : List ℕ) → is_end_of up path ≡ true → length up ≤ length path
end_short up path e = elim (cases_order (length path) (length up)) [
  | inl same ↦ omega (arith, same)
  | inr (inl less) ↦ absurd (both_ways (is_end_of up path) (end_long up path less) e)
  | inr (inr more) ↦ omega arith
]

pub end_more : (up : List ℕ) (vertex : ℕ) (path : List ℕ) → length up ≤ length path
    → is_end_of up (vertex ∷ path) ≡ is_end_of up path
end_more up vertex path h =
    let past : length (vertex ∷ path) - length up ≡ suc (length path - length up) = omega arith in
    ap (λ b. b && same_numbers (drop (length (vertex ∷ path) - length up) (vertex ∷ path)) up)
    (le-leb (length up) (length (vertex ∷ path)) (omega arith))
    ∙ ap (λ n. same_numbers (drop n (vertex ∷ path)) up) past
    ∙ sym (ap (λ b. b && same_numbers (drop (length path - length up) path) up) (le-leb (length up) (length path) h))

pub end_even : (up path : List ℕ) → length up ≡ length path → is_end_of up path ≡ same_numbers path up
end_even up path h =
    let none : length path - length up ≡ 0 = omega arith in
    ap (λ b. b && same_numbers (drop (length path - length up) path) up)
    (le-leb (length up) (length path) (omega arith))
    ∙ ap (λ n. same_numbers (drop n path) up) none

pub end_itself : (path : List ℕ) → is_end_of path path ≡ true
end_itself path = end_even path path refl ∙ same_itself path

-- an end of an end
pub end_up : (vertex : ℕ) (up path : List ℕ) → is_end_of (vertex ∷ up) path ≡ true → is_end_of up path ≡ true
end_up vertex up [] e = let low : length (vertex ∷ up) ≤ 0 = end_short (vertex ∷ up) [] e in absurd (omega arith)
end_up vertex up (first ∷ path) e = elim (cases_order (length up) (length path)) [
  | inl even ↦
      let same : first ∷ path ≡ vertex ∷ up =
      same_are (first ∷ path) (vertex ∷ up) (sym (end_even (vertex ∷ up) (first ∷ path) (omega (arith, even))) ∙ e) in
      let rest : path ≡ up = tail_of same in
      end_more up first path (omega (arith, even)) ∙ ap (is_end_of up) rest ∙ end_itself up
  | inr (inl less) ↦
      end_more up first path (omega arith)
      ∙ end_up vertex up path (sym (end_more (vertex ∷ up) first path (omega arith)) ∙ e)
  | inr (inr more) ↦ let low : length (vertex ∷ up) ≤ length (first ∷ path) =
      end_short (vertex ∷ up) (first ∷ path) e in absurd (omega arith)
]

common_by : (path : List ℕ) (vertex : ℕ) (up : List ℕ) (b : Bool) → is_end_of (vertex ∷ up) path ≡ b
    → common path (vertex ∷ up) ≡ cond b (length up + 1) (common path up)
common_by path vertex up b e = ap (λ t. cond t (length up + 1) (common path up)) e

pub common_end : (path other : List ℕ) → is_end_of other path ≡ true → common path other ≡ length other
common_end path [] e = refl
common_end path (vertex ∷ up) e = common_by path vertex up true e ∙ omega arith

pub common_off : (path : List ℕ) (vertex : ℕ) (up : List ℕ) → is_end_of (vertex ∷ up) path ≡ false
    → common path (vertex ∷ up) ≡ common path up
common_off path vertex up e = common_by path vertex up false e

pub common_low : (path other : List ℕ) → common path other ≤ length other
common_low path [] = omega arith
common_low path (vertex ∷ up) = elim (cases_Bool (is_end_of (vertex ∷ up) path)) [
  | inl on ↦ omega (arith, common_end path (vertex ∷ up) on)
  | inr off ↦ omega (arith, common_off path vertex up off, common_low path up)
]

pub common_short : (path other : List ℕ) → common path other ≤ length path
common_short path [] = omega arith
common_short path (vertex ∷ up) = elim (cases_Bool (is_end_of (vertex ∷ up) path)) [
  | inl on ↦ omega (arith, common_end path (vertex ∷ up) on, end_short (vertex ∷ up) path on)
  | inr off ↦ omega (arith, common_off path vertex up off, common_short path up)
]

pub apart_itself : (path : List ℕ) → apart path path ≡ 0
apart_itself path = omega (arith, common_end path path (end_itself path))

-- one vertex further off a path
pub apart_off : (path : List ℕ) (vertex : ℕ) (up : List ℕ) → is_end_of (vertex ∷ up) path ≡ false
    → apart path (vertex ∷ up) ≡ apart path up + 1
apart_off path vertex up off = omega (arith, common_off path vertex up off, common_low path up, common_short path up)

-- one vertex back along it
pub apart_up : (path : List ℕ) (vertex : ℕ) (up : List ℕ) → is_end_of (vertex ∷ up) path ≡ true
    → apart path up ≡ apart path (vertex ∷ up) + 1
apart_up path vertex up on =
    omega (
      arith,
      common_end path (vertex ∷ up) on,
      common_end path up (end_up vertex up path on),
      end_short (vertex ∷ up)
          path on,
    )

-- a path and one vertex more have the same ends, but for the longer path itself
pub end_step : (up : List ℕ) (vertex : ℕ) (path : List ℕ) → (up ≡ vertex ∷ path → ⊥)
    → is_end_of up (vertex ∷ path) ≡ is_end_of up path
end_step up vertex path differ = elim (cases_order (length up) (length (vertex ∷ path))) [
  | inl even ↦
      let other : is_end_of up path ≡ false = end_long up path (omega (arith, even)) in
      elim (cases_Bool (same_numbers (vertex ∷ path) up)) [
        | inl same ↦ absurd (differ (sym (same_are (vertex ∷ path) up same)))
        | inr not_same ↦ end_even up (vertex ∷ path) even ∙ not_same ∙ sym other
      ]
  | inr (inl less) ↦ end_more up vertex path (omega arith)
  | inr (inr more) ↦ end_long up (vertex ∷ path) more ∙ sym (end_long up path (omega arith))
]
