-- In the cut tree a branch ends with the last sphere.
use Rattle.std.proofs.Common.{◌≡◌, ◌<◌, ◌≤◌, ◌-◌, ℕ, zero, suc, List, [], ◌∷◌, map, length, slice_index, refl, sym, ap}
use Rattle.std.proofs.Common.{◌∙◌, subst, arith, inl, inr}
use Rattle.std.specs.List.{AllByRecursion}
use Rattle.std.proofs.lemmas.Bool.{cases_lt}
use Rattle.std.proofs.lemmas.List.{get_or-map, length-map}
use Rattle.std.proofs.lemmas.List.Elements.{All-from_recursion}
use Rattle.cip_rank.specs.Tree.{children_of}
use Rattle.cip_rank.proofs.lemmas.Children.{IsChild, children_are}
use Rattle.cip_digraph.specs.graph.Graph.{Graph}
use Rattle.cip_digraph.specs.digraph.SameBranch.{EndsWithin}
use Rattle.cip_digraph.proofs.lemmas.lists.Elements.{all_by}
use Rattle.cip_digraph.proofs.lemmas.numbered.Linked.{no_placed, placed_at, at_left}
use Rattle.cip_digraph.proofs.lemmas.numbered.Placing.{Placed, next_sphere, spheres, placed, parents}
use Rattle.cip_digraph.proofs.lemmas.numbered.Hanging.{node_at, others, by_numbers, last_kids, low_parents}
use Rattle.cip_digraph.proofs.lemmas.numbered.Cut.{size, size_le}

map_none : {X : Type 0} (f : ℕ → X) (cs : List ℕ) → map f cs ≡ [] → cs ≡ []
map_none f [] h = refl
map_none f (c ∷ cs) h = let bad : f c ∷ map f cs ≡ [] = h in cc

module _ (g : Graph) (positions : List (List ℕ)) (root : ℕ) where
  in_others : (ns : List Placed) (c : ℕ) → placed_at ns (suc c) ≡ placed_at (others g positions ns) c
  in_others [] c = refl
  in_others (n ∷ ns) c = refl

  others_long : (ns : List Placed) (c : ℕ) → suc c < length ns → c < length (others g positions ns)
  others_long [] c h = absurd (omega (arith, h))
  others_long (n ∷ ns) c h = omega (arith, h)

  prefix : (s t c : ℕ) → t ≤ s → c < size g positions root t → placed_at (placed g positions root s) c ≡ placed_at
      (placed g positions root t) c
  prefix zero t c le lt = let same : t ≡ 0 = omega arith in ap (λ k. placed_at (placed g positions root k) c) (sym same)
  prefix (suc s) t c le lt = elim (cases_lt s t) [
    | inl here ↦ let same : t ≡ suc s = omega arith in ap (λ k. placed_at (placed g positions root k) c) (sym same)
    | inr below ↦
        let parent_place = spheres g positions root s in
        let le' = size_le g positions root t s below in
        at_left (placed g positions root s) (next_sphere g positions (length parent_place.before) parent_place.last) c
        (omega (arith, le', lt)) ∙ prefix s t c below lt
  ]

  -- a node up to sphere t + 1 hangs below a node up to sphere t
  early : (s t c : ℕ) → suc t ≤ s → suc c < size g positions root (suc t)
      → (placed_at (placed g positions root s) (suc c)).parent < size g positions root t
  early s t c le lt =
      subst (λ (p : Placed). p.parent < size g positions root t) (sym (prefix s (suc t) (suc c) le lt
      ∙ in_others (placed g positions root (suc t)) c))
      (All-from_recursion (λ (p : Placed). p.parent < size g positions root t)
      (others g positions (placed g positions root (suc t))) (low_parents g positions root (suc t)) c no_placed
      (others_long (placed g positions root (suc t)) c lt))

  module _ (s : ℕ) where
    abbrev numbers : List ℕ
    numbers = parents (placed g positions root s)

    pub low_kids : (t n : ℕ) → suc t ≤ s → size g positions root t ≤ n
        → AllByRecursion (λ c. size g positions root (suc t) ≤ c) (children_of numbers n)
    low_kids t n le high = all_by (IsChild numbers n) (λ c. size g positions root (suc t) ≤ c) (λ c h.
        let some = h.behind in
        let low : c < size g positions root s = let a = h.below in
        omega (arith, a, length-map (placed g positions root s) (λ (p : Placed). p.parent)) in
        elim (cases_lt c (size g positions root (suc t))) [
          | inl bad ↦
              let back : suc (c - 1) ≡ c = omega arith in
              let is = h.parent in
              let at : slice_index numbers c ≡ (placed_at (placed g positions root s) c).parent =
              get_or-map (λ (p : Placed). p.parent) (placed g positions root s) c no_placed 0 low in
              let parent_place : (placed_at (placed g positions root s) c).parent < size g positions root t =
              subst (λ k. (placed_at (placed g positions root s) k).parent < size g positions root t) back
              (early s t (c - 1) le (omega (arith, bad, back))) in
              absurd (omega (arith, is, at, parent_place, high))
          | inr good ↦ good
        ])
        (children_of numbers n) (children_are numbers n)

    -- a node at least in sphere s - d has at most d spheres below it in the cut tree
    pub cut_ends : (d n : ℕ) → suc d ≤ s → size g positions root (s - suc d) ≤ n → EndsWithin (children_of numbers) d n
    cut_ends zero n le high = map_none (node_at (placed g positions root s)) (children_of numbers n)
        (by_numbers g positions (placed g positions root s) n ∙ last_kids g positions root s n (last s le high))
      where
        last : (s : ℕ) → 1 ≤ s → size g positions root (s - 1) ≤ n → length (spheres g positions root s).before ≤ n
        last zero le h = absurd (omega arith)
        last (suc s) le h = let at : suc s - 1 ≡ s = omega arith in subst (λ k. size g positions root k ≤ n) at h
    cut_ends (suc d) n le high =
        let at : suc (s - suc (suc d)) ≡ s - suc d = omega arith in
        all_by (λ c. size g positions root (suc (s - suc (suc d))) ≤ c) (EndsWithin (children_of numbers) d)
        (λ c h. cut_ends d c (omega arith) (subst (λ k. size g positions root k ≤ c) at h)) (children_of numbers n)
        (low_kids (s - suc (suc d)) n (omega arith) high)
