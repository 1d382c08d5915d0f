-- Spheres of a tree by its parents, and its height.
use Rattle.std.proofs.Common.{◌≡◌, ℕ, zero, suc, ◌+◌, ◌-◌, ◌<◌, ◌≤◌, List, [], ◌∷◌, ◌++◌, length, slice_index, refl, sym, ap, ◌∙◌, subst, arith, length-append, inl, inr, ◌⊎◌}
use Rattle.std.specs.List.{AllByRecursion, flat_map}
use Rattle.std.proofs.lemmas.Bool.{cases_order}
use Rattle.std.proofs.lemmas.List.{get_or_append_left}
use Rattle.cip_rank.specs.Tree.{IsTree, children_of, spheres_behind, spheres_of, height_of}
use Rattle.cip_rank.proofs.lemmas.Children.{IsChild, children_are}
use Rattle.cip_rank.proofs.lemmas.Pushed.{index_at_end}
use Rattle.cip_digraph.specs.digraph.View.{height_below}
use Rattle.cip_digraph.proofs.lemmas.lists.Elements.{all_by, all_append}
use Rattle.cip_aux.proofs.lemmas.Members.{child_has}

behind_keeps : (spheres parents : List ℕ) (k : ℕ) → k < length spheres
    → slice_index (spheres_behind spheres parents) k ≡ slice_index spheres k
behind_keeps spheres [] k h = refl
behind_keeps spheres (parent ∷ parents) k h =
    let one = (slice_index spheres parent + 1) ∷ [] in
    behind_keeps (spheres ++ one) parents k (omega (arith, length-append spheres one, h))
    ∙ get_or_append_left spheres one 0 k h

behind_next : (spheres parents : List ℕ) (j : ℕ) → j < length parents → slice_index parents j < length spheres + j
    → slice_index (spheres_behind spheres parents) (length spheres + j)
    ≡ slice_index (spheres_behind spheres parents) (slice_index parents j) + 1
behind_next spheres [] j h less = absurd (omega arith)
behind_next spheres (parent ∷ parents) zero h less =
    let one = (slice_index spheres parent + 1) ∷ [] in
    let len = length-append spheres one in
    let at : length spheres + 0 ≡ length spheres = omega arith in
    ap (slice_index (spheres_behind (spheres ++ one) parents)) at
    ∙ behind_keeps (spheres ++ one) parents (length spheres) (omega (arith, len))
    ∙ index_at_end spheres (slice_index spheres parent + 1)
    ∙ ap (λ k. k + 1)
    (sym
    (behind_keeps (spheres ++ one) parents parent (omega (arith, len, less))
    ∙ get_or_append_left spheres one 0 parent (omega arith)))
behind_next spheres (parent ∷ parents) (suc j) h less =
    let one = (slice_index spheres parent + 1) ∷ [] in
    let len = length-append spheres one in
    let at : length spheres + suc j ≡ length (spheres ++ one) + j = omega (arith, len) in
    ap (slice_index (spheres_behind (spheres ++ one) parents)) at
    ∙ behind_next (spheres ++ one) parents j (omega arith) (omega (arith, len, less))

pub sphere_root : (parents : List ℕ) → slice_index (spheres_of parents) 0 ≡ 0
sphere_root [] = refl
sphere_root (root ∷ parents) = behind_keeps (0 ∷ []) parents 0 (omega arith)

pub sphere_next : (parents : List ℕ) → IsTree parents → (k : ℕ) → 0 < k → k < length parents
    → slice_index (spheres_of parents) k ≡ slice_index (spheres_of parents) (slice_index parents k) + 1
sphere_next [] tree k some h = absurd (omega arith)
sphere_next (root ∷ parents) tree zero some h = absurd (omega arith)
sphere_next (root ∷ parents) tree (suc j) some h =
    let less : slice_index parents j < suc j = tree.behind (suc j) some h in
    let at : suc j ≡ 1 + j = omega arith in
    ap (slice_index (spheres_behind (0 ∷ []) parents)) at ∙ behind_next (0 ∷ []) parents j (omega arith) (omega arith)

-- a number is in a list
abbrev pub Has : ℕ → List ℕ → Type 0
Has n [] = ⊥
Has n (m ∷ ms) = (m ≡ n) ⊎ Has n ms

has_more : (xs : List ℕ) (ys : List ℕ) → AllByRecursion (λ n. Has n xs) ys → (x : ℕ)
    → AllByRecursion (λ n. Has n (x ∷ xs)) ys
has_more xs ys all x = all_by (λ n. Has n xs) (λ n. Has n (x ∷ xs)) (λ n h. inr h) ys all

has_all : (xs : List ℕ) → AllByRecursion (λ n. Has n xs) xs
has_all [] = tt
has_all (x ∷ xs) = (inl refl, has_more xs xs (has_all xs) x)

has_left : (n : ℕ) (xs ys : List ℕ) → Has n xs → Has n (xs ++ ys)
has_left n [] ys h = absurd h
has_left n (x ∷ xs) ys (inl e) = inl e
has_left n (x ∷ xs) ys (inr h) = inr (has_left n xs ys h)

has_right : (n : ℕ) (xs ys : List ℕ) → Has n ys → Has n (xs ++ ys)
has_right n [] ys h = h
has_right n (x ∷ xs) ys h = inr (has_right n xs ys h)

has_flat : (f : ℕ → List ℕ) (n m : ℕ) (xs : List ℕ) → Has m xs → Has n (f m) → Has n (flat_map f xs)
has_flat f n m [] h g = absurd h
has_flat f n m (x ∷ xs) (inl e) g = has_left n (f x) (flat_map f xs) (subst (λ k. Has n (f k)) (sym e) g)
has_flat f n m (x ∷ xs) (inr h) g = has_right n (f x) (flat_map f xs) (has_flat f n m xs h g)

-- a tree whose parents ascend
module _ (parents : List ℕ) (tree : IsTree parents)
    (ordered : (m n : ℕ) → m ≤ n → n < length parents → slice_index parents m ≤ slice_index parents n) where
  abbrev at : ℕ → ℕ
  at n = slice_index (spheres_of parents) n

  rises_by : (most m n : ℕ) → n < most → m ≤ n → n < length parents
      → slice_index (spheres_of parents) m ≤ slice_index (spheres_of parents) n
  rises_by zero m n short le h = absurd (omega arith)
  rises_by (suc most) m n short le h = elim (cases_order 0 m) [
    | inl first ↦ omega (arith, sphere_root parents, ap (slice_index (spheres_of parents)) first)
    | inr (inl some) ↦
        let behind : slice_index parents n < n = tree.behind n (omega arith) h in
        let before : slice_index (spheres_of parents) (slice_index parents m)
        ≤ slice_index (spheres_of parents) (slice_index parents n) =
        rises_by most (slice_index parents m) (slice_index parents n) (omega arith) (ordered m n le h) (omega arith) in
        omega (arith, before, sphere_next parents tree m some (omega arith), sphere_next parents tree n (omega arith) h)
    | inr (inr less) ↦ absurd (omega arith)
  ]

  pub rises : (m n : ℕ) → m ≤ n → n < length parents
      → slice_index (spheres_of parents) m ≤ slice_index (spheres_of parents) n
  rises m n le h = rises_by (n + 1) m n (omega arith) le h

  pub outermost : (n : ℕ) → n < length parents → slice_index (spheres_of parents) n ≤ height_of parents
  outermost n h = rises_by (length parents) n (length parents - 1) (omega arith) (omega arith) (omega arith)

  -- all nodes of a sphere, and no others
  record IsSphere (d : ℕ) (ns : List ℕ) : Type 0 where
    each : AllByRecursion (λ n. (n < length parents) × (slice_index (spheres_of parents) n ≡ d)) ns
    all : (n : ℕ) → n < length parents → slice_index (spheres_of parents) n ≡ d → Has n ns

  flat_each : (d : ℕ) (ns : List ℕ)
      → AllByRecursion (λ n. (n < length parents) × (slice_index (spheres_of parents) n ≡ d)) ns
      → AllByRecursion (λ n. (n < length parents) × (slice_index (spheres_of parents) n ≡ d + 1))
      (flat_map (children_of parents) ns)
  flat_each d [] all = tt
  flat_each d (n ∷ ns) all =
      all_append (λ n. (n < length parents) × (slice_index (spheres_of parents) n ≡ d + 1)) (children_of parents n)
      (flat_map (children_of parents) ns)
      (all_by (IsChild parents n) (λ n. (n < length parents) × (slice_index (spheres_of parents) n ≡ d + 1))
      (λ c is. (
        is.below,
        omega (
          arith,
          sphere_next parents tree c is.behind is.below,
          ap (slice_index (spheres_of parents)) is.parent,
          all.0.1,
        ),
      ))
      (children_of parents n) (children_are parents n))
      (flat_each d ns all.1)

  next_sphere : (d : ℕ) (ns : List ℕ) → IsSphere d ns → IsSphere (d + 1) (flat_map (children_of parents) ns)
  next_sphere d ns is = record {
    each = flat_each d ns is.each;
    all = λ n h e. elim (cases_order 0 n) [
      | inl first ↦ absurd (omega (arith, sphere_root parents, ap (slice_index (spheres_of parents)) first, e))
      | inr (inl some) ↦
          let m = slice_index parents n in
          let behind : m < n = tree.behind n some h in
          has_flat (children_of parents) n m ns
          (is.all m (omega arith) (omega (arith, sphere_next parents tree n some h, e)))
          (child_has (λ c. Has c (children_of parents m)) parents m n some h refl (has_all (children_of parents m)))
      | inr (inr less) ↦ absurd (omega arith)
    ];
  }

  -- each sphere up to that of a node has a node
  some_at : (more n : ℕ) → n < length parents → (d : ℕ) → slice_index (spheres_of parents) n ≡ d + more
      → (m : ℕ) × (m < length parents) × (slice_index (spheres_of parents) m ≡ d)
  some_at zero n h d e = (n, h, omega (arith, e))
  some_at (suc more) n h d e = elim (cases_order 0 n) [
    | inl first ↦ absurd (omega (arith, sphere_root parents, ap (slice_index (spheres_of parents)) first, e))
    | inr (inl some) ↦
        let behind : slice_index parents n < n = tree.behind n some h in
        some_at more (slice_index parents n) (omega arith) d (omega (arith, sphere_next parents tree n some h, e))
    | inr (inr less) ↦ absurd (omega arith)
  ]

  abbrev further : ℕ → List ℕ → ℕ
  further more next = elim next as (λ _. ℕ) [ [] ↦ 0 | node ∷ others ↦ more + 1 ]

  none_next : (more d : ℕ) (next : List ℕ) → height_of parents ≡ d → IsSphere (d + 1) next
      → further more next ≡ height_of parents - d
  none_next more d [] e is = omega (arith, e)
  none_next more d (n ∷ ns) e is = absurd (omega (arith, outermost n is.each.0.0, is.each.0.1, e))

  some_next : (more d : ℕ) (next : List ℕ) → d < height_of parents → 0 < length parents → IsSphere (d + 1) next
      → more ≡ height_of parents - (d + 1) → further more next ≡ height_of parents - d
  some_next more d [] less some is e =
      let found = some_at (height_of parents - (d + 1)) (length parents - 1) (omega arith) (d + 1) (omega arith) in
      absurd (is.all (found.0) found.1 found.2)
  some_next more d (n ∷ ns) less some is e = omega (arith, e)

  height_from : (more d : ℕ) (ns : List ℕ) → 0 < length parents → IsSphere d ns → d ≤ height_of parents
      → height_of parents - d < more → height_below (children_of parents) more ns ≡ height_of parents - d
  height_from zero d ns some is le few = absurd (omega arith)
  height_from (suc more) d ns some is le few = elim (cases_order d (height_of parents)) [
    | inl last ↦
        none_next (height_below (children_of parents) more (flat_map (children_of parents) ns)) d
        (flat_map (children_of parents) ns) (sym last) (next_sphere d ns is)
    | inr (inl less) ↦
        some_next (height_below (children_of parents) more (flat_map (children_of parents) ns)) d
        (flat_map (children_of parents) ns) less some (next_sphere d ns is)
        (height_from more (d + 1) (flat_map (children_of parents) ns) some (next_sphere d ns is) (omega arith)
        (omega arith))
    | inr (inr more_) ↦ absurd (omega arith)
  ]

  first_sphere : 0 < length parents → IsSphere 0 (0 ∷ [])
  first_sphere some = record {
    each = ((some, sphere_root parents), tt);
    all = λ n h e. elim (cases_order 0 n) [
      | inl first ↦ inl first
      | inr (inl more) ↦ absurd (omega (arith, sphere_next parents tree n more h, e))
      | inr (inr less) ↦ absurd (omega arith)
    ];
  }

  -- the outermost sphere is that of the last node, where enough spheres are looked at
  pub height_found : (most : ℕ) → 0 < length parents → height_of parents < most
      → height_below (children_of parents) most (0 ∷ []) ≡ height_of parents
  height_found most some few =
      height_from most 0 (0 ∷ []) some (first_sphere some) (omega arith) (omega arith) ∙ omega arith
