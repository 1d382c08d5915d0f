-- What is found of two neighbours among all pairs is what is at their pair, whichever of them comes first there.
use Rattle.std.proofs.Common.{◌≡◌, ℕ, zero, suc, ◌==◌, ◌&&◌, ◌||◌, Bool, true, false, cond, List, [], ◌∷◌, map, slice_get, None, Some, refl, sym, ap, ◌∙◌, subst, arith}
use Rattle.std.specs.Prelude.{flat_map}
use Rattle.std.specs.List.{list_any}
use Rattle.std.specs.declared.option.Option.{Option}
use Rattle.std.proofs.lemmas.Bool.{or_left, or_right, and_parts, eqb-true, eq-eqb}
use Rattle.std.proofs.lemmas.Bool.Decides.{nat_tests}
use Rattle.std.proofs.lemmas.List.Folds.{list_any-append}
use Rattle.cip_mol.specs.declared.site.Ligand.{Ligand}
use Rattle.cip_mol.specs.declared.site.Ligand.TheVariants.{Vertex}
use Rattle.cip_digraph.specs.declared.decisions.decision.Decision.{Decision}
use Rattle.cip_label.specs.BranchComparison.{reversed}
use Rattle.cip_digraph.specs.declared.decisions.branch_pair.BranchPair.{BranchPair}
use Rattle.cip_constitution.specs.declared.pairs.VertexPair.{VertexPair}
use Rattle.cip_constitution.specs.Pairs.{pair, pair_with, pairs_at, pairs_of}
use Rattle.cip_ranker.specs.Standing.{found_of}

abbrev pub is_of : ℕ → ℕ → VertexPair → Bool
is_of a b one = (one.a == a) && (one.b == b)

same_pair : (a b : ℕ) (one : VertexPair) → is_of a b one ≡ true → one ≡ pair a b
same_pair a b one e =
    let parts = and_parts (one.a == a) (one.b == b) e in
    λ k. pair (eqb-true one.a a parts.0 k) (eqb-true one.b b parts.1 k)

between_itself : (a b : ℕ) → is_of a b (pair a b) ≡ true
between_itself a b = ap (λ t. t && (b == b)) (eq-eqb a a refl) ∙ eq-eqb b b refl

differ_back : (a b : ℕ) → (a == b) ≡ false → (b == a) ≡ false
differ_back a b e = grind (arith, nat_tests)

-- what is decided of a pair, by its vertices
abbrev pub answered : (VertexPair → Option Decision) → VertexPair → BranchPair
answered decide one = record { first = one.a; second = one.b; decision = decide one }

module _ (a b : ℕ) where
  -- it is the pair of both, in either order
  abbrev pub is_theirs : VertexPair → Bool
  is_theirs one = is_of a b one || is_of b a one

  abbrev has : List VertexPair → Bool
  has pairs = list_any is_theirs pairs

  -- an answer for each pair by the pair alone
  pub found_mapped : (decide : VertexPair → Option Decision) (found : Option Decision) → decide (pair a b) ≡ found
      → reversed (decide (pair b a)) ≡ found → (pairs : List VertexPair) → list_any is_theirs pairs ≡ true
      → found_of a b (map (answered decide) pairs) ≡ found
  found_mapped decide found there back [] e = let bad : false ≡ true = e in cc
  found_mapped decide found there back (one ∷ pairs) e =
      by (λ later. found_mapped decide found there back pairs later) (is_of a b one) (is_of b a one) refl refl
    where
      by : (list_any is_theirs pairs ≡ true → found_of a b (map (answered decide) pairs) ≡ found)
          → (here behind : Bool) → is_of a b one ≡ here → is_of b a one ≡ behind
          → cond here (decide one)
          (cond behind (reversed (decide one)) (found_of a b (map (answered decide) pairs))) ≡ found
      by later true behind is other = ap decide (same_pair a b one is) ∙ there
      by later false true is other = ap (λ p. reversed (decide p)) (same_pair b a one other) ∙ back
      by later false false is other = later (sym (λ k. (is k || other k) || list_any is_theirs pairs) ∙ e)

  any_at : {X : Type 0} (pairs : X → List VertexPair) (xs : List X) (i : ℕ) (x : X) → slice_get xs i ≡ Some x
      → has (pairs x) ≡ true → has (flat_map pairs xs) ≡ true
  any_at pairs [] i x at e = let bad : None ≡ Some x = at in cc
  any_at pairs (y ∷ ys) zero x at e =
      let same : Some y ≡ Some x = at in
      let is : y ≡ x = cc in
      list_any-append is_theirs (pairs y) (flat_map pairs ys)
      ∙ or_left (has (pairs y)) (has (flat_map pairs ys)) (subst (λ z. has (pairs z) ≡ true) (sym is) e)
  any_at pairs (y ∷ ys) (suc i) x at e =
      list_any-append is_theirs (pairs y) (flat_map pairs ys)
      ∙ or_right (has (pairs y)) (has (flat_map pairs ys)) (any_at pairs ys i x at e)

  -- a vertex and a later one
  first_has : (x y : ℕ) (one : Ligand) (others : List Ligand) (j : ℕ) → Some one ≡ Some (Vertex x)
      → slice_get others j ≡ Some (Vertex y) → (x == y) ≡ false → is_theirs (pair x y) ≡ true
      → has (pairs_of (one ∷ others)) ≡ true
  first_has x y one others j first at differ is =
      let same : one ≡ Vertex x = cc in
      let here : has (pairs_at others (Vertex x)) ≡ true =
      any_at (pair_with x) others j (Vertex y) at (ap (λ same. has (cond same [] (pair x y ∷ []))) differ
      ∙ or_left (is_theirs (pair x y)) false is) in
      list_any-append is_theirs (pairs_at others one) (pairs_of others)
      ∙ or_left (has (pairs_at others one)) (has (pairs_of others))
      (subst (λ ligand. has (pairs_at others ligand) ≡ true) (sym same) here)

  pub has_pair : (ligands : List Ligand) (i j : ℕ) → slice_get ligands i ≡ Some (Vertex a)
      → slice_get ligands j ≡ Some (Vertex b) → (a == b) ≡ false → list_any is_theirs (pairs_of ligands) ≡ true
  has_pair [] i j at_i at_j differ = let bad : None ≡ Some (Vertex a) = at_i in cc
  has_pair (one ∷ others) zero zero at_i at_j differ =
      let first : Some one ≡ Some (Vertex a) = at_i in
      let second : Some one ≡ Some (Vertex b) = at_j in
      let same : a ≡ b = cc in
      let bad : false ≡ true = sym differ ∙ eq-eqb a b same in cc
  has_pair (one ∷ others) zero (suc j) at_i at_j differ =
      first_has a b one others j at_i at_j differ
      (or_left (is_of a b (pair a b)) (is_of b a (pair a b)) (between_itself a b))
  has_pair (one ∷ others) (suc i) zero at_i at_j differ =
      first_has b a one others i at_j at_i (differ_back a b differ)
      (or_right (is_of a b (pair b a)) (is_of b a (pair b a)) (between_itself b a))
  has_pair (one ∷ others) (suc i) (suc j) at_i at_j differ =
      list_any-append is_theirs (pairs_at others one) (pairs_of others)
      ∙ or_right (has (pairs_at others one)) (has (pairs_of others)) (has_pair others i j at_i at_j differ)
