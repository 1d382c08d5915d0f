-- A walk up to the root, step by step.
use Rattle.std.proofs.Common.{◌≡◌, ◌<◌, ◌==◌, ℕ, zero, suc, Bool, true, false, cond, List, length, None, Some, refl}
use Rattle.std.proofs.Common.{sym, ap, ◌∙◌, subst, arith, inl, inr}
use Rattle.std.proofs.lemmas.Bool.{cases_Bool, ne_eqb}
use Rattle.cip_digraph.specs.declared.nodes.NodeData.{NodeData}
use Rattle.cip_digraph.specs.digraph.NodeList.{told_at}
use Rattle.std.specs.declared.option.Option.{Option}
use Rattle.cip_arena.specs.Walk.{walk_on, walk, is_above, vertex_above, comes_from, IsEarlier}
use Rattle.cip_arena.proofs.lemmas.Ups.{not_zero}

module _ (all : List NodeData) (e : IsEarlier all) (vertex : ℕ) where
  enough_by : (i k m : ℕ) (b : Bool) → (i == 0) ≡ b → (0 < i → walk_on all k (told_at all i).parent vertex ≡ walk_on all
      m (told_at all i).parent vertex)
      → cond b None (walk_on all k (told_at all i).parent vertex) ≡ cond b None (walk_on all m (told_at all i).parent
      vertex)
  enough_by i k m true z h = refl
  enough_by zero k m false z h = let bad : true ≡ false = z in cc
  enough_by (suc i) k m false z h = h (omega arith)

  -- more steps than there are nodes below change nothing
  pub enough : (k m i : ℕ) → i < length all → i < k → i < m → walk_on all k i vertex ≡ walk_on all m i vertex
  enough zero m i lt a b = absurd (omega arith)
  enough (suc k) zero i lt a b = absurd (omega arith)
  enough (suc k) (suc m) i lt a b =
      ap (cond ((told_at all i).vertex == vertex) (Some i)) (enough_by i k m (i == 0) refl (λ some.
      let up = e.earlier i some lt in
      enough k m (told_at all i).parent (omega arith) (omega arith) (omega arith)))

  pub step_up : (i : ℕ) → 0 < i → i < length all → ((told_at all i).vertex == vertex) ≡ false → walk all i vertex ≡ walk
      all (told_at all i).parent vertex
  step_up i some lt none =
      let up = e.earlier i some lt in
      let z : (i == 0) ≡ false = ne_eqb i 0 (λ h. absurd (omega arith)) in
      ap (λ b. cond b (Some i) (cond (i == 0) None (walk_on all i (told_at all i).parent vertex))) none
      ∙ ap (λ b. cond b None (walk_on all i (told_at all i).parent vertex)) z
      ∙ enough i (suc (told_at all i).parent) (told_at all i).parent (omega arith) (omega arith) (omega arith)

  pub found_here : (i : ℕ) → ((told_at all i).vertex == vertex) ≡ true → walk all i vertex ≡ Some i
  found_here i h = ap (λ b. cond b (Some i) (cond (i == 0) None (walk_on all i (told_at all i).parent vertex))) h

  pub none_at_root : ((told_at all 0).vertex == vertex) ≡ false → walk all 0 vertex ≡ None
  none_at_root h = ap (λ b. cond b (Some 0) None) h

  above_by : (i : ℕ) → (b c : Bool) → (i == 0) ≡ b → ((told_at all (told_at all i).parent).vertex == vertex) ≡ c
      → i < length all
      → walk all i vertex ≡ None → cond b false c ≡ false
  above_by i true c z h lt none = refl
  above_by i false false z h lt none = refl
  above_by i false true z h lt none =
      let some = not_zero i z in
      elim (cases_Bool ((told_at all i).vertex == vertex)) [
        | inl here ↦ let bad : Some i ≡ None = sym (found_here i here) ∙ none in cc
        | inr other ↦
            let bad : Some (told_at all i).parent ≡ None = sym (found_here (told_at all i).parent h)
            ∙ sym (step_up i some lt other) ∙ none in
            cc
      ]

  -- what isn't found isn't the parent
  pub none_above : (i : ℕ) → i < length all → walk all i vertex ≡ None → is_above all i vertex ≡ false
  none_above i lt none = above_by i (i == 0) ((told_at all (told_at all i).parent).vertex == vertex) refl refl lt none

  parent_by : (i own : ℕ) (b : Bool) → (i == 0) ≡ b → i < length all → (told_at all i).vertex ≡ own
      → comes_from (cond b None (Some (told_at all (told_at all i).parent).vertex)) own vertex ≡ true
      → (cond b false ((told_at all (told_at all i).parent).vertex == vertex) ≡ true)
      × (walk all i vertex ≡ Some (told_at all i).parent)
  parent_by i own true z lt at is = let bad : false ≡ true = is in cc
  parent_by i own false z lt at is = apart (own == vertex) refl is
    where
      apart : (c : Bool) → (own == vertex) ≡ c → cond c false ((told_at all (told_at all i).parent).vertex == vertex) ≡ true
          → (((told_at all (told_at all i).parent).vertex == vertex) ≡ true)
          × (walk all i vertex ≡ Some (told_at all i).parent)
      apart true same h = let bad : false ≡ true = h in cc
      apart false other h = (
        h,
        step_up i (not_zero i z) lt (ap (λ v. v == vertex) at ∙ other)
            ∙ found_here (told_at all i).parent h,
      )

  -- a vertex that a node comes from is its parent's
  parent_is : (i own : ℕ) (above : Option ℕ) → i < length all → (told_at all i).vertex ≡ own → above ≡ vertex_above all i
      → comes_from above own vertex ≡ true
      → (is_above all i vertex ≡ true) × (walk all i vertex ≡ Some (told_at all i).parent)
  parent_is i own above lt at is come = parent_by i own (i == 0) refl lt at
      (subst (λ a. comes_from a own vertex ≡ true) is come)

  pub parent_above : (i own : ℕ) (above : Option ℕ) → i < length all → (told_at all i).vertex ≡ own
      → above ≡ vertex_above all i → comes_from above own vertex ≡ true → is_above all i vertex ≡ true
  parent_above i own above lt at is come = (parent_is i own above lt at is come).0

  pub parent_found : (i own : ℕ) (above : Option ℕ) → i < length all → (told_at all i).vertex ≡ own
      → above ≡ vertex_above all i → comes_from above own vertex ≡ true → walk all i vertex ≡ Some (told_at all i).parent
  parent_found i own above lt at is come = (parent_is i own above lt at is come).1
