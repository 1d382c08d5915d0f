-- Vertices whose flags are set have nodes, and others have none.
use Rattle.std.proofs.Common.{◌≡◌, ◌<◌, ◌==◌, ℕ, zero, suc, Bool, true, false, cond, List, [], ◌∷◌, ◌++◌, length, None}
use Rattle.std.proofs.Common.{Some, refl, sym, ap, ◌∙◌, subst, arith, inl, inr}
use Rattle.std.specs.Prelude.{slice_index_or}
use Rattle.std.proofs.lemmas.Bool.{both_ways, cases_Bool, eqb-true, eqb-false, false_from_ne_true}
use Rattle.std.proofs.lemmas.List.{get_or-set_other}
use Rattle.cip_digraph.specs.declared.nodes.NodeData.{NodeData}
use Rattle.cip_digraph.specs.digraph.NodeList.{told_at}
use Rattle.cip_arena.specs.Walk.{walk_on, walk, with_flag, IsEarlier, IsFlagged}
use Rattle.cip_arena.proofs.lemmas.Added.{each_added}

abbrev flag_at : List Bool → ℕ → Bool
flag_at flags vertex = slice_index_or flags vertex true

-- no node has a vertex whose flag isn't set
pub none_flagged : (all : List NodeData) (flags : List Bool) (vertex node : ℕ) → IsEarlier all → IsFlagged flags all
    → node < length all
    → slice_index_or flags vertex true ≡ false → walk all node vertex ≡ None
none_flagged all flags vertex node e m lt none = by (suc node) node lt
  where
    other : (at : ℕ) → at < length all → ((told_at all at).vertex == vertex) ≡ false
    other at low =
        false_from_ne_true ((told_at all at).vertex == vertex) (λ here.
        both_ways (flag_at flags vertex) none
        (subst (λ v. flag_at flags v ≡ true) (eqb-true (told_at all at).vertex vertex here) (m.each at low)))

    up : (b : Bool) (at more : ℕ) → (at == 0) ≡ b → (0 < at → walk_on all more (told_at all at).parent vertex ≡ None)
        → cond b None (walk_on all more (told_at all at).parent vertex) ≡ None
    up true at more is h = refl
    up false zero more is h = let bad : true ≡ false = is in cc
    up false (suc at) more is h = h (omega arith)

    by : (more at : ℕ) → at < length all → walk_on all more at vertex ≡ None
    by zero at low = refl
    by (suc more) at low =
        ap (λ b. cond b (Some at) (cond (at == 0) None (walk_on all more (told_at all at).parent vertex)))
        (other at low)
        ∙ up (at == 0) at more refl (λ some. let before = e.earlier at some low in by more (told_at all at).parent
        (omega (arith, before, low)))

own_flag : (flags : List Bool) (vertex : ℕ) → flag_at (with_flag vertex flags) vertex ≡ true
own_flag [] vertex = refl
own_flag (flag ∷ flags) zero = refl
own_flag (flag ∷ flags) (suc vertex) = own_flag flags vertex

kept_flag : (flags : List Bool) (flagged vertex : ℕ) → flag_at flags vertex ≡ true → flag_at (with_flag flagged flags)
    vertex ≡ true
kept_flag flags flagged vertex on = elim (cases_Bool (flagged == vertex)) [
  | inl here ↦ subst (λ v. flag_at (with_flag flagged flags) v ≡ true) (eqb-true flagged vertex here)
      (own_flag flags flagged)
  | inr other ↦ get_or-set_other flags flagged vertex true true (λ e. eqb-false flagged vertex other (sym e)) ∙ on
]

-- a node added, and its vertex flagged
pub flagged_added : (flags : List Bool) (all : List NodeData) (node : NodeData) → IsFlagged flags all
    → IsFlagged (with_flag node.vertex flags) (all ++ node ∷ [])
flagged_added flags all node m = record {
  each = each_added (λ _ (t : NodeData). flag_at (with_flag node.vertex flags) t.vertex ≡ true) all node
      (λ k lt. kept_flag flags node.vertex (told_at all k).vertex (m.each k lt)) (own_flag flags node.vertex);
}

pub first_flagged : (flags : List Bool) (node : NodeData) → IsFlagged (with_flag node.vertex flags) (node ∷ [])
first_flagged flags node = flagged_added flags [] node (record { each = λ k lt. absurd (omega (arith, lt)) })
