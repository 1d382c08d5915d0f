-- Whether some edge at a vertex passes a test, by the edges of the graph.
use Rattle.std.proofs.Common.{◌≡◌, ℕ, Bool, true, false, cond, ◌&&◌, ◌||◌, List, [], ◌∷◌, refl, ap, ◌∙◌}
use Rattle.std.specs.Prelude.{nat_lt, filter}
use Rattle.std.specs.List.{list_any}
use Rattle.cip_digraph.specs.declared.drawing.graph.Edge.{Edge}
use Rattle.cip_digraph.specs.graph.Graph.{insert_up, other_end, sorted_up}

pub or_swap : (a b c : Bool) → (a || (b || c)) ≡ (b || (a || c))
or_swap true true c = refl
or_swap true false c = refl
or_swap false b c = refl

any_inserted : (test : Edge → Bool) (v : ℕ) (e : Edge) (es : List Edge)
    → list_any test (insert_up v e es) ≡ (test e || list_any test es)
any_inserted test v e [] = refl
any_inserted test v e (next ∷ es) = by (any_inserted test v e es) (nat_lt (other_end v next) (other_end v e))
  where
    by : list_any test (insert_up v e es) ≡ (test e || list_any test es) → (b : Bool)
        → list_any test (cond b (next ∷ insert_up v e es) (e ∷ next ∷ es)) ≡ (test e || (test next || list_any test es))
    by rest true = ap (λ b. test next || b) rest ∙ or_swap (test next) (test e) (list_any test es)
    by rest false = refl

pub any_sorted : (test : Edge → Bool) (v : ℕ) (es : List Edge) → list_any test (sorted_up v es) ≡ list_any test es
any_sorted test v [] = refl
any_sorted test v (e ∷ es) = any_inserted test v e (sorted_up v es) ∙ ap (λ b. test e || b) (any_sorted test v es)

pub any_filtered : {X : Type 0} (test kept : X → Bool) (xs : List X)
    → list_any test (filter kept xs) ≡ list_any (λ x. kept x && test x) xs
any_filtered test kept [] = refl
any_filtered test kept (x ∷ xs) = by (kept x) ∙ ap (λ b. (kept x && test x) || b) (any_filtered test kept xs)
  where
    by : (b : Bool) → list_any test (cond b (x ∷ filter kept xs) (filter kept xs))
        ≡ ((b && test x) || list_any test (filter kept xs))
    by true = refl
    by false = refl
