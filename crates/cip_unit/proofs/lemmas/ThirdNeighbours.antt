-- Of neighbours that ascend three are drawn exactly where the third is.
use Rattle.std.proofs.Common.{◌≡◌, ◌<◌, ◌≤◌, ℕ, Bool, true, false, cond, List, [], ◌∷◌, drop, length, map, refl, sym, arith}
use Rattle.std.specs.Prelude.{filter, nat_le, nat_lt}
use Rattle.std.specs.List.{AllByRecursion}
use Rattle.std.proofs.lemmas.Bool.{le-leb, le-ltb, lt-ltb, ltb-false, ltb-true}
use Rattle.cip_digraph.specs.declared.drawing.graph.Edge.{Edge}
use Rattle.cip_digraph.specs.graph.Graph.{other_end}
use Rattle.cip_digraph.specs.graph.Incidence.{leads_lower}
use Rattle.cip_digraph.proofs.lemmas.lists.Elements.{Pairwise}

abbrev kept : ℕ → List ℕ → List ℕ
kept drawn ns = filter (λ n. nat_lt n drawn) ns

none_higher : (drawn low : ℕ) (ns : List ℕ) → drawn ≤ low → AllByRecursion (◌<◌ low) ns → kept drawn ns ≡ []
none_higher drawn low [] far all = refl
none_higher drawn low (n ∷ ns) far all =
    let above = all.0 in
    rw (le-ltb n drawn (omega (arith, far, above))) (none_higher drawn low ns far all.1)

two_by : (a b : Bool) (m n : ℕ) → false ≡ nat_le 3 (length (cond a (m ∷ cond b (n ∷ []) []) (cond b (n ∷ []) [])))
two_by true true m n = refl
two_by false true m n = refl
two_by a b m n = refl

three_by : (drawn l m n : ℕ) (ns : List ℕ) → l < n → m < n → AllByRecursion (◌<◌ n) ns → (b : Bool)
    → nat_lt n drawn ≡ b → b ≡ nat_le 3 (length (kept drawn (l ∷ m ∷ n ∷ ns)))
three_by drawn l m n ns one other all true e =
    let low = ltb-true n drawn e in
    rw (lt-ltb l drawn (omega (arith, low, one)), lt-ltb m drawn (omega (arith, low, other)), e)
    (sym (le-leb 3 (length (l ∷ m ∷ n ∷ kept drawn ns)) (omega arith)))
three_by drawn l m n ns one other all false e =
    rw (e, none_higher drawn n ns (ltb-false n drawn e) all) (two_by (nat_lt l drawn) (nat_lt m drawn) l m)

one_by : (a : Bool) (n : ℕ) → false ≡ nat_le 3 (length (cond a (n ∷ []) []))
one_by true n = refl
one_by false n = refl

pub third_tells : (atom drawn : ℕ) (edges : List Edge) → Pairwise ◌<◌ (map (other_end atom) edges)
    → leads_lower atom drawn (drop 2 edges) ≡ nat_le 3 (length (kept drawn (map (other_end atom) edges)))
third_tells atom drawn [] pairs = refl
third_tells atom drawn (one ∷ []) pairs = one_by (nat_lt (other_end atom one) drawn) (other_end atom one)
third_tells atom drawn (one ∷ two ∷ []) pairs =
    two_by (nat_lt (other_end atom one) drawn) (nat_lt (other_end atom two) drawn) (other_end atom one)
    (other_end atom two)
third_tells atom drawn (one ∷ two ∷ three ∷ edges) pairs =
    three_by drawn (other_end atom one) (other_end atom two) (other_end atom three) (map (other_end atom) edges)
    pairs.0.1.0 pairs.1.0.0 pairs.1.1.0 (nat_lt (other_end atom three) drawn) refl
