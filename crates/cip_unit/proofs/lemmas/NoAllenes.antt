-- A graph in which no atom can be the middle one of an allene has no axis units.
use Rattle.std.proofs.Common.{◌≡◌, ◌<◌, ◌≤◌, ◌+◌, ℕ, zero, suc, Bool, true, false, cond, ◌==◌, List, [], ◌∷◌, map, refl, sym, ap, ◌∙◌, arith, inl, inr}
use Rattle.std.specs.Prelude.{filter, flat_map, nat_lt}
use Rattle.std.specs.List.{AllByRecursion, list_any, range_with_len}
use Rattle.std.proofs.lemmas.Bool.{and_left, and_right, cases_lt, eqb-true, or_from, or_parts, true_from_ne_false, true≢false}
use Rattle.std.proofs.lemmas.List.{append-nil}
use Rattle.std.proofs.lemmas.List.Folds.{list_any-append}
use Rattle.cip_mol.specs.Drawing.{Drawing}
use Rattle.cip_mol.specs.declared.site.Unit as units
use Rattle.cip_digraph.specs.declared.drawing.graph.Edge.{Edge}
use Rattle.cip_digraph.specs.graph.Graph.{Graph, edges_at, other_end}
use Rattle.cip_digraph.specs.units.Allenes.{axis_site, axis_sites, doubles, is_allene_middle, is_axis_end, is_axis_unit}
use Rattle.cip_unit.specs.Sites.{axes_through, has_allene, LeadsToAtom, LeadsToAtoms, with_axes}
use Rattle.cip_unit.proofs.lemmas.Kept.{range_more}
use Rattle.cip_unit.proofs.lemmas.Leads.{all_lead, other_by}
use Rattle.cip_unit.proofs.lemmas.NoDoubles.{flat_none}

-- the loop over atoms
pub none_more : (graph : Graph) (atom : ℕ) → has_allene graph atom ≡ false → is_allene_middle graph atom ≡ false
    → has_allene graph (atom + 1) ≡ false
none_more graph atom before here =
    ap (list_any (is_allene_middle graph)) (range_more atom)
    ∙ list_any-append (is_allene_middle graph) (range_with_len 0 atom) (atom ∷ [])
    ∙ or_from (has_allene graph atom) _ before (or_from (is_allene_middle graph atom) false here refl)

none_in : (test : ℕ → Bool) (from count n : ℕ) → list_any test (range_with_len from count) ≡ false → from ≤ n
    → n < from + count → test n ≡ false
none_in test from zero n e low high = absurd (omega (arith, low, high))
none_in test from (suc count) n e low high =
    let p = or_parts (test from) (list_any test (range_with_len (from + 1) count)) e in
    elim (cases_lt from n) [
      | inl lower ↦ none_in test (from + 1) count n p.1 (omega (arith, lower)) (omega (arith, high))
      | inr not ↦ let same : n ≡ from = omega (arith, low, not) in rw same p.0
    ]

pub some_in : (graph : Graph) (atoms atom : ℕ) → atom < atoms → is_allene_middle graph atom ≡ true
    → has_allene graph atoms ≡ true
some_in graph atoms atom within is =
    true_from_ne_false (has_allene graph atoms)
    (λ none. true≢false
    (sym is ∙ none_in (is_allene_middle graph) 0 atoms atom none (omega arith) (omega (arith, within))))

none_pass : (test : ℕ → Bool) → ((n : ℕ) → test n ≡ false) → (ns : List ℕ) → filter test ns ≡ []
none_pass test none [] = refl
none_pass test none (n ∷ ns) = rw (none n) (none_pass test none ns)

none_through : (graph : Graph) (a middle : ℕ) → is_allene_middle graph middle ≡ false → axes_through graph a middle ≡ []
none_through graph a middle e =
    ap (map (axis_site graph a middle))
    (none_pass (is_axis_unit graph a middle)
    (λ b. let unit = a ∷ middle ∷ b ∷ [] in
    and_left _ (is_axis_end graph unit b)
    (and_left _ (is_axis_end graph unit a) (and_right (nat_lt a b) (is_allene_middle graph middle) e)))
    (doubles graph middle))

module _ (graph : Graph) (none : has_allene graph graph.drawn ≡ false) where
  none_along : (a : ℕ) (edges : List Edge) → AllByRecursion (LeadsToAtom graph.drawn) edges
      → flat_map (axes_through graph a) (map (other_end a) (filter (λ edge. edge.order == 2) edges)) ≡ []
  none_along a [] all = refl
  none_along a (edge ∷ edges) all = by (edge.order == 2) refl (none_along a edges all.1)
    where
      by : (b : Bool) → (edge.order == 2) ≡ b
          → flat_map (axes_through graph a) (map (other_end a) (filter (λ edge. edge.order == 2) edges)) ≡ []
          → flat_map (axes_through graph a)
          (map (other_end a)
          (cond b (edge ∷ filter (λ edge. edge.order == 2) edges) (filter (λ edge. edge.order == 2) edges)))
          ≡ []
      by true e rest =
          let within = other_by graph.drawn a edge all.0 (eqb-true edge.order 2 e) (edge.a == a) in
          let here = none_through graph a (other_end a edge)
          (none_in (is_allene_middle graph) 0 graph.drawn (other_end a edge) none (omega arith) (omega (arith, within))) in
          rw here rest
      by false e rest = rest

pub no_axes_more : (graph : Graph) → LeadsToAtoms graph → (atoms : ℕ) → atoms ≡ graph.drawn
    → has_allene graph atoms ≡ false → (drawing : Drawing) (all : List units.Unit)
    → all ≡ with_axes drawing graph atoms all
no_axes_more graph leads atoms same none drawing all =
    let drawn : has_allene graph graph.drawn ≡ false = ap (has_allene graph) (sym same) ∙ none in
    rw (
      flat_none (axis_sites graph) (λ a. none_along graph drawn a (edges_at graph a) (all_lead graph leads a))
          (range_with_len 0 atoms),
      append-nil all,
    ) refl
