-- Chains, one atom at a time, and lists of further units, one atom or bond at a time.
use Rattle.std.proofs.Common.{◌≡◌, ◌<◌, ◌+◌, ◌-◌, ℕ, zero, suc, true, false, cond, ◌==◌, List, [], ◌∷◌, ◌++◌, length}
use Rattle.std.proofs.Common.{map, refl, sym, ap, ◌∙◌, append_assoc, arith}
use Rattle.std.specs.Prelude.{filter, flat_map}
use Rattle.std.specs.List.{range_with_len}
use Rattle.std.proofs.lemmas.List.{append-nil}
use Rattle.std.proofs.lemmas.List.Folds.{flat_map-map}
use Rattle.cip_mol.specs.Drawing.{Drawing}
use Rattle.cip_digraph.specs.graph.Graph.{Graph, edges_at}
use Rattle.cip_digraph.specs.units.Allenes.{doubles}
use Rattle.cip_unit.proofs.lemmas.Kept.{kept_each, flat_more}
use Rattle.cip_axis.specs.Cumulenes.{chain_from, chain_over, is_cumulene, continues_chain, next_atom}
use Rattle.cip_axis.specs.Further.{biaryls_of, cumulene_unit, cumulenes_of, further_of}
use Rattle.cip_axis.specs.Listing.{cumulenes_along, one_cumulene}
use Rattle.cip_axis.specs.declared.site.FurtherUnit.{FurtherUnit}

pub chain_stops : (graph : Graph) (more before at : ℕ) (so_far whole : List ℕ) → 0 < more
    → continues_chain graph before at ≡ false → so_far ++ chain_from graph more before at ≡ whole
    → so_far ++ at ∷ [] ≡ whole
chain_stops graph zero before at so_far whole some stop is = absurd (omega (arith, some))
chain_stops graph (suc more) before at so_far whole some stop is =
    sym
    (ap (λ b. so_far ++ at ∷ cond b (chain_from graph more at (next_atom graph before at)) []) stop)
    ∙ is

pub chain_goes : (graph : Graph) (more less before at on : ℕ) (so_far longer whole : List ℕ) → more ≡ less + 1
    → true ≡ continues_chain graph before at → on ≡ next_atom graph before at
    → longer ≡ so_far ++ at ∷ []
    → so_far ++ chain_from graph more before at ≡ whole
    → longer ++ chain_from graph less at on ≡ whole
chain_goes graph zero less before at on so_far longer whole count goes next e is = absurd (omega (arith, count))
chain_goes graph (suc more) less before at on so_far longer whole count goes next e is =
    let same : less ≡ more = omega (arith, count) in
    ap (λ c. c ++ chain_from graph less at on) e
    ∙ ap (λ n. (so_far ++ at ∷ []) ++ chain_from graph n at on) same
    ∙ ap (λ v. (so_far ++ at ∷ []) ++ chain_from graph more at v) next
    ∙ append_assoc so_far (at ∷ []) (chain_from graph more at (next_atom graph before at))
    ∙ ap (λ b. so_far ++ at ∷ cond b (chain_from graph more at (next_atom graph before at)) []) goes
    ∙ is

pub chain_ends : (graph : Graph) (more before at : ℕ) (so_far whole : List ℕ) → more ≡ 0
    → so_far ++ chain_from graph more before at ≡ whole → so_far ≡ whole
chain_ends graph zero before at so_far whole none is = sym (append-nil so_far) ∙ is
chain_ends graph (suc more) before at so_far whole none is = absurd (omega (arith, none))

-- the cumulenes of an atom with three bonds, along its edges
pub along_is : (drawing : Drawing) (graph : Graph) (a : ℕ) → (length (edges_at graph a) == 3) ≡ true
    → cumulenes_along drawing graph a (edges_at graph a) ≡ cumulenes_of drawing graph a
along_is drawing graph a three =
    sym
    (ap
    (λ b. map (cumulene_unit drawing graph)
    (filter (is_cumulene graph) (cond b (map (chain_over graph a) (doubles graph a)) []))) three
    ∙ kept_each (cumulene_unit drawing graph) (is_cumulene graph) (map (chain_over graph a) (doubles graph a))
    ∙ flat_map-map (one_cumulene drawing graph) (chain_over graph a) (doubles graph a))

-- other atoms have none
pub none_of : (drawing : Drawing) (graph : Graph) (a : ℕ) → (length (edges_at graph a) == 3) ≡ false
    → cumulenes_of drawing graph a ≡ []
none_of drawing graph a other =
    ap
    (λ b. map (cumulene_unit drawing graph)
    (filter (is_cumulene graph) (cond b (map (chain_over graph a) (doubles graph a)) []))) other

-- a double bond that leads no further makes no unit
pub short_none : (drawing : Drawing) (graph : Graph) (a next : ℕ) → continues_chain graph a next ≡ false
    → one_cumulene drawing graph (chain_over graph a next) ≡ []
short_none drawing graph a next stop = by (length graph.vertices)
  where
    by : (most : ℕ) → one_cumulene drawing graph (a ∷ chain_from graph most a next) ≡ []
    by zero = refl
    by (suc more) =
        ap (λ b. one_cumulene drawing graph
        (a ∷ next ∷ cond b (chain_from graph more next (next_atom graph a next)) [])) stop

pub units_more : (of_atom : ℕ → List FurtherUnit) (atom : ℕ) (old now more : List FurtherUnit)
    → now ≡ old ++ flat_map of_atom (range_with_len 0 atom)
    → more ≡ now ++ of_atom atom
    → more ≡ old ++ flat_map of_atom (range_with_len 0 (atom + 1))
units_more of_atom atom old now more before is =
    is ∙ ap (λ us. us ++ of_atom atom) before
    ∙ append_assoc old (flat_map of_atom (range_with_len 0 atom)) (of_atom atom)
    ∙ ap (λ us. old ++ us) (sym (flat_more of_atom atom))

pub units_are : (drawing : Drawing) (graph : Graph) (positions : List (List ℕ)) (count : ℕ)
    (none first second : List FurtherUnit) → count ≡ graph.drawn → none ≡ []
    → first ≡ none ++ flat_map (cumulenes_of drawing graph) (range_with_len 0 count)
    → second ≡ first ++ flat_map (biaryls_of drawing graph positions) (range_with_len 0 count)
    → second ≡ further_of drawing graph positions
unfolding further_of
units_are drawing graph positions count none first second same e f g =
    g
    ∙ ap (λ us. us ++ flat_map (biaryls_of drawing graph positions) (range_with_len 0 count))
    (f ∙ ap (λ us. us ++ flat_map (cumulenes_of drawing graph) (range_with_len 0 count)) e)
    ∙ ap
    (λ n. flat_map (cumulenes_of drawing graph) (range_with_len 0 n)
    ++ flat_map (biaryls_of drawing graph positions) (range_with_len 0 n)) same
