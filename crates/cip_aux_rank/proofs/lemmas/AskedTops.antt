-- The neighbours of a node that are asked about, one after the other.
use Rattle.std.proofs.Common.{◌≡◌, ◌<◌, ◌≤◌, ◌++◌, ◌∷◌, ℕ, Bool, true, false, cond, List, [], filter, length, slice_index, refl, sym, ap, ◌∙◌, arith, ne_eqb}
use Rattle.std.proofs.lemmas.List.Elements.{filter-append}
use Rattle.std.specs.List.{list_any}
use Rattle.std.specs.declared.option.Option.{Option}
use Rattle.cip_rank.specs.View.{parent_list}
use Rattle.cip_aux_rank.specs.LigandBranches.{AreTops, asked_tops, is_ligand}

pub some_few : (test : ℕ → Bool) (ns : List ℕ) → length (filter test ns) ≤ length ns
some_few test [] = omega arith
some_few test (n ∷ ns) = by (test n) (some_few test ns)
  where
    by : (b : Bool) → length (filter test ns) ≤ length ns
        → length (cond b (n ∷ filter test ns) (filter test ns)) ≤ length (n ∷ ns)
    by true le = omega (arith, le)
    by false le = omega (arith, le)

-- after the children the parent
pub with_parent : (test : ℕ → Bool) (parents kids : List ℕ) (node parent : ℕ) → 0 < node
    → parent ≡ slice_index parents node
    → filter test kids ++ filter test (parent ∷ []) ≡ filter test (kids ++ parent_list parents node)
with_parent test parents kids node parent some is =
    let one : parent_list parents node ≡ parent ∷ [] =
    ap (λ b. cond b [] (slice_index parents node ∷ [])) (ne_eqb node 0 (λ e. absurd (omega (arith, e, some))))
    ∙ ap (λ n. n ∷ []) (sym is) in
    ap (λ (ns : List ℕ). filter test kids ++ filter test ns) (sym one)
    ∙ sym (filter-append test kids (parent_list parents node))

-- those that are asked about are some of the neighbours
pub asked_tops_are : (parents : List ℕ) (ligands : List (Option ℕ)) (node : ℕ)
    → AreTops parents node (asked_tops parents ligands node)
asked_tops_are parents ligands node = record { test = λ top. list_any (is_ligand top) ligands; are = refl }
