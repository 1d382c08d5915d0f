-- Hydrogens by the atoms that carry them: those of one more atom, and one hydrogen more.
use Rattle.std.proofs.Common.{◌≡◌, ◌<◌, ◌+◌, ℕ, List, [], ◌∷◌, ◌++◌, append_assoc, drop, get_or, length, length-append, replicate, false, sym, ap, ◌∙◌, arith}
use Rattle.std.proofs.lemmas.List.{at_drop_more, length-replicate, replicate_more}
use Rattle.cip_digraph.specs.declared.drawing.graph.Edge.{Edge}
use Rattle.cip_digraph.specs.graph.DrawnGraph.{hydrogen_edges}
use Rattle.cip_hydro.specs.Carriers.{carriers_from}
use Rattle.cip_hydro.specs.declared.valence_state.ValenceState.{ValenceState}

abbrev carried : ℕ → ℕ → Edge
carried carrier number = record { a = carrier; b = number; order = 1; counted = false }

pub edges_split : (first : ℕ) (xs ys : List ℕ)
    → hydrogen_edges first (xs ++ ys) ≡ hydrogen_edges first xs ++ hydrogen_edges (first + length xs) ys
edges_split first [] ys =
    let none : first ≡ first + 0 = omega arith in
    ap (λ n. hydrogen_edges n ys) none
edges_split first (x ∷ xs) ys =
    let one : first + 1 + length xs ≡ first + length (x ∷ xs) = omega arith in
    ap (λ edges. carried x first ∷ edges)
    (edges_split (first + 1) xs ys ∙ ap (λ n. hydrogen_edges (first + 1) xs ++ hydrogen_edges n ys) one)

pub carried_next : (before edges : List Edge) (first carrier place : ℕ)
    → edges ≡ before ++ hydrogen_edges first (replicate place carrier)
    → edges ++ carried carrier (first + place) ∷ [] ≡ before ++ hydrogen_edges first (replicate (place + 1) carrier)
carried_next before edges first carrier place is =
    let some = replicate place carrier in
    ap (λ es. es ++ carried carrier (first + place) ∷ []) is
    ∙ append_assoc before (hydrogen_edges first some) (carried carrier (first + place) ∷ [])
    ∙ ap (λ n. before ++ (hydrogen_edges first some ++ carried carrier (first + n) ∷ []))
    (sym (length-replicate place carrier))
    ∙ ap (λ es. before ++ es) (sym (edges_split first some (carrier ∷ [])))
    ∙ ap (λ atoms. before ++ hydrogen_edges first atoms) (replicate_more place carrier)

-- the loops over atoms
module _ (all : List ValenceState) (k : ℕ) (d : ValenceState) (lt : k < length all) where
  abbrev here : ValenceState
  here = get_or all k d

  abbrev behind : List ℕ
  behind = carriers_from (k + 1) (drop (k + 1) all)

  carriers_next : carriers_from k (drop k all) ≡ replicate here.hydrogens k ++ behind
  carriers_next = at_drop_more (carriers_from k) all k d lt

  pub left_next : length (carriers_from k (drop k all)) ≡ here.hydrogens + length behind
  left_next =
      ap length carriers_next
      ∙ length-append (replicate here.hydrogens k) behind
      ∙ ap (λ n. n + length behind) (length-replicate here.hydrogens k)

  pub count_next : (count whole : ℕ) → count + length (carriers_from k (drop k all)) ≡ whole
      → count + here.hydrogens + length behind ≡ whole
  count_next count whole is = omega (arith, is, left_next)

  pub edges_on : (next : ℕ) (edges more whole : List Edge)
      → edges ++ hydrogen_edges next (carriers_from k (drop k all)) ≡ whole
      → more ≡ edges ++ hydrogen_edges next (replicate here.hydrogens k)
      → more ++ hydrogen_edges (next + here.hydrogens) behind ≡ whole
  edges_on next edges more whole is e =
      let some = replicate here.hydrogens k in
      ap (λ es. es ++ hydrogen_edges (next + here.hydrogens) behind) e
      ∙ append_assoc edges (hydrogen_edges next some) (hydrogen_edges (next + here.hydrogens) behind)
      ∙ ap (λ n. edges ++ (hydrogen_edges next some ++ hydrogen_edges (next + n) behind))
      (sym (length-replicate here.hydrogens k))
      ∙ ap (λ es. edges ++ es) (sym (edges_split next some behind))
      ∙ ap (λ atoms. edges ++ hydrogen_edges next atoms) (sym carriers_next)
      ∙ is
