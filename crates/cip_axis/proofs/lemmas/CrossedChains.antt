-- Whether a double bond of a chain is marked as undecided, one bond after another.
use Rattle.std.proofs.Common.{◌≡◌, ◌<◌, ◌≤◌, ◌+◌, ◌||◌, ◌∷◌, ◌∙◌, ℕ, suc, true, false, List, drop, length, slice_index, ap, arith}
use Rattle.std.proofs.Math.Seq.{drop-cons}
use Rattle.std.proofs.lemmas.List.{drop_all}
use Rattle.cip_mol.specs.Marks.{is_crossed}
use Rattle.cip_mol.specs.declared.graph.molecule.Bond.{Bond}
use Rattle.cip_axis.specs.Further.{has_crossed}

module _ (bonds : List Bond) (before : ℕ) (rest : List ℕ) (i : ℕ) where
  -- no bond comes after the last atom
  pub crossed_none : length rest ≤ i → has_crossed bonds (before ∷ drop i rest) ≡ false
  crossed_none past = ap (λ atoms. has_crossed bonds (before ∷ atoms)) (drop_all i rest past)

  module _ (lt : i < length rest) where
    seen : has_crossed bonds (before ∷ drop i rest)
        ≡ (is_crossed before (slice_index rest i) bonds
        || has_crossed bonds (slice_index rest i ∷ drop (i + 1) rest))
    seen =
        let next : suc i ≡ i + 1 = omega arith in
        ap (λ atoms. has_crossed bonds (before ∷ atoms)) (drop-cons rest i 0 lt)
        ∙ ap (λ n. has_crossed bonds (before ∷ slice_index rest i ∷ drop n rest)) next

    pub crossed_here : is_crossed before (slice_index rest i) bonds ≡ true
        → has_crossed bonds (before ∷ drop i rest) ≡ true
    crossed_here is = seen ∙ ap (λ b. b || has_crossed bonds (slice_index rest i ∷ drop (i + 1) rest)) is

    pub crossed_on : is_crossed before (slice_index rest i) bonds ≡ false
        → has_crossed bonds (before ∷ drop i rest) ≡ has_crossed bonds (slice_index rest i ∷ drop (i + 1) rest)
    crossed_on not = seen ∙ ap (λ b. b || has_crossed bonds (slice_index rest i ∷ drop (i + 1) rest)) not
