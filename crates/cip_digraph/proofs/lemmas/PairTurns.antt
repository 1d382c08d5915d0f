-- The turns by the sides of each two ligands are those of the ligands' ranks.
use Rattle.std.proofs.Common.{◌≡◌, ◌+◌, Bool, true, false, cond, ◌||◌, List, [], ◌∷◌, ◌++◌, map, refl, sym, ap, ◌∙◌, count_by, None, Some}
use mathlib.Core.List.{map-map}
use Rattle.std.specs.List.{list_any}
use Rattle.std.specs.Cmp.{IsTotalOrder}
use Rattle.std.specs.declared.option.Option.{Option}
use Rattle.std.specs.declared.cmp.Ordering.{Ordering}
use Rattle.std.proofs.lemmas.List.Sums.{sum_by-append}
use Rattle.cip_mol.specs.FlatCentres.{inversions}
use Rattle.cip_digraph.specs.declared.decisions.decision.Decision.{Decision}
use Rattle.cip_digraph.specs.units.Descriptors.{is_odd}
use Rattle.cip_digraph.specs.units.Ranked.{has_tie, is_tie, ligand_order, ranked_places, side_of, some_pair}
use Rattle.cip_digraph.specs.declared.decisions.parity.Parity.{Parity}
use Rattle.cip_digraph.specs.Falls.{falls}
use Rattle.cip_digraph.specs.Sides.{each_two, found_side, is_below, is_tied, ordering_of}
use Rattle.cip_digraph.specs.TurnsOf.{root_turns, turns_of}
use Rattle.cip_digraph.proofs.lemmas.RanksTurn.{count_mapped, falls_mapped, ranks_turn}

module _ {X Y : Type 0} (f : X → Y) where
  pub any_mapped : (test : Y → Bool) (xs : List X) → list_any test (map f xs) ≡ list_any (λ x. test (f x)) xs
  any_mapped test [] = refl
  any_mapped test (x ∷ xs) = rw (any_mapped test xs) refl

  pub pairs_mapped : (test : Y → Y → Bool) (xs : List X)
      → some_pair test (map f xs) ≡ some_pair (λ a b. test (f a) (f b)) xs
  pairs_mapped test [] = refl
  pairs_mapped test (x ∷ xs) = rw (any_mapped (test (f x)) xs, pairs_mapped test xs) refl

  pub two_mapped : {Z : Type 0} (between : Y → Y → Z) (xs : List X)
      → each_two between (map f xs) ≡ each_two (λ x y. between (f x) (f y)) xs
  two_mapped between [] = refl
  two_mapped between (x ∷ xs) = λ i. map-map (between (f x)) f xs i ++ two_mapped between xs i

-- tests and counts of the sides of all pairs
any_append : {X : Type 0} (test : X → Bool) (xs ys : List X)
    → list_any test (xs ++ ys) ≡ (list_any test xs || list_any test ys)
any_append test [] ys = refl
any_append test (x ∷ xs) ys = by (test x) (any_append test xs ys)
  where
    by : (b : Bool) → list_any test (xs ++ ys) ≡ (list_any test xs || list_any test ys)
        → (b || list_any test (xs ++ ys)) ≡ ((b || list_any test xs) || list_any test ys)
    by true e = refl
    by false e = e

pairs_tie : {X : Type 0} (side : X → X → Option Ordering) (xs : List X)
    → list_any is_tied (each_two side xs) ≡ some_pair (λ x y. is_tied (side x y)) xs
pairs_tie side [] = refl
pairs_tie side (x ∷ xs) =
    any_append is_tied (map (side x) xs) (each_two side xs)
    ∙ (λ i. any_mapped (side x) is_tied xs i || pairs_tie side xs i)

pairs_fall : {X : Type 0} (side : X → X → Option Ordering) (xs : List X)
    → count_by is_below (each_two side xs) ≡ falls (λ x y. ordering_of (side x y)) xs
pairs_fall side [] = refl
pairs_fall side (x ∷ xs) =
    sum_by-append (λ found. cond (is_below found) 1 0) (map (side x) xs) (each_two side xs)
    ∙ (λ i. count_mapped (side x) is_below xs i + pairs_fall side xs i)

ordering_is : (d : Option Decision) → ordering_of (found_side d) ≡ side_of d
ordering_is None = refl
ordering_is (Some decision) = refl

tied_is : (d : Option Decision) → is_tied (found_side d) ≡ is_tie d
tied_is None = refl
tied_is (Some decision) = refl

-- ligands with a node each, by which they compare
module _ {X N : Type 0} (node : X → List N) (ligands : List X) where
  module _ (side : X → X → Option Ordering) (order : N → N → Option Decision)
      (alike : (x y : X) → side x y ≡ found_side (ligand_order order (node x) (node y))) where
    pub ties_are : list_any is_tied (each_two side ligands)
        ≡ some_pair (λ a b. is_tie (ligand_order order a b)) (map node ligands)
    ties_are =
        pairs_tie side ligands
        ∙ ap (λ test. some_pair test ligands)
        (λ i x y. (ap is_tied (alike x y) ∙ tied_is (ligand_order order (node x) (node y))) i)
        ∙ sym (pairs_mapped node (λ a b. is_tie (ligand_order order a b)) ligands)

    falls_are : IsTotalOrder (λ a b. side_of (order a b))
        → count_by is_below (each_two side ligands) ≡ inversions (ranked_places order (map node ligands))
    falls_are total =
        pairs_fall side ligands
        ∙ ap (λ compare. falls compare ligands)
        (λ i x y. (ap ordering_of (alike x y) ∙ ordering_is (ligand_order order (node x) (node y))) i)
        ∙ sym (falls_mapped node (λ a b. side_of (ligand_order order a b)) ligands)
        ∙ sym (ranks_turn order total (map node ligands))

  module _ (side : Bool → X → X → Option Ordering) (order : Bool → N → N → Option Decision)
      (total : (r_first : Bool) → IsTotalOrder (λ a b. side_of (order r_first a b)))
      (alike : (r_first : Bool) (x y : X)
      → side r_first x y ≡ found_side (ligand_order (order r_first) (node x) (node y))) where
    pub turns_are : turns_of (each_two (side true) ligands) (each_two (side false) ligands)
        ≡ root_turns (record { order = order true; turned = order false; ligands = map node ligands })
    turns_are =
        ap (λ b. elim b as (λ _. Option Parity) [
          | true ↦ None
          | false ↦ Some
              (record {
                natural = is_odd (count_by is_below (each_two (side true) ligands));
                turned = is_odd (count_by is_below (each_two (side false) ligands));
              })
        ])
        (ties_are (side true) (order true) (alike true))
        ∙ ap (λ t. elim (has_tie (record { order = order true; turned = order false; ligands = map node ligands })) as
        (λ _. Option Parity) [ true ↦ None | false ↦ Some t ])
        (λ i. record {
          natural = is_odd (falls_are (side true) (order true) (alike true) (total true) i);
          turned = is_odd (falls_are (side false) (order false) (alike false) (total false) i);
        })
