-- A rule taken to a sphere in which places that tie have the same keys: all spheres are unchanged.
use Rattle.std.proofs.Common.{◌≡◌, ◌<◌, ◌∙◌, ℕ, suc, List, ℤ, slice_index, refl, sym, ap, arith, inl, inr}
use Rattle.std.specs.declared.cmp.Ordering.{Ordering}
use Rattle.std.specs.declared.cmp.Ordering.TheVariants.{Less, Equal, Greater}
use Rattle.std.specs.Cmp.Lexicographic.{slice_cmp}
use Rattle.std.specs.Ordering.{int_cmp, nat_cmp, on, ordering_then}
use Rattle.std.proofs.lemmas.Cmp.{nat_list_cmp_total, tied_itself}
use Rattle.cip_rank.specs.Ranking.{by_number}
use Rattle.cip_rank.proofs.lemmas.NumberedNodes.{equal_is}
use Rattle.cip_rank.proofs.lemmas.Refining.{first_decides}
use Rattle.cip_partition.specs.Keys.{key_of}
use Rattle.cip_partition.specs.Kids.{kids_of, kid_set}
use Rattle.cip_partition.specs.Parting.{TieAlike}
use Rattle.cip_partition.proofs.lemmas.Cases.{cases_same}
use Rattle.cip_branches.specs.Following.{AreRanked}
use Rattle.cip_branches.specs.SphereColumns.{SphereColumns}
use Rattle.cip_branches.specs.Taking.{Deepens, KeepsPlaces}
use Rattle.cip_branches.specs.Turning.{in_sphere}

-- what ties by keys follows from what goes before
pub then_told : (r : Ordering) → r ≡ ordering_then r Equal
then_told Less = refl
then_told Equal = refl
then_told Greater = refl

-- places are where they were
pub stay : (all : SphereColumns) → KeepsPlaces all all
stay all = record {
  places = record { here = λ t place p. p; there = λ t place p. p; len = refl };
  place_tree = refl;
  starts = refl;
  room = refl;
}

module _ (all : SphereColumns) (last : ℕ) (ranked : AreRanked all last) where
  abbrev numbers : List ℕ
  numbers = all.ranked.numbers

  abbrev At : ℕ → ℕ → Type 0
  At = in_sphere all.ranked.rows all.starts

  abbrev sets : ℕ → List ℕ
  sets = kid_set (kids_of all.place_tree) numbers

  -- what compares alike where numbers tie follows from them
  told_by : (compare : ℕ → ℕ → Ordering) (a b : ℕ)
      → (slice_index numbers a ≡ slice_index numbers b → compare a b ≡ Equal)
      → by_number numbers a b ≡ ordering_then (by_number numbers a b) (compare a b)
  told_by compare a b alike = elim (cases_same (slice_index numbers a) (slice_index numbers b)) [
    | inl tie ↦
        then_told (by_number numbers a b) ∙ ap (ordering_then (by_number numbers a b)) (sym (alike tie))
    | inr apart ↦
        sym (first_decides (by_number numbers a b) (compare a b)
        (λ e. apart (equal_is (slice_index numbers a) (slice_index numbers b) e)))
  ]

  -- places that tie have the same sets of children's numbers
  by_sets : (t a b : ℕ) → t < last → At t a → At t b
      → by_number numbers a b ≡ ordering_then (by_number numbers a b) (slice_cmp nat_cmp (sets a) (sets b))
  by_sets t a b lt p q = told_by (on sets (slice_cmp nat_cmp)) a b
      (λ tie. ap (λ ns. slice_cmp nat_cmp ns (sets b)) (ranked.steady t a b lt p q tie)
      ∙ tied_itself nat_list_cmp_total (sets b))

  pub deeper_even : (far : ℕ) → far < last → (keys : List ℤ)
      → TieAlike (on (key_of keys all.place_tree) int_cmp) all.ranked.rows numbers (slice_index all.starts (suc far))
      (slice_index all.starts (suc (suc far)))
      → Deepens all far keys all
  deeper_even far lt keys alike = record {
    kept = stay all;
    passed = record {
      start = numbers;
      split = record {
        each = λ a b p q. told_by (on (key_of keys all.place_tree) int_cmp) a b (alike.each a b p q);
      };
      others = λ t place differ p. refl;
      refines = record {
        ordered = λ t low high. record { each = λ a b p q. by_sets t a b (omega (arith, lt, high)) p q };
        inside = λ t place less p. refl;
        outside = λ t place more p. refl;
      };
    };
  }
