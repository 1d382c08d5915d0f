-- Numbers are steady after each pass: places that tie have the same sets of children's numbers. Beyond `far` they
-- have to be so before: as a rule before left them, or because the last sphere's places have no children.
use Rattle.std.proofs.Common.{◌≡◌, ◌<◌, ◌≤◌, ℕ, suc, List, slice_index, sym, ap, ◌∙◌, arith, inl, inr}
use Rattle.std.specs.declared.cmp.Ordering.TheVariants.{Equal}
use Rattle.std.specs.Ordering.{nat_cmp}
use Rattle.std.specs.Cmp.Lexicographic.{slice_cmp}
use Rattle.std.proofs.lemmas.Bool.{cases_lt}
use Rattle.std.proofs.lemmas.Cmp.{tied_itself, nat_cmp_total}
use Rattle.cip_rank.specs.Comparison.{sorted_down}
use Rattle.cip_rank.specs.Ranking.{by_number}
use Rattle.cip_rank.proofs.lemmas.RestOnTies.{both_tie}
use Rattle.cip_rank.proofs.lemmas.SortedDown.{numbers_equal}
use Rattle.cip_rank.proofs.lemmas.Descending.{all_by}
use Rattle.cip_rank.proofs.lemmas.Parts.{map_alike}
use Rattle.cip_partition.specs.Kids.{kid_set}
use Rattle.cip_branches.specs.Refining.{AreSteady, AreNext, Refines}

pub steady_after : (kids : ℕ → List ℕ) (At : ℕ → ℕ → Type 0) (last far : ℕ) (before start now : List ℕ) → far ≤ last
    → AreNext kids At last
    → ((t a b : ℕ) → far < t → t ≤ last → At t a → At t b → slice_index before a ≡ slice_index before b
    → kid_set kids before a ≡ kid_set kids before b)
    → ((t a b : ℕ) → far < t → t ≤ last → At t a → At t b → slice_index start a ≡ slice_index start b
    → slice_index before a ≡ slice_index before b)
    → ((t place : ℕ) → suc far < t → At t place → slice_index start place ≡ slice_index before place)
    → Refines kids At far 0 start now → AreSteady kids At last now
steady_after kids At last far before start now within next steady refines others pass = record {
  same = λ t a b le p q tie. elim (cases_lt far t) [
    | inl beyond ↦
        let begun : slice_index start a ≡ slice_index start b = sym (pass.outside t a beyond p) ∙ tie
        ∙ pass.outside t b beyond q in
        stays t a beyond le p
        ∙ steady t a b beyond le p q (refines t a b beyond le p q begun)
        ∙ sym (stays t b beyond le q)
    | inr inside ↦
        let equal : by_number now a b ≡ Equal = ap (λ n. nat_cmp n (slice_index now b)) tie
        ∙ tied_itself nat_cmp_total (slice_index now b) in
        numbers_equal (kid_set kids now a) (kid_set kids now b)
        (both_tie (by_number start a b) (slice_cmp nat_cmp (kid_set kids now a) (kid_set kids now b))
        (sym ((pass.ordered t (omega arith) inside).each a b p q) ∙ equal)).1
  ];
}
  where
    stays : (t place : ℕ) → far < t → t ≤ last → At t place → kid_set kids now place ≡ kid_set kids before place
    stays t place lt le p = ap (sorted_down nat_cmp) (map_alike (slice_index now) (slice_index before) (kids place)
        (all_by (λ kid h. pass.outside (suc t) kid (omega (arith, lt)) h ∙ others (suc t) kid (omega (arith, lt)) h)
        (kids place) (next.next t place le p)))
