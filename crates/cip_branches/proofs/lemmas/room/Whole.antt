-- The nodes at the places that were walked rise, and are few.
use Rattle.std.proofs.Common.{◌<◌, ◌≤◌, ◌+◌, ◌-◌, ℕ, zero, suc, Bool, true, false, cond, List, [], ◌∷◌, length, slice_index, arith}
use Rattle.std.specs.List.{AllByRecursion, flat_map, range_with_len}
use Rattle.std.proofs.lemmas.List.Concat.{length-flat_map}
use Rattle.std.proofs.lemmas.List.Elements.{All-from_recursion}
use Rattle.cip_rank.specs.Tree.{children_of}
use Rattle.cip_rank.proofs.lemmas.Children.{IsChild, children_are}
use Rattle.cip_rank.proofs.lemmas.Descending.{all_by}
use Rattle.cip_partition.specs.PlaceTree.{PlaceTree}
use Rattle.cip_partition.specs.Parting.{has_flag}
use Rattle.cip_branches.specs.Rising.{Rises, IsAscending}
use Rattle.cip_branches.specs.Walking.{kids_left, wanted_kids}
use Rattle.cip_branches.proofs.lemmas.room.Rising.{rises_few, children_rise, told_rise}
use Rattle.cip_branches.proofs.lemmas.room.Kids.{all_if, all_told, all_walked}

-- numbers that rise do so place by place
pub rises_at : (ns : List ℕ) → Rises ns → (i j : ℕ) → i < j → j < length ns → slice_index ns i < slice_index ns j
rises_at [] rises i j lt high = absurd (omega (arith, high))
rises_at (n ∷ ns) rises i zero lt high = absurd (omega (arith, lt))
rises_at (n ∷ ns) rises zero (suc j) lt high = All-from_recursion (λ m. n < m) ns rises.0 j 0 (omega (arith, high))
rises_at (n ∷ ns) rises (suc i) (suc j) lt high = rises_at ns rises.1 i j (omega (arith, lt)) (omega (arith, high))

module _ (parents : List ℕ) (asc : IsAscending parents) (unresolved : List Bool) (place_tree : PlaceTree) (first : ℕ)
    (rise : (p q : ℕ) → first ≤ p → p < q → q < length place_tree.nodes → slice_index place_tree.nodes p < slice_index place_tree.nodes q)
  where
    abbrev node : ℕ → ℕ
    node = slice_index place_tree.nodes

    abbrev walked : ℕ → List ℕ
    walked = wanted_kids (children_of parents) unresolved place_tree first

    rises_if : (b : Bool) (kids : List ℕ) → Rises kids → Rises (cond b kids [])
    rises_if true kids rises = rises
    rises_if false kids rises = tt

    pub walked_rise : (more : ℕ) → first + more ≤ length place_tree.nodes → Rises (walked more)
    walked_rise more le =
        let wants : ℕ → Bool = λ p. has_flag unresolved (slice_index place_tree.branches p) in
        let kids : ℕ → List ℕ = λ p. children_of parents (node p) in
        told_rise parents asc node (λ p. cond (wants p) (kids p) []) first more
        (λ p. rises_if (wants p) (kids p) (children_rise parents (node p)))
        (λ p. all_if (IsChild parents (node p)) (wants p) (kids p) (children_are parents (node p)))
        (λ p q low lt high. rise p q low lt (omega (arith, high, le)))

    -- children that are from a number on are no more than the nodes from there on
    module _ (count : ℕ) (enough : count ≤ length parents) (within : first ≤ length place_tree.nodes)
        (far : (p : ℕ) → first ≤ p → p < length place_tree.nodes → AllByRecursion (λ c. count ≤ c)
        (children_of parents (node p))) where
      pub walked_far : AllByRecursion (λ c. count ≤ c) (walked (length place_tree.nodes - first))
      walked_far = all_walked (λ c. count ≤ c) (children_of parents) unresolved place_tree first (length place_tree.nodes - first)
          (λ p low high. far p low (omega (arith, high, within)))

      pub walked_within : AllByRecursion (λ c. c < length parents) (walked (length place_tree.nodes - first))
      walked_within = all_walked (λ c. c < length parents) (children_of parents) unresolved place_tree first
          (length place_tree.nodes - first)
          (λ p low high. all_by (λ c is. is.below) (children_of parents (node p)) (children_are parents (node p)))

      pub few_walked : count + length (walked (length place_tree.nodes - first)) ≤ length parents
      few_walked = rises_few count (length parents) (walked (length place_tree.nodes - first)) enough
          (walked_rise (length place_tree.nodes - first) (omega (arith, within))) walked_far walked_within

      pub few_left : count + kids_left (children_of parents) place_tree.nodes first (length place_tree.nodes - first) ≤ length parents
      few_left =
          let more = length place_tree.nodes - first in
          let kids : ℕ → List ℕ = λ p. children_of parents (node p) in
          let few = rises_few count (length parents) (flat_map kids (range_with_len first more)) enough
          (told_rise parents asc node kids first more (λ p. children_rise parents (node p))
          (λ p. children_are parents (node p))
          (λ p q low lt high. rise p q low lt (omega (arith, high, within))))
          (all_told (λ c. count ≤ c) kids first more (λ p low high. far p low (omega (arith, high, within))))
          (all_told (λ c. c < length parents) kids first more
          (λ p low high. all_by (λ c is. is.below) (kids p) (children_are parents (node p)))) in
          let same = length-flat_map kids (range_with_len first more) in
          omega (arith, few, same)
