-- Children of nodes that rise do so too, and numbers that rise are few.
use Rattle.std.proofs.Common.{◌<◌, ◌≤◌, ◌+◌, ◌++◌, ◌∷◌, ◌==◌, ℕ, zero, suc, Bool, true, false, cond, List, [], length, arith, inl, inr}
use Rattle.std.specs.List.{AllByRecursion, flat_map, range_with_len}
use Rattle.std.proofs.lemmas.Bool.{cases_lt}
use Rattle.cip_rank.specs.Tree.{children_from, children_of}
use Rattle.cip_rank.proofs.lemmas.Children.{IsChild}
use Rattle.cip_rank.proofs.lemmas.Descending.{all_by}
use Rattle.cip_rank.proofs.lemmas.ChildrenSeen.{all_append}
use Rattle.cip_branches.specs.Rising.{Rises, IsAscending}
use Rattle.cip_branches.proofs.lemmas.room.Kids.{all_told}

-- numbers that rise between two limits are few
pub rises_few : (low limit : ℕ) (ns : List ℕ) → low ≤ limit → Rises ns → AllByRecursion (λ n. low ≤ n) ns
    → AllByRecursion (λ n. n < limit) ns → low + length ns ≤ limit
rises_few low limit [] le rises above below = omega (arith, le)
rises_few low limit (n ∷ ns) le rises above below =
    let rest = rises_few (n + 1) limit ns (let lt = below.0 in omega (arith, lt)) rises.1
    (all_by (λ m lt. let h = lt in omega (arith, h)) ns rises.0) below.1 in
    omega (arith, rest, above.0)

low_by : (b : Bool) (i : ℕ) (rest : List ℕ) → AllByRecursion (λ c. i + 1 ≤ c) rest
    → AllByRecursion (λ c. i ≤ c) (cond b (i ∷ rest) rest)
low_by true i rest all = (omega arith, all_by (λ c le. let h = le in omega (arith, h)) rest all)
low_by false i rest all = all_by (λ c le. let h = le in omega (arith, h)) rest all

from_low : (i : ℕ) (parents : List ℕ) (node : ℕ) → AllByRecursion (λ c. i ≤ c) (children_from i parents node)
from_low i [] node = tt
from_low i (parent ∷ parents) node = low_by (parent == node) i (children_from (i + 1) parents node)
    (from_low (i + 1) parents node)

rises_by : (b : Bool) (i : ℕ) (rest : List ℕ) → AllByRecursion (λ c. i + 1 ≤ c) rest → Rises rest
    → Rises (cond b (i ∷ rest) rest)
rises_by true i rest all rises = (all_by (λ c le. let h = le in omega (arith, h)) rest all, rises)
rises_by false i rest all rises = rises

from_rises : (i : ℕ) (parents : List ℕ) (node : ℕ) → Rises (children_from i parents node)
from_rises i [] node = tt
from_rises i (parent ∷ parents) node = rises_by (parent == node) i (children_from (i + 1) parents node)
    (from_low (i + 1) parents node) (from_rises (i + 1) parents node)

pub children_rise : (parents : List ℕ) (node : ℕ) → Rises (children_of parents node)
children_rise [] node = tt
children_rise (root ∷ parents) node = from_rises 1 parents node

pub rises_append : (ns ms : List ℕ) → Rises ns → Rises ms → AllByRecursion (λ n. AllByRecursion (λ m. n < m) ms) ns
    → Rises (ns ++ ms)
rises_append [] ms p q below = q
rises_append (n ∷ ns) ms p q below = (all_append (λ m. n < m) ns ms p.0 below.0, rises_append ns ms p.1 q below.1)

-- a child of a lower node is lower
lower : (parents : List ℕ) → IsAscending parents → (i j n m : ℕ) → i < j → IsChild parents i n → IsChild parents j m
    → n < m
lower parents asc i j n m lt is under = elim (cases_lt n m) [
  | inl low ↦ low
  | inr ge ↦
      let parent_place = asc.each m n ge is.below in
      absurd (omega (arith, lt, parent_place, is.parent, under.parent))
]

-- where the nodes at places rise, so do the children that are given for them
pub told_rise : (parents : List ℕ) → IsAscending parents → (node : ℕ → ℕ) (f : ℕ → List ℕ) (place more : ℕ)
    → ((p : ℕ) → Rises (f p)) → ((p : ℕ) → AllByRecursion (IsChild parents (node p)) (f p))
    → ((p q : ℕ) → place ≤ p → p < q → q < place + more → node p < node q)
    → Rises (flat_map f (range_with_len place more))
told_rise parents asc node f place zero each are rise = tt
told_rise parents asc node f place (suc more) each are rise =
    rises_append (f place) (flat_map f (range_with_len (place + 1) more)) (each place)
    (told_rise parents asc node f (place + 1) more each are (λ p q low lt high.
    rise p q (omega (arith, low)) lt (omega (arith, high))))
    (all_by (λ n is. all_told (λ m. n < m) f (place + 1) more (λ q low high.
    all_by (λ m under. lower parents asc (node place) (node q) n m
    (rise place q (omega arith) (omega (arith, low)) (omega (arith, high))) is under) (f q) (are q)))
    (f place) (are place))
