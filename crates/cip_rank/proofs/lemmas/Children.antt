-- A child of a node comes after the root and has that node as its parent.
use Rattle.std.proofs.Common.{
  ◌≡◌,
  ℕ,
  ◌+◌,
  ◌-◌,
  ◌<◌,
  ◌≤◌,
  ◌==◌,
  Bool,
  true,
  false,
  cond,
  List,
  [],
  ◌∷◌,
  length,
  slice_index,
  refl,
  ap,
  ◌∙◌,
  arith,
  add-one,
  eqb-true,
}
use Rattle.std.specs.List.{AllByRecursion}
use Rattle.cip_rank.specs.Tree.{IsTree, children_from, children_of}
use Rattle.cip_rank.proofs.lemmas.Descending.{all_by}

pub record IsChild (parents : List ℕ) (node child : ℕ) : Type 0 where
  pub behind : 0 < child
  pub below : child < length parents
  pub parent : slice_index parents child ≡ node

record IsFrom (i : ℕ) (parents : List ℕ) (node child : ℕ) : Type 0 where
  low : i ≤ child
  high : child < i + length parents
  parent : slice_index parents (child - i) ≡ node

pub next_index : (x : ℕ) (xs : List ℕ) (k : ℕ) → slice_index (x ∷ xs) (k + 1) ≡ slice_index xs k
next_index x xs k = rw add-one refl

from_by : (i node parent : ℕ) (parents : List ℕ) (b : Bool) → (parent == node) ≡ b
    → AllByRecursion (IsFrom i (parent ∷ parents) node) (children_from (i + 1) parents node)
    → AllByRecursion (IsFrom i (parent ∷ parents) node) (cond b (i ∷ children_from (i + 1) parents node)
    (children_from (i + 1) parents node))
from_by i node parent parents true e rest =
    let none : i - i ≡ 0 = omega arith in
    (record { low = omega arith; high = omega arith; parent = rw none (eqb-true parent node e) }, rest)
from_by i node parent parents false e rest = rest

children_from_are : (i node : ℕ) (parents : List ℕ) → AllByRecursion (IsFrom i parents node)
    (children_from i parents node)
children_from_are i node [] = tt
children_from_are i node (parent ∷ parents) =
    from_by i node parent parents (parent == node) refl (all_by (λ child is.
    let back : child - i ≡ (child - (i + 1)) + 1 = omega (arith, is.low) in
    record {
      low = omega (arith, is.low);
      high = omega (arith, is.high);
      parent = rw back
          (next_index parent parents (child - (i + 1)) ∙ is.parent);
    })
    (children_from (i + 1) parents node) (children_from_are (i + 1) node parents))

pub children_are : (parents : List ℕ) (node : ℕ) → AllByRecursion (IsChild parents node) (children_of parents node)
children_are [] node = tt
children_are (root ∷ parents) node = all_by (λ child is.
    let back : child ≡ (child - 1) + 1 = omega (arith, is.low) in
    record {
      behind = omega (arith, is.low);
      below = omega (arith, is.high);
      parent = ap (slice_index (root ∷ parents))
          back ∙ next_index root parents (child - 1) ∙ is.parent;
    })
    (children_from 1 parents node) (children_from_are 1 node parents)

none_by : (parents : List ℕ) (node : ℕ) → IsTree parents → length parents ≤ node → (ns : List ℕ)
    → AllByRecursion (IsChild parents node) ns → ns ≡ []
none_by parents node tree out [] all = refl
none_by parents node tree out (n ∷ ns) all = absurd (omega (
  arith,
  tree.behind n all.0.behind all.0.below,
  all.0.below,
  all.0.parent,
))

-- a number after all nodes has no children
pub no_children : (parents : List ℕ) (node : ℕ) → IsTree parents → length parents ≤ node → children_of parents node ≡ []
no_children parents node tree out = none_by parents node tree out (children_of parents node) (children_are parents node)
