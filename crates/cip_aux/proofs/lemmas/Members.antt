-- What all children of a node have, each of them has.
use Rattle.std.proofs.Common.{◌≡◌, ℕ, zero, suc, ◌+◌, ◌<◌, ◌==◌, Bool, true, false, cond, List, [], ◌∷◌, length, slice_index, arith, subst, eq-eqb}
use Rattle.std.specs.List.{AllByRecursion}
use Rattle.cip_rank.specs.Tree.{children_from, children_of}
use Rattle.cip_digraph.proofs.lemmas.lists.Elements.{Pairwise}

pub all_with : {X : Type 0} (P Q R : X → Type 0) → ((x : X) → P x → Q x → R x) → (xs : List X) → AllByRecursion P xs
    → AllByRecursion Q xs → AllByRecursion R xs
all_with P Q R f [] p q = tt
all_with P Q R f (x ∷ xs) p q = (f x p.0 q.0, all_with P Q R f xs p.1 q.1)

from_first : (P : ℕ → Type 0) (i : ℕ) (rest : List ℕ) (b : Bool) → b ≡ true → AllByRecursion P (cond b (i ∷ rest) rest)
    → P i
from_first P i rest true t all = all.0
from_first P i rest false t all = let bad : false ≡ true = t in cc

from_rest : (P : ℕ → Type 0) (i : ℕ) (rest : List ℕ) (b : Bool) → AllByRecursion P (cond b (i ∷ rest) rest)
    → AllByRecursion P rest
from_rest P i rest true all = all.1
from_rest P i rest false all = all

from_has : (P : ℕ → Type 0) (i : ℕ) (parents : List ℕ) (node j : ℕ) → j < length parents → slice_index parents j ≡ node
    → AllByRecursion P (children_from i parents node) → P (i + j)
from_has P i [] node j h e all = absurd (omega arith)
from_has P i (parent ∷ parents) node zero h e all =
    let same : i ≡ i + 0 = omega arith in
    subst P same (from_first P i (children_from (i + 1) parents node) (parent == node) (eq-eqb parent node e) all)
from_has P i (parent ∷ parents) node (suc j) h e all =
    let move : i + 1 + j ≡ i + suc j = omega arith in
    subst P move
    (from_has P (i + 1) parents node j (omega arith) e
    (from_rest P i (children_from (i + 1) parents node) (parent == node) all))

pub child_has : (P : ℕ → Type 0) (parents : List ℕ) (node child : ℕ) → 0 < child → child < length parents
    → slice_index parents child ≡ node
    → AllByRecursion P (children_of parents node) → P child
child_has P [] node child some h e all = absurd (omega arith)
child_has P (root ∷ parents) node zero some h e all = absurd (omega arith)
child_has P (root ∷ parents) node (suc j) some h e all =
    let move : 1 + j ≡ suc j = omega arith in
    subst P move (from_has P 1 parents node j (omega arith) e all)

pair_first : (R : ℕ → ℕ → Type 0) (i : ℕ) (rest : List ℕ) (b : Bool) → b ≡ true → Pairwise R (cond b (i ∷ rest) rest)
    → AllByRecursion (R i) rest
pair_first R i rest true t pairs = pairs.0
pair_first R i rest false t pairs = let bad : false ≡ true = t in cc

pair_rest : (R : ℕ → ℕ → Type 0) (i : ℕ) (rest : List ℕ) (b : Bool) → Pairwise R (cond b (i ∷ rest) rest)
    → Pairwise R rest
pair_rest R i rest true pairs = pairs.1
pair_rest R i rest false pairs = pairs

pair_from : (R : ℕ → ℕ → Type 0) (i : ℕ) (parents : List ℕ) (node a b : ℕ) → a < b → b < length parents
    → slice_index parents a ≡ node → slice_index parents b ≡ node
    → Pairwise R (children_from i parents node) → R (i + a) (i + b)
pair_from R i [] node a b less h e g pairs = absurd (omega arith)
pair_from R i (parent ∷ parents) node zero zero less h e g pairs = absurd (omega arith)
pair_from R i (parent ∷ parents) node zero (suc b) less h e g pairs =
    let same : i ≡ i + 0 = omega arith in
    let move : i + 1 + b ≡ i + suc b = omega arith in
    subst (λ k. R k (i + suc b)) same (subst (R i) move
    (from_has (R i) (i + 1) parents node b (omega arith) g
    (pair_first R i (children_from (i + 1) parents node) (parent == node) (eq-eqb parent node e) pairs)))
pair_from R i (parent ∷ parents) node (suc a) zero less h e g pairs = absurd (omega arith)
pair_from R i (parent ∷ parents) node (suc a) (suc b) less h e g pairs =
    let one : i + 1 + a ≡ i + suc a = omega arith in
    let two : i + 1 + b ≡ i + suc b = omega arith in
    subst (λ k. R k (i + suc b)) one (subst (R (i + 1 + a)) two
    (pair_from R (i + 1) parents node a b (omega arith) (omega arith) e g
    (pair_rest R i (children_from (i + 1) parents node) (parent == node) pairs)))

-- what all pairs of children have, two of them have
pub pair_has : (R : ℕ → ℕ → Type 0) (parents : List ℕ) (node a b : ℕ) → 0 < a → a < b → b < length parents
    → slice_index parents a ≡ node → slice_index parents b ≡ node
    → Pairwise R (children_of parents node) → R a b
pair_has R [] node a b some less h e g pairs = absurd (omega arith)
pair_has R (root ∷ parents) node zero b some less h e g pairs = absurd (omega arith)
pair_has R (root ∷ parents) node (suc a) zero some less h e g pairs = absurd (omega arith)
pair_has R (root ∷ parents) node (suc a) (suc b) some less h e g pairs =
    let one : 1 + a ≡ suc a = omega arith in
    let two : 1 + b ≡ suc b = omega arith in
    subst (λ k. R k (suc b)) one
    (subst (R (1 + a)) two (pair_from R 1 parents node a b (omega arith) (omega arith) e g pairs))
