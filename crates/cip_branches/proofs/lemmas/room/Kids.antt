-- What is given for places one after the other: the children of their nodes.
use Rattle.std.proofs.Common.{◌≡◌, ◌<◌, ◌≤◌, ◌+◌, ◌++◌, ℕ, zero, suc, Bool, true, false, cond, List, [], length, slice_index, refl, sym, ap, ◌∙◌, arith, append_assoc}
use Rattle.std.specs.List.{AllByRecursion, flat_map, range_with_len}
use Rattle.std.proofs.lemmas.List.{flat_map_more}
use Rattle.std.proofs.lemmas.List.Folds.{flat_map-map}
use Rattle.std.proofs.lemmas.List.FromFn.{fill_by_all}
use Rattle.cip_rank.proofs.lemmas.ChildrenSeen.{all_append}
use Rattle.cip_rank.proofs.lemmas.Ranges.{range_more}
use Rattle.cip_partition.specs.PlaceTree.{PlaceTree}
use Rattle.cip_partition.specs.Parting.{has_flag}
use Rattle.cip_branches.specs.Rising.{kids_list}
use Rattle.cip_branches.specs.Walking.{wanted_at, wanted_kids}

-- what holds of what is given for each place holds of all of it
pub all_told : (P : ℕ → Type 0) (f : ℕ → List ℕ) (place more : ℕ)
    → ((p : ℕ) → place ≤ p → p < place + more → AllByRecursion P (f p))
    → AllByRecursion P (flat_map f (range_with_len place more))
all_told P f place zero each = tt
all_told P f place (suc more) each =
    all_append P (f place) (flat_map f (range_with_len (place + 1) more)) (each place (omega arith) (omega arith))
    (all_told P f (place + 1) more (λ p low high. each p (omega (arith, low)) (omega (arith, high))))

pub all_if : (P : ℕ → Type 0) (b : Bool) (kids : List ℕ) → AllByRecursion P kids → AllByRecursion P (cond b kids [])
all_if P true kids all = all
all_if P false kids all = tt

-- what holds of the children of each node holds of those that were walked
pub all_walked : (P : ℕ → Type 0) (kids_at : ℕ → List ℕ) (unresolved : List Bool) (place_tree : PlaceTree) (first more : ℕ)
    → ((p : ℕ) → first ≤ p → p < first + more → AllByRecursion P (kids_at (slice_index place_tree.nodes p)))
    → AllByRecursion P (wanted_kids kids_at unresolved place_tree first more)
all_walked P kids_at unresolved place_tree first more each = all_told P (wanted_at kids_at unresolved place_tree) first more (λ p low high.
    all_if P (has_flag unresolved (slice_index place_tree.branches p)) (kids_at (slice_index place_tree.nodes p)) (each p low high))

-- one place more
pub told_more : (f : ℕ → List ℕ) (place more : ℕ) → flat_map f (range_with_len place (suc more))
    ≡ flat_map f (range_with_len place more) ++ f (place + more)
told_more f place more =
    let one : suc more ≡ more + 1 = omega arith in
    ap (λ n. flat_map f (range_with_len place n)) one ∙ ap (flat_map f) (range_more place more (place + more) refl)
    ∙ sym (flat_map_more f [] (range_with_len place more) (place + more))

pub kids_split : (kids_at : ℕ → List ℕ) (nodes : List ℕ) (place a b : ℕ) → kids_list kids_at nodes place (a + b)
    ≡ kids_list kids_at nodes place a ++ kids_list kids_at nodes (place + a) b
kids_split kids_at nodes place zero b =
    let none : 0 + b ≡ b = omega arith in
    let here : place ≡ place + 0 = omega arith in
    ap (kids_list kids_at nodes place) none ∙ ap (λ p. kids_list kids_at nodes p b) here
kids_split kids_at nodes place (suc a) b =
    let more : suc a + b ≡ suc (a + b) = omega arith in
    let move : place + 1 + a ≡ place + suc a = omega arith in
    let kids = kids_at (slice_index nodes place) in
    let rest = kids_list kids_at nodes (place + 1) a in
    ap (kids_list kids_at nodes place) more
    ∙ ap (λ (ns : List ℕ). kids ++ ns) (kids_split kids_at nodes (place + 1) a b
    ∙ ap (λ p. rest ++ kids_list kids_at nodes p b) move)
    ∙ sym (append_assoc kids rest (kids_list kids_at nodes (place + suc a) b))

pub kids_alike : (f g : ℕ → List ℕ) (nodes other : List ℕ) (place more : ℕ)
    → ((p : ℕ) → place ≤ p → p < place + more → f (slice_index nodes p) ≡ g (slice_index other p))
    → kids_list f nodes place more ≡ kids_list g other place more
kids_alike f g nodes other place zero same = refl
kids_alike f g nodes other place (suc more) same =
    ap (λ (ns : List ℕ). ns ++ kids_list f nodes (place + 1) more) (same place (omega arith) (omega arith))
    ∙ ap (λ (ns : List ℕ). g (slice_index other place) ++ ns) (kids_alike f g nodes other (place + 1) more
    (λ p low high. same p (omega (arith, low)) (omega (arith, high))))

-- those of all nodes
pub kids_flat : (f : ℕ → List ℕ) (nodes : List ℕ) → kids_list f nodes 0 (length nodes) ≡ flat_map f nodes
kids_flat f nodes = sym (flat_map-map f (slice_index nodes) (range_with_len 0 (length nodes)))
    ∙ ap (flat_map f) (sym (fill_by_all (slice_index nodes) nodes (length nodes) 0 refl (λ k lt. refl)))
