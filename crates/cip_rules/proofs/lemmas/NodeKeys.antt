-- Keys of known nodes compare as their numbers do.
use Rattle.std.proofs.Common.{◌≡◌, ◌<◌, ℕ, ℤ, zero, suc, pos, List, map, length, refl, sym, ap, ◌∙◌, arith}
use Rattle.std.specs.Ordering.{int_cmp, nat_cmp}
use Rattle.std.proofs.lemmas.Bool.Decides.{nat_tests}
use Rattle.std.proofs.lemmas.List.{get_or-map}
use Rattle.cip_rank.specs.Ranking.{key_at}
use Rattle.cip_rank.specs.declared.rules.Rules.{Rules}
use Rattle.cip_digraph.specs.declared.nodes.NodeData.{NodeData}
use Rattle.cip_digraph.specs.rules.Keys.{lower_precedes}
use Rattle.cip_digraph.specs.digraph.NodeList.{nothing_told, told_at, distance_told}
use Rattle.cip_rules.specs.NodeKeys.{atomic_keys, mass_keys}

pub keys_at : (f : NodeData → ℤ) (all : List NodeData) (a : ℕ) → a < length all → key_at (map f all) a ≡ f (told_at all a)
keys_at f all a lt = get_or-map f all a nothing_told (pos 0) lt

pub pos_cmp : (m n : ℕ) → int_cmp (pos m) (pos n) ≡ nat_cmp m n
pos_cmp m n = grind (arith, nat_tests)

by_number : (f : NodeData → ℕ) (all : List NodeData) (a b : ℕ) → a < length all → b < length all
    → nat_cmp (f (told_at all a)) (f (told_at all b)) ≡ int_cmp (key_at (map (λ node_data. pos (f node_data)) all) a)
    (key_at (map (λ node_data. pos (f node_data)) all) b)
by_number f all a b la lb =
    sym (ap (λ k. int_cmp k (key_at (map (λ (node_data : NodeData). pos (f node_data)) all) b))
    (keys_at (λ (node_data : NodeData). pos (f node_data)) all a la)
    ∙ ap (int_cmp (pos (f (told_at all a)))) (keys_at (λ (node_data : NodeData). pos (f node_data)) all b lb)
    ∙ pos_cmp (f (told_at all a)) (f (told_at all b)))

pub atoms_compare : (all : List NodeData) (a b : ℕ) → a < length all → b < length all
    → nat_cmp (told_at all a).atomic (told_at all b).atomic
    ≡ int_cmp (key_at (atomic_keys all) a) (key_at (atomic_keys all) b)
atoms_compare all a b la lb = by_number (λ (node_data : NodeData). node_data.atomic) all a b la lb

pub masses_compare : (all : List NodeData) (a b : ℕ) → a < length all → b < length all
    → nat_cmp (told_at all a).mass (told_at all b).mass ≡ int_cmp (key_at (mass_keys all) a) (key_at (mass_keys all) b)
masses_compare all a b la lb = by_number (λ (node_data : NodeData). node_data.mass) all a b la lb

pub lower_cmp : (m n : ℕ) → int_cmp (lower_precedes m) (lower_precedes n) ≡ nat_cmp n m
lower_cmp zero zero = refl
lower_cmp zero (suc n) = grind (arith, nat_tests)
lower_cmp (suc m) zero = grind (arith, nat_tests)
lower_cmp (suc m) (suc n) = grind (arith, nat_tests)

pub distances_compare : (rules : Rules) (all : List NodeData) (a b : ℕ) → a < length all → b < length all
    → nat_cmp (distance_told rules (told_at all b)) (distance_told rules (told_at all a))
    ≡ int_cmp (key_at (map (λ node_data. lower_precedes (distance_told rules node_data)) all) a)
    (key_at (map (λ node_data. lower_precedes (distance_told rules node_data)) all) b)
distances_compare rules all a b la lb =
    let f : NodeData → ℤ = λ (node_data : NodeData). lower_precedes (distance_told rules node_data) in
    sym (ap (λ k. int_cmp k (key_at (map f all) b)) (keys_at f all a la) ∙ ap (int_cmp (f (told_at all a)))
    (keys_at f all b lb)
    ∙ lower_cmp (distance_told rules (told_at all a)) (distance_told rules (told_at all b)))
