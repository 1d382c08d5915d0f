-- Sums of bond orders: what one more bond adds, and that they are small.
use Rattle.std.proofs.Common.{◌≡◌, ◌<◌, ◌≤◌, ◌+◌, ◌*◌, ℕ, List, length, map, take, get_or, sym, ap, ◌∙◌, arith}
use Rattle.std.specs.Prelude.{filter, sum}
use Rattle.std.specs.List.{All}
use Rattle.std.proofs.lemmas.List.Elements.{All-filter, All-weaker}
use Rattle.std.proofs.lemmas.List.Sums.{count_by-le-length, length-filter, sum-map, sum_by-le, sum_by_more}
use Rattle.cip_mol.specs.Bonds.{touches}
use Rattle.cip_mol.specs.Ranges.{IsBond}
use Rattle.cip_mol.specs.declared.graph.molecule.Bond.{Bond}
use Rattle.cip_digraph.specs.graph.Hydrogens.{bond_orders}

pub orders_next : (bonds : List Bond) (k : ℕ) (d : Bond) → k < length bonds
    → sum (map (λ bond. bond.order) (take (k + 1) bonds))
    ≡ sum (map (λ bond. bond.order) (take k bonds)) + (get_or bonds k d).order
orders_next bonds k d lt =
    sum-map (λ bond. bond.order) (take (k + 1) bonds)
    ∙ sum_by_more (λ bond. bond.order) bonds k d lt
    ∙ ap (λ n. n + (get_or bonds k d).order) (sym (sum-map (λ bond. bond.order) (take k bonds)))

pub fewer_at : (atom : ℕ) (bonds : List Bond) → length (filter (touches atom) bonds) ≤ length bonds
fewer_at atom bonds =
    let fewer = count_by-le-length (touches atom) bonds in
    let kept = length-filter (touches atom) bonds in
    omega (arith, fewer, kept)

pub orders_few : (atom : ℕ) (bonds : List Bond) → All IsBond bonds → bond_orders atom bonds ≤ length bonds * 3
orders_few atom bonds all =
    let few = sum_by-le (λ bond. bond.order) 3 (filter (touches atom) bonds)
    (All-weaker IsBond (λ bond. bond.order ≤ 3) (λ bond is. is.few) (filter (touches atom) bonds)
    (All-filter (touches atom) IsBond bonds all)) in
    let fewer = fewer_at atom bonds in
    let by = sum-map (λ bond. bond.order) (filter (touches atom) bonds) in
    omega (arith, few, fewer, by)
