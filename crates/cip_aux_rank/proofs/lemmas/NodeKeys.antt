-- Keys of nodes by number.
use Rattle.std.proofs.Common.{◌≡◌, ◌<◌, ℕ, ℤ, pos, length, ap, ◌∙◌, arith}
use Rattle.std.specs.List.{range_with_len}
use Rattle.std.proofs.lemmas.List.{get_or-map}
use Rattle.std.proofs.lemmas.List.FromFn.{length-range_with_len, get_or-range_with_len}
use Rattle.cip_rank.specs.Ranking.{key_at}
use Rattle.cip_digraph.specs.rules.Keys.{lower_precedes}
use Rattle.cip_aux.specs.Views.{DigraphView}
use Rattle.cip_aux_rank.specs.Keys.{distance_at, distance_keys}

pub distance_key_is : (sight : DigraphView) (from node : ℕ) → node < length sight.node_data
    → key_at (distance_keys sight from) node ≡ lower_precedes (distance_at sight from node)
distance_key_is sight from node h =
    let count = length sight.node_data in
    let key : ℕ → ℤ = λ n. lower_precedes (distance_at sight from n) in
    get_or-map key (range_with_len 0 count) node 0 (pos 0) (omega (arith, length-range_with_len 0 count, h))
    ∙ ap key (get_or-range_with_len 0 count node 0 h ∙ omega arith)
