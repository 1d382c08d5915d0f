use Rattle.std.proofs.Common.{◌≡◌, drop}
use Rattle.std.specs.List.{list_any}
use Rattle.cip_aux_rank.specs.Narrowing.{is_top_of}
use Rattle.cip_aux_rank.proofs.branches.restrict.is_open_top.Given as goal

abbrev pub invariant-loop-pair : goal.invariant-loop-pair
invariant-loop-pair l =
    list_any (is_top_of l.tops l.top) (drop l.pair-index l.pairs) ≡ list_any (is_top_of l.tops l.top) l.pairs
