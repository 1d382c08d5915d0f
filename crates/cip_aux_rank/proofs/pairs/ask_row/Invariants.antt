use Rattle.std.proofs.Common.{◌≡◌, ◌++◌, map, take}
use Rattle.cip_aux_rank.specs.Asking.{asked_of}
use Rattle.cip_aux_rank.proofs.pairs.ask_row.Given as goal

abbrev pub invariant-loop-other : goal.invariant-loop-other
invariant-loop-other l =
    l.pairs.items ≡ l.initial.pairs.items ++ map (asked_of l.ligand_branches.tops l.one) (take l.other-index l.others)
