use Rattle.std.proofs.Common.{◌≡◌, drop}
use Rattle.std.specs.List.{list_all}
use Rattle.cip_digraph.specs.Asking.{is_decided}
use Rattle.cip_digraph.proofs.decisions.branch_pair.all_decided.Given as goal

abbrev pub invariant-loop-one : goal.invariant-loop-one
invariant-loop-one l = list_all is_decided (drop l.one-index l.pairs) ≡ list_all is_decided l.pairs
