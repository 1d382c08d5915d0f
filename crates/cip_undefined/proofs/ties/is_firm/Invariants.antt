use Rattle.std.proofs.Common.{◌≡◌, drop}
use Rattle.std.specs.List.{list_any}
use Rattle.cip_undefined.specs.Pairs.{pairs_of}
use Rattle.cip_undefined.specs.Ties.{is_firm, is_firm_pair}
use Rattle.cip_undefined.proofs.ties.is_firm.Given as goal

abbrev pub invariant-loop-pair : goal.invariant-loop-pair
invariant-loop-pair g l = record {
  items : l.pair-items ≡ pairs_of l.site;
  so_far : list_any (is_firm_pair l.setting l.fn.labeller l.fn.free.free l.site) (drop l.pair-index l.pair-items)
      ≡ is_firm l.setting l.fn.labeller l.fn.free.free l.site;
  kept : l.labeller ≡ l.fn.labeller;
  still : l.free ≡ l.fn.free;
}
