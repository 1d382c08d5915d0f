use Rattle.std.proofs.Common.{◌≡◌, ◌-◌, ◌≤◌, drop, fold}
use Rattle.cip_mol.specs.declared.labels.outcome.Rule.TheVariants.{R1a}
use Rattle.cip_digraph.specs.units.Ranked.{later_reason}
use Rattle.cip_label.specs.Labelling.{as_reason}
use Rattle.cip_label.specs.Pairwise.{decided_along, decided_at}
use Rattle.cip_label.proofs.reason.reason_along.Given as goal

abbrev pub invariant-loop-next : goal.invariant-loop-next
invariant-loop-next l = record {
  so_far :
      fold later_reason (as_reason l.reason)
      (decided_along (decided_at l.count l.decided) (drop (l.next - 1) l.places))
      ≡ fold later_reason (record { rule = R1a; sphere = 0 })
      (decided_along (decided_at l.count l.decided) l.places);
  some : 1 ≤ l.next;
}
