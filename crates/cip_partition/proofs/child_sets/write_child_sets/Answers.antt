use Rattle.std.proofs.Common.{◌+◌, rules, true, false, refl, sym, subst}
use Rattle.std.proofs.lemmas.Bool.{false≢true}
use Rattle.cip_partition.specs.Kids.{kids_of, HoldKidSets}
use Rattle.cip_partition.proofs.lemmas.WrittenSets.{sets_written}
use Rattle.cip_partition.proofs.child_sets.write_child_sets.Goals as goal
use Rattle.cip_partition.proofs.child_sets.write_child_sets.Goals.{then-flags-number, else-flags-number}

pub loop-row-preserved : goal.loop-row-preserved
loop-row-preserved c =
    let family = c.args.family.now in
    let order = c.args.order.now in
    record {
      hold = elim c.if-flags-number.branch [
        | then-flags-number w ↦
            subst (λ sets. HoldKidSets (kids_of family) order.rows order.numbers c.args.from (c.loop-row.row + 1)
            c.args.flags.now sets)
            (sym w.sets-is)
            (sets_written family.firsts family.counts family.place_parents order.rows order.numbers w.numbers.result.now c.args.from
            c.args.to c.loop-row.row c.place-place.result c.number.result true c.args.flags.now c.loop-row.sets
            w.write_sorted.new.sets c.requires.known (search rules) (search rules) c.place-place.ensures.place
            c.number.ensures (search rules) w.numbers.ensures (λ e. search rules) (search rules) c.loop-row.invariant.hold)
        | else-flags-number w ↦
            subst (λ sets. HoldKidSets (kids_of family) order.rows order.numbers c.args.from (c.loop-row.row + 1)
            c.args.flags.now sets)
            (sym w.sets-is)
            (sets_written family.firsts family.counts family.place_parents order.rows order.numbers order.numbers c.args.from
            c.args.to c.loop-row.row c.place-place.result c.number.result false c.args.flags.now c.loop-row.sets
            c.loop-row.sets c.requires.known (search rules) (search rules) c.place-place.ensures.place c.number.ensures
            (sym w.if-flags-number.false) refl (λ e. absurd (false≢true e))
            (record { len = refl; before = λ k lt. refl; behind = λ k le. refl }) c.loop-row.invariant.hold)
      ];
    }
