use Rattle.std.proofs.Common.{arith, rules, ◌≡◌, ◌∙◌, true, false, inr, subst}
use Rattle.cip_partition.specs.Parting.{PartsSphere, has_flag}
use Rattle.cip_partition.proofs.lemmas.PartedSphere.{begun, skipped, went_on}
use Rattle.cip_partition.proofs.splits.split.split_classes.Goals as goal

pub loop-row-init : goal.loop-row-init
loop-row-init g c = record {
  low = omega arith;
  high = c.requires.ordered;
  parts = begun (g.S.NodeOrder.order c.args.by.now) c.args.from c.args.to c.args.flags.now c.args.order.now.rows
      c.args.order.now.numbers c.requires.classed;
  len = search rules;
  numbers_len = search rules;
  room = search rules;
}

pub loop-row-preserved-then-flags-row : goal.loop-row-preserved-then-flags-row
loop-row-preserved-then-flags-row g c =
    let before = c.loop-row.invariant in
    let ends = c.class_end-past.ensures in
    let parted = c.split_class.ensures.parted in
    let flag : has_flag c.args.flags.now c.loop-row.row ≡ true = search rules in
    record {
      low = omega (arith, before.low, ends.some);
      high = ends.high;
      parts = went_on (g.S.NodeOrder.order c.args.by.now) c.args.from c.args.to c.args.flags.now c.args.order.now.rows
          c.args.order.now.numbers c.requires.classed c.requires.heads c.loop-row.row c.class_end-past.result before.low
          c.loop-row-test.true c.loop-row.order.rows c.loop-row.order.numbers c.split_class.new.self.rows
          c.split_class.new.self.numbers (inr (flag, ends, parted)) before.parts;
      len = parted.kept.len ∙ before.len;
      numbers_len = parted.len ∙ before.numbers_len;
      room = c.split_class.ensures.room ∙ before.room;
    }

pub loop-row-preserved : goal.loop-row-preserved
loop-row-preserved g c =
    let before = c.loop-row.invariant in
    let flag : has_flag c.args.flags.now c.loop-row.row ≡ false = search rules in
    record {
      low = omega (arith, before.low);
      high = let high = c.loop-row-test.true in omega (arith, high);
      parts = skipped (g.S.NodeOrder.order c.args.by.now) c.args.from c.args.to c.args.flags.now c.args.order.now.rows
          c.args.order.now.numbers c.requires.classed c.loop-row.row c.loop-row.order.rows c.loop-row.order.numbers flag
          before.parts;
      len = before.len;
      numbers_len = before.numbers_len;
      room = before.room;
    }

pub returns-clause-parted : goal.returns-clause-parted
returns-clause-parted g c =
    let ended : c.loop-row.row ≡ c.args.to = omega (arith, c.loop-row.invariant.high, c.loop-row-test.false) in
    subst (λ n. PartsSphere (g.S.NodeOrder.order c.args.by.now) c.args.from c.args.to n c.args.flags.now
    c.args.order.now.rows c.loop-row.order.rows c.args.order.now.numbers c.loop-row.order.numbers) ended
    c.loop-row.invariant.parts
