use Rattle.std.proofs.Common.{◌∙◌, sym, ap, arith}
use Rattle.cip_rank.specs.View.{on_way}
use Rattle.cip_aux_rank.proofs.lemmas.CountedDescriptors.{met, below_behind, none_before}
use Rattle.cip_aux_rank.proofs.lemmas.HangingPlaces.{way_same}
use Rattle.cip_aux_rank.proofs.subtree_descriptors.is_below.Goals as goal

pub loop-at-preserved : goal.loop-at-preserved
loop-at-preserved c =
    let ps = c.args.table.now.parents in
    let at = c.loop-at.at in
    let more = c.loop-at-test.true in
    let within = c.loop-at.invariant.within in
    let earlier = c.parent_of-at.ensures.earlier in
    record {
      within = omega (arith, earlier, within);
      same = ap (λ n. on_way ps n c.args.from) c.parent_of-at.ensures.parent
          ∙ sym (way_same ps c.len-count.ensures.tree at c.args.from (omega (arith, more)) within
          (λ e. absurd (omega (arith, e, more)))) ∙ c.loop-at.invariant.same;
    }

pub returns-then-node-from : goal.returns-then-node-from
returns-then-node-from c =
    sym (none_before c.args.table.now.parents c.len-count.ensures.tree c.args.from c.args.node c.requires
    c.if-node-from.true)

pub returns-after-loop-at : goal.returns-after-loop-at
returns-after-loop-at c =
    let ps = c.args.table.now.parents in
    let tree = c.len-count.ensures.tree in
    let over = c.if-node-from.false in
    let low = c.loop-at-test.false in
    sym (below_behind ps tree c.args.from c.args.node c.requires (omega (arith, over)) ∙ sym c.loop-at.invariant.same
    ∙ met ps tree c.args.from c.loop-at.at c.loop-at.invariant.within (omega (arith, low)))
