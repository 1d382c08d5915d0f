use Rattle.std.proofs.Common.{◌∙◌, ap, arith, cond}
use Rattle.std.specs.Prelude.{not}
use Rattle.cip_digraph.specs.rings.Alternating.{is_in}
use Rattle.cip_unit.proofs.lemmas.Kept.{count_next}
use Rattle.std.proofs.lemmas.Grind.{common_steps}
use Rattle.cip_unit.proofs.ends.outer_ligand_count.Goals as goal

pub loop-edge-preserved : goal.loop-edge-preserved
loop-edge-preserved c = record {
  sum =
      count_next (λ other.
      not (is_in other c.args.unit.now)) c.args.atom _ _ c.loop-edge.edge-index _ c.loop-edge.count _ _ c.edges_at-edge-items.ensures.value c.loop-edge-test.true
      c.loop-edge.invariant.sum
      (c.one_if-count.ensures.value
      ∙ ap (λ b. cond b 1 0)
      (c.is_outside.ensures ∙ ap (λ other. not (is_in other c.args.unit.now)) c.other_end.ensures));
  few = omega (arith, c.loop-edge.invariant.few, c.one_if-count.ensures.few);
}

pub returns : goal.returns
returns c = grind (arith, common_steps)
