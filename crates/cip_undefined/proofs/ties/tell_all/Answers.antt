use Rattle.std.proofs.Common.{◌∙◌, ap, arith, sym}
use Rattle.std.specs.List.{slice_set}
use Rattle.std.proofs.lemmas.List.Edits.{map_over_more}
use Rattle.cip_undefined.specs.Branches.{FreeAtoms}
use Rattle.cip_undefined.specs.Ties.{told_unit}
use Rattle.cip_undefined.proofs.ties.tell_all.Goals as goal

pub loop-unit-preserved : goal.loop-unit-preserved
loop-unit-preserved g c =
    let setting = c.args.setting.now in
    let nodes = c.args.labeller.now in
    record {
      so_far = ap (slice_set c.loop-unit.found c.loop-unit.unit-index)
          (c.in_ok-tell.ensures.output
          ∙ ap (told_unit setting c.loop-unit.labeller c.loop-unit.free.free) (sym c.unit-item.is)
          ∙ ap (λ n. told_unit setting n c.loop-unit.free.free c.unit-item.result) c.loop-unit.invariant.kept
          ∙ ap (λ (atoms : FreeAtoms). told_unit setting nodes atoms.free c.unit-item.result)
          c.loop-unit.invariant.still)
          ∙ map_over_more (told_unit setting nodes c.args.free.now.free) c.args.found.now c.loop-unit.found
          c.loop-unit.unit-index c.unit-item.result (omega arith) c.loop-unit.invariant.so_far c.unit-item.is;
      kept = c.in_ok-tell.ensures.kept ∙ c.loop-unit.invariant.kept;
      still = c.in_ok-tell.ensures.still ∙ c.loop-unit.invariant.still;
    }
