use Rattle.std.proofs.Common.{ap, ◌∙◌, arith}
use Rattle.std.specs.List.{slice_set}
use Rattle.cip_rules.proofs.lemmas.Noted.{mapped_more}
use Rattle.cip_aux_rank.specs.Narrowing.{moved}
use Rattle.cip_aux_rank.proofs.branches.restrict.renumber_pairs.Goals as goal

pub loop-pair-preserved : goal.loop-pair-preserved
loop-pair-preserved c =
    ap (slice_set c.loop-pair.pairs c.loop-pair.pair-index) c.moved.ensures
    ∙ mapped_more (moved c.args.tops.now c.args.ligand_branches.now.tops) c.args.pairs.now c.loop-pair.pairs c.loop-pair.pair-index
    _ c.loop-pair.invariant (omega arith)
