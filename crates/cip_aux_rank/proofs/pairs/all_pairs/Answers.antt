use Rattle.std.proofs.Common.{rules, ◌∙◌}
use Rattle.cip_aux_rank.proofs.lemmas.AskedSides.{pairs_on}
use Rattle.cip_aux_rank.proofs.pairs.all_pairs.Goals as goal

pub loop-rest-preserved : goal.loop-rest-preserved
loop-rest-preserved c =
    pairs_on c.args.ligand_branches.now.tops c.loop-rest.pairs.items c.ask_row.new.pairs.items c.loop-rest.rest.now _
    (search rules) c.in-Ok-ask_row.ensures ∙ c.loop-rest.invariant
