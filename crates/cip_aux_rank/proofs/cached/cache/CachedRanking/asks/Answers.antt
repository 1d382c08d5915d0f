use Rattle.std.proofs.Common.{rules, sym, ◌∙◌}
use Rattle.std.proofs.lemmas.Slice.Eq.{slice_eq-Decides}
use Rattle.cip_aux_rank.proofs.lemmas.OpenAgain.{same_ligand}
use Rattle.cip_aux_rank.proofs.cached.cache.CachedRanking.asks.Goals as goal

pub returns-then-self-node : goal.returns-then-self-node
returns-then-self-node c is =
    let same = slice_eq-Decides same_ligand c.as_slice.result.now c.args.ligands.now c.eq.result c.eq.ensures in
    (search rules, sym c.as_slice.ensures.value ∙ same.0 is)
