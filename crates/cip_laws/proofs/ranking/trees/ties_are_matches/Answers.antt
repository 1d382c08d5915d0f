use Rattle.std.proofs.Common.{slice_index}
use Rattle.std.proofs.lemmas.Cmp.{on_total, nat_cmp_total}
use Rattle.cip_rank.specs.Ranking.{key_at}
use Rattle.cip_rank.specs.Tree.{children_of, height_of}
use Rattle.cip_rank.proofs.lemmas.MatchingBranches.{match_from_tie, tie_from_match}
use Rattle.cip_laws.proofs.ranking.trees.ties_are_matches.Goals as goal

pub returns : goal.returns
returns c parents earlier keys a b tree below_a below_b =
    let total = on_total (slice_index earlier) nat_cmp_total in (
      match_from_tie (children_of parents) total (key_at keys) (height_of parents) a b,
      tie_from_match (children_of parents) total (key_at keys) (height_of parents) a b,
    )
