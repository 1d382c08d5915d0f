use Rattle.cip_rank.proofs.lemmas.RestOnTies.{ties_alone}
use Rattle.cip_laws.proofs.ranking.trees.ties_rest_on_ties.Goals as goal

pub returns : goal.returns
returns c children earlier others key keys depth o p orders_alike keys_alike =
    let both = ties_alone children o p key keys orders_alike.there orders_alike.back keys_alike.there keys_alike.back
    depth in
    record { there = both.0; back = both.1 }
