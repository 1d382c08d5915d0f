use Rattle.cip_rules.proofs.lemmas.RulesGoOn.{order_told}
use Rattle.cip_laws.proofs.ranking.rules.decided_pairs_are_ordered.Goals as goal

pub returns : goal.returns
returns c seen r_first node count begin requested rules more within all noted done =
    order_told seen r_first node node count begin within rules more all requested noted done
