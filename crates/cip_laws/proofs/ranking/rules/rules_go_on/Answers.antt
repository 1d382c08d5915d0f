use Rattle.cip_rules.proofs.lemmas.RulesGoOn.{decides_next, goes_on, keys_stay}
use Rattle.cip_laws.proofs.ranking.rules.rules_go_on.Goals as goal

pub returns : goal.returns
returns c seen r_first named node count begin requested new rules rule old now keys within keyed_is before same takes = (
  decides_next seen r_first named node count begin within rules rule keyed_is old now requested new before keys same takes,
  λ undone. goes_on seen r_first named node count begin within rules rule keyed_is old now requested new before keys same takes
      undone,
  λ key others keyed. keys_stay seen r_first named node count begin within rules rule keyed_is old now requested new before
      keys same takes key others keyed,
)
