use Rattle.cip_rules.proofs.lemmas.RulesGoOn.{first_decides}
use Rattle.cip_laws.proofs.ranking.rules.rule_1a_decides.Goals as goal

pub returns : goal.returns
returns c seen r_first named node count begin requested now within decided ends high nodes tops noted =
    first_decides seen r_first named node count begin within now decided ends high nodes tops requested noted
