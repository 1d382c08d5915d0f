use Rattle.cip_rules.proofs.rule_4b.take_open.Goals as goal

pub take_again-requires-clause-aside : goal.take_again-requires-clause-aside
take_again-requires-clause-aside g c = c.requires.aside

pub returns-then-not-all_decided-clause-place_tree : goal.returns-then-not-all_decided-clause-place_tree
returns-then-not-all_decided-clause-place_tree g c = c.take_again.ensures.place_tree

pub take_again-requires-clause-keyed : goal.take_again-requires-clause-keyed
take_again-requires-clause-keyed g c = c.requires.keyed
