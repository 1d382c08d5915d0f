use Rattle.cip_rank.proofs.lemmas.Refining.{depths_refine}
use Rattle.cip_digraph.specs.rules.Orders.{rule_1a, rule_1b, rule_2, rule_3, rule_4a, readings, rule_4b_higher}
use Rattle.cip_digraph.specs.rules.Orders.{rule_4b_lower, rule_4c, rule_5, read_children, higher_reading, lower_reading}
use Rattle.cip_laws.proofs.ranking.digraphs.decisions_stay.Goals as goal

pub returns : goal.returns
unfolding rule_1a rule_1b rule_2 rule_3 rule_4a readings rule_4b_higher rule_4b_lower rule_4c rule_5
returns c seen = record {
  of_1a = depths_refine seen.children _ _;
  of_1b = depths_refine seen.children _ _;
  of_2 = depths_refine seen.children _ _;
  of_3 = depths_refine seen.children _ _;
  of_4a = depths_refine seen.children _ _;
  of_4b_higher =
      λ depth more a b.
      depths_refine (read_children seen) _ _ depth more (higher_reading seen a) (higher_reading seen b);
  of_4b_lower =
      λ depth more a b. depths_refine (read_children seen) _ _ depth more (lower_reading seen a) (lower_reading seen b);
  of_4c = depths_refine seen.children _ _;
  of_5 = λ r_first. depths_refine seen.children _ _;
}
