use Rattle.std.proofs.Common.{refl}
use Rattle.cip_digraph.specs.rules.Orders.{rule_1a, rule_1b, rule_2}
use Rattle.cip_digraph.proofs.lemmas.orders.Exchanged.{same_3, same_4a, same_4b_higher, same_4b_lower, same_4c, turned_5}
use Rattle.cip_digraph.proofs.lemmas.orders.Exchanged.{order_turned}
use Rattle.cip_laws.proofs.ranking.digraphs.exchange_turns.Goals as goal

pub returns : goal.returns
unfolding rule_1a rule_1b rule_2
returns c seen = record {
  of_1a = refl;
  of_1b = refl;
  of_2 = refl;
  of_3 = same_3 seen;
  of_4a = same_4a seen;
  of_4b_higher = same_4b_higher seen;
  of_4b_lower = same_4b_lower seen;
  of_4c = same_4c seen;
  of_5 = turned_5 seen;
  of_all = order_turned seen;
}
