use Rattle.gate_branches.proofs.lemmas.RankedInTurn.{ranked_at}
use Rattle.gate_branches.proofs.digraph_rows.push_followed.Goals as goal

pub push_later_ranks-requires : goal.push_later_ranks-requires
push_later_ranks-requires c = ranked_at c.args.digraph.now c.with_height-whole.result c.last.result
    c.follow.new.branches c.with_height-whole.ensures c.follow.ensures

pub push_decided-requires : goal.push_decided-requires
push_decided-requires c = ranked_at c.args.digraph.now c.with_height-whole.result c.last.result
    c.follow.new.branches c.with_height-whole.ensures c.follow.ensures
