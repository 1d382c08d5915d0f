use Rattle.gate_branches.proofs.lemmas.RankedInTurn.{ranked_whole}
use Rattle.gate_branches.proofs.by_nodes.are_ranked.Goals as goal

pub returns : goal.returns
returns c ended = ranked_whole c.args.digraph.now c.args.branches.now c.requires (c.have_ended.ensures ended)
