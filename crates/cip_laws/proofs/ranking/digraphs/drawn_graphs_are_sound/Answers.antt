use Rattle.cip_digraph.proofs.lemmas.bonds.Sound.{drawn_sound}
use Rattle.cip_laws.proofs.ranking.digraphs.drawn_graphs_are_sound.Goals as goal

pub returns : goal.returns
returns c = drawn_sound
