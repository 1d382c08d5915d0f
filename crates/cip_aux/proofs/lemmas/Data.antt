-- What is known of a whole digraph goes with its nodes.
use Rattle.cip_aux.proofs.lemmas.WholeTold.{is_told}
use Rattle.cip_aux.specs.Views.{WholeDigraph, IsWholeTold, Shows, sight_of}

pub whole_shows : (whole : WholeDigraph) → IsWholeTold whole → Shows (sight_of whole)
whole_shows whole is = record {
  sound = is.sound;
  low = is.low;
  node_data = is_told whole.graph whole.positions whole.root whole.last whole.node_data is.tells;
}
