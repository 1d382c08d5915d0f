use Rattle.std.proofs.Common.{◌≡◌, map, take}
use Rattle.cip_digraph.specs.digraph.NodeList.{parents_of}
use Rattle.cip_aux.specs.Neighbours.{ligand_number, shape_at}
use Rattle.cip_aux.proofs.ligand_nodes.ligands_at.Given as goal

abbrev pub invariant-loop-place : goal.invariant-loop-place
invariant-loop-place g l =
    l.numbers ≡ map (ligand_number (shape_at (g.N.Nodes.nodes l.nodes)) (parents_of (g.N.Nodes.nodes l.nodes))
    l.node) (take l.place-index l.ligands)
