use Rattle.std.proofs.Common.{◌≡◌, map, take}
use Rattle.cip_mol.specs.declared.site.Ligand.TheVariants as variants
use Rattle.cip_digraph.specs.graph.Graph.{edges_at, other_end}
use Rattle.cip_unit.proofs.centres.neighbours.Given as goal

abbrev pub invariant-loop-edge : goal.invariant-loop-edge
invariant-loop-edge l =
    l.ligands ≡ map variants.Vertex (map (other_end l.atom) (take l.edge-index (edges_at l.graph l.atom)))
