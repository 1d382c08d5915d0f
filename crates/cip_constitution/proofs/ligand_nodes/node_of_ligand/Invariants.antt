use Rattle.std.proofs.Common.{◌≡◌, ◌-◌}
use Rattle.std.specs.List.{range_with_len}
use Rattle.cip_mol.specs.declared.site.Ligand.TheVariants.{Vertex}
use Rattle.cip_constitution.specs.Standing.{first_standing, ligand_number}
use Rattle.cip_constitution.proofs.ligand_nodes.node_of_ligand.Given as goal

abbrev pub invariant-loop-node : goal.invariant-loop-node
invariant-loop-node g l = first_standing (g.N.Nodes.nodes l.nodes) l.vertex (range_with_len l.node (l.past - l.node))
    ≡ ligand_number (g.N.Nodes.nodes l.nodes) (Vertex l.vertex)
