use Rattle.std.proofs.Common.{◌≡◌, ◌∙◌, Some, sym, subst}
use Rattle.cip_mol.specs.declared.site.Ligand.{Ligand}
use Rattle.cip_rank.specs.Tree.{children_of}
use Rattle.cip_digraph.specs.rules.Auxiliary.{stands_for}
use Rattle.cip_digraph.specs.digraph.NodeList.{parents_of}
use Rattle.cip_aux.specs.Neighbours.{ligand_number, parent_of, shape_at}
use Rattle.cip_aux.proofs.lemmas.FoundFirst.{first_in_front, first_behind}
use Rattle.cip_aux.proofs.ligand_nodes.ligand.Goals as goal

pub returns-in-Some : goal.returns-in-Some
returns-in-Some g c =
    let all = g.N.Nodes.nodes c.args.nodes.now in
    subst (λ (l : Ligand). Some c.in-Some.child ≡ ligand_number (shape_at all) (parents_of all) c.args.node l)
    (sym c.in-Vertex.is)
    (sym (first_in_front (λ number. stands_for c.in-Vertex.vertex (shape_at all number))
    (children_of (parents_of all) c.args.node) (parent_of (parents_of all) c.args.node) c.in-Some.child
    (sym c.ligand_child.ensures ∙ c.in-Some.is)))

pub returns-in-None : goal.returns-in-None
returns-in-None g c =
    let all = g.N.Nodes.nodes c.args.nodes.now in
    subst (λ (l : Ligand). c.ligand_parent.result ≡ ligand_number (shape_at all) (parents_of all) c.args.node l)
    (sym c.in-Vertex.is)
    (c.ligand_parent.ensures
    ∙ sym (first_behind (λ number. stands_for c.in-Vertex.vertex (shape_at all number))
    (children_of (parents_of all) c.args.node) (parent_of (parents_of all) c.args.node)
    (sym c.ligand_child.ensures ∙ c.in-None.is)))

pub ligand_parent-requires-clause-within : goal.ligand_parent-requires-clause-within
ligand_parent-requires-clause-within g c = c.requires.within
