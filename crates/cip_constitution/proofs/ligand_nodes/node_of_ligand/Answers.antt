use Rattle.std.proofs.Common.{◌≡◌, ◌-◌, ◌∙◌, ap, sym, arith}
use Rattle.std.specs.List.{range_with_len}
use Rattle.cip_constitution.specs.Standing.{first_standing, ligand_number}
use Rattle.cip_constitution.proofs.lemmas.node_data.FirstStanding.{as_many, found_here, passed_over}
use Rattle.cip_constitution.proofs.ligand_nodes.node_of_ligand.Goals as goal

pub children-first-requires : goal.children-first-requires
children-first-requires g c =
    let many = as_many (g.N.Nodes.nodes c.args.nodes.now) c.table.result.now.parents c.table.ensures in
    omega (arith, many, c.requires)

pub is_of-requires : goal.is_of-requires
is_of-requires g c =
    let many = as_many (g.N.Nodes.nodes c.args.nodes.now) c.table.result.now.parents c.table.ensures in
    omega (arith, many, c.children-first.ensures.within, c.loop-node-test.true)

pub returns-then-is_of-clause-within : goal.returns-then-is_of-clause-within
returns-then-is_of-clause-within g c =
    let many = as_many (g.N.Nodes.nodes c.args.nodes.now) c.table.result.now.parents c.table.ensures in
    omega (arith, many, c.children-first.ensures.within, c.loop-node-test.true)

pub returns-then-is_of-clause-number : goal.returns-then-is_of-clause-number
returns-then-is_of-clause-number g c =
    sym (found_here (g.N.Nodes.nodes c.args.nodes.now) c.in-Vertex.vertex c.loop-node.node _ c.loop-node-test.true
    (sym c.is_of.ensures ∙ c.if-is_of.true)) ∙ c.loop-node.invariant
    ∙ ap (ligand_number (g.N.Nodes.nodes c.args.nodes.now)) (sym c.in-Vertex.is)

pub loop-node-preserved : goal.loop-node-preserved
loop-node-preserved g c =
    sym (passed_over (g.N.Nodes.nodes c.args.nodes.now) c.in-Vertex.vertex c.loop-node.node _ c.loop-node-test.true
    (sym c.is_of.ensures ∙ c.if-is_of.false)) ∙ c.loop-node.invariant

pub returns-clause-number : goal.returns-clause-number
returns-clause-number g c =
    let none : c.children-first.result.1 - c.loop-node.node ≡ 0 = omega (arith, c.loop-node-test.false) in
    sym (ap (λ n. first_standing (g.N.Nodes.nodes c.args.nodes.now) c.in-Vertex.vertex (range_with_len c.loop-node.node n))
    none) ∙ c.loop-node.invariant ∙ ap (ligand_number (g.N.Nodes.nodes c.args.nodes.now)) (sym c.in-Vertex.is)
