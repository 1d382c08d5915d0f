use Rattle.std.proofs.Common.{◌∙◌, sym, rules, arith}
use Rattle.std.proofs.lemmas.Grind.{common_steps}
use Rattle.cip_digraph.specs.rules.Auxiliary.{stands_for}
use Rattle.cip_aux.specs.Neighbours.{shape_at}
use Rattle.cip_aux.proofs.lemmas.FoundFirst.{first_passed}
use Rattle.cip_aux.proofs.ligand_nodes.ligand_child.Goals as goal

pub loop-child-preserved : goal.loop-child-preserved
loop-child-preserved g c = record {
  within = c.loop-child.invariant.within;
  left =
      first_passed (λ number. stands_for c.args.vertex (shape_at (g.N.Nodes.nodes c.args.nodes.now) number))
      c.loop-child.child (c.children-first.result.1)
      (search rules) (sym c.is_ligand.ensures ∙ c.if-is_ligand.false)
      ∙ c.loop-child.invariant.left;
}

pub children-first-requires : goal.children-first-requires
children-first-requires g c = grind (arith, common_steps)

pub loop-child-init : goal.loop-child-init
loop-child-init g c = grind (arith, common_steps)
