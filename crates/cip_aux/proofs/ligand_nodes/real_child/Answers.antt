use Rattle.std.proofs.Common.{◌∙◌, sym, rules, arith}
use Rattle.std.proofs.lemmas.Grind.{common_steps}
use Rattle.cip_aux.specs.Neighbours.{is_real_of, shape_at}
use Rattle.cip_aux.proofs.lemmas.FoundFirst.{first_passed}
use Rattle.cip_aux.proofs.ligand_nodes.real_child.Goals as goal

pub loop-child-preserved : goal.loop-child-preserved
loop-child-preserved g c = record {
  within = c.loop-child.invariant.within;
  left =
      first_passed (λ number. is_real_of c.args.vertex (shape_at (g.N.Nodes.nodes c.args.nodes.now) number))
      c.loop-child.child (c.children-first.result.1)
      (search rules) (sym c.is_atom.ensures ∙ c.if-is_atom.false)
      ∙ c.loop-child.invariant.left;
}

pub children-first-requires : goal.children-first-requires
children-first-requires g c = grind (arith, common_steps)

pub loop-child-init : goal.loop-child-init
loop-child-init g c = grind (arith, common_steps)
