use Rattle.std.proofs.Common.{◌≡◌, [], arith, replicate, ap, ◌∙◌}
use Rattle.std.proofs.lemmas.Grind.{common_steps}
use Rattle.cip_mol.proofs.graph.adjacency.Table.new.Goals as goal

pub loop-preserved : goal.loop-preserved
loop-preserved c = grind (arith, common_steps)

pub returns : goal.returns
returns c =
    let all : c.loop.counter ≡ c.args.atoms = omega (arith, c.loop-test.false, c.loop.auto.counter-end) in
    c.loop.invariant.rows ∙ ap (λ n. replicate n (record { neighbours = []; bonds = [] })) all
