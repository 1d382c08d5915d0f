use Rattle.std.proofs.Common.{◌≡◌, ◌≤◌, ◌∙◌, ◌∷◌, ◌++◌, [], ap, length, subst, sym, true, rules}
use Rattle.std.proofs.lemmas.Result.{on_ok_weaker}
use Rattle.cip_mol.specs.Sites.{IsSite}
use Rattle.cip_digraph.specs.graph.Graph.{edges_at, other_end}
use Rattle.cip_unit.proofs.lemmas.Kept.{one_is}
use Rattle.cip_axis.specs.Biaryls.{is_biaryl}
use Rattle.cip_axis.specs.Further.{biaryl_site, biaryl_unit}
use Rattle.cip_axis.specs.Likeness.{like}
use Rattle.cip_axis.proofs.lemmas.Sited.{at_most, biaryl_parts, biaryl_shown}
use Rattle.cip_axis.proofs.biaryls.push_biaryl.Goals as goal

pub biaryl_unit-unit-requires-clause-shown : goal.biaryl_unit-unit-requires-clause-shown
biaryl_unit-unit-requires-clause-shown c =
    let source = c.args.source.now in
    let is : is_biaryl source.graph.now source.positions.now c.args.a c.args.edge.now ≡ true =
    search rules in
    subst (λ b. IsSite (length source.molecule.now.atoms) (like (biaryl_site source.graph.now c.args.a b)))
    (sym c.other_end.ensures)
    (biaryl_shown source.graph.now source.positions.now (length source.molecule.now.atoms) c.args.a c.args.edge.now
    c.requires.source.drawn c.requires.within is)

pub biaryl_unit-unit-requires-clause-first : goal.biaryl_unit-unit-requires-clause-first
biaryl_unit-unit-requires-clause-first c =
    let source = c.args.source.now in
    let is : is_biaryl source.graph.now source.positions.now c.args.a c.args.edge.now ≡ true =
    search rules in
    let three = (biaryl_parts source.graph.now source.positions.now c.args.a c.args.edge.now is).first.three in
    at_most three

pub biaryl_unit-unit-requires-clause-second : goal.biaryl_unit-unit-requires-clause-second
biaryl_unit-unit-requires-clause-second c =
    let source = c.args.source.now in
    let is : is_biaryl source.graph.now source.positions.now c.args.a c.args.edge.now ≡ true =
    search rules in
    let three = (biaryl_parts source.graph.now source.positions.now c.args.a c.args.edge.now is).second.three in
    subst (λ b. length (edges_at source.graph.now b) ≤ 3) (sym c.other_end.ensures) (at_most three)

pub returns-in-Ok-true : goal.returns-in-Ok-true
returns-in-Ok-true c =
    let source = c.args.source.now in
    let graph = source.graph.now in
    let a = c.args.a in
    let edge = c.args.edge.now in
    let is : is_biaryl graph source.positions.now a edge ≡ true = search rules in
    on_ok_weaker c.push.result
    (λ so_far. so_far
    ∙ ap (λ more. c.args.units.now ++ more)
    (ap (λ u. u ∷ []) (c.biaryl_unit-unit.ensures ∙ ap (biaryl_unit source.molecule.now graph a) c.other_end.ensures)
    ∙ one_is (is_biaryl graph source.positions.now a edge)
    (biaryl_unit source.molecule.now graph a (other_end a edge)) is))
    c.push.ensures.added
