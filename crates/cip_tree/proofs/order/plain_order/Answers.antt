use Rattle.std.proofs.Common.{◌≡◌, IfOk, sym, ◌∙◌, subst, arith}
use Rattle.cip_tree.proofs.lemmas.FirstDecisions.{decided_1a, decided_1b, decided_2, of_children}
use Rattle.cip_tree.proofs.order.plain_order.Goals as goal

pub first_decision-requires : goal.first_decision-requires
first_decision-requires c = omega (arith, c.height-height.ensures, c.requires.shallow)

pub first_decision-requires-2 : goal.first_decision-requires-2
first_decision-requires-2 c = omega (arith, c.height-height.ensures, c.requires.shallow)

pub first_decision-requires-3 : goal.first_decision-requires-3
first_decision-requires-3 c = omega (arith, c.height-height.ensures, c.requires.shallow)

pub returns-in-Some : goal.returns-in-Some
returns-in-Some c =
    let tree = c.args.tree.now in
    let one = c.index-children-a.result in
    let other = c.index-children-b.result in
    decided_1a c.args.rules tree one other c.height-height.result c.height-height.ensures c.in-Some.decision
    (sym c.in-Some.is ∙ c.in_ok-decision.ensures)
    ∙ of_children c.args.rules tree one other c.children.result.now c.children-2.result.now c.args.a c.args.b
    c.requires.first c.requires.second c.children.ensures c.children-2.ensures c.index-children-a.is
    c.index-children-b.is

pub returns-in-Some-2 : goal.returns-in-Some-2
returns-in-Some-2 c =
    let tree = c.args.tree.now in
    let one = c.index-children-a.result in
    let other = c.index-children-b.result in
    decided_1b c.args.rules tree one other c.height-height.result c.height-height.ensures c.in-Some-2.decision
    (sym c.in_default.is ∙ c.in_ok-decision.ensures) (sym c.in-Some-2.is ∙ c.in_ok-decision-2.ensures)
    ∙ of_children c.args.rules tree one other c.children.result.now c.children-2.result.now c.args.a c.args.b
    c.requires.first c.requires.second c.children.ensures c.children-2.ensures c.index-children-a.is
    c.index-children-b.is

pub returns : goal.returns
returns c =
    let tree = c.args.tree.now in
    let one = c.index-children-a.result in
    let other = c.index-children-b.result in
    subst (λ right. IfOk c.first_decision-3.result (λ decision. decision ≡ right))
    (decided_2 c.args.rules tree one other c.height-height.result c.height-height.ensures
    (sym c.in_default.is ∙ c.in_ok-decision.ensures) (sym c.in_default-2.is ∙ c.in_ok-decision-2.ensures)
    ∙ of_children c.args.rules tree one other c.children.result.now c.children-2.result.now c.args.a c.args.b
    c.requires.first c.requires.second c.children.ensures c.children-2.ensures c.index-children-a.is
    c.index-children-b.is) c.first_decision-3.ensures
