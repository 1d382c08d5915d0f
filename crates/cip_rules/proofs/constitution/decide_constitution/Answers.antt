use Rattle.std.proofs.Common.{true, [], ◌∷◌, refl, sym, ◌∙◌, subst}
use Rattle.cip_mol.specs.declared.labels.outcome.Rule.TheVariants.{R1a, R1b, R2, R3}
use Rattle.cip_rules.proofs.lemmas.RulesGoOn.{keys_stay}
use Rattle.cip_rules.proofs.lemmas.RulesReady.{ready_next, ready_early}
use Rattle.cip_rules.proofs.lemmas.TakenSteps.{fewer_still}
use Rattle.cip_partition.specs.Keys.{AreKeyed}
use Rattle.cip_rules.proofs.constitution.decide_constitution.Goals as goal

pub returns-then-apply_rule-clause-decided : goal.returns-then-apply_rule-clause-decided
returns-then-apply_rule-clause-decided g c seen named node count begin within before apart heavy =
    let now = c.apply_rule.new.branches in
    let new = c.apply_rule.new.pairs in
    ready_early seen true named node count begin within R2 R3 (R2 ∷ []) refl now new
    (ready_next seen true named node count begin within R1b R2 refl refl refl c.args.branches.now now c.args.pairs.now
    new before (g.D.Keyed.key c.args.distances.now) apart c.apply_rule.ensures.taken) (sym c.apply_rule.ensures.all
    ∙ c.if-apply_rule.true)

pub returns-else-apply_rule-clause-decided : goal.returns-else-apply_rule-clause-decided
returns-else-apply_rule-clause-decided g c seen named node count begin within before apart heavy =
    let old = c.args.branches.now in
    let pairs = c.args.pairs.now in
    let distances = g.D.Keyed.key c.args.distances.now in
    let masses = g.M.Keyed.key c.args.masses.now in
    let mid = c.apply_rule.new.branches in
    let half = c.apply_rule.new.pairs in
    let ready = ready_next seen true named node count begin within R1b R2 refl refl refl old mid pairs half before
    distances apart c.apply_rule.ensures.taken in
    let known = keys_stay seen true named node count begin within (R1a ∷ []) R1b refl old mid pairs half before distances
    apart c.apply_rule.ensures.taken seen.mass masses heavy in
    ready_next seen true named node count begin within R2 R3 refl refl refl mid c.apply_rule-else-apply_rule.new.branches half
    c.apply_rule-else-apply_rule.new.pairs (ready.stands (sym c.apply_rule.ensures.all ∙ c.if-apply_rule.false)) masses known
    c.apply_rule-else-apply_rule.ensures.taken

pub returns-else-apply_rule-clause-unresolved : goal.returns-else-apply_rule-clause-unresolved
returns-else-apply_rule-clause-unresolved g c = fewer_still c.args.branches.now c.apply_rule.new.branches c.apply_rule-else-apply_rule.new.branches
    c.apply_rule.ensures.unresolved c.apply_rule-else-apply_rule.ensures.unresolved

pub apply_rule-requires-else-apply_rule-clause-keyed : goal.apply_rule-requires-else-apply_rule-clause-keyed
apply_rule-requires-else-apply_rule-clause-keyed g c =
    subst (AreKeyed (g.M.Keyed.nodes c.args.masses.now)) (sym c.apply_rule.ensures.place_tree) c.requires.masses_keyed

pub returns-then-apply_rule-clause-unresolved : goal.returns-then-apply_rule-clause-unresolved
returns-then-apply_rule-clause-unresolved g c = c.apply_rule.ensures.unresolved

pub returns-then-apply_rule-clause-followed : goal.returns-then-apply_rule-clause-followed
returns-then-apply_rule-clause-followed g c = c.apply_rule.ensures.followed

pub returns-then-apply_rule-clause-place_tree : goal.returns-then-apply_rule-clause-place_tree
returns-then-apply_rule-clause-place_tree g c = c.apply_rule.ensures.place_tree
