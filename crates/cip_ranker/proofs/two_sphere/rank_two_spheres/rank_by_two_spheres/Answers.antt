use Rattle.std.proofs.Common.{rules, ◌≡◌, ◌∙◌, true, sym}
use Rattle.cip_ranker.proofs.lemmas.EarlyRoots.{told_ranked}
use Rattle.cip_ranker.proofs.two_sphere.rank_two_spheres.rank_by_two_spheres.Goals as goal

pub returns-in-Ok-clause-ranked : goal.returns-in-Ok-clause-ranked
returns-in-Ok-clause-ranked c node_data =
    let rooted = c.args.rooted.now in
    let yes : c.in-Ok-true.field-0 ≡ true = search rules in
    let noted = c.noted.ensures ∙ c.tell-node_data.ensures.noted (c.in-Ok-true.is ∙ node_data) in
    told_ranked rooted.setting.now rooted.root rooted.ligands.now rooted.proper.sound c.requires.fit
    rooted.bound (sym c.in-Ok-true.ensures.node_data ∙ yes) c.set_decisions.new.self
    (c.in-Ok.ensures.natural ∙ noted) (c.in-Ok.ensures.turned ∙ noted)
