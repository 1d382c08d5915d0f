use Rattle.std.proofs.Common.{rules, ◌≡◌, ◌&&◌, true, ◌∙◌, length, nat_le, ap, sym}
use Rattle.std.specs.List.{list_all}
use Rattle.cip_digraph.specs.digraph.Digraph.{digraph}
use Rattle.cip_digraph.specs.rules.EarlyOrder.{differ_within}
use Rattle.cip_digraph.specs.units.Ends.{end_at}
use Rattle.cip_digraph.specs.Asking.{is_decided}
use Rattle.cip_ranker.specs.RootDecisions.{answers_of, branches_of}
use Rattle.cip_ranker.proofs.lemmas.Answers.{answers_are}
use Rattle.cip_ranker.proofs.lemmas.DifferEarly.{decided_is}
use Rattle.cip_ranker.proofs.two_sphere.two_spheres.TwoSphereRanker.tell.Goals as goal

pub returns-in-Ok-decide_each_pair-clause-noted : goal.returns-in-Ok-decide_each_pair-clause-noted
returns-in-Ok-decide_each_pair-clause-noted c node_data =
    let rooted = c.args.rooted.now in
    c.in-Ok-decide_each_pair.ensures ∙ ap answers_of (c.row.ensures ∙ c.in-Ok.ensures)
    ∙ (λ k. answers_of (branches_of (c.graph.ensures.value k) (c.positions.ensures k) rooted.root
    (c.as_slice-ligands.ensures.value k)))
    ∙ answers_are rooted.setting.now rooted.root rooted.ligands.now

pub returns-in-Ok-decide_each_pair-clause-node_data : goal.returns-in-Ok-decide_each_pair-clause-node_data
returns-in-Ok-decide_each_pair-clause-node_data c =
    let rooted = c.args.rooted.now in
    let setting = rooted.setting.now in
    let noted = c.in-Ok-decide_each_pair.ensures ∙ ap answers_of (c.row.ensures ∙ c.in-Ok.ensures)
    ∙ (λ k. answers_of (branches_of (c.graph.ensures.value k) (c.positions.ensures k) rooted.root
    (c.as_slice-ligands.ensures.value k)))
    ∙ answers_are setting rooted.root rooted.ligands.now in
    let within : c.fits_bound.result ≡ true = search rules in
    let few : nat_le (length (digraph setting.graph setting.positions rooted.root 2)) rooted.bound ≡ true =
    sym (λ k. nat_le (length (digraph (c.graph.ensures.value k) (c.positions.ensures k) rooted.root 2)) rooted.bound)
    ∙ sym c.fits_bound.ensures ∙ within in
    c.all_decided.ensures ∙ ap (list_all is_decided) (c.deref.ensures.value ∙ noted)
    ∙ decided_is setting rooted.root rooted.proper.sound rooted.ligands.now c.requires.fit
    ∙ sym (ap (λ b. b && differ_within setting.rules setting.graph setting.positions setting.units
    (end_at rooted.root rooted.ligands.now) 2) few)
