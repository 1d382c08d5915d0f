use Rattle.std.proofs.Common.{◌≡◌, ◌∙◌, arith, inl, inr, length, subst, true}
use Rattle.std.proofs.lemmas.Bool.{cases_lt}
use Rattle.std.specs.List.{AllByRecursion}
use Rattle.cip_mol.specs.declared.labels.outcome.Rule.TheVariants.{R4b}
use Rattle.cip_branches.specs.Standing.{node_in}
use Rattle.cip_digraph.specs.Asking.{AreWithin}
use Rattle.cip_rules.specs.Orders.{decided_by}
use Rattle.cip_rules.proofs.lemmas.ReadingsFound.{readings_found, none_asked}
use Rattle.cip_rules.proofs.generic.apply_rule_4b_to_nodes.Goals as goal

pub returns-clause-found : goal.returns-clause-found
returns-clause-found g c =
    let descriptors = c.args.descriptors.now in
    let from = c.args.branches.now in
    let seen = g.M.NodeDescriptors.seen descriptors in
    let r = c.requires in
    let took = c.take_both.ensures in
    elim (cases_lt 0 (length from.layers.place_tree.place_parents)) [
      | inl some ↦
          readings_found seen (g.M.NodeDescriptors.named descriptors) from r.followed (took.may some) r.stands r.ended r.tall
          (g.M.DescriptorMap.descriptors descriptors) r.same c.args.pairs.now c.take_both.new.pairs r.within (took.taken some)
      | inr none ↦
          let no_place : length from.layers.place_tree.place_parents ≡ 0 = omega (arith, none) in
          let tops = took.tops in
          let no_branch : length from.unresolved ≡ 0 = omega (arith, tops, no_place) in
          took.none no_place
          ∙ none_asked (decided_by seen true R4b (node_in (g.M.NodeDescriptors.named descriptors) from)) c.args.pairs.now
          (subst (λ n. AllByRecursion (AreWithin n) c.args.pairs.now) no_branch r.within)
    ]

pub take_both-requires-clause-keyed : goal.take_both-requires-clause-keyed
take_both-requires-clause-keyed g c = c.requires.keyed
