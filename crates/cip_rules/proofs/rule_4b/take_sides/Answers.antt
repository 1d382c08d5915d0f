use Rattle.std.proofs.Common.{◌≡◌, ◌≤◌, List, length, sym, ap, ◌∙◌, subst, arith}
use Rattle.std.specs.Vec.{with_items}
use Rattle.std.proofs.lemmas.List.{with_items_is}
use Rattle.cip_mol.specs.declared.labels.outcome.Rule.TheVariants.{R4b}
use Rattle.cip_branches.specs.Twins.{twins_of}
use Rattle.cip_partition.specs.ReservedList.{ReservedList}
use Rattle.cip_digraph.specs.declared.decisions.branch_pair.BranchPair.{BranchPair}
use Rattle.cip_rules.specs.Taking.{TakesRule}
use Rattle.cip_rules.proofs.rule_4b.take_sides.Goals as goal
use Rattle.cip_rules.proofs.rule_4b.take_sides.Goals.{After-take_again}

-- the pairs that were asked about, as the column holds them
held : (g : _) (c : After-take_again g)
    → (with_items c.sides.inside.items c.take_again.new.pairs).items ≡ c.take_again.new.pairs
held g c = with_items_is c.sides.inside.items c.take_again.new.pairs
    (c.take_again.auto.pairs ∙ c.deref_mut.ensures.len)

pub take_again-requires-clause-aside : goal.take_again-requires-clause-aside
take_again-requires-clause-aside g c = c.requires.aside

pub take_again-requires-clause-keyed : goal.take_again-requires-clause-keyed
take_again-requires-clause-keyed g c = c.requires.keyed

pub invariant_of-sides : goal.invariant_of-sides
invariant_of-sides g c =
    let at = (goal.at.invariant_of-sides g c).After-take_again in
    let fits : length c.sides.inside.items.items ≤ c.sides.inside.room = c.sides.invariant.1 in
    let long = c.take_again.auto.pairs ∙ ap (λ (all : List BranchPair). length all) c.deref_mut.ensures.value in (
      c.sides.invariant.0,
      subst (λ (all : List BranchPair). length all ≤ c.sides.inside.room) (sym (held g at)) (omega (arith, fits, long)),
      c.sides.invariant.2,
    )

pub returns-clause-taken : goal.returns-clause-taken
returns-clause-taken g c =
    let at = (goal.at.returns-clause-taken g c).After-take_again in
    let begin = twins_of c.take_again.new.twins.layers.place_tree.room c.args.branches.now in
    let keys = g.K.Keyed.key c.args.keys.now in
    let read = c.deref_mut.ensures.value ∙ ap (λ (r : ReservedList BranchPair). r.items) c.sides.view_is in
    subst (λ (new : List BranchPair). TakesRule begin keys R4b c.args.sides.now.items c.take_again.new.twins new)
    (sym (held g at))
    (subst (λ (old : List BranchPair). TakesRule begin keys R4b old c.take_again.new.twins c.take_again.new.pairs) read
    c.take_again.ensures.taken)

pub returns-clause-aside : goal.returns-clause-aside
returns-clause-aside g c = c.take_again.ensures.aside

pub returns-clause-place_tree : goal.returns-clause-place_tree
returns-clause-place_tree g c = c.take_again.ensures.place_tree

pub returns-clause-room : goal.returns-clause-room
returns-clause-room g c = ap (λ (r : ReservedList BranchPair). r.room) c.sides.view_is
