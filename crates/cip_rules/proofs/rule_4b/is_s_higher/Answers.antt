use Rattle.std.proofs.Common.{◌≡◌, ◌<◌, ◌==◌, ◌∙◌, ℕ, List, false, get_or, length, refl, sym, ap}
use Rattle.std.specs.Ordering.{is_lt, ordering_index}
use Rattle.std.specs.declared.cmp.Ordering.{Ordering}
use Rattle.std.specs.declared.cmp.Ordering.TheVariants.{Less, Equal, Greater}
use Rattle.std.proofs.lemmas.List.{get_or-map}
use Rattle.cip_partition.specs.Parting.{has_flag}
use Rattle.cip_digraph.specs.declared.decisions.branch_pair.BranchPair.{BranchPair}
use Rattle.cip_rules.specs.Rule4bWorkspace.{is_second, s_higher}
use Rattle.cip_rules.proofs.rule_4b.is_s_higher.Goals as goal

flag_is : (sides : List BranchPair) (branch : ℕ) (d : BranchPair) → branch < length sides
    → has_flag (s_higher sides) branch ≡ is_second (get_or sides branch d).decision
flag_is sides branch d within = get_or-map (λ (one : BranchPair). is_second one.decision) sides branch d false within

is_less : (side : Ordering) → (ordering_index side == 0) ≡ is_lt side
is_less Less = refl
is_less Equal = refl
is_less Greater = refl

pub returns-in-Some : goal.returns-in-Some
returns-in-Some c = c.eq.ensures ∙ is_less c.in-Some.found.side
    ∙ sym (flag_is c.args.sides.now c.args.branch _ c.if-branch-sides.true ∙ ap is_second c.in-Some.is)

pub returns-in-None : goal.returns-in-None
returns-in-None c = sym (flag_is c.args.sides.now c.args.branch _ c.if-branch-sides.true ∙ ap is_second c.in-None.is)
