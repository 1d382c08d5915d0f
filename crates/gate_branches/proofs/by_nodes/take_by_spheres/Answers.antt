use Rattle.std.proofs.Common.{◌≡◌, ◌+◌, ℕ, suc, ◌∙◌, subst, arith, true}
use Rattle.cip_mol.specs.declared.labels.outcome.Rule.TheVariants.{R1b}
use Rattle.cip_branches.specs.Standing.{IsTaken}
use Rattle.cip_rules.specs.Orders.{key_by, order_before}
use Rattle.gate_branches.specs.Digraphs.{itself, seen_of}
use Rattle.gate_branches.proofs.lemmas.RankedInTurn.{total_before}
use Rattle.gate_branches.proofs.by_nodes.take_by_spheres.Goals as goal

pub next_rule_by-requires-clause-total : goal.next_rule_by-requires-clause-total
next_rule_by-requires-clause-total c = total_before c.args.digraph.now R1b

pub deepen_by-requires-clause-total : goal.deepen_by-requires-clause-total
deepen_by-requires-clause-total c = total_before c.args.digraph.now R1b

pub loop-far-preserved : goal.loop-far-preserved
loop-far-preserved c =
    let seen = seen_of c.args.digraph.now in
    let next : suc c.loop-far.far ≡ c.loop-far.far + 1 = omega arith in
    record {
      followed = c.deepen_by.ensures.followed;
      last = c.deepen_by.ensures.last ∙ c.loop-far.invariant.last;
      taken = subst (λ (far : ℕ). IsTaken seen.children itself (order_before seen true R1b) (key_by seen true R1b) far
          c.deepen_by.new.self) next c.deepen_by.ensures.taken;
    }
