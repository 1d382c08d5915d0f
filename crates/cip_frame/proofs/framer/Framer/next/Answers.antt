use Rattle.std.proofs.Common.{arith, ◌≤◌, length, subst, All}
use Rattle.std.proofs.lemmas.Grind.{common_steps}
use Rattle.std.proofs.lemmas.List.Elements.{All-tail}
use Rattle.cip_frame.proofs.framer.Framer.next.Goals as goal

pub invariant_of-self-2 : goal.invariant_of-self-2
invariant_of-self-2 c = (
  c.self.invariant.0,
  c.self.invariant.1,
  c.self.invariant.2,
  All-tail (λ bytes. length bytes ≤ c.self.inside.limit) c.in_ok-bytes.bytes c.pop_front.new.self.items
      (subst (All (λ bytes. length bytes ≤ c.self.inside.limit)) c.in_ok-bytes.ensures.items c.self.invariant.3),
)

pub returns-clause-handed_front : goal.returns-clause-handed_front
returns-clause-handed_front c = grind (arith, common_steps)

pub returns-clause-handed_before : goal.returns-clause-handed_before
returns-clause-handed_before c = grind (arith, common_steps)

pub returns-clause-handed : goal.returns-clause-handed
returns-clause-handed c = grind (arith, common_steps)
