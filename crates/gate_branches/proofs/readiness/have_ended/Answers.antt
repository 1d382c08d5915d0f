use Rattle.std.proofs.Common.{arith}
use Rattle.std.proofs.lemmas.Grind.{common_steps}
use Rattle.cip_branches.proofs.lemmas.taken.Rules.{ended_before}
use Rattle.gate_branches.specs.Digraphs.{itself, seen_of}
use Rattle.gate_branches.proofs.readiness.have_ended.Goals as goal

pub returns-then-first-len : goal.returns-then-first-len
returns-then-first-len c same = record {
  ended = ended_before (seen_of c.args.digraph.now).children itself c.args.branches.now c.requires.followed
      (grind (arith, common_steps));
  last = grind (arith, common_steps);
}
