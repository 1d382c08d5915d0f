use Rattle.std.proofs.Common.{length, ap, arith}
use Rattle.cip_make.specs.Chains.{branch_of}
use Rattle.cip_make.proofs.lemmas.Words.{next, few_more, last}
use Rattle.cip_make.proofs.chain.branches.Goals as goal

pub loop-at-preserved : goal.loop-at-preserved
loop-at-preserved c =
    let added = c.in-Ok-push_branch.ensures in
    record {
      so_far = next c.args.chain c.loop-at.at c.next_word-word.result c.loop-at.generator c.next_word-word.new.self
          c.loop-at.found.items c.push_branch.new.found.items _
          (omega (arith, c.loop-at-test.true)) c.next_word-word.ensures added
          c.loop-at.invariant.so_far;
      few =
          omega (
            arith,
            ap length added,
            few_more (branch_of c.loop-at.at c.next_word-word.result) c.loop-at.found.items,
            c.loop-at.invariant.few,
          );
    }

pub returns-clause-made : goal.returns-clause-made
returns-clause-made c =
    last c.args.chain c.loop-at.at c.loop-at.generator c.loop-at.found.items _
    (omega (arith, c.loop-at-test.false)) c.loop-at.invariant.so_far

pub returns-clause-few : goal.returns-clause-few
returns-clause-few c =
    omega (arith, c.requires.least, c.requires.most, c.loop-at.invariant.few, c.loop-at.auto.at, c.loop-at.auto.at-end)
