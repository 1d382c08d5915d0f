use Rattle.std.proofs.Common.{All, arith, subst, sym}
use Rattle.cip_undefined.proofs.lemmas.FitPairs.{IsFitPair, pairs_fit}
use Rattle.cip_undefined.proofs.ties.is_firm.Goals as goal

pub is_tied-requires : goal.is_tied-requires
is_tied-requires g c = record {
  fit = subst (All (IsFitPair c.args.setting.now.graph)) (sym c.loop-pair.invariant.items)
      (pairs_fit c.args.setting.now.graph c.args.site.now c.requires.fit) c.loop-pair.pair-index _
      (omega (arith, c.loop-pair-test.true, c.loop-pair.auto.pair-index-end));
}
