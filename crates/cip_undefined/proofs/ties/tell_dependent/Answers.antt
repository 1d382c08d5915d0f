use Rattle.std.proofs.Common.{All, subst, sym}
use Rattle.cip_label.specs.Fitting.{IsFitSite}
use Rattle.cip_undefined.proofs.lemmas.FitPairs.{tied_fit}
use Rattle.cip_undefined.proofs.ties.tell_dependent.Goals as goal

pub settle-requires : goal.settle-requires
settle-requires g c = record {
  fit = subst (All (IsFitSite c.args.setting.now.graph)) (sym c.in_ok-sites.ensures)
      (tied_fit c.args.setting.now.graph c.args.found.now c.requires.fit);
}
