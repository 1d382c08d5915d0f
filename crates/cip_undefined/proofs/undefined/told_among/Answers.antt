use Rattle.std.proofs.Common.{◌∙◌, All, subst, sym}
use Rattle.cip_undefined.proofs.lemmas.FitPairs.{IsFitUnit, found_fit, listed_fit}
use Rattle.cip_undefined.proofs.undefined.told_among.Goals as goal

pub found_among-requires : goal.found_among-requires
found_among-requires g c = record {
  fit = listed_fit c.args.setting.now c.units.ensures.proper c.as_slice-units.result.now
      (c.as_slice-units.ensures ∙ c.units.ensures.value);
}

pub tell_dependent-requires : goal.tell_dependent-requires
tell_dependent-requires g c =
    let setting = c.args.setting.now in
    let units = c.as_slice-units.result.now in
    record {
      fit = subst (All (IsFitUnit setting.graph)) (sym (c.deref_mut.ensures.value ∙ c.in_ok-found.ensures.found))
          (found_fit setting c.args.labeller.now units
          (listed_fit setting c.units.ensures.proper units (c.as_slice-units.ensures ∙ c.units.ensures.value)));
    }
