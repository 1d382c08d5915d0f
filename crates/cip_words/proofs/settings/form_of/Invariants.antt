use Rattle.std.proofs.Common.{◌≡◌, drop, map}
use Rattle.cip_words.specs.Settings.{form_of}
use Rattle.cip_words.proofs.settings.form_of.Given as goal

abbrev pub invariant-loop-form : goal.invariant-loop-form
invariant-loop-form l =
    form_of l.name
    (map (λ form. (form.0.now, form.1, map (λ choice. (choice.0.now, choice.1)) form.2.now)) (drop l.form-index l.forms))
    ≡ form_of l.name (map (λ form. (form.0.now, form.1, map (λ choice. (choice.0.now, choice.1)) form.2.now)) l.forms)
