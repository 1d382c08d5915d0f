use Rattle.std.proofs.Common.{map, sym, ap, ◌∙◌}
use Rattle.std.specs.Option.{option_map}
use Rattle.cip_words.proofs.lemmas.NamedForms.{form_found, no_form, no_words}
use Rattle.cip_words.proofs.settings.read_words.Goals as goal

pub returns-in_default-clause-meant : goal.returns-in_default-clause-meant
returns-in_default-clause-meant c = no_words c.args.words.now c.in_default.len_below

pub returns-in-None-clause-meant : goal.returns-in-None-clause-meant
returns-in-None-clause-meant c =
    let none = ap (option_map (λ form. (form.0.now, form.1, map (λ choice. (choice.0.now, choice.1)) form.2.now)))
    (sym c.in-None.is) ∙ c.form_named.ensures in
    no_form c.as_bytes.result.now c.args.words.now c.name-item.result
    c.in-len1-up.len_at_least c.name-item.is c.as_bytes.ensures.value none

pub returns-in-Some-clause-meant : goal.returns-in-Some-clause-meant
returns-in-Some-clause-meant c =
    let found = ap (option_map (λ form. (form.0.now, form.1, map (λ choice. (choice.0.now, choice.1)) form.2.now)))
    (sym c.in-Some.is) ∙ c.form_named.ensures in
    c.asked_by.ensures.meant ∙ form_found c.as_bytes.result.now c.args.words.now c.name-item.result _
    c.in-len1-up.len_at_least c.name-item.is c.as_bytes.ensures.value found
