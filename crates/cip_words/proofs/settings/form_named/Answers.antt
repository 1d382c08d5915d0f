use Rattle.cip_words.proofs.settings.form_named.Goals as goal

pub returns : goal.returns
returns c = c.form_of.ensures
