use Rattle.cip_laws.proofs.lemmas.senses.ExchangedLigands as law
use Rattle.cip_laws.proofs.drawings.geometry.exchange_turns_centres.Goals as goal

pub returns : goal.returns
returns c = law.exchange_turns_centres
