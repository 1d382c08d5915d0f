use Rattle.cip_laws.proofs.lemmas.senses.ExchangedAtEnd as law
use Rattle.cip_laws.proofs.drawings.geometry.exchange_turns_axes.Goals as goal

pub returns : goal.returns
returns c = law.exchange_turns_axes
