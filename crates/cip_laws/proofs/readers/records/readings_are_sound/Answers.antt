use Rattle.cip_laws.proofs.lemmas.lines.Reading.{readings_are_sound}
use Rattle.cip_laws.proofs.readers.records.readings_are_sound.Goals as goal

pub returns : goal.returns
returns c = readings_are_sound
