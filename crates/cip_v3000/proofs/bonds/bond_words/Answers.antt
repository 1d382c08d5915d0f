use Rattle.cip_v3000.proofs.lemmas.PlacedWords.{bond_words_are}
use Rattle.cip_v3000.proofs.bonds.bond_words.Goals as goal

pub returns-in-Some-next_number-3-clause-some : goal.returns-in-Some-next_number-3-clause-some
returns-in-Some-next_number-3-clause-some c =
    bond_words_are _ _ _ _ _ c.in-Some.ensures.some c.in-Some-next_number.ensures.some
    c.in-Some-next_number-2.ensures.some c.in-Some-next_number-3.ensures.some
