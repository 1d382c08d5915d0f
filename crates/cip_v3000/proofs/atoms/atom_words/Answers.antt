use Rattle.cip_v3000.proofs.lemmas.PlacedWords.{atom_words_are}
use Rattle.cip_v3000.proofs.atoms.atom_words.Goals as goal

pub returns-in-Some-next_word-2-clause-some : goal.returns-in-Some-next_word-2-clause-some
returns-in-Some-next_word-2-clause-some c =
    atom_words_are _ _ _ _ _ c.in-Some.ensures.some c.in-Some-next_word.ensures.some c.in-Some-next_point.ensures.some
    c.in-Some-next_word-2.ensures.some
