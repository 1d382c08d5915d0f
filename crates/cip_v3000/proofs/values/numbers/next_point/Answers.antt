use Rattle.cip_v3000.proofs.lemmas.PlacedWords.{point_words_are}
use Rattle.cip_v3000.proofs.values.numbers.next_point.Goals as goal

pub returns-in-Some-next_coordinate-2-clause-some : goal.returns-in-Some-next_coordinate-2-clause-some
returns-in-Some-next_coordinate-2-clause-some c =
    point_words_are _ _ _ _ _ _ _ _ c.in-Some.ensures.some c.in-Some-next_coordinate.ensures.some
    c.in-Some-next_coordinate-2.ensures.some
    c.point.ensures.value c.point.ensures.nearer
