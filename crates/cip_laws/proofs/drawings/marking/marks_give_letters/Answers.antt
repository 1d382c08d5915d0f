use Rattle.cip_edit.proofs.lemmas.GivenLetters.{letters_given}
use Rattle.cip_laws.proofs.drawings.marking.marks_give_letters.Goals as goal

pub returns : goal.returns
returns c = λ rules nodes drawing atom requested marked sound answered.
    letters_given rules nodes drawing atom requested sound marked answered
