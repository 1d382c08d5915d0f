use Rattle.cip_edit.proofs.lemmas.SetMarks.{down_found, down_known, sense, up_known}
use Rattle.cip_laws.proofs.drawings.marking.eligible_marks_show_senses.Goals as goal

pub returns : goal.returns
returns c = λ drawing atom neighbour sound centre flat clear first. record {
  sense = sense drawing atom neighbour sound centre flat clear first;
  up = up_known drawing atom neighbour sound centre flat clear first;
  down = down_known drawing atom neighbour sound centre flat clear first;
  letters = λ rules bound. down_found drawing atom neighbour sound centre flat clear first rules bound;
}
