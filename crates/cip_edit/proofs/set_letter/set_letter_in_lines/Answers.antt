use Rattle.cip_edit.proofs.lemmas.SetReads.{few_of}
use Rattle.cip_edit.proofs.set_letter.set_letter_in_lines.Goals as goal

pub returns-clause-few : goal.returns-clause-few
returns-clause-few g c =
    few_of c.args.rules c.args.labeller.now c.args.atom c.args.letter c.args.lines.now c.set_lines.result
    c.set_lines.ensures.answer
