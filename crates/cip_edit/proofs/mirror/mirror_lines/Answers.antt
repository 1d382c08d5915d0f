use Rattle.cip_edit.proofs.lemmas.MirrorReads.{few_of}
use Rattle.cip_edit.proofs.mirror.mirror_lines.Goals as goal

pub returns-clause-few : goal.returns-clause-few
returns-clause-few c = few_of c.args.lines.now c.answer_lines.result c.answer_lines.ensures
