use Rattle.std.proofs.Common.{refl}
use Rattle.cip_print.specs.Values.{values_of}
use Rattle.cip_answer.specs.Answers.{answer_by}
use Rattle.cip_commands.specs.Telling.{annotated}
use Rattle.cip_laws.proofs.program.runs.records_come_back.Goals as goal

pub returns : goal.returns
unfolding annotated
returns c = λ rules nodes bytes. record { values = values_of nodes rules (answer_by rules nodes bytes); put = refl }
