use Rattle.std.proofs.Common.{refl}
use Rattle.cip_batch.specs.Limits.{limit_place}
use Rattle.cip_laws.proofs.program.runs.worked_streams_are_given.Goals as goal

pub returns : goal.returns
unfolding limit_place
returns c = record {
  none = refl;
  blank = refl;
  blank_unexplained = refl;
  fits = refl;
  long_record = refl;
  long_input = refl;
  second_record = refl;
  before_limit = refl;
  records = refl;
  tail = refl;
}
