use Rattle.std.proofs.Common.{◌≡◌, length}
use Rattle.cip_text.specs.Columns.{without_spaces_before}
use Rattle.cip_ctfile.proofs.fast_path.trim_start_spaces.Given as goal

abbrev pub invariant-loop-rest : goal.invariant-loop-rest
invariant-loop-rest l = without_spaces_before l.rest ≡ without_spaces_before l.text

abbrev pub decreases-loop-rest : goal.decreases-loop-rest
decreases-loop-rest l = length l.rest
