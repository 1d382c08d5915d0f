use Rattle.std.proofs.Common.{◌≡◌, drop}
use Rattle.std.specs.List.{list_any}
use Rattle.cip_edit.specs.Answers.{is_too_high}
use Rattle.cip_edit.proofs.mirror.has_too_high.Given as goal

abbrev pub invariant-loop-atom : goal.invariant-loop-atom
invariant-loop-atom l = list_any is_too_high (drop l.atom-index l.atoms) ≡ list_any is_too_high l.atoms
