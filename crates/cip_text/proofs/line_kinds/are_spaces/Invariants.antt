use Rattle.std.proofs.Common.{◌≡◌, drop}
use Rattle.cip_text.specs.Kinds.{are_spaces}
use Rattle.cip_text.proofs.line_kinds.are_spaces.Given as goal

abbrev pub invariant-loop-byte : goal.invariant-loop-byte
invariant-loop-byte l = are_spaces (drop l.byte-index l.text) ≡ are_spaces l.text
