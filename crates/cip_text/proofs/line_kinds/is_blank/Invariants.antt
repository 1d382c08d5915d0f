use Rattle.std.proofs.Common.{◌≡◌, drop}
use Rattle.cip_text.specs.Kinds.{is_blank}
use Rattle.cip_text.proofs.line_kinds.is_blank.Given as goal

abbrev pub invariant-loop-byte : goal.invariant-loop-byte
invariant-loop-byte l = is_blank (drop l.byte-index l.content) ≡ is_blank l.content
