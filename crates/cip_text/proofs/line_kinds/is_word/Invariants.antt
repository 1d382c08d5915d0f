use Rattle.std.proofs.Common.{◌≡◌, drop}
use Rattle.cip_text.specs.Kinds.{is_word}
use Rattle.cip_text.proofs.line_kinds.is_word.Given as goal

abbrev pub invariant-loop-byte : goal.invariant-loop-byte
invariant-loop-byte l = is_word (drop l.byte-index l.word) l.rest ≡ is_word l.word l.content
