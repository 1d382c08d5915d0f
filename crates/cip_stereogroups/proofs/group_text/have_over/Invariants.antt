use Rattle.std.proofs.Common.{◌≡◌, drop}
use Rattle.std.specs.List.{list_any}
use Rattle.cip_stereogroups.specs.declared.group_outcomes.GroupLine.{GroupLine}
use Rattle.cip_stereogroups.specs.Texts.{some_over}
use Rattle.cip_stereogroups.proofs.group_text.have_over.Given as goal

abbrev pub invariant-loop-line : goal.invariant-loop-line
invariant-loop-line l =
    list_any (λ (line : GroupLine). some_over line.outcomes) (drop l.line-index l.lines)
    ≡ list_any (λ (line : GroupLine). some_over line.outcomes) l.lines
