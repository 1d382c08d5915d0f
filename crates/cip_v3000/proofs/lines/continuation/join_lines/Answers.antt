use Rattle.std.proofs.Common.{◌∙◌, ◌∷◌, [], sym, arith, map}
use Rattle.std.proofs.lemmas.Grind.{common_steps}
use Rattle.std.proofs.lemmas.List.{map-append}
use Rattle.std.proofs.lemmas.List.Elements.{All-push}
use Rattle.cip_v3000.specs.JoinedLines.{logical_lines}
use Rattle.cip_v3000.specs.Joining.{seen, IsNumbered}
use Rattle.cip_v3000.proofs.lemmas.Joined.{line_refused, line_continued, line_whole}
use Rattle.cip_v3000.proofs.lines.continuation.join_lines.Goals as goal

pub returns-then-not-begins_v30-clause-value : goal.returns-then-not-begins_v30-clause-value
returns-then-not-begins_v30-clause-value c =
    line_refused (map seen c.loop-place.found.items) c.args.lines.now c.loop-place.first c.loop-place.place _ _
    c.loop-place.invariant.first c.loop-place-test.true
    (sym c.begins_v30.ensures ∙ c.if-not-begins_v30.true) c.loop-place.invariant.so_far

pub loop-place-preserved-then-not-is_continued : goal.loop-place-preserved-then-not-is_continued
loop-place-preserved-then-not-is_continued c = record {
  so_far = rw (c.in-Ok.ensures.items, map-append seen c.loop-place.found.items (c.joined_line.result ∷ []))
      (line_whole (map seen c.loop-place.found.items) c.args.lines.now c.loop-place.first c.loop-place.place _
      (seen c.joined_line.result) _
      c.loop-place.invariant.first c.loop-place-test.true (sym c.begins_v30.ensures ∙ c.if-not-begins_v30.false)
      (sym c.is_continued.ensures ∙ c.if-not-is_continued.true) c.joined_line.ensures.value
      c.loop-place.invariant.so_far);
  numbered =
      rw c.in-Ok.ensures.items
      (All-push IsNumbered _ _ c.loop-place.invariant.numbered c.joined_line.ensures.numbered);
  first = omega arith;
}

pub loop-place-preserved : goal.loop-place-preserved
loop-place-preserved c = record {
  so_far = line_continued (map seen c.loop-place.found.items) c.args.lines.now c.loop-place.first c.loop-place.place _ _
      c.loop-place.invariant.first c.loop-place-test.true (sym c.begins_v30.ensures ∙ c.if-not-begins_v30.false)
      (sym c.is_continued.ensures ∙ c.if-not-is_continued.false) c.loop-place.invariant.so_far;
  numbered = c.loop-place.invariant.numbered;
  first = omega (arith, c.loop-place.invariant.first);
}

pub loop-place-init : goal.loop-place-init
unfolding logical_lines
loop-place-init c = grind (arith, common_steps)

pub returns-clause-value : goal.returns-clause-value
unfolding logical_lines
returns-clause-value c = grind (arith, common_steps)
