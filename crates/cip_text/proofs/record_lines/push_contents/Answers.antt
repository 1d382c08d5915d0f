use Rattle.std.proofs.Common.{◌++◌, ◌∷◌, [], ◌∙◌, Bor, List, ℕ, ap, arith, length, length-append, sym}
use Rattle.std.proofs.lemmas.List.{map-append}
use Rattle.cip_text.specs.Slices.{texts}
use Rattle.cip_text.proofs.lemmas.Halves.{content_more}
use Rattle.cip_text.proofs.record_lines.push_contents.Goals as goal

pub loop-line-preserved : goal.loop-line-preserved
loop-line-preserved c =
    let before = c.loop-line.contents.items in
    let line = c.in-Some.line.now in
    let added = ap texts c.in-Ok.ensures.items
    ∙ map-append (λ (slice : Bor (List ℕ)). slice.now) before (c.trim_line_end.result ∷ [])
    ∙ ap (λ content. texts before ++ content ∷ []) c.trim_line_end.ensures in
    let more = ap length c.in-Ok.ensures.items ∙ length-append before (c.trim_line_end.result ∷ []) in
    record {
      so_far = content_more c.loop-line.rest.now line c.in-Some.behind.now (texts before) (texts c.push.new.self.items) _
          c.in-Some.ensures.line added c.loop-line.invariant.so_far;
      closing = sym c.in-Some.ensures.closing ∙ c.loop-line.invariant.closing;
      few = omega (arith, more, c.in-Some.ensures.whole, c.in-Some.ensures.some, c.loop-line.invariant.few);
    }
