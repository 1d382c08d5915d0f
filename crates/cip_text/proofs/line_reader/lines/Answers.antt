use Rattle.std.proofs.Common.{arith, rules, ◌≡◌, ◌∙◌, [], ap, append-nil, length, length-append, refl, sym}
use Rattle.cip_text.proofs.lemmas.Firsts.{lines_join}
use Rattle.cip_text.proofs.lemmas.PlacedLines.{few_lines, next_placed}
use Rattle.cip_text.specs.Lines.{lines_of}
use Rattle.cip_text.specs.Places.{places_of}
use Rattle.cip_text.proofs.lemmas.Standing.{places_within}
use Rattle.cip_text.proofs.line_reader.lines.Goals as goal

pub returns-clause-places : goal.returns-clause-places
returns-clause-places c =
    let done : c.loop-line.rest.now ≡ [] = search rules in
    sym (append-nil c.loop-line.lines) ∙ (rw done at c.loop-line.invariant.0)

pub returns-clause-within : goal.returns-clause-within
returns-clause-within c =
    let done : c.loop-line.rest.now ≡ [] = search rules in
    let all : c.loop-line.lines ≡ places_of c.args.bytes.now =
    sym (append-nil c.loop-line.lines) ∙ (rw done at c.loop-line.invariant.0) in
    rw all (places_within c.args.bytes.now)

pub loop-line-preserved : goal.loop-line-preserved
loop-line-preserved c =
    next_placed c.loop-line.lines _ c.loop-line.start _ c.in-Some.line.now (lines_of c.loop-line.rest.now)
    (lines_of c.in-Some.behind.now) c.place_at-place.result _ c.in-Some.ensures.lines c.place_at-place.ensures
    c.in-Ok.ensures.added c.loop-line.invariant.0 c.loop-line.invariant.1 c.loop-line.invariant.2

pub loop-line-smaller : goal.loop-line-smaller
loop-line-smaller c =
    omega (
      arith,
      ap length c.in-Some.ensures.joined,
      length-append c.in-Some.line.now c.in-Some.behind.now,
      c.in-Some.ensures.some,
    )

pub place_at-place-requires : goal.place_at-place-requires
place_at-place-requires c =
    omega (
      arith,
      ap length c.in-Some.ensures.joined,
      length-append c.in-Some.line.now c.in-Some.behind.now,
      ap length (lines_join c.loop-line.rest.now),
      c.loop-line.invariant.1,
      c.requires,
    )

pub loop-line-init : goal.loop-line-init
loop-line-init c = rw c.new-lines.ensures (
  refl,
  omega (arith, ap length (lines_join c.args.bytes.now)),
  omega (arith, few_lines c.args.bytes.now),
)
