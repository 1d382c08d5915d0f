use Rattle.std.proofs.Common.{◌≡◌, ◌++◌, ◌+◌, ◌∙◌, sym, ap, take, Err}
use Rattle.std.specs.List.{take_while}
use Rattle.cip_frame.specs.Records.{cut_of}
use Rattle.cip_frame.specs.Framing.{all_fit, fits}
use Rattle.gate_cases.proofs.lemmas.JoinedPieces.{joined, one_more, passed_by_all}
use Rattle.gate_cases.proofs.stream_parts.pieces.records_of_pieces.Goals as goal

pub returns-in-Err-clause-too_long : goal.returns-in-Err-clause-too_long
returns-in-Err-clause-too_long c = λ h.
    let at = c.loop-piece in
    let pieces = c.args.pieces.now in
    let fed = joined (take at.piece-index pieces) in
    let now : joined (take (at.piece-index + 1) pieces) ≡ fed ++ c.deref.result.now =
    one_more pieces at.piece-index c.piece-item.result c.loop-piece-test.true c.piece-item.is
    ∙ ap (λ xs. fed ++ xs) (sym c.deref.ensures.value) in
    let passed = c.in-Err.ensures.passed at.records.items fed at.invariant.0 (ap Err h) in
    let limit = c.in-Err.ensures.limit ∙ at.invariant.2 in
    ap (λ limit. all_fit limit (cut_of (joined pieces))) (sym limit)
    ∙ (passed_by_all pieces (at.piece-index + 1) at.records.items
    (fed ++ c.deref.result.now) c.feed-fed.new.self now passed).0

pub returns-in-Err-clause-before : goal.returns-in-Err-clause-before
returns-in-Err-clause-before c = λ h.
    let at = c.loop-piece in
    let pieces = c.args.pieces.now in
    let fed = joined (take at.piece-index pieces) in
    let now : joined (take (at.piece-index + 1) pieces) ≡ fed ++ c.deref.result.now =
    one_more pieces at.piece-index c.piece-item.result c.loop-piece-test.true c.piece-item.is
    ∙ ap (λ xs. fed ++ xs) (sym c.deref.ensures.value) in
    let passed = c.in-Err.ensures.passed at.records.items fed at.invariant.0 (ap Err h) in
    let limit = c.in-Err.ensures.limit ∙ at.invariant.2 in
    c.in_ok-hand_out.ensures.before (fed ++ c.deref.result.now) passed
    ∙ (passed_by_all pieces (at.piece-index + 1) at.records.items
    (fed ++ c.deref.result.now) c.feed-fed.new.self now passed).1
    ∙ ap (λ limit. take_while (fits limit) (cut_of (joined pieces)).whole) limit

pub loop-piece-preserved : goal.loop-piece-preserved
loop-piece-preserved c =
    let at = c.loop-piece in
    let fed = joined (take at.piece-index c.args.pieces.now) in
    let now : joined (take (at.piece-index + 1) c.args.pieces.now) ≡ fed ++ c.deref.result.now =
    one_more c.args.pieces.now at.piece-index c.piece-item.result c.loop-piece-test.true c.piece-item.is
    ∙ ap (λ xs. fed ++ xs) (sym c.deref.ensures.value) in
    let holds = c.in_ok-hand_out.ensures.all (fed ++ c.deref.result.now)
    (c.in_default.ensures.fed at.records.items fed at.invariant.0) in (
      rw now holds,
      c.in_ok-hand_out.ensures.none_waits,
      c.in_ok-hand_out.ensures.limit ∙ c.in_default.ensures.limit
          ∙ at.invariant.2,
    )
