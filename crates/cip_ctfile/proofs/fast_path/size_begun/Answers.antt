use Rattle.std.proofs.Common.{◌≡◌, ◌<◌, ◌+◌, drop, length, slice_index, arith}
use Rattle.std.proofs.lemmas.List.{take_rest}
use Rattle.cip_ctfile.proofs.lemmas.UsualDecimals.{size_front}
use Rattle.cip_ctfile.proofs.fast_path.size_begun.Goals.{else-end-text-via-then-end-text+else-text-end-ne32, else-end-text-via-else-end-text}
use Rattle.cip_ctfile.proofs.fast_path.size_begun.Goals as goal

pub returns-else-end-text : goal.returns-else-end-text
returns-else-end-text c =
    let text = c.args.text.now in
    let point = c.in-Some.point in
    let behind = take_rest text (point + 1) in
    let further = take_rest (drop (point + 1) text) 4 in
    let end = point + 5 + c.digits_end.result in
    let space : end < length text → slice_index text end ≡ 32 = elim c.else-end-text.branch [
      | else-end-text-via-then-end-text+else-text-end-ne32 w ↦ λ _. w.if-text-end-ne32.false
      | else-end-text-via-else-end-text w ↦ λ more. absurd (omega (arith, more, w.if-end-text.false))
    ] in
    rw c.ten_thousandths.ensures (size_front text c.in-Some.whole point c.in-Some-four_digits.places c.digits_end.result
    c.in-Some.ensures (rw behind at c.if-behind-lt4.false) (rw behind at c.in-Some-four_digits.ensures)
    (rw (behind, further) at c.digits_end.ensures.digits) (rw (behind, further) at c.digits_end.ensures.within) space)
