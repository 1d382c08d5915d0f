use Rattle.std.proofs.Common.{arith, rules, ◌≡◌, ◌≤◌, ◌<◌, length, slice_index}
use Rattle.std.proofs.lemmas.Grind.{common_steps}
use Rattle.std.proofs.lemmas.List.{take_all, take_rest}
use Rattle.cip_text.proofs.lemmas.Decimals.{no_number, cut_here, uncut}
use Rattle.cip_text.proofs.numbers.decimal_size.Goals as goal

pub returns-then-byte-eq46 : goal.returns-then-byte-eq46
returns-then-byte-eq46 c =
    let within : c.loop-place.place < length c.args.text.now = search rules in
    let here : slice_index c.args.text.now c.loop-place.place ≡ 46 = search rules in
    rw (cut_here c.args.text.now c.loop-place.place within c.loop-place.invariant.digits here)
    (rw take_rest at c.size_of_parts.ensures)

pub returns : goal.returns
returns c =
    let end : length c.args.text.now ≤ c.loop-place.place = search rules in
    let digits = rw (take_all c.loop-place.place c.args.text.now end) at c.loop-place.invariant.digits in
    rw (uncut c.args.text.now digits) c.size_of_parts-2.ensures

pub loop-place-preserved : goal.loop-place-preserved
loop-place-preserved c = grind (arith, common_steps, no_number)

pub size_of_parts-requires-2-clause-whole : goal.size_of_parts-requires-2-clause-whole
size_of_parts-requires-2-clause-whole c = grind (arith, common_steps, no_number)

pub size_of_parts-requires-2-clause-digits : goal.size_of_parts-requires-2-clause-digits
size_of_parts-requires-2-clause-digits c = grind (arith, common_steps, no_number)
