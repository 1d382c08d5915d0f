use Rattle.std.proofs.Common.{rules, ◌≡◌, take, drop, get_or}
use Rattle.std.proofs.lemmas.List.{take_rest}
use Rattle.cip_text.specs.Columns.{without_spaces_before}
use Rattle.cip_ctfile.specs.Usual.{unsigned, Spells, ArePlaces}
use Rattle.cip_ctfile.proofs.lemmas.UsualDecimals.{usual_read}
use Rattle.cip_ctfile.proofs.fast_path.usual_decimal.Goals as goal

pub returns-in-Some-few_digits-clause-value : goal.returns-in-Some-few_digits-clause-value
returns-in-Some-few_digits-clause-value c =
    let columns = c.args.columns.now in
    let point : get_or columns 5 0 ≡ 46 = search rules in
    let places : ArePlaces (drop 6 columns) c.in-Some.places = rw take_rest at c.in-Some.ensures in
    let front = c.trim_start_spaces-front.ensures in
    let whole : Spells (unsigned (without_spaces_before (take 5 columns))) c.in-Some-few_digits.whole =
    rw (c.without_minus.ensures, front) at c.in-Some-few_digits.ensures in
    rw (usual_read columns c.in-Some-few_digits.whole c.in-Some.places c.requires point whole places)
    (rw (c.starts_with_byte.ensures, front, c.ten_thousandths.ensures) at c.with_sign.ensures.value)
