use Rattle.std.proofs.Common.{◌≡◌, ◌==◌, ◌∙◌, arith, false, get_or}
use Rattle.std.proofs.lemmas.Bool.Decides.{nat_tests}
use Rattle.cip_elem.proofs.lemmas.Columns.{by_letter, by_letters, spaced_is_none, long_is_none, empty_is_none}
use Rattle.cip_elem.proofs.symbols.place_of.Goals as goal

pub returns-in-len1-clause-value : goal.returns-in-len1-clause-value
returns-in-len1-clause-value c =
    c.place_in.ensures.value ∙ by_letter c.args.symbol.now 0 c.in-len1.len_at_least c.in-len1.len_below

pub returns-else-second-eq32-clause-value : goal.returns-else-second-eq32-clause-value
returns-else-second-eq32-clause-value c =
    let other : (get_or c.args.symbol.now 1 0 == 32) ≡ false =
    (let no = c.if-second-eq32.false in grind (arith, nat_tests, no)) in
    c.place_in-else-second-eq32.ensures.value
    ∙ by_letters c.args.symbol.now 0 0 c.in-len2.len_at_least c.in-len2.len_below other

pub returns-then-second-eq32-clause-value : goal.returns-then-second-eq32-clause-value
returns-then-second-eq32-clause-value c =
    spaced_is_none c.args.symbol.now 0 c.in-len2.len_at_least c.in-len2.len_below c.if-second-eq32.true

pub returns-in_default-2-clause-value : goal.returns-in_default-2-clause-value
returns-in_default-2-clause-value c = long_is_none c.args.symbol.now c.in_default.len_at_least

pub returns-in_default-clause-value : goal.returns-in_default-clause-value
returns-in_default-clause-value c = empty_is_none c.args.symbol.now c.in_default.len_below
