-- What is written for units, one after the other.
use Rattle.std.proofs.Common.{◌≡◌, ◌+◌, ◌++◌, List, ℕ, Some, ap, sym, ◌∙◌, drop, slice_get}
use Rattle.cip_mol.proofs.lemmas.Rests.{rest_at}
use Rattle.cip_print.specs.declared.answer.UnitAnswer.{UnitAnswer}
use Rattle.cip_print.specs.Explaining.{told_line, told_lines}
use Rattle.cip_print.specs.Tallies.{with_outcome, with_units}
use Rattle.cip_print.specs.declared.tally.UnitCounts.{UnitCounts}
use Rattle.cip_print.proofs.lemmas.Texts.{moved}

pub one_more : (units : List UnitAnswer) (place : ℕ) (unit : UnitAnswer) (before now all : List ℕ) →
    slice_get units place ≡ Some unit → now ≡ before ++ told_line unit →
    before ++ told_lines (drop place units) ≡ all → now ++ told_lines (drop (place + 1) units) ≡ all
one_more units place unit before now all at added whole =
    moved before (told_line unit) (told_lines (drop (place + 1) units)) now all added
    (ap (λ rest. before ++ told_lines rest) (sym (rest_at units place unit at)) ∙ whole)

pub one_counted : (units : List UnitAnswer) (place : ℕ) (unit : UnitAnswer) (before now all : UnitCounts) →
    slice_get units place ≡ Some unit → now ≡ with_outcome before unit.outcome →
    with_units before (drop place units) ≡ all → with_units now (drop (place + 1) units) ≡ all
one_counted units place unit before now all at added whole =
    ap (λ counts. with_units counts (drop (place + 1) units)) added
    ∙ ap (with_units before) (sym (rest_at units place unit at))
    ∙ whole
