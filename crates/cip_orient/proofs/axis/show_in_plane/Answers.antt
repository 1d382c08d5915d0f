use Rattle.std.proofs.Common.{List, length, ap, sym, arith, ◌∙◌}
use Rattle.cip_num.specs.declared.plane.Sign.{Sign}
use Rattle.cip_num.specs.declared.plane.Vec3.{Vec3}
use Rattle.cip_mol.specs.FlatAxes.{by_marks}
use Rattle.std.proofs.lemmas.List.{length-map}
use Rattle.std.proofs.lemmas.Grind.{common_steps}
use Rattle.cip_orient.proofs.axis.show_in_plane.Goals as goal

pub show_by_marks-requires-clause-axis : goal.show_by_marks-requires-clause-axis
show_by_marks-requires-clause-axis c = c.step_between-axis.ensures.small

pub show_by_marks-requires-clause-marks : goal.show_by_marks-requires-clause-marks
show_by_marks-requires-clause-marks c =
    let marks = ap (λ (all : List Sign). length all) (c.as_slice.ensures.value ∙ c.marks_to-marks.ensures)
    ∙ length-map c.args.nearer.now.ligands _ in
    let ligands = ap (λ (all : List Vec3). length all) (c.as_slice-3.ensures.value ∙ c.steps-firsts.ensures.value)
    ∙ length-map c.args.nearer.now.ligands _ in
    marks ∙ sym ligands

pub show_by_marks-requires-clause-other_marks : goal.show_by_marks-requires-clause-other_marks
show_by_marks-requires-clause-other_marks c =
    let marks = ap (λ (all : List Sign). length all) (c.as_slice-2.ensures.value ∙ c.marks_to-other_marks.ensures)
    ∙ length-map c.args.far.now.ligands _ in
    let ligands = ap (λ (all : List Vec3). length all) (c.as_slice-4.ensures.value ∙ c.steps-seconds.ensures.value)
    ∙ length-map c.args.far.now.ligands _ in
    marks ∙ sym ligands

pub show_by_marks-requires-clause-firsts : goal.show_by_marks-requires-clause-firsts
show_by_marks-requires-clause-firsts c = rw c.as_slice-3.ensures.value c.steps-firsts.ensures.small

pub show_by_marks-requires-clause-seconds : goal.show_by_marks-requires-clause-seconds
show_by_marks-requires-clause-seconds c = rw c.as_slice-4.ensures.value c.steps-seconds.ensures.small

pub returns : goal.returns
returns c =
    let marks = c.as_slice.ensures.value ∙ c.marks_to-marks.ensures in
    let others = c.as_slice-2.ensures.value ∙ c.marks_to-other_marks.ensures in
    let firsts = c.as_slice-3.ensures.value ∙ c.steps-firsts.ensures.value in
    let seconds = c.as_slice-4.ensures.value ∙ c.steps-seconds.ensures.value in
    c.show_by_marks.ensures
    ∙ (λ i. by_marks (c.step_between-axis.ensures.value i) (marks i) (others i) (firsts i) (seconds i))

pub steps-seconds-requires-clause-within : goal.steps-seconds-requires-clause-within
steps-seconds-requires-clause-within c = grind (arith, common_steps)

pub show_by_marks-requires-clause-first : goal.show_by_marks-requires-clause-first
show_by_marks-requires-clause-first c = grind (arith, common_steps)

pub show_by_marks-requires-clause-second : goal.show_by_marks-requires-clause-second
show_by_marks-requires-clause-second c = grind (arith, common_steps)

pub steps-firsts-requires-clause-within : goal.steps-firsts-requires-clause-within
steps-firsts-requires-clause-within c = grind (arith, common_steps)
