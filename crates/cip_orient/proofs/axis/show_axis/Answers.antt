use Rattle.std.proofs.Common.{◌≡◌, ◌∙◌, false, arith}
use Rattle.cip_mol.specs.Marks.{has_either}
use Rattle.cip_orient.specs.DrawnEnds.{of_drawn_axis}
use Rattle.cip_orient.proofs.lemmas.Undecided.{neither}
use Rattle.std.proofs.lemmas.Grind.{common_steps}
use Rattle.cip_orient.proofs.axis.show_axis.Goals as goal

pub returns-else-has_either-2 : goal.returns-else-has_either-2
returns-else-has_either-2 c =
    let bonds = c.args.molecule.now.bonds in
    let nearer : has_either c.args.ends.now.nearer.at bonds ≡ false = grind (arith, common_steps) in
    let far : has_either c.args.ends.now.far.at bonds ≡ false = grind (arith, common_steps) in
    c.show_drawn_axis.ensures
    ∙ (λ i. of_drawn_axis c.args.molecule.now (c.drawn_end-nearer.ensures.is i) (c.drawn_end-far.ensures.is i))
    ∙ neither _ _ _ _ nearer far

pub show_drawn_axis-requires-clause-far : goal.show_drawn_axis-requires-clause-far
show_drawn_axis-requires-clause-far c = grind (arith, common_steps)

pub show_drawn_axis-requires-clause-nearer : goal.show_drawn_axis-requires-clause-nearer
show_drawn_axis-requires-clause-nearer c = grind (arith, common_steps)
