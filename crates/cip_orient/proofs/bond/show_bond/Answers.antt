use Rattle.std.proofs.Common.{◌≡◌, ◌∙◌, false, arith}
use Rattle.cip_mol.specs.Marks.{has_either, is_crossed}
use Rattle.cip_orient.specs.declared.pairs.PairSign.TheVariants.{Sides}
use Rattle.cip_orient.specs.PairSigns.{by_drawn_pairs}
use Rattle.cip_orient.proofs.lemmas.Undecided.{none}
use Rattle.std.proofs.lemmas.Grind.{common_steps}
use Rattle.cip_orient.proofs.bond.show_bond.Goals as goal

pub returns-else-is_crossed : goal.returns-else-is_crossed
returns-else-is_crossed c =
    let bonds = c.args.molecule.now.bonds in
    let a = c.args.ends.now.nearer.at in
    let b = c.args.ends.now.far.at in
    let nearer : has_either a bonds ≡ false = grind (arith, common_steps) in
    let far : has_either b bonds ≡ false = grind (arith, common_steps) in
    let plain : is_crossed a b bonds ≡ false = grind (arith, common_steps) in
    c.show_drawn_pairs.ensures
    ∙ (λ i. by_drawn_pairs Sides c.args.molecule.now.atoms (c.drawn_end-nearer.ensures.is i) (c.drawn_end-far.ensures.is i))
    ∙ none _ _ _ _ _ nearer far plain

pub show_drawn_pairs-requires-clause-nearer : goal.show_drawn_pairs-requires-clause-nearer
show_drawn_pairs-requires-clause-nearer c = grind (arith, common_steps)

pub show_drawn_pairs-requires-clause-far : goal.show_drawn_pairs-requires-clause-far
show_drawn_pairs-requires-clause-far c = grind (arith, common_steps)

pub is_crossed-requires : goal.is_crossed-requires
is_crossed-requires c = grind (arith, common_steps)
