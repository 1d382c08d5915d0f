use Rattle.std.proofs.Common.{◌≡◌, length}
use Rattle.cip_mol.specs.declared.graph.molecule.Mark.TheVariants.{Plain}
use Rattle.cip_ctfile.specs.Turns.{over}
use Rattle.cip_v3000.specs.BondLine.{with_mark, IsMark}
use Rattle.cip_v3000.specs.Words.{words_of}
use Rattle.cip_v3000.proofs.bonds.mark_in.Given as goal

abbrev pub invariant-loop-word : goal.invariant-loop-word
invariant-loop-word l = record {
  so_far : over (with_mark l.order) l.mark (words_of l.rest) ≡ over (with_mark l.order) Plain (words_of l.fn.text);
  range : IsMark l.order l.mark;
}

abbrev pub decreases-loop-word : goal.decreases-loop-word
decreases-loop-word l = length l.rest
