use Rattle.std.proofs.Common.{◌∙◌, All, ap, length, subst, sym}
use Rattle.cip_v2000.specs.AtomLine.{IsAtomLine}
use Rattle.cip_v2000.proofs.reading.read_lines.Goals as goal

pub drawn-requires-clause-range : goal.drawn-requires-clause-range
drawn-requires-clause-range c = subst (All IsAtomLine) (sym c.deref.ensures.value) c.in-Ok-atom_block.ensures.range

pub drawn-requires-clause-counted : goal.drawn-requires-clause-counted
drawn-requires-clause-counted c = ap length c.deref.ensures.value ∙ c.in-Ok-atom_block.ensures.counted
