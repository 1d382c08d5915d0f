use Rattle.cip_v3000.proofs.bonds.bond_by.Goals as goal

pub returns-in-Ok-clause-range : goal.returns-in-Ok-clause-range
returns-in-Ok-clause-range c = record {
  some = c.in-Some.ensures.range.0;
  few = c.in-Some.ensures.range.1;
  double = c.in-Ok.ensures.range.double;
  triple = c.in-Ok.ensures.range.triple;
}
