use Rattle.std.proofs.Common.{◌≡◌, ◌≤◌, ◌∙◌, ℕ, List, All, arith, length, subst, sym}
use Rattle.cip_mol.specs.Ranges.{IsAtom, IsBond, IsInRange}
use Rattle.cip_mol.specs.declared.graph.molecule.Atom.{Atom}
use Rattle.cip_mol.specs.declared.graph.molecule.Bond.{Bond}
use Rattle.cip_v2000.specs.Statements.{IsPair}
use Rattle.cip_v2000.proofs.reading.drawn.Goals as goal

in_range : (atoms : List Atom) (bonds : List Bond) (a b : ℕ) → length atoms ≡ a → length bonds ≡ b → a ≤ 999 → b ≤ 999
    → All IsAtom atoms → All IsBond bonds → IsInRange (record { atoms = atoms; bonds = bonds })
in_range atoms bonds a b counted_atoms counted_bonds few_atoms few_bonds each_atom each_bond = record {
  few_atoms = omega arith;
  few_bonds = omega arith;
  atoms = each_atom;
  bonds = each_bond;
}

pub apply_properties-requires-clause-pairs : goal.apply_properties-requires-clause-pairs
apply_properties-requires-clause-pairs c = subst (All IsPair) (sym c.deref.ensures.value) c.in-Ok-property_block.ensures.range

pub apply_properties-requires-clause-lines : goal.apply_properties-requires-clause-lines
apply_properties-requires-clause-lines c = c.requires.range

pub from_bonds-requires-clause-range : goal.from_bonds-requires-clause-range
from_bonds-requires-clause-range c =
    in_range _ _ c.args.counts.atoms c.args.counts.bonds (c.in-Ok-apply_properties.ensures.counted ∙ c.requires.counted)
    c.in-Ok.ensures.counted c.requires.counts.0 c.requires.counts.1 c.in-Ok-apply_properties.ensures.range c.in-Ok.ensures.range

pub from_bonds-requires-clause-counted : goal.from_bonds-requires-clause-counted
from_bonds-requires-clause-counted c =
    c.in-Ok.ensures.among ∙ sym (c.in-Ok-apply_properties.ensures.counted ∙ c.requires.counted)

pub property_block-requires-clause-few : goal.property_block-requires-clause-few
property_block-requires-clause-few c = c.requires.few

pub property_block-requires-clause-atoms : goal.property_block-requires-clause-atoms
property_block-requires-clause-atoms c = c.requires.counts.0
