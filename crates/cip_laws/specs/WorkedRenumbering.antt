-- A renumbered drawing, found by hand: bromochlorofluoromethane with its atoms and bonds in another order, and one bond
-- turned. Own.
use Rattle.std.specs.Prelude.{◌≡◌, ℕ, pos, negsuc, [], ◌∷◌, map, slice_index_or}
use Rattle.cip_rank.specs.declared.rules.Rules.TheVariants.{Wording2018}
use Rattle.cip_mol.specs.Drawing.{Drawing}
use Rattle.cip_mol.specs.declared.graph.molecule.Atom.{Atom}
use Rattle.cip_mol.specs.declared.graph.molecule.Bond.{Bond}
use Rattle.cip_mol.specs.declared.graph.molecule.Mark.TheVariants.{Up}
use Rattle.cip_mol.specs.declared.labels.descriptor.Descriptor.TheVariants.{R}
use Rattle.cip_mol.specs.declared.labels.outcome.Rule.TheVariants.{R1a}
use Rattle.cip_digraph.specs.worked.Molecules.{carbon, fluorine, chlorine, bromine, single}
use Rattle.cip_digraph.specs.graph.Renumbering.{IsRenumbering}
use Rattle.cip_digraph.specs.worked.WorkedLabels.{labelled}
use Rattle.cip_laws.specs.DrawnOutcomes.{units_in, outcome_in}

abbrev pub left_above : Atom → Atom
left_above atom = record atom { at = record { x = negsuc 4999; y = pos 8660; z = pos 0 } }

abbrev pub left_below : Atom → Atom
left_below atom = record atom { at = record { x = negsuc 4999; y = negsuc 8659; z = pos 0 } }

abbrev pub to_the_right : Atom → Atom
to_the_right atom = record atom { at = record { x = pos 10000; y = pos 0; z = pos 0 } }

abbrev pub up : ℕ → ℕ → Bond
up a b = record (single a b) { mark = Up }

abbrev pub drawn_first : Drawing
drawn_first = record {
  atoms = carbon ∷ to_the_right fluorine ∷ left_above chlorine ∷ left_below bromine ∷ [];
  bonds = up 0 1 ∷ single 0 2 ∷ single 0 3 ∷ [];
}

abbrev pub drawn_again : Drawing
drawn_again = record {
  atoms = left_above chlorine ∷ carbon ∷ left_below bromine ∷ to_the_right fluorine ∷ [];
  bonds = single 0 1 ∷ up 1 3 ∷ single 1 2 ∷ [];
}

-- where each vertex goes
abbrev pub place : ℕ → ℕ
place v = slice_index_or (1 ∷ 3 ∷ 0 ∷ 2 ∷ 4 ∷ []) v v

pub record IsRenumbered : Type 0 where
  pub renumbering : IsRenumbering drawn_first drawn_again place
  pub first : map (outcome_in Wording2018 100 drawn_first) (units_in drawn_first)
      ≡ labelled R R1a 1 (2 ∷ 1 ∷ 0 ∷ 3 ∷ []) ∷ []
  pub again : map (outcome_in Wording2018 100 drawn_again) (units_in drawn_again)
      ≡ labelled R R1a 1 (1 ∷ 0 ∷ 2 ∷ 3 ∷ []) ∷ []
