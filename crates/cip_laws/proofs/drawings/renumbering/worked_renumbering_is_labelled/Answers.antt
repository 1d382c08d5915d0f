use Rattle.std.proofs.Common.{◌≡◌, ◌<◌, ℕ, zero, suc, [], ◌∷◌, refl, inl, inr, arith, slice_index_or}
use Rattle.cip_elem.specs.Bonding.{valences_of}
use Rattle.cip_elem.specs.Masses.{natural_half_of}
use Rattle.cip_rank.specs.Comparison.{sets, comparison}
use Rattle.cip_mol.specs.declared.graph.molecule.Atom.{Atom}
use Rattle.cip_digraph.specs.rules.Auxiliary.{descriptors_within}
use Rattle.cip_digraph.specs.rules.Decisions.{order}
use Rattle.cip_digraph.specs.digraph.Digraph.{real_children}
use Rattle.cip_digraph.specs.graph.DrawnGraph.{graph_of}
use Rattle.cip_digraph.specs.graph.Hydrogens.{hydrogens_of}
use Rattle.cip_digraph.specs.worked.Molecules.{single}
use Rattle.cip_digraph.specs.rules.Orders.{rule_1a, rule_1b, rule_2, rule_3, rule_4a, readings, rule_4b_higher, rule_4b_lower, rule_4c, rule_5}
use Rattle.cip_digraph.specs.outcome.Outcomes.{outcome_of}
use Rattle.cip_digraph.specs.rings.Positions.{positions_of}
use Rattle.cip_digraph.specs.graph.Renumbering.{hydrogen_number, IsRenumbering}
use Rattle.cip_digraph.specs.units.Units.{sites_of}
use Rattle.cip_digraph.specs.digraph.View.{view_children}
use Rattle.cip_laws.specs.WorkedRenumbering.{drawn_first, drawn_again, place, up}
use Rattle.cip_laws.proofs.drawings.renumbering.worked_renumbering_is_labelled.Goals as goal

atoms_go : (k : ℕ) → k < 4 → (d : Atom)
    → slice_index_or drawn_again.atoms (place k) d ≡ slice_index_or drawn_first.atoms k d
atoms_go zero lt d = refl
atoms_go (suc zero) lt d = refl
atoms_go (suc (suc zero)) lt d = refl
atoms_go (suc (suc (suc zero))) lt d = refl
atoms_go (suc (suc (suc (suc k)))) lt d = absurd (omega (arith, lt))

hydrogens_go : (k index : ℕ) → k < 4 → index < hydrogens_of drawn_first k
    → place (hydrogen_number drawn_first k index) ≡ hydrogen_number drawn_again (place k) index
unfolding valences_of
hydrogens_go zero zero lt few = refl
hydrogens_go zero (suc index) lt few = let one : suc index < 1 = few in absurd (omega (arith, one))
hydrogens_go (suc zero) index lt few = let none : index < 0 = few in absurd (omega (arith, none))
hydrogens_go (suc (suc zero)) index lt few = let none : index < 0 = few in absurd (omega (arith, none))
hydrogens_go (suc (suc (suc zero))) index lt few = let none : index < 0 = few in absurd (omega (arith, none))
hydrogens_go (suc (suc (suc (suc k)))) index lt few = absurd (omega (arith, lt))

renumbered : IsRenumbering drawn_first drawn_again place
renumbered = record {
  len = refl;
  permutation =
      record {
        moves = (2, 3) ∷ (1, 2) ∷ (0, 2) ∷ [];
        below =
            (omega arith, omega arith, (omega arith, omega arith, (omega arith, omega arith, tt)));
        is = refl;
      };
  atoms = atoms_go;
  bonds = record {
    one = up 0 1 ∷ single 0 2 ∷ single 0 3 ∷ [];
    other = up 1 3 ∷ single 0 1 ∷ single 1 2 ∷ [];
    of_one = record { moves = []; below = tt; is = refl };
    of_other = record { moves = (0, 1) ∷ []; below = (omega arith, omega arith, tt); is = refl };
    pairs = (
      record { order = refl; mark = refl; ends = inl (record { a = refl; b = refl }) },
      (
        record { order = refl; mark = refl; ends = inr (record { may = inl refl; a = refl; b = refl }) },
        (record { order = refl; mark = refl; ends = inl (record { a = refl; b = refl }) }, tt),
      ),
    );
  };
  hydrogens = hydrogens_go;
}

pub returns : goal.returns
unfolding valences_of natural_half_of comparison sets descriptors_within order real_children graph_of rule_1a rule_1b rule_2
    rule_3 rule_4a readings rule_4b_higher rule_4b_lower rule_4c rule_5 outcome_of positions_of sites_of view_children
returns c = record { renumbering = renumbered; first = refl; again = refl }
