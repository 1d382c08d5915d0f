-- What is around each atom of a drawing: its hydrogens, its lone pair, whether its multiple bonds are neglected. Own.
use Rattle.std.specs.Prelude.{◌<◌, ◌≢◌, ℕ, Bool, false, ◌&&◌, ◌||◌, not, List, map, length, nat_le, slice_index_or}
use Rattle.std.specs.List.{range_with_len}
use Rattle.cip_mol.specs.Drawing.{Drawing}
use Rattle.cip_mol.specs.declared.graph.molecule.Bond.{Bond}
use Rattle.cip_digraph.specs.graph.Hydrogens.{hydrogens_of}
use Rattle.cip_digraph.specs.graph.LonePairs.{lone_pair_of}
use Rattle.cip_digraph.specs.graph.Neglected.{neglects_at}
use Rattle.cip_hydro.specs.declared.valence_state.ValenceState.{ValenceState}

abbrev pub surroundings_at : Drawing → ℕ → ValenceState
surroundings_at drawing atom =
    record {
      hydrogens = hydrogens_of drawing atom;
      lone = lone_pair_of drawing atom;
      is_neglected = neglects_at drawing atom;
    }

abbrev pub surroundings_of : Drawing → List ValenceState
surroundings_of drawing = map (surroundings_at drawing) (range_with_len 0 (length drawing.atoms))

abbrev pub neglected_in : List ValenceState → ℕ → Bool
neglected_in all atom = (slice_index_or all atom (record { hydrogens = 0; lone = false; is_neglected = false })).is_neglected

-- whether a bond is multiple and neglected at neither end
abbrev pub counted_by : List ValenceState → Bond → Bool
counted_by all bond = nat_le 2 bond.order && not (neglected_in all bond.a || neglected_in all bond.b)

-- a bond joins two of n atoms
pub record JoinsAtoms (atoms : ℕ) (bond : Bond) : Type 0 where
  pub a : bond.a < atoms
  pub b : bond.b < atoms
  pub differ : bond.a ≢ bond.b
