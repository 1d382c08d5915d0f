-- What the list of surroundings gives: its length, its entries, and the carriers of hydrogens.
use Rattle.std.proofs.Common.{◌≡◌, ◌<◌, ◌+◌, ℕ, zero, suc, ◌++◌, map, length, replicate, refl, ap, arith}
use Rattle.std.specs.Prelude.{flat_map, slice_index_or}
use Rattle.std.specs.List.{range_with_len}
use Rattle.std.proofs.lemmas.List.FromFn.{length-map-range_with_len, get_or-map-range_with_len}
use Rattle.cip_mol.specs.Drawing.{Drawing}
use Rattle.cip_digraph.specs.graph.DrawnGraph.{carriers}
use Rattle.cip_digraph.specs.graph.Hydrogens.{hydrogens_of}
use Rattle.cip_hydro.specs.Carriers.{carriers_from}
use Rattle.cip_hydro.specs.ValenceState.{surroundings_at, surroundings_of}
use Rattle.cip_hydro.specs.declared.valence_state.ValenceState.{ValenceState}

pub surroundings_count : (drawing : Drawing) → length (surroundings_of drawing) ≡ length drawing.atoms
surroundings_count drawing = length-map-range_with_len (surroundings_at drawing) 0 (length drawing.atoms)

pub surroundings_read : (drawing : Drawing) (atom : ℕ) (d : ValenceState) → atom < length drawing.atoms
    → slice_index_or (surroundings_of drawing) atom d ≡ surroundings_at drawing atom
surroundings_read drawing atom d within =
    get_or-map-range_with_len (surroundings_at drawing) 0 (length drawing.atoms) atom atom d within (omega arith)

carriers_by : (drawing : Drawing) (from count : ℕ)
    → carriers_from from (map (surroundings_at drawing) (range_with_len from count))
    ≡ flat_map (λ atom. replicate (hydrogens_of drawing atom) atom) (range_with_len from count)
carriers_by drawing from zero = refl
carriers_by drawing from (suc count) =
    ap (λ more. replicate (hydrogens_of drawing from) from ++ more) (carriers_by drawing (from + 1) count)

pub carriers_are : (drawing : Drawing) → carriers_from 0 (surroundings_of drawing) ≡ carriers drawing
carriers_are drawing = carriers_by drawing 0 (length drawing.atoms)
