-- Whether the ranks of an end's ligands turn a sense, and those of both ends together. Own.
use Rattle.std.specs.Prelude.{ℕ, true, false, List, [], ◌∷◌, None, Some, count_by}
use Rattle.std.specs.List.{list_any}
use Rattle.std.specs.declared.cmp.Ordering.{Ordering}
use Rattle.std.specs.declared.option.Option.{Option}
use Rattle.cip_mol.specs.FlatCentres.{inversions}
use Rattle.cip_digraph.specs.units.Descriptors.{is_odd}
use Rattle.cip_digraph.specs.units.Ranked.{Root, has_tie, ranks, turned_ranks}
use Rattle.cip_digraph.specs.declared.decisions.parity.Parity.{Parity}
use Rattle.cip_digraph.specs.Falls.{differ}
use Rattle.cip_digraph.specs.Sides.{is_tied, is_below}

-- by the sides of each two ligands, with R and with S first in the last rule; none where two of them tie
abbrev pub turns_of : List (Option Ordering) → List (Option Ordering) → Option Parity
turns_of natural turned =
    let found =
    Some (record { natural = is_odd (count_by is_below natural); turned = is_odd (count_by is_below turned) }) in
    elim (list_any is_tied natural) as (λ _. Option Parity) [ true ↦ None | false ↦ found ]

-- by the places of the ligands in rank order
abbrev pub places_turns : List ℕ → List ℕ → Parity
places_turns places turned =
    record { natural = is_odd (inversions places); turned = is_odd (inversions turned) }

abbrev pub root_turns : {N : Type 0} → Root N → Option Parity
root_turns root =
    let found = Some (places_turns (ranks root) (turned_ranks root)) in
    elim (has_tie root) as (λ _. Option Parity) [ true ↦ None | false ↦ found ]

-- of both ends together
abbrev pub together : Parity → Parity → Parity
together one other =
    record { natural = differ one.natural other.natural; turned = differ one.turned other.turned }

abbrev pub both_turns : Option Parity → Option Parity → Option Parity
both_turns None other = None
both_turns (Some one) None = None
both_turns (Some one) (Some other) = Some (together one other)

abbrev pub roots_turns : {N : Type 0} → List (Root N) → Option Parity
roots_turns [] = None
roots_turns (root ∷ []) = root_turns root
roots_turns (root ∷ other ∷ roots) = both_turns (root_turns root) (root_turns other)
