-- How the ligands of units inside a digraph turn their senses where constitution decided it, by node. Own.
use Rattle.std.specs.Prelude.{◌≡◌, ◌==◌, ℕ, List, [], None, Some, cond, map, slice_index_or}
use Rattle.std.specs.declared.option.Option.{Option}
use Rattle.cip_mol.specs.Ends.{between_of}
use Rattle.cip_mol.specs.declared.labels.descriptor.Descriptor.{Descriptor}
use Rattle.cip_mol.specs.declared.site.Site.{Site}
use Rattle.cip_mol.specs.declared.site.Site.TheVariants.{Centre}
use Rattle.cip_mol.specs.declared.site.Unit as units
use Rattle.cip_digraph.specs.digraph.Telling.{node_at}
use Rattle.cip_digraph.specs.rules.Auxiliary.{nearer_first, roots_at}
use Rattle.cip_digraph.specs.units.Ends.{ends_of}
use Rattle.cip_digraph.specs.declared.decisions.parity.Parity.{Parity}
use Rattle.cip_digraph.specs.TurnsOf.{roots_turns}
use Rattle.cip_aux.specs.Views.{DigraphView, path_at}
use Rattle.cip_aux.specs.declared.parities.parity_cache.CachedParity.{CachedParity}

abbrev pub if_of : ℕ → Option CachedParity → Option CachedParity
if_of place None = None
if_of place (Some turn) = cond (turn.place == place) (Some turn) None

-- what is kept at a node of the unit at a place
abbrev pub kept_at : List (Option CachedParity) → ℕ → ℕ → Option CachedParity
kept_at kept node place = if_of place (slice_index_or kept node None)

abbrev pub sites_in : List units.Unit → List Site
sites_in all = map (λ (unit : units.Unit). unit.site) all

abbrev pub site_at : List Site → ℕ → Site
site_at sites place = slice_index_or sites place (Centre 0 [])

-- the turns of a site at a node, whichever descriptors there are
pub record AreConstant (sight : DigraphView) (node : ℕ) (site : Site) (parities : Option Parity) : Type 0 where
  pub each : (descriptor : List ℕ → Option Descriptor) → parities
      ≡ roots_turns (roots_at sight.rules sight.graph sight.positions descriptor (path_at sight.nodes node) (between_of site)
      (nearer_first (node_at sight.nodes node).vertex (ends_of site)))

-- What is kept are the turns of sites by their places, whichever senses the units at these have.
pub record AreKept (sight : DigraphView) (sites : List Site) (kept : List (Option CachedParity)) : Type 0 where
  pub each : (node : ℕ) (turn : CachedParity) → slice_index_or kept node None ≡ Some turn
      → AreConstant sight node (site_at sites turn.place) (Some turn.parities)
