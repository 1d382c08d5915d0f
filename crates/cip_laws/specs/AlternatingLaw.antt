-- Which atoms lie in alternating rings: those whose double bond can be at several places. IUPAC 2013, P-92.1.4; own.
use Rattle.std.specs.Prelude.{◌≡◌, ◌↔◌, ◌<◌, ℕ, List, true, length}
use Rattle.cip_digraph.specs.graph.Graph.{Graph}
use Rattle.cip_digraph.specs.graph.SoundGraphs.{IsSound}
use Rattle.cip_digraph.specs.rings.AlternatingRings.{IsAlternatingRing}
use Rattle.cip_digraph.specs.rings.Positions.{is_delocalised, positions_of}

-- so a double bond has a descriptor only where its ends lie in no alternating ring
abbrev pub DelocalisedAtomsLieInRings : Type 0
DelocalisedAtomsLieInRings = (graph : Graph) (vertex : ℕ) → IsSound graph → vertex < length graph.vertices
    → (is_delocalised (positions_of graph) vertex ≡ true)
    ↔ ((other : ℕ) × (nexts : List ℕ) × IsAlternatingRing graph vertex other nexts)
