-- What an end of a biaryl axis has beside its double bond. Own, after IUPAC 2013, P-93.
use Rattle.std.specs.Prelude.{◌≡◌, ◌<◌, ℕ, [], ◌∷◌, true, false}
use Rattle.cip_digraph.specs.declared.drawing.graph.Edge.{Edge}
use Rattle.cip_digraph.specs.graph.Graph.{Graph, edges_at, other_end}
use Rattle.cip_digraph.specs.graph.SoundGraphs.{IsSound}
use Rattle.cip_digraph.specs.rings.Positions.{is_delocalised, positions_of}
use Rattle.cip_symmetry.specs.Images.{Among}
use Rattle.cip_unit.specs.Sites.{LeadsToAtoms}
use Rattle.cip_axis.specs.Biaryls.{is_biaryl_end}
use Rattle.cip_ring.specs.AnyRings.{is_in_ring}

-- An atom whose double bond has another position, beside a single bond in no ring, has three bonds, of which one is
-- multiple, and two neighbours beside the other end, one of them drawn: that they are asked for leaves none out.
abbrev pub DelocalisedAtomsAreEnds : Type 0
DelocalisedAtomsAreEnds = (graph : Graph) (a : ℕ) (edge : Edge) → IsSound graph → LeadsToAtoms graph
    → a < graph.drawn → Among edge (edges_at graph a) → edge.order ≡ 1 → is_in_ring graph a (other_end a edge) ≡ false
    → is_delocalised (positions_of graph) a ≡ true
    → is_biaryl_end graph (positions_of graph) (a ∷ other_end a edge ∷ []) a ≡ true
