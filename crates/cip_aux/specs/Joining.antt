-- Where the ends of a unit are. Own.
use Rattle.std.specs.Prelude.{◌≡◌, ◌≢◌, ℕ, true, List, None, Some}
use Rattle.std.specs.declared.option.Option.{Option}
use Rattle.cip_mol.specs.declared.ends.Ends.{Ends}
use Rattle.cip_mol.specs.declared.ends.Ends.TheVariants.{One, Two}
use Rattle.cip_mol.specs.declared.site.Site.{Site}
use Rattle.cip_mol.specs.declared.site.Site.TheVariants.{Centre, Bond, Axis}
use Rattle.cip_digraph.specs.rings.Alternating.{is_in}
use Rattle.cip_digraph.specs.digraph.Digraph.{Node}
use Rattle.cip_digraph.specs.graph.Graph.{Graph, neighbours}
use Rattle.cip_aux.specs.Neighbours.{real_child}

-- the way from one end of a unit to the other runs along bonds
abbrev pub Joins : Graph → ℕ → Option ℕ → ℕ → Type 0
Joins graph from None far = is_in far (neighbours graph from) ≡ true
Joins graph from (Some middle) far =
    (is_in middle (neighbours graph from) ≡ true) × (is_in far (neighbours graph middle) ≡ true) × (middle ≢ far)

-- the ends of a unit are joined, in both directions
abbrev pub EndsJoin : Graph → Site → Type 0
EndsJoin graph (Centre at ligands) = Unit {0}
EndsJoin graph (Bond a b first second) = Joins graph a None b × Joins graph b None a
EndsJoin graph (Axis a middle b first second) = Joins graph a (Some middle) b × Joins graph b (Some middle) a

-- the same of ends that are lent
abbrev pub AreJoined : Graph → Ends → Type 0
AreJoined graph (One end) = Unit {0}
AreJoined graph (Two shape two) =
    Joins graph two.nearer.at two.between two.far.at × Joins graph two.far.at two.between two.nearer.at

abbrev pub next_child : (ℕ → Node) → List ℕ → ℕ → Option ℕ → Option ℕ
next_child nodes parents vertex None = None
next_child nodes parents vertex (Some node) = real_child nodes parents node vertex

-- where the other end is below a node
abbrev pub far_number : (ℕ → Node) → List ℕ → ℕ → Option ℕ → ℕ → Option ℕ
far_number nodes parents node None far = real_child nodes parents node far
far_number nodes parents node (Some middle) far = next_child nodes parents far (real_child nodes parents node middle)
