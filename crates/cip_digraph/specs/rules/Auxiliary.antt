-- Auxiliary descriptors: those of units inside a digraph, each seen from where it is. IUPAC 2013, P-92.1.4 and
-- Hanson et al. 2018. That only descriptors strictly inside its own subtree count there, and that a bond or an axis has
-- its descriptor at the end nearer to the root, is own.
use Rattle.std.specs.Prelude.{ℕ, zero, suc, ◌==◌, ◌&&◌, Bool, true, false, not, List, [], ◌∷◌, ◌++◌, map, filter, length, None, Some, nat_lt, nat_le, if◌then◌else◌}
use Rattle.std.specs.List.{list_any, list_all}
use Rattle.std.specs.declared.option.Option.{Option}
use Rattle.cip_rank.specs.declared.rules.Rules.{Rules}
use Rattle.cip_mol.specs.declared.labels.descriptor.Descriptor.{Descriptor}
use Rattle.cip_mol.specs.declared.labels.descriptor.Sense.{Sense}
use Rattle.cip_mol.specs.declared.site.Geometry.{Geometry}
use Rattle.cip_mol.specs.declared.site.Geometry.TheVariants.{Known, Unknown}
use Rattle.cip_mol.specs.declared.site.Ligand.{Ligand}
use Rattle.cip_mol.specs.declared.site.Ligand.TheVariants.{Vertex, LonePair}
use Rattle.cip_mol.specs.declared.site.Site.{Site}
use Rattle.cip_mol.specs.declared.site.Unit as units
use Rattle.cip_digraph.specs.rings.Alternating.{is_in}
use Rattle.cip_digraph.specs.graph.Graph.{Graph}
use Rattle.cip_digraph.specs.digraph.Digraph.{NodeKind, Real, Closure, Multiple, Delocalised, Node}
use Rattle.cip_digraph.specs.rules.Decisions.{order}
use Rattle.cip_mol.specs.Ends.{between_of}
use Rattle.cip_digraph.specs.units.Ends.{End, ends_of}
use Rattle.cip_digraph.specs.units.Ranked.{Root, has_tie}
use Rattle.cip_digraph.specs.units.Descriptors.{letter}
use Rattle.cip_digraph.specs.digraph.View.{is_end_of, real_at, view_children, seen_from}

abbrev pub stands_for : ℕ → Node → Bool
stands_for vertex node = (node.vertex == vertex) && by_kind node.kind
  where
    by_kind : NodeKind → Bool
    by_kind Real = true
    by_kind Closure = true
    by_kind Multiple = false
    by_kind Delocalised = false

-- the node of a ligand next to a root: the real node or the closure of its vertex
abbrev pub ligand_node : List Node → Ligand → List Node
ligand_node nodes LonePair = []
ligand_node nodes (Vertex vertex) = filter (stands_for vertex) nodes

-- the end nearer to the root first, where the vertex is an end of the unit
abbrev pub nearer_first : ℕ → List End → List End
nearer_first vertex [] = []
nearer_first vertex (end ∷ []) = if end.at == vertex then end ∷ [] else []
nearer_first vertex (end ∷ other ∷ ends) =
    if end.at == vertex then end ∷ other ∷ []
    else if other.at == vertex then other ∷ end ∷ []
    else []

module _ (rules : Rules) (graph : Graph) (positions : List (List ℕ)) where
  -- an end as it is ranked in the digraph seen from the real node of a path, with these descriptors
  abbrev pub root_at : (List ℕ → Option Descriptor) → List ℕ → List Ligand → Root Node
  root_at descriptor path ligands =
      let seen = seen_from rules graph positions path descriptor in
      record {
        order = order seen true;
        turned = order seen false;
        ligands = map (ligand_node (view_children graph positions path (real_at path))) ligands;
      }

  -- The roots of a unit by its ends, the first of which is at the real node of a path. The far end is ranked in its
  -- own view, and only where the rest of the unit follows below the path.
  abbrev pub roots_at : (List ℕ → Option Descriptor) → List ℕ → List ℕ → List End → List (Root Node)
  roots_at descriptor path between [] = []
  roots_at descriptor path between (nearer ∷ []) = root_at descriptor path nearer.ligands ∷ []
  roots_at descriptor path between (nearer ∷ far ∷ ends) =
      let both = root_at descriptor path nearer.ligands ∷ root_at descriptor (far.at ∷ between ++ path) far.ligands ∷ [] in
      elim (list_all (λ vertex. not (is_in vertex path)) (far.at ∷ between)) as
      (λ _. List (Root Node)) [ true ↦ both | false ↦ [] ]

  -- the descriptor where no ligands tie
  abbrev pub letter_at : Site → Sense → List (Root Node) → Option Descriptor
  letter_at site sense [] = None
  letter_at site sense (root ∷ roots) =
      let found = letter site sense (root ∷ roots) in
      elim (list_any has_tie (root ∷ roots)) as (λ _. Option Descriptor) [ true ↦ None | false ↦ Some found ]

  abbrev pub unit_letter : units.Unit → ℕ → List ℕ → (List ℕ → Option Descriptor) → Option Descriptor
  unit_letter unit vertex up descriptor = by_geometry unit.geometry
    where
      by_geometry : Geometry → Option Descriptor
      by_geometry (Unknown cause) = None
      by_geometry (Known sense) =
          letter_at unit.site sense
          (roots_at descriptor (vertex ∷ up) (between_of unit.site) (nearer_first vertex (ends_of unit.site)))

  abbrev pub first_letter : List units.Unit → ℕ → List ℕ → (List ℕ → Option Descriptor) → Option Descriptor
  first_letter [] vertex up descriptor = None
  first_letter (unit ∷ others) vertex up descriptor =
      let later = first_letter others vertex up descriptor in
      elim (unit_letter unit vertex up descriptor) as (λ _. Option Descriptor) [ None ↦ later | Some found ↦ Some found ]

  -- the descriptor at the real node of a path: the root of the digraph has none, nor has what is longer than any path
  abbrev pub node_letter : List units.Unit → List ℕ → (List ℕ → Option Descriptor) → Option Descriptor
  node_letter all [] descriptor = None
  node_letter all (root ∷ []) descriptor = None
  node_letter all (vertex ∷ next ∷ up) descriptor =
      let found = first_letter all vertex (next ∷ up) descriptor in
      elim (nat_le (length (vertex ∷ next ∷ up)) (length graph.vertices)) as
      (λ _. Option Descriptor) [ true ↦ found | false ↦ None ]

-- what is on a node strictly inside the subtree of another one
abbrev pub inside : (List ℕ → Option Descriptor) → List ℕ → List ℕ → Option Descriptor
inside descriptor path inner =
    let found = descriptor inner in
    elim (is_end_of path inner && nat_lt (length path) (length inner)) as
    (λ _. Option Descriptor) [ true ↦ found | false ↦ None ]

-- From the outermost sphere inwards: at each node the letter by the descriptors strictly inside its subtree. n
-- spheres of them are looked at.
unfoldable pub descriptors_within : (List ℕ → (List ℕ → Option Descriptor) → Option Descriptor) → ℕ → List ℕ
    → Option Descriptor
descriptors_within letter_of zero path = None
descriptors_within letter_of (suc more) path = letter_of path (inside (descriptors_within letter_of more) path)

-- the descriptors of a digraph by the paths of its real nodes; none has more spheres than the graph has vertices
abbrev pub auxiliary : Rules → Graph → List (List ℕ) → List units.Unit → List ℕ → Option Descriptor
auxiliary rules graph positions all = descriptors_within (node_letter rules graph positions all) (length graph.vertices)
