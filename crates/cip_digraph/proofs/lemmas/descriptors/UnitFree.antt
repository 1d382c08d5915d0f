-- No descriptor is on an atom that is in no unit.
use Rattle.std.proofs.Common.{◌≡◌, ℕ, zero, suc, List, [], ◌∷◌, ◌++◌, length, refl, sym, ap, ◌∙◌, cond, Bool, true}
use Rattle.std.proofs.Common.{false, not, ◌==◌, ◌||◌, None, Some, flat_map, filter, nat_le, Option}
use Rattle.std.specs.List.{AllByRecursion}
use Rattle.std.proofs.lemmas.Bool.{or_parts}
use Rattle.std.proofs.lemmas.List.Folds.{list_any-append}
use Rattle.cip_rank.specs.declared.rules.Rules.{Rules}
use Rattle.cip_mol.specs.declared.labels.descriptor.Descriptor.{Descriptor}
use Rattle.cip_mol.specs.declared.labels.descriptor.Sense.{Sense}
use Rattle.cip_mol.specs.declared.site.Geometry.{Geometry}
use Rattle.cip_mol.specs.declared.site.Geometry.TheVariants.{Known, Unknown}
use Rattle.cip_mol.specs.declared.site.Site.{Site}
use Rattle.cip_mol.specs.declared.site.Site.TheVariants.{Centre, Bond, Axis}
use Rattle.cip_mol.specs.declared.site.Unit as units
use Rattle.cip_digraph.specs.rings.Alternating.{is_in}
use Rattle.cip_digraph.specs.rules.Auxiliary.{nearer_first, roots_at, letter_at, unit_letter, first_letter, node_letter}
use Rattle.cip_digraph.specs.rules.Auxiliary.{inside, descriptors_within, auxiliary}
use Rattle.cip_digraph.specs.digraph.Digraph.{NodeKind, Real, Node, is_real, children}
use Rattle.cip_mol.specs.Ends.{between_of}
use Rattle.cip_digraph.specs.units.Ends.{End, ends_of, atoms_of}
use Rattle.cip_digraph.specs.graph.Graph.{Graph}
use Rattle.cip_digraph.specs.outcome.Outcomes.{is_in_unit}
use Rattle.cip_digraph.specs.digraph.View.{parent, is_on_way, view_children, seen_from}
use Rattle.cip_digraph.proofs.lemmas.tree.Children.{Passed, children_have}
use Rattle.cip_digraph.proofs.lemmas.tree.Ended.{Anywhere, leads_anywhere}
use Rattle.cip_digraph.proofs.lemmas.lists.Elements.{all_append, all_filtered}

off_both : (a b : Bool) (one other : End) → a ≡ false → b ≡ false → cond a (one ∷ other ∷ [])
    (cond b (other ∷ one ∷ []) []) ≡ []
off_both a b one other e f = ap (λ t. cond t (one ∷ other ∷ []) (cond b (other ∷ one ∷ []) [])) e
    ∙ ap (λ t. cond t (other ∷ one ∷ []) []) f

-- no end of a unit is at a vertex that is none of its atoms
not_an_end : (site : Site) (vertex : ℕ) → is_in vertex (atoms_of site) ≡ false → nearer_first vertex (ends_of site) ≡ []
not_an_end (Centre at ligands) vertex e =
    ap (λ t. cond t (record { at = at; ligands = ligands } ∷ []) []) (or_parts (at == vertex) false e).0
not_an_end (Bond a b first second) vertex e =
    let t = or_parts (a == vertex) ((b == vertex) || false) e in
    off_both (a == vertex) (b == vertex) (record { at = a; ligands = first }) (record { at = b; ligands = second }) t.0
    (or_parts (b == vertex) false t.1).0
not_an_end (Axis a middle b first second) vertex e =
    let t = or_parts (a == vertex) ((b == vertex) || ((middle == vertex) || false)) e in
    off_both (a == vertex) (b == vertex) (record { at = a; ligands = first }) (record { at = b; ligands = second }) t.0
    (or_parts (b == vertex) ((middle == vertex) || false) t.1).0

module _ (rules : Rules) (graph : Graph) (positions : List (List ℕ)) where
  abbrev letter_in : units.Unit → ℕ → List ℕ → (List ℕ → Option Descriptor) → Sense → List End → Option Descriptor
  letter_in unit vertex up descriptor sense ends = letter_at rules graph positions unit.site sense
      (roots_at rules graph positions descriptor (vertex ∷ up) (between_of unit.site) ends)

  none_by : (unit : units.Unit) (vertex : ℕ) (up : List ℕ) (descriptor : List ℕ → Option Descriptor) → nearer_first vertex
      (ends_of unit.site) ≡ []
      → (geometry : Geometry) → unit_letter rules graph positions (record { site = unit.site; geometry = geometry })
      vertex up descriptor ≡ None
  none_by unit vertex up descriptor e (Unknown cause) = refl
  none_by unit vertex up descriptor e (Known sense) = ap (letter_in unit vertex up descriptor sense) e

  no_unit_letter : (unit : units.Unit) (vertex : ℕ) (up : List ℕ) (descriptor : List ℕ → Option Descriptor)
      → is_in vertex (atoms_of unit.site) ≡ false
      → unit_letter rules graph positions unit vertex up descriptor ≡ None
  no_unit_letter unit vertex up descriptor e = none_by unit vertex up descriptor (not_an_end unit.site vertex e) unit.geometry

  abbrev later_or : Option Descriptor → Option Descriptor → Option Descriptor
  later_or later found = elim found as (λ _. Option Descriptor) [ None ↦ later | Some found ↦ Some found ]

  abbrev pub atoms_in : List units.Unit → List ℕ
  atoms_in all = flat_map (λ (unit : units.Unit). atoms_of unit.site) all

  no_first_letter : (all : List units.Unit) (vertex : ℕ) (up : List ℕ) (descriptor : List ℕ → Option Descriptor)
      → is_in vertex (atoms_in all) ≡ false
      → first_letter rules graph positions all vertex up descriptor ≡ None
  no_first_letter [] vertex up descriptor e = refl
  no_first_letter (unit ∷ others) vertex up descriptor e =
      let split : (is_in vertex (atoms_of unit.site) || is_in vertex (atoms_in others)) ≡ false =
      sym (list_any-append (λ other. other == vertex) (atoms_of unit.site) (atoms_in others)) ∙ e in
      let t = or_parts (is_in vertex (atoms_of unit.site)) (is_in vertex (atoms_in others)) split in
      ap (later_or (first_letter rules graph positions others vertex up descriptor)) (no_unit_letter unit vertex up descriptor t.0)
      ∙ no_first_letter others vertex up descriptor t.1

  abbrev when : Bool → Option Descriptor → Option Descriptor
  when b found = elim b as (λ _. Option Descriptor) [ true ↦ found | false ↦ None ]

  when_none : (b : Bool) → when b None ≡ None
  when_none true = refl
  when_none false = refl

  no_node_letter : (all : List units.Unit) (vertex : ℕ) (up : List ℕ) (descriptor : List ℕ → Option Descriptor)
      → is_in vertex (atoms_in all) ≡ false
      → node_letter rules graph positions all (vertex ∷ up) descriptor ≡ None
  no_node_letter all vertex [] descriptor e = refl
  no_node_letter all vertex (next ∷ up) descriptor e =
      let b = nat_le (length (vertex ∷ next ∷ up)) (length graph.vertices) in
      ap (when b) (no_first_letter all vertex (next ∷ up) descriptor e) ∙ when_none b

  no_letter_within : (all : List units.Unit) (vertex : ℕ) (up : List ℕ) → is_in vertex (atoms_in all) ≡ false
      → (more : ℕ) → descriptors_within (node_letter rules graph positions all) more (vertex ∷ up) ≡ None
  unfolding descriptors_within
  no_letter_within all vertex up e zero = refl
  no_letter_within all vertex up e (suc more) = no_node_letter all vertex up
      (inside (descriptors_within (node_letter rules graph positions all) more) (vertex ∷ up)) e

  pub no_descriptor : (all : List units.Unit) (vertex : ℕ) (up : List ℕ) → is_in vertex (atoms_in all) ≡ false
      → auxiliary rules graph positions all (vertex ∷ up) ≡ None
  no_descriptor all vertex up e = no_letter_within all vertex up e (length graph.vertices)

-- the path of a real node begins with its vertex
abbrev pub BeginsWith : List ℕ → ℕ → Type 0
BeginsWith [] vertex = ⊥
BeginsWith (first ∷ up) vertex = first ≡ vertex

abbrev pub HasVertex : Node → Type 0
HasVertex node = by node.kind
  where
    by : NodeKind → Type 0
    by Real = BeginsWith node.path node.vertex
    by kind = Unit {0}

module _ (graph : Graph) (positions : List (List ℕ)) where
  below_real : (vertex : ℕ) (up : List ℕ) → Passed Anywhere vertex up HasVertex
  below_real vertex up = record {
    reals = λ other _ e. refl;
    closures = λ other _ e. tt;
    multiples = λ other _. tt;
    delocaliseds = tt;
  }

  below_by : (kind : NodeKind) (path : List ℕ) (vertex : ℕ) → AllByRecursion HasVertex
      (children graph positions (record { kind = kind; path = path; vertex = vertex }))
  below_by Real (first ∷ up) vertex = children_have Anywhere first up HasVertex (below_real first up) graph positions
      (leads_anywhere graph first)
  below_by kind path vertex = tt

  parent_has : (path : List ℕ) → AllByRecursion HasVertex (parent path)
  parent_has [] = tt
  parent_has (vertex ∷ []) = tt
  parent_has (vertex ∷ next ∷ up) = (refl, tt)

  view_by : (from : List ℕ) (node : Node) (b : Bool) → AllByRecursion HasVertex
      (cond b (filter (λ child. not (is_on_way from child)) (children graph positions node) ++ parent node.path)
      (children graph positions node))
  view_by from node true =
      all_append HasVertex (filter (λ child. not (is_on_way from child)) (children graph positions node))
      (parent node.path)
      (all_filtered HasVertex (λ child. not (is_on_way from child)) (children graph positions node)
      (below_by node.kind node.path node.vertex)) (parent_has node.path)
  view_by from node false = below_by node.kind node.path node.vertex

  pub view_has : (from : List ℕ) (node : Node) → AllByRecursion HasVertex (view_children graph positions from node)
  unfolding view_children
  view_has from node = view_by from node (is_on_way from node)

module _ (rules : Rules) (graph : Graph) (positions : List (List ℕ)) (all : List units.Unit) where
  descriptor_by : (kind : NodeKind) (path : List ℕ) (vertex : ℕ)
      → HasVertex (record { kind = kind; path = path; vertex = vertex })
      → is_in_unit rules graph positions all (record { kind = kind; path = path; vertex = vertex }) ≡ false
      → cond (is_real kind) (auxiliary rules graph positions all path) None ≡ None
  descriptor_by Real [] vertex h e = absurd h
  descriptor_by Real (first ∷ up) vertex h e = no_descriptor rules graph positions all first up
      (ap (λ v. is_in v (atoms_in rules graph positions all)) h ∙ e)
  descriptor_by kind path vertex h e = refl

  -- a node that is no atom of a unit has no descriptor, seen from anywhere
  pub unit_free : (from : List ℕ) (node : Node) → HasVertex node → is_in_unit rules graph positions all node ≡ false
      → (seen_from rules graph positions from (auxiliary rules graph positions all)).descriptor node ≡ None
  unit_free from node h e = descriptor_by node.kind node.path node.vertex h e
