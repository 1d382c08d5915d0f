-- What is shown of a root's own centre plays no part in the descriptors inside its digraph.
use Rattle.std.proofs.Common.{◌≡◌, ◌≢◌, ◌⊎◌, inl, inr, ℕ, zero, suc, List, [], ◌∷◌, ◌++◌, map, length, refl, sym, ap, ◌∙◌, Bool, true, false, cond, not, ◌&&◌, nat_le, nat_lt}
use Rattle.std.specs.Prelude.{None, Some}
use Rattle.std.specs.declared.option.Option.{Option}
use Rattle.std.specs.List.{AllByRecursion, list_any, list_all}
use Rattle.std.proofs.lemmas.Bool.{ne_eqb}
use Rattle.cip_rank.specs.Matching.{InPairs}
use Rattle.cip_rank.specs.declared.rules.Rules.{Rules}
use Rattle.cip_mol.specs.declared.labels.descriptor.Descriptor.{Descriptor}
use Rattle.cip_mol.specs.declared.labels.descriptor.Sense.{Sense}
use Rattle.cip_mol.specs.declared.site.Geometry.{Geometry}
use Rattle.cip_mol.specs.declared.site.Geometry.TheVariants.{Known, Unknown}
use Rattle.cip_mol.specs.declared.site.Ligand.{Ligand}
use Rattle.cip_mol.specs.declared.site.Ligand.TheVariants.{Vertex, LonePair}
use Rattle.cip_mol.specs.declared.site.Site.{Site}
use Rattle.cip_mol.specs.declared.site.Site.TheVariants.{Centre}
use Rattle.cip_mol.specs.declared.site.Unit as units
use Rattle.cip_digraph.specs.digraph.Digraph.{Node, is_real}
use Rattle.cip_digraph.specs.digraph.View.{is_end_of, real_at, view_children, seen_from}
use Rattle.cip_digraph.specs.graph.Graph.{Graph}
use Rattle.cip_digraph.specs.rings.Alternating.{is_in}
use Rattle.cip_digraph.specs.rules.Auxiliary.{stands_for, ligand_node, nearer_first, root_at, roots_at, letter_at, unit_letter, first_letter, node_letter, inside, descriptors_within, auxiliary}
use Rattle.cip_digraph.specs.rules.Decisions.{order}
use Rattle.cip_digraph.specs.units.Descriptors.{letter}
use Rattle.cip_mol.specs.Ends.{between_of}
use Rattle.cip_digraph.specs.units.Ends.{End, end_at, ends_of}
use Rattle.cip_digraph.specs.units.Ranked.{Root, has_tie}
use Rattle.cip_digraph.proofs.lemmas.lists.Elements.{all_filtered}
use Rattle.cip_rules.specs.Moving.{Moves}
use Rattle.cip_rules.proofs.lemmas.MovedOrders.{moved_order}
use Rattle.cip_edit.specs.UnitsBeside.{IsCentreAt, IsSameBeside, AreSameBeside}
use Rattle.cip_edit.proofs.lemmas.RootPaths.{EndsAt, IsBelow, longer_by, view_below}
use Rattle.cip_edit.proofs.lemmas.RootsAlike.{AreAlike, roots_alike, ties_alike, letters_alike}

same_nodes : (nodes : List Node) → map (λ node. node) nodes ≡ nodes
same_nodes [] = refl
same_nodes (node ∷ nodes) = ap (λ others. node ∷ others) (same_nodes nodes)

-- descriptors that agree on all paths that meet the root at their end alone
abbrev pub AgreeBelow : ℕ → (List ℕ → Option Descriptor) → (List ℕ → Option Descriptor) → Type 0
AgreeBelow root descriptor theirs = (path : List ℕ) → EndsAt root path → theirs path ≡ descriptor path

module _ (rules : Rules) (graph : Graph) (positions : List (List ℕ)) (root : ℕ) where
  module _ (descriptor theirs : List ℕ → Option Descriptor) (agree : AgreeBelow root descriptor theirs) where
    moves : (from : List ℕ) → Moves (λ node. node) (IsBelow root) (seen_from rules graph positions from descriptor)
        (seen_from rules graph positions from theirs)
    moves from = record {
      moved = λ node h. same_nodes (view_children graph positions from node);
      below = λ node h. view_below graph positions root from node h;
      height = refl;
      atomic = λ node h. refl;
      distance = λ node h. refl;
      mass = λ node h. refl;
      descriptor = λ node h. ap (λ found. cond (is_real node.kind) found None) (agree node.path h);
    }

    order_same : (from : List ℕ) (r_first : Bool) (a b : Node) → IsBelow root a → IsBelow root b
        → order (seen_from rules graph positions from theirs) r_first a b
        ≡ order (seen_from rules graph positions from descriptor) r_first a b
    order_same from r_first a b h g =
        moved_order (λ node. node) (IsBelow root) (seen_from rules graph positions from descriptor)
        (seen_from rules graph positions from theirs) (moves from) r_first a b h g

    nodes_below : (from : List ℕ) → EndsAt root from → (ligands : List Ligand)
        → AllByRecursion (λ nodes. AllByRecursion (IsBelow root) nodes)
        (map (ligand_node (view_children graph positions from (real_at from))) ligands)
    nodes_below from h [] = tt
    nodes_below from h (LonePair ∷ ligands) = (tt, nodes_below from h ligands)
    nodes_below from h (Vertex vertex ∷ ligands) = (
      all_filtered (IsBelow root) (stands_for vertex) (view_children graph positions from (real_at from))
          (view_below graph positions root from (real_at from) (at from h)),
      nodes_below from h ligands,
    )
      where
        at : (path : List ℕ) → EndsAt root path → IsBelow root (real_at path)
        at [] h = absurd h
        at (vertex ∷ up) h = h

    pub root_alike : (from : List ℕ) → EndsAt root from → (ligands : List Ligand)
        → AreAlike (root_at rules graph positions descriptor from ligands)
        (root_at rules graph positions theirs from ligands)
    root_alike from h ligands =
        roots_alike (IsBelow root) (order (seen_from rules graph positions from descriptor) true)
        (order (seen_from rules graph positions from theirs) true)
        (order (seen_from rules graph positions from descriptor) false)
        (order (seen_from rules graph positions from theirs) false)
        (order_same from true) (order_same from false)
        (map (ligand_node (view_children graph positions from (real_at from))) ligands) (nodes_below from h ligands)

    abbrev if_new : Bool → List (Root Node) → List (Root Node)
    if_new b roots = elim b as (λ _. List (Root Node)) [ true ↦ roots | false ↦ [] ]

    pair_by : (path between : List ℕ) → EndsAt root path → (nearer far : End) (b : Bool)
        → list_all (λ vertex. not (is_in vertex path)) (far.at ∷ between) ≡ b
        → InPairs AreAlike
        (if_new b (root_at rules graph positions descriptor path nearer.ligands
        ∷ root_at rules graph positions descriptor (far.at ∷ between ++ path) far.ligands ∷ []))
        (if_new b (root_at rules graph positions theirs path nearer.ligands
        ∷ root_at rules graph positions theirs (far.at ∷ between ++ path) far.ligands ∷ []))
    pair_by path between h nearer far true e = (
      root_alike path h nearer.ligands,
      (root_alike (far.at ∷ between ++ path) (longer_by root path (far.at ∷ between) h e) far.ligands, tt),
    )
    pair_by path between h nearer far false e = tt

    all_alike : (path between : List ℕ) → EndsAt root path → (ends : List End)
        → InPairs AreAlike (roots_at rules graph positions descriptor path between ends)
        (roots_at rules graph positions theirs path between ends)
    all_alike path between h [] = tt
    all_alike path between h (nearer ∷ []) = (root_alike path h nearer.ligands, tt)
    all_alike path between h (nearer ∷ far ∷ ends) =
        pair_by path between h nearer far (list_all (λ vertex. not (is_in vertex path)) (far.at ∷ between)) refl

    abbrev if_tied : Bool → Option Descriptor → Option Descriptor
    if_tied b found = elim b as (λ _. Option Descriptor) [ true ↦ None | false ↦ found ]

    letter_same : (site : Site) (sense : Sense) (ones others : List (Root Node)) → InPairs AreAlike ones others
        → letter_at rules graph positions site sense others ≡ letter_at rules graph positions site sense ones
    letter_same site sense [] [] all = refl
    letter_same site sense [] (other ∷ others) all = absurd all
    letter_same site sense (one ∷ ones) [] all = absurd all
    letter_same site sense (one ∷ ones) (other ∷ others) all =
        ap (λ b. if_tied b (Some (letter site sense (other ∷ others))))
        (ties_alike (one ∷ ones) (other ∷ others) all)
        ∙ ap (λ found. if_tied (list_any has_tie (one ∷ ones)) (Some found))
        (letters_alike site sense (one ∷ ones) (other ∷ others) all)

    shown_same : (site : Site) (geometry : Geometry) (vertex : ℕ) (up : List ℕ) → EndsAt root (vertex ∷ up)
        → unit_letter rules graph positions (record { site = site; geometry = geometry }) vertex up theirs
        ≡ unit_letter rules graph positions (record { site = site; geometry = geometry }) vertex up descriptor
    shown_same site (Unknown cause) vertex up h = refl
    shown_same site (Known sense) vertex up h =
        letter_same site sense
        (roots_at rules graph positions descriptor (vertex ∷ up) (between_of site) (nearer_first vertex (ends_of site)))
        (roots_at rules graph positions theirs (vertex ∷ up) (between_of site) (nearer_first vertex (ends_of site)))
        (all_alike (vertex ∷ up) (between_of site) h (nearer_first vertex (ends_of site)))

  -- a centre has no descriptor at other vertices
  none_beside : (descriptor : List ℕ → Option Descriptor) (ligands : List Ligand) (geometry : Geometry) (vertex : ℕ)
      (up : List ℕ) → vertex ≢ root
      → unit_letter rules graph positions (record { site = Centre root ligands; geometry = geometry }) vertex up descriptor
      ≡ None
  none_beside descriptor ligands (Unknown cause) vertex up other = refl
  none_beside descriptor ligands (Known sense) vertex up other =
      ap
      (λ b. letter_at rules graph positions (Centre root ligands) sense
      (roots_at rules graph positions descriptor (vertex ∷ up) [] (cond b (end_at root ligands ∷ []) [])))
      (ne_eqb root vertex (λ e. other (sym e)))

  module _ (descriptor theirs : List ℕ → Option Descriptor) (agree : AgreeBelow root descriptor theirs) where
    unit_same : (one other : units.Unit) → IsSameBeside root one other → (vertex : ℕ) (up : List ℕ)
        → vertex ≢ root → EndsAt root (vertex ∷ up)
        → unit_letter rules graph positions other vertex up theirs
        ≡ unit_letter rules graph positions one vertex up descriptor
    unit_same one other same vertex up off h = by same.shown
      where
        letter_of : (List ℕ → Option Descriptor) → Site → Geometry → Option Descriptor
        letter_of descriptors site geometry =
            unit_letter rules graph positions (record { site = site; geometry = geometry }) vertex up descriptors

        by : (other.geometry ≡ one.geometry) ⊎ IsCentreAt root one.site
            → letter_of theirs other.site other.geometry ≡ letter_of descriptor one.site one.geometry
        by (inl e) =
            (λ i. letter_of theirs (same.site i) (e i))
            ∙ shown_same descriptor theirs agree one.site one.geometry vertex up h
        by (inr c) =
            ap (λ site. letter_of theirs site other.geometry) (same.site ∙ c.is)
            ∙ none_beside theirs c.ligands other.geometry vertex up off
            ∙ sym
            (ap (λ site. letter_of descriptor site one.geometry) c.is
            ∙ none_beside descriptor c.ligands one.geometry vertex up off)

    abbrev first_by : Option Descriptor → Option Descriptor → Option Descriptor
    first_by found later = elim found as (λ _. Option Descriptor) [ None ↦ later | Some found ↦ Some found ]

    first_same : (all others : List units.Unit) → AreSameBeside root all others → (vertex : ℕ) (up : List ℕ)
        → vertex ≢ root → EndsAt root (vertex ∷ up)
        → first_letter rules graph positions others vertex up theirs
        ≡ first_letter rules graph positions all vertex up descriptor
    first_same [] [] same vertex up off h = refl
    first_same [] (other ∷ others) same vertex up off h = absurd same
    first_same (one ∷ all) [] same vertex up off h = absurd same
    first_same (one ∷ all) (other ∷ others) same vertex up off h =
        ap (λ found. first_by found (first_letter rules graph positions others vertex up theirs))
        (unit_same one other same.0 vertex up off h)
        ∙ ap (first_by (unit_letter rules graph positions one vertex up descriptor))
        (first_same all others same.1 vertex up off h)

    abbrev when : Bool → Option Descriptor → Option Descriptor
    when b found = elim b as (λ _. Option Descriptor) [ true ↦ found | false ↦ None ]

    node_same : (all others : List units.Unit) → AreSameBeside root all others → (path : List ℕ) → EndsAt root path
        → node_letter rules graph positions others path theirs ≡ node_letter rules graph positions all path descriptor
    node_same all others same [] h = absurd h
    node_same all others same (vertex ∷ []) h = refl
    node_same all others same (vertex ∷ next ∷ up) h =
        ap (when (nat_le (length (vertex ∷ next ∷ up)) (length graph.vertices)))
        (first_same all others same vertex (next ∷ up) h.0 h)

    inside_agrees : (path : List ℕ) → AgreeBelow root (inside descriptor path) (inside theirs path)
    inside_agrees path inner h =
        ap (when (is_end_of path inner && nat_lt (length path) (length inner))) (agree inner h)

  module _ (all others : List units.Unit) (same : AreSameBeside root all others) where
    within_same : (more : ℕ)
        → AgreeBelow root (descriptors_within (node_letter rules graph positions all) more)
        (descriptors_within (node_letter rules graph positions others) more)
    unfolding descriptors_within
    within_same zero path h = refl
    within_same (suc more) path h =
        let descriptor = descriptors_within (node_letter rules graph positions all) more in
        let theirs = descriptors_within (node_letter rules graph positions others) more in
        node_same (inside descriptor path) (inside theirs path)
        (inside_agrees descriptor theirs (within_same more) path) all others
        same path h

    pub auxiliary_same : AgreeBelow root (auxiliary rules graph positions all)
        (auxiliary rules graph positions others)
    auxiliary_same path h = within_same (length graph.vertices) path h
