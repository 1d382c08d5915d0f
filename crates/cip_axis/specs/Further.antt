-- The further units of a molecule: cumulenes, then biaryl axes, each by first and second end, with what the drawing
-- shows of each. IUPAC 2013, P-93; the order is own.
use Rattle.std.specs.Prelude.{ℕ, ◌-◌, Bool, List, [], ◌∷◌, ◌++◌, map, filter, flat_map, length, if◌then◌else◌}
use Rattle.std.specs.List.{range_with_len}
use Rattle.cip_mol.specs.Drawing.{Drawing}
use Rattle.cip_mol.specs.Geometry.{geometry_of}
use Rattle.cip_mol.specs.Marks.{is_crossed}
use Rattle.cip_mol.specs.declared.graph.molecule.Bond.{Bond}
use Rattle.cip_mol.specs.declared.site.Cause.TheVariants.{Either}
use Rattle.cip_mol.specs.declared.site.Geometry.{Geometry}
use Rattle.cip_mol.specs.declared.site.Geometry.TheVariants.{Unknown}
use Rattle.cip_digraph.specs.graph.DrawnGraph.{graph_of}
use Rattle.cip_digraph.specs.graph.Graph.{Graph, edges_at, other_end}
use Rattle.cip_digraph.specs.rings.Positions.{positions_of}
use Rattle.cip_digraph.specs.units.DoubleBonds.{end_ligands}
use Rattle.cip_axis.specs.Biaryls.{is_biaryl}
use Rattle.cip_axis.specs.Cumulenes.{any_bond, chains, first_atom, last_atom, is_cumulene}
use Rattle.cip_axis.specs.Likeness.{like}
use Rattle.cip_axis.specs.declared.site.FurtherSite.{FurtherSite}
use Rattle.cip_axis.specs.declared.site.FurtherSite.TheVariants.{Cumulene, Biaryl}
use Rattle.cip_axis.specs.declared.site.FurtherUnit.{FurtherUnit}

abbrev pub cumulene_site : Graph → List ℕ → FurtherSite
cumulene_site graph chain =
    Cumulene (first_atom chain) (last_atom chain) (length chain - 1) (end_ligands graph chain (first_atom chain))
    (end_ligands graph chain (last_atom chain))

abbrev pub biaryl_site : Graph → ℕ → ℕ → FurtherSite
biaryl_site graph a b =
    Biaryl a b (end_ligands graph (a ∷ b ∷ []) a) (end_ligands graph (a ∷ b ∷ []) b)

-- a double bond of a chain is itself marked as undecided
abbrev pub has_crossed : List Bond → List ℕ → Bool
has_crossed bonds chain = any_bond (λ atom next. is_crossed atom next bonds) chain

-- undecided, or as of the unit that it is like
abbrev pub cumulene_geometry : Drawing → List ℕ → FurtherSite → Geometry
cumulene_geometry drawing chain site =
    if has_crossed drawing.bonds chain then Unknown Either else geometry_of drawing (like site)

abbrev pub cumulene_unit : Drawing → Graph → List ℕ → FurtherUnit
cumulene_unit drawing graph chain =
    let site = cumulene_site graph chain in
    record { site = site; geometry = cumulene_geometry drawing chain site }

-- a mark on the axis itself counts at neither end, since ends have the marks to their ligands; one that is undecided
-- shows nothing
abbrev pub biaryl_unit : Drawing → Graph → ℕ → ℕ → FurtherUnit
biaryl_unit drawing graph a b =
    let site = biaryl_site graph a b in
    record { site = site; geometry = geometry_of drawing (like site) }

abbrev pub cumulenes_of : Drawing → Graph → ℕ → List FurtherUnit
cumulenes_of drawing graph a = map (cumulene_unit drawing graph) (filter (is_cumulene graph) (chains graph a))

abbrev pub biaryls_of : Drawing → Graph → List (List ℕ) → ℕ → List FurtherUnit
biaryls_of drawing graph positions a =
    map (λ edge. biaryl_unit drawing graph a (other_end a edge))
    (filter (is_biaryl graph positions a) (edges_at graph a))

unfoldable pub further_of : Drawing → Graph → List (List ℕ) → List FurtherUnit
further_of drawing graph positions =
    let atoms = range_with_len 0 graph.drawn in
    flat_map (cumulenes_of drawing graph) atoms ++ flat_map (biaryls_of drawing graph positions) atoms

-- those of a drawing by its own graph
abbrev pub further_in : Drawing → List FurtherUnit
further_in drawing = further_of drawing (graph_of drawing) (positions_of (graph_of drawing))
