-- The mirror image of a drawing has the reflected further units.
use Rattle.std.proofs.Common.{◌≡◌, ℕ, List, [], ◌∷◌, ◌++◌, map, filter, flat_map, refl, sym, ap, ◌∙◌, Bool, true, false, if◌then◌else◌}
use Rattle.std.specs.List.{range_with_len}
use Rattle.std.proofs.lemmas.List.{map-append}
use Rattle.cip_mol.specs.Drawing.{Drawing}
use Rattle.cip_mol.specs.Geometry.{geometry_of}
use Rattle.cip_mol.specs.Marks.{is_crossed}
use Rattle.cip_mol.specs.Reflection.{mirrored_bond, reflected}
use Rattle.cip_mol.specs.declared.graph.molecule.Bond as molecules
use Rattle.cip_mol.specs.declared.graph.molecule.Mark.TheVariants as marks
use Rattle.cip_mol.specs.declared.site.Cause.TheVariants.{Either}
use Rattle.cip_mol.specs.declared.site.Geometry.{Geometry}
use Rattle.cip_mol.specs.declared.site.Geometry.TheVariants.{Unknown}
use Rattle.cip_mol.specs.declared.site.Site.{Site}
use Rattle.cip_mol.proofs.lemmas.ReflectedDrawing.{is_either-exchanged}
use Rattle.cip_digraph.specs.graph.DrawnGraph.{graph_of}
use Rattle.cip_digraph.specs.graph.Graph.{Graph, edges_at, other_end}
use Rattle.cip_digraph.specs.rings.Positions.{positions_of}
use Rattle.cip_digraph.specs.rules.Exchange.{reflected_geometry}
use Rattle.cip_axis.specs.Biaryls.{is_biaryl}
use Rattle.cip_axis.specs.Cumulenes.{any_bond, chains, is_cumulene}
use Rattle.cip_axis.specs.Further.{has_crossed, cumulene_site, cumulene_unit, cumulenes_of, biaryl_site, biaryl_unit, biaryls_of, further_of}
use Rattle.cip_axis.specs.Likeness.{like}
use Rattle.cip_axis.specs.declared.site.FurtherUnit.{FurtherUnit}
use Rattle.cip_axis.specs.FurtherOutcomes.{as_unit}
use Rattle.cip_laws.specs.FurtherLaws.{reflected_further, ReflectsFurther, ReflectionKeepsFurther}
use Rattle.cip_symmetry.proofs.lemmas.lists.CarriedLists.{mapped_twice, mapped_by, mapped_flat}
use Rattle.cip_laws.proofs.lemmas.drawings.ReflectedDrawings.{geometry_mirrored, graph_kept, reflection_keeps_drawings}

crossed_kept : (a b : ℕ) (some : List molecules.Bond) → is_crossed a b (map mirrored_bond some) ≡ is_crossed a b some
crossed_kept a b [] = refl
crossed_kept a b (x ∷ some) =
    rw (is_either-exchanged x.mark, crossed_kept a b some)

unless_mirrored : (undecided : Bool) (site : Site) (geometry : Geometry)
    → (if undecided then Unknown Either else reflected_geometry site geometry)
    ≡ reflected_geometry site (if undecided then Unknown Either else geometry)
unless_mirrored true site geometry = refl
unless_mirrored false site geometry = refl

module _ (drawing : Drawing) where
  abbrev mirror : Drawing
  mirror = reflected drawing

  cumulene_mirrored : (graph : Graph) (chain : List ℕ)
      → cumulene_unit mirror graph chain ≡ reflected_further (cumulene_unit drawing graph chain)
  cumulene_mirrored graph chain =
      let site = cumulene_site graph chain in
      let crosses : has_crossed mirror.bonds chain ≡ has_crossed drawing.bonds chain =
      ap (λ test. any_bond test chain) (λ i x y. crossed_kept x y drawing.bonds i) in
      ap {B = FurtherUnit} (λ g. record { site = site; geometry = g })
      (rw (crosses, geometry_mirrored drawing (like site))
      (unless_mirrored (has_crossed drawing.bonds chain) (like site) (geometry_of drawing (like site))))

  biaryl_mirrored : (graph : Graph) (a b : ℕ)
      → biaryl_unit mirror graph a b ≡ reflected_further (biaryl_unit drawing graph a b)
  biaryl_mirrored graph a b =
      let site = biaryl_site graph a b in
      ap {B = FurtherUnit} (λ g. record { site = site; geometry = g }) (geometry_mirrored drawing (like site))

  cumulenes_mirrored : (graph : Graph) (a : ℕ)
      → cumulenes_of mirror graph a ≡ map reflected_further (cumulenes_of drawing graph a)
  cumulenes_mirrored graph a =
      let all = filter (is_cumulene graph) (chains graph a) in
      mapped_by (cumulene_unit mirror graph) (λ chain. reflected_further (cumulene_unit drawing graph chain))
      (cumulene_mirrored graph) all
      ∙ sym (mapped_twice (cumulene_unit drawing graph) reflected_further all)

  biaryls_mirrored : (graph : Graph) (positions : List (List ℕ)) (a : ℕ)
      → biaryls_of mirror graph positions a ≡ map reflected_further (biaryls_of drawing graph positions a)
  biaryls_mirrored graph positions a =
      let all = filter (is_biaryl graph positions a) (edges_at graph a) in
      mapped_by (λ e. biaryl_unit mirror graph a (other_end a e))
      (λ e. reflected_further (biaryl_unit drawing graph a (other_end a e)))
      (λ e. biaryl_mirrored graph a (other_end a e)) all
      ∙ sym (mapped_twice (λ e. biaryl_unit drawing graph a (other_end a e)) reflected_further all)

  further_mirrored : (graph : Graph) (positions : List (List ℕ))
      → further_of mirror graph positions ≡ map reflected_further (further_of drawing graph positions)
  unfolding further_of
  further_mirrored graph positions =
      let atoms = range_with_len 0 graph.drawn in
      ap (λ (f : ℕ → List FurtherUnit). flat_map f atoms ++ flat_map (biaryls_of mirror graph positions) atoms)
      (λ i a. cumulenes_mirrored graph a i)
      ∙ ap
      (λ (f : ℕ → List FurtherUnit). flat_map (λ a. map reflected_further (cumulenes_of drawing graph a)) atoms
      ++ flat_map f atoms) (λ i a. biaryls_mirrored graph positions a i)
      ∙ ap
      (λ us. us ++ flat_map (λ a. map reflected_further (biaryls_of drawing graph positions a)) atoms)
      (sym (mapped_flat reflected_further (cumulenes_of drawing graph) atoms))
      ∙ ap (λ us. map reflected_further (flat_map (cumulenes_of drawing graph) atoms) ++ us)
      (sym (mapped_flat reflected_further (biaryls_of drawing graph positions) atoms))
      ∙ sym
      (map-append reflected_further (flat_map (cumulenes_of drawing graph) atoms)
      (flat_map (biaryls_of drawing graph positions) atoms))

  pub reflects_further : ReflectsFurther drawing
  reflects_further = record {
    all =
        ap {A = Graph} {B = List FurtherUnit} (λ g. further_of mirror g (positions_of g)) (graph_kept drawing)
        ∙ further_mirrored (graph_of drawing) (positions_of (graph_of drawing));
    costs = λ rules unit. (reflection_keeps_drawings drawing).costs rules (as_unit unit);
    outcomes = λ rules bound unit. (reflection_keeps_drawings drawing).outcomes rules bound (as_unit unit);
  }

pub reflection_keeps_further : ReflectionKeepsFurther
reflection_keeps_further drawing = reflects_further drawing
