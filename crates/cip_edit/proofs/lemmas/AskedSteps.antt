-- The mark that is asked for, step by step.
use Rattle.std.proofs.Common.{◌≡◌, ℕ, length, refl, sym, ap, subst, ◌∙◌, true, false, not, nat_lt, ltb-true}
use Rattle.std.specs.Prelude.{if◌then◌else◌, Err, Some}
use Rattle.std.specs.declared.option.Option.{Option}
use Rattle.std.proofs.lemmas.Bool.{and_parts}
use Rattle.cip_num.specs.Around.{has_coincident}
use Rattle.cip_rank.specs.declared.rules.Rules.{Rules}
use Rattle.cip_mol.specs.Drawing.{Drawing}
use Rattle.cip_mol.specs.DrawnLigands.{drawn}
use Rattle.cip_mol.specs.Geometry.{geometry_of}
use Rattle.cip_mol.specs.Points.{is_spatial}
use Rattle.cip_mol.specs.Sites.{IsSite}
use Rattle.cip_mol.specs.declared.graph.molecule.Mark.TheVariants.{Up}
use Rattle.cip_mol.specs.declared.site.Geometry.{Geometry}
use Rattle.cip_mol.specs.declared.site.Site.{Site}
use Rattle.cip_digraph.specs.graph.DrawnGraph.{graph_of}
use Rattle.cip_digraph.specs.units.Centres.{is_centre}
use Rattle.cip_digraph.specs.units.Units.{centre_site}
use Rattle.cip_unit.proofs.lemmas.Shown.{centre_shown}
use Rattle.cip_mol.specs.declared.labels.centre_letter.CentreLetter.{CentreLetter}
use Rattle.cip_edit.specs.declared.request.CentreRefusal.TheVariants as refusals
use Rattle.cip_edit.specs.FoundCentres.{found_at}
use Rattle.cip_edit.specs.Marking.{bare, marked, directions, shows_coincident, is_eligible, ligands_of, first_where, chosen, has_centre}
use Rattle.cip_edit.specs.SetLetters.{by_outcome, by_chosen, mark_centre, mark_for_letter}
use Rattle.cip_edit.proofs.lemmas.BareGeometry.{bare_coincident}
use Rattle.cip_edit.proofs.lemmas.SetMarks.{centre_stays}

module _ (rules : Rules) (nodes : ℕ) (drawing : Drawing) (atom : ℕ) (requested : CentreLetter) where
  pub in_space : is_spatial drawing.atoms ≡ true → mark_centre rules nodes drawing atom requested ≡ Err refusals.ThreeD
  in_space e =
      ap
      (λ c. if c then Err refusals.ThreeD
      else if has_coincident (directions drawing atom) then Err refusals.Coincident
      else by_chosen rules nodes drawing atom requested (chosen drawing atom)) e

  in_plane : is_spatial drawing.atoms ≡ false
      → mark_centre rules nodes drawing atom requested
      ≡ (if has_coincident (directions drawing atom) then Err refusals.Coincident
      else by_chosen rules nodes drawing atom requested (chosen drawing atom))
  in_plane e =
      ap
      (λ c. if c then Err refusals.ThreeD
      else if has_coincident (directions drawing atom) then Err refusals.Coincident
      else by_chosen rules nodes drawing atom requested (chosen drawing atom)) e

  pub clashing : is_spatial drawing.atoms ≡ false → has_coincident (directions drawing atom) ≡ true
      → mark_centre rules nodes drawing atom requested ≡ Err refusals.Coincident
  clashing flat e =
      in_plane flat
      ∙ ap
      (λ c. if c then Err refusals.Coincident else by_chosen rules nodes drawing atom requested (chosen drawing atom)) e

  pub by_ligand : is_spatial drawing.atoms ≡ false → has_coincident (directions drawing atom) ≡ false → (found : Option ℕ)
      → found ≡ chosen drawing atom
      → mark_centre rules nodes drawing atom requested ≡ by_chosen rules nodes drawing atom requested found
  by_ligand flat clear found is =
      in_plane flat
      ∙ ap
      (λ c. if c then Err refusals.Coincident else by_chosen rules nodes drawing atom requested
      (chosen drawing atom)) clear
      ∙ ap (by_chosen rules nodes drawing atom requested) (sym is)

  pub no_centre : has_centre drawing atom ≡ false → mark_for_letter rules nodes drawing atom requested ≡ Err refusals.NoCentre
  unfolding mark_for_letter
  no_centre e =
      ap (λ c. if not c then Err refusals.NoCentre else mark_centre rules nodes drawing atom requested) e

  pub some_centre : has_centre drawing atom ≡ true
      → mark_for_letter rules nodes drawing atom requested ≡ mark_centre rules nodes drawing atom requested
  unfolding mark_for_letter
  some_centre e =
      ap (λ c. if not c then Err refusals.NoCentre else mark_centre rules nodes drawing atom requested) e

-- by the drawing without marks, and the site of the centre
module _ (drawing : Drawing) (atom : ℕ) (plain : Drawing) (site : Site) (is_bare : plain ≡ bare drawing atom)
    (is_there : site ≡ centre_site (graph_of drawing) atom) where
  pub coincident_told : (geometry : Geometry) → geometry ≡ geometry_of plain site → is_spatial drawing.atoms ≡ false
      → shows_coincident geometry ≡ has_coincident (directions drawing atom)
  coincident_told geometry is flat =
      ap shows_coincident (is ∙ (λ i. geometry_of (is_bare i) (is_there i))) ∙ bare_coincident drawing atom flat

  pub chosen_told : (found : Option ℕ)
      → found
      ≡ first_where (is_eligible plain atom site) (drawn (length plain.atoms) (ligands_of site))
      → found ≡ chosen drawing atom
  chosen_told found is =
      is
      ∙ (λ i. first_where (is_eligible (is_bare i) atom (is_there i))
      (drawn (length (is_bare i).atoms) (ligands_of (is_there i))))

  pub stands_told : has_centre drawing atom ≡ true → (neighbour : ℕ)
      → has_centre (marked plain atom neighbour Up) atom ≡ true
  stands_told centre neighbour =
      ap (λ d. has_centre (marked d atom neighbour Up) atom) is_bare ∙ centre_stays drawing atom neighbour Up ∙ centre

  pub outcome_told : (rules : Rules) (nodes : ℕ) (requested : CentreLetter) (neighbour : ℕ)
      → by_outcome requested neighbour (found_at rules nodes (marked plain atom neighbour Up) atom)
      ≡ by_chosen rules nodes drawing atom requested (Some neighbour)
  outcome_told rules nodes requested neighbour =
      ap (λ d. by_outcome requested neighbour (found_at rules nodes (marked d atom neighbour Up) atom)) is_bare

  pub site_told : has_centre drawing atom ≡ true → IsSite (length plain.atoms) site
  unfolding graph_of
  site_told centre =
      let both = and_parts (nat_lt atom (length drawing.atoms)) (is_centre (graph_of drawing) atom) centre in
      let here : IsSite (length drawing.atoms) (centre_site (graph_of drawing) atom) =
      centre_shown (graph_of drawing) (length drawing.atoms) atom refl
      (ltb-true atom (length drawing.atoms) both.0) both.1 in
      subst (λ (d : Drawing). IsSite (length d.atoms) site) (sym is_bare)
      (subst (λ s. IsSite (length drawing.atoms) s) (sym is_there) here)
