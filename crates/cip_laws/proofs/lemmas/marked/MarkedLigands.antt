-- A centre that is given a mark keeps its ligands in rank order: without the mark the drawing is one in which a bond is
-- turned at most.
use Rattle.std.proofs.Common.{◌≡◌, ◌∙◌, inl, inr, ap, sym, subst, refl, ℕ, List, [], ◌∷◌, Bool, true, false, cond, map, length, ◌==◌, ◌&&◌, eq-eqb}
use Rattle.std.proofs.lemmas.Bool.{and_parts}
use Rattle.cip_rank.specs.declared.rules.Rules.{Rules}
use Rattle.cip_mol.specs.Bonds as bonds
use Rattle.cip_mol.specs.Drawing.{Drawing}
use Rattle.cip_mol.specs.Marks.{is_narrow_at, joins}
use Rattle.cip_mol.specs.declared.labels.descriptor.Sense.{Sense}
use Rattle.cip_mol.specs.declared.labels.descriptor.Sense.TheVariants.{Plus}
use Rattle.cip_mol.specs.declared.graph.molecule.Bond.{Bond}
use Rattle.cip_mol.specs.declared.graph.molecule.Mark.{Mark}
use Rattle.cip_mol.specs.declared.graph.molecule.Mark.TheVariants.{Plain}
use Rattle.cip_mol.specs.declared.labels.outcome.Outcome.{Outcome}
use Rattle.cip_mol.specs.declared.site.Geometry.TheVariants.{Known}
use Rattle.cip_digraph.specs.graph.DrawnGraph.{graph_of}
use Rattle.cip_digraph.specs.graph.Graph.{Graph}
use Rattle.cip_digraph.specs.outcome.Outcomes.{outcome_of}
use Rattle.cip_digraph.specs.rings.Positions.{positions_of}
use Rattle.cip_digraph.specs.units.Centres.{is_centre}
use Rattle.cip_digraph.specs.units.Descriptors.{turned_if}
use Rattle.cip_digraph.specs.units.DrawnUnits.{units_in}
use Rattle.cip_digraph.specs.units.Units.{centre_site}
use Rattle.cip_digraph.proofs.lemmas.bonds.Sound.{drawn_sound}
use Rattle.cip_symmetry.specs.Images.{IsImageOutcome}
use Rattle.cip_laws.proofs.lemmas.drawings.Renumbered.{matching}
use Rattle.cip_laws.proofs.lemmas.drawings.RenumberedBonds.{renumbered_sound}
use Rattle.cip_symmetry.proofs.lemmas.graph.CarriedPositions.{positions_renamed}
use Rattle.cip_laws.proofs.lemmas.graph.RenumberedGraph.{carry, graph_renamed}
use Rattle.cip_symmetry.proofs.lemmas.outcomes.CarriedOutcomes.{outcome_carried}
use Rattle.cip_symmetry.specs.Renamed.{IsRenamed}
use Rattle.cip_laws.proofs.lemmas.units.CarriedSites.{SiteImage, centre_carried, centre_image}
use Rattle.cip_edit.specs.FoundCentres.{outcome_as, shown_at}
use Rattle.cip_edit.specs.MarkLaw.{KeepsRanks}
use Rattle.cip_edit.specs.Marking.{bare, bare_bonds, has_centre, can_be_marked, is_plain, marked, marked_to, with_mark}
use Rattle.cip_edit.specs.Remarked.{AreRemarked, IsRemarked}
use Rattle.cip_edit.proofs.lemmas.RemarkedCentres.{keeps_ranks}
use Rattle.cip_edit.proofs.lemmas.SetSound.{sound_bare}
use Rattle.cip_label.specs.Settings.{setting_in}
use Rattle.cip_undefined.proofs.lemmas.KeptOrders.{senses_keep}
use Rattle.cip_laws.specs.TurnedBonds.{GivenMarksKeepLigands, KeepsLigands}
use Rattle.cip_laws.proofs.lemmas.marked.KeptMarks.{marks_keep}
use Rattle.cip_laws.proofs.lemmas.marked.TurnedDrawings.{carried_still, still, turned_still}

bare_remarked : (atom : ℕ) (some : List Bond) → AreRemarked atom some (bare_bonds atom some)
bare_remarked atom [] = tt
bare_remarked atom (bond ∷ some) = (by (is_narrow_at atom bond) refl, bare_remarked atom some)
  where
    by : (narrow : Bool) → is_narrow_at atom bond ≡ narrow
        → IsRemarked atom bond (cond narrow (record bond { mark = Plain }) bond)
    by true e = record { a = refl; b = refl; order = refl; mark = inr e }
    by false e = record { a = refl; b = refl; order = refl; mark = inl refl }

module _ (atom neighbour : ℕ) (mark : Mark) where
  marked_remarked : (some : List Bond)
      → AreRemarked atom (map (marked_to atom neighbour Plain) some) (map (marked_to atom neighbour mark) some)
  marked_remarked [] = tt
  marked_remarked (bond ∷ some) = (by (can_be_marked atom neighbour bond) refl, marked_remarked some)
    where
      by : (free : Bool) → can_be_marked atom neighbour bond ≡ free
          → IsRemarked atom (cond free (record { a = atom; b = neighbour; order = bond.order; mark = Plain }) bond)
          (cond free (record { a = atom; b = neighbour; order = bond.order; mark = mark }) bond)
      by true e =
          let parts = and_parts (joins atom neighbour bond) ((bond.order == 1) && is_plain bond.mark) e in
          let single = (and_parts (bond.order == 1) (is_plain bond.mark) parts.1).0 in
          record { a = refl; b = refl; order = refl; mark = inr (λ i. eq-eqb atom atom refl i && single i) }
      by false e = record { a = refl; b = refl; order = refl; mark = inl refl }

module _ (rules : Rules) (nodes : ℕ) (drawing : Drawing) (atom neighbour : ℕ)
    (sound : bonds.IsSound (length drawing.atoms) drawing.bonds) (centre : has_centre drawing atom ≡ true) where
  abbrev ours : Drawing
  ours = bare drawing atom

  abbrev theirs : Drawing
  theirs = marked ours atom neighbour Plain

  abbrev graph : Graph
  graph = graph_of ours

  abbrev other : Graph
  other = graph_of theirs

  abbrev image : ℕ → ℕ
  image = carry ours still

  stands : is_centre (graph_of drawing) atom ≡ true
  stands = (and_parts _ _ centre).1

  kept : KeepsRanks drawing ours.bonds atom
  kept = keeps_ranks drawing ours.bonds atom stands (bare_remarked atom drawing.bonds)

  ours_sound : bonds.IsSound (length ours.atoms) ours.bonds
  ours_sound = sound_bare atom drawing sound

  theirs_sound : bonds.IsSound (length theirs.atoms) theirs.bonds
  theirs_sound = renumbered_sound ours theirs still (turned_still atom neighbour ours) ours_sound

  abbrev r : IsRenamed graph other image
  r = graph_renamed ours theirs still (turned_still atom neighbour ours) ours_sound

  abbrev s : SiteImage image (centre_site graph atom) (centre_site other (image atom))
  s = centre_image graph other image r atom

  -- with the turned bond, what is found of the open centre is the image of what was found
  abbrev opened : (ℕ → ℕ) → Outcome
  opened at = outcome_of rules other (positions_of other) (units_in theirs) nodes
      (record { site = centre_site other (at atom); geometry = Known (turned_if s.odd Plus) })

  carried : IsImageOutcome image (centre_site graph atom) (centre_site other (image atom))
      (outcome_as rules nodes ours atom (Known Plus)) (opened image)
  carried =
      outcome_carried rules graph other (positions_of graph) (positions_of other) image r
      (positions_renamed graph other image r) (drawn_sound ours ours_sound) (units_in ours) (units_in theirs)
      (matching ours theirs still ours_sound theirs_sound (turned_still atom neighbour ours))
      nodes (record { site = centre_site graph atom; geometry = Known Plus })
      (record { site = centre_site other (image atom); geometry = Known (turned_if s.odd Plus) })
      (record { odd = s.odd; site = s.carried; geometry = refl })

  unmoved : IsImageOutcome still (centre_site graph atom) (centre_site other atom)
      (outcome_as rules nodes ours atom (Known Plus)) (opened still)
  unmoved =
      subst
      (λ (at : ℕ → ℕ). IsImageOutcome at (centre_site graph atom) (centre_site other (at atom))
      (outcome_as rules nodes ours atom (Known Plus)) (opened at))
      (λ i v. carried_still ours v i) carried

  stands_there : is_centre other atom ≡ true
  stands_there =
      ap (is_centre other) (sym (carried_still ours atom)) ∙ centre_carried graph other image r atom
      ∙ ap (λ (g : Graph). is_centre g atom) kept.graph ∙ stands

  -- and of the centre in the drawing as it was
  as_drawn : IsImageOutcome still (centre_site (graph_of drawing) atom) (centre_site other atom)
      (outcome_as rules nodes drawing atom (Known Plus)) (opened still)
  as_drawn = rw (← kept.outcomes rules nodes (Known Plus), ← kept.graph) unmoved

  given : (mark : Mark) (sense : Sense) → shown_at (with_mark drawing atom neighbour mark) atom ≡ Known sense
      → KeepsLigands rules nodes drawing (with_mark drawing atom neighbour mark) atom
  unfolding outcome_of
  given mark sense shown =
      let remarked = marked_remarked atom neighbour mark ours.bonds in
      let there = keeps_ranks theirs (with_mark drawing atom neighbour mark).bonds atom stands_there remarked in
      record {
        as_open = opened still;
        letters =
            marks_keep rules nodes theirs (with_mark drawing atom neighbour mark).bonds atom sense stands_there remarked
            shown
            ∙ sym (senses_keep (setting_in rules theirs) nodes (centre_site other atom) (turned_if s.odd Plus));
        ligands = rw there.graph as_drawn;
      }

pub given_keep : GivenMarksKeepLigands
given_keep rules nodes drawing atom neighbour mark sense sound centre shown =
    given rules nodes drawing atom neighbour sound centre mark sense shown
