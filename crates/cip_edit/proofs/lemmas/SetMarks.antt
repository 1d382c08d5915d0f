-- A drawing with a mark at a centre's first eligible ligand: its centre, and what is found of it with either mark.
use Rattle.std.proofs.Common.{◌≡◌, ◌≢◌, inl, inr, ℕ, List, [], ◌∷◌, map, length, refl, sym, ap, ◌∙◌, Bool, true, false, cond, not, ◌==◌, ◌&&◌, nat_lt, eq-eqb, eqb-true}
use Rattle.std.specs.Prelude.{Some}
use Rattle.std.specs.List.{list_any}
use Rattle.std.proofs.lemmas.Bool.{and_parts, or_cases}
use Rattle.cip_num.specs.Around.{has_coincident}
use Rattle.cip_rank.specs.declared.rules.Rules.{Rules}
use Rattle.cip_mol.specs.Bonds as bonds
use Rattle.cip_mol.specs.Drawing.{Drawing}
use Rattle.cip_mol.specs.DrawnLigands.{drawn}
use Rattle.cip_mol.specs.Geometry.{of_centre}
use Rattle.cip_mol.specs.Marks.{is_narrow_at, joins}
use Rattle.cip_mol.specs.Points.{is_spatial}
use Rattle.cip_mol.specs.declared.labels.descriptor.Sense.{Sense}
use Rattle.cip_mol.specs.declared.graph.molecule.Bond.{Bond}
use Rattle.cip_mol.specs.declared.graph.molecule.Mark.{Mark}
use Rattle.cip_mol.specs.declared.graph.molecule.Mark.TheVariants.{Plain, Up, Down}
use Rattle.cip_mol.specs.declared.site.Geometry.{Geometry}
use Rattle.cip_mol.specs.declared.site.Geometry.TheVariants.{Known}
use Rattle.cip_digraph.specs.graph.DrawnGraph.{graph_of}
use Rattle.cip_digraph.specs.units.Centres.{is_centre, centre_ligands}
use Rattle.cip_digraph.specs.units.Descriptors.{opposite}
use Rattle.cip_digraph.specs.units.Units.{centre_site}
use Rattle.cip_digraph.proofs.lemmas.bonds.Sound.{drawn_sound}
use Rattle.cip_digraph.proofs.lemmas.lists.Elements.{Pairwise}
use Rattle.cip_mol.specs.Joins.{JoinsAlike, JoinAlike}
use Rattle.cip_edit.specs.Remarked.{IsRemarked, AreRemarked}
use Rattle.cip_edit.specs.Marking.{without_mark, bare_bonds, bare, can_be_marked, is_plain, marked_to, with_mark, drawn_ligands, directions, shows_reentrant, is_eligible, chosen, has_centre}
use Rattle.cip_edit.specs.FoundCentres.{outcome_as, shown_at, found_at}
use Rattle.cip_edit.specs.TurnedLetters.{turned_outcome}
use Rattle.cip_edit.proofs.lemmas.JoinedAlike.{centre_same, ligands_same}
use Rattle.cip_edit.proofs.lemmas.RemarkedCentres.{keeps_ranks, senses_turn}
use Rattle.cip_edit.proofs.lemmas.SetGeometry.{ligands_differ, FoundFirst, found_first, up_sense, up_shows, down_shows}

not_true : (b : Bool) → not b ≡ true → b ≡ false
not_true true e = let bad : false ≡ true = e in cc
not_true false e = refl

module _ (atom neighbour : ℕ) where
  -- the ends of a free bond, in either direction
  free_ends : (w : Bond) (mark : Mark) → can_be_marked atom neighbour w ≡ true
      → JoinsAlike w (record { a = atom; b = neighbour; order = w.order; mark = mark })
  free_ends w mark free =
      let joined : joins atom neighbour w ≡ true =
      (and_parts (joins atom neighbour w) ((w.order == 1) && is_plain w.mark) free).0 in
      record {
        order = refl;
        ends =
            elim (or_cases ((w.a == atom) && (w.b == neighbour)) ((w.a == neighbour) && (w.b == atom)) joined) [
              | inl e ↦
                  (let both = and_parts (w.a == atom) (w.b == neighbour) e in
                  inl (sym (eqb-true w.a atom both.0), sym (eqb-true w.b neighbour both.1)))
              | inr e ↦
                  (let both = and_parts (w.a == neighbour) (w.b == atom) e in
                  inr (sym (eqb-true w.b atom both.1), sym (eqb-true w.a neighbour both.0)))
            ];
      }

  pub marked_joins : (w : Bond) (mark : Mark) → JoinsAlike w (marked_to atom neighbour mark w)
  marked_joins w mark = by (can_be_marked atom neighbour w) refl
    where
      by : (b : Bool) → can_be_marked atom neighbour w ≡ b
          → JoinsAlike w (cond b (record { a = atom; b = neighbour; order = w.order; mark = mark }) w)
      by true e = free_ends w mark e
      by false e = record { order = refl; ends = inl (refl, refl) }

  pub bare_joins : (w : Bond) → JoinsAlike w (without_mark atom w)
  bare_joins w = by (is_narrow_at atom w)
    where
      by : (b : Bool) → JoinsAlike w (cond b (record w { mark = Plain }) w)
      by true = record { order = refl; ends = inl (refl, refl) }
      by false = record { order = refl; ends = inl (refl, refl) }

  joins_through : (u v w : Bond) → JoinsAlike u v → JoinsAlike v w → JoinsAlike u w
  joins_through u v w h g = record {
    order = g.order ∙ h.order;
    ends = elim h.ends [
      | inl e ↦ elim g.ends [
        | inl f ↦ inl (f.0 ∙ e.0, f.1 ∙ e.1)
        | inr f ↦ inr (f.0 ∙ e.1, f.1 ∙ e.0)
      ]
      | inr e ↦ elim g.ends [
        | inl f ↦ inr (f.0 ∙ e.0, f.1 ∙ e.1)
        | inr f ↦ inl (f.0 ∙ e.1, f.1 ∙ e.0)
      ]
    ];
  }

  pub all_join : (mark : Mark) (some : List Bond)
      → JoinAlike some (map (marked_to atom neighbour mark) (bare_bonds atom some))
  all_join mark [] = tt
  all_join mark (w ∷ some) = (
    joins_through w (without_mark atom w) (marked_to atom neighbour mark (without_mark atom w)) (bare_joins w)
        (marked_joins (without_mark atom w) mark),
    all_join mark some,
  )

  -- up and down
  all_remarked : (one other : Mark) (some : List Bond)
      → AreRemarked atom (map (marked_to atom neighbour one) some) (map (marked_to atom neighbour other) some)
  all_remarked one other [] = tt
  all_remarked one other (w ∷ some) = (by (can_be_marked atom neighbour w) refl, all_remarked one other some)
    where
      by : (b : Bool) → can_be_marked atom neighbour w ≡ b
          → IsRemarked atom (cond b (record { a = atom; b = neighbour; order = w.order; mark = one }) w)
          (cond b (record { a = atom; b = neighbour; order = w.order; mark = other }) w)
      by true e =
          let single : (w.order == 1) ≡ true =
          (and_parts (w.order == 1) (is_plain w.mark)
          (and_parts (joins atom neighbour w) ((w.order == 1) && is_plain w.mark) e).1).0 in
          record {
            a = refl;
            b = refl;
            order = refl;
            mark = inr (λ i. eq-eqb atom atom refl i && single i);
          }
      by false e = record { a = refl; b = refl; order = refl; mark = inl refl }

module _ (drawing : Drawing) (atom neighbour : ℕ) where
  -- the centre stays
  pub centre_stays : (mark : Mark) → has_centre (with_mark drawing atom neighbour mark) atom ≡ has_centre drawing atom
  centre_stays mark =
      ap (λ c. nat_lt atom (length drawing.atoms) && c)
      (centre_same drawing.atoms drawing.bonds (with_mark drawing atom neighbour mark).bonds
      (all_join atom neighbour mark drawing.bonds) atom)

  pub ligands_stay : (mark : Mark)
      → centre_ligands (graph_of (with_mark drawing atom neighbour mark)) atom ≡ centre_ligands (graph_of drawing) atom
  ligands_stay mark =
      ligands_same drawing.atoms drawing.bonds (with_mark drawing atom neighbour mark).bonds
      (all_join atom neighbour mark drawing.bonds) atom

  module _ (sound : bonds.IsSound (length drawing.atoms) drawing.bonds) (centre : has_centre drawing atom ≡ true)
      (flat : is_spatial drawing.atoms ≡ false) (clear : has_coincident (directions drawing atom) ≡ false)
      (first : chosen drawing atom ≡ Some neighbour) where
    abbrev pub test : ℕ → Bool
    test = is_eligible (bare drawing atom) atom (centre_site (graph_of drawing) atom)

    pub found : FoundFirst test (drawn_ligands drawing atom) neighbour
    found = found_first test (drawn_ligands drawing atom) neighbour first

    pub free : list_any (can_be_marked atom neighbour) (bare_bonds atom drawing.bonds) ≡ true
    free = (and_parts _ _ found.passes).0

    pub calm : shows_reentrant
        (of_centre drawing.atoms (map (marked_to atom neighbour Up) (bare_bonds atom drawing.bonds)) atom
        (drawn_ligands drawing atom))
        ≡ false
    calm = not_true _ (and_parts _ _ found.passes).1

    pub differ : Pairwise ◌≢◌ (drawn_ligands drawing atom)
    differ = ligands_differ (graph_of drawing) (drawn_sound drawing sound) (length drawing.atoms) atom

    abbrev pub sense : Sense
    sense =
        up_sense drawing.atoms drawing.bonds atom neighbour (drawn_ligands drawing atom) flat clear differ found.here
        free calm

    shown_with : (mark : Mark) (shown : Geometry)
        → of_centre drawing.atoms (map (marked_to atom neighbour mark) (bare_bonds atom drawing.bonds)) atom
        (drawn_ligands drawing atom)
        ≡ shown
        → shown_at (with_mark drawing atom neighbour mark) atom ≡ shown
    shown_with mark shown e =
        ap
        (λ ls. of_centre drawing.atoms (map (marked_to atom neighbour mark) (bare_bonds atom drawing.bonds)) atom
        (drawn (length drawing.atoms) ls)) (ligands_stay mark)
        ∙ e

    pub up_known : shown_at (with_mark drawing atom neighbour Up) atom ≡ Known sense
    up_known =
        shown_with Up (Known sense)
        (up_shows drawing.atoms drawing.bonds atom neighbour (drawn_ligands drawing atom) flat clear differ found.here
        free calm)

    pub down_known : shown_at (with_mark drawing atom neighbour Down) atom ≡ Known (opposite sense)
    down_known =
        shown_with Down (Known (opposite sense))
        (down_shows drawing.atoms drawing.bonds atom neighbour (drawn_ligands drawing atom) flat clear differ
        found.here free calm)

    abbrev up : Drawing
    up = with_mark drawing atom neighbour Up

    abbrev down : Drawing
    down = with_mark drawing atom neighbour Down

    is_one : is_centre (graph_of up) atom ≡ true
    is_one = (and_parts _ _ (centre_stays Up ∙ centre)).1

    -- with the other mark the other letter is found
    pub down_found : (rules : Rules) (bound : ℕ)
        → found_at rules bound down atom ≡ turned_outcome (found_at rules bound up atom)
    down_found rules bound =
        (keeps_ranks up down.bonds atom is_one
        (all_remarked atom neighbour Up Down (bare_bonds atom drawing.bonds))).outcomes rules bound
        (shown_at down atom)
        ∙ ap (outcome_as rules bound up atom) down_known
        ∙ senses_turn rules bound up atom sense
        ∙ sym (ap (λ shown. turned_outcome (outcome_as rules bound up atom shown)) up_known)
