-- Units of a renamed graph, there and back, from what holds of senses.
use Rattle.std.proofs.Common.{◌≡◌, ◌⊎◌, inl, inr, ◌==◌, ◌||◌, ℕ, List, [], ◌∷◌, map, refl, sym, ap, subst, ◌∙◌, Bool, true, false, eq-eqb}
use Rattle.std.specs.List.{list_any}
use Rattle.cip_rank.specs.Matching.{InPairs}
use Rattle.cip_mol.specs.declared.site.Geometry.{Geometry}
use Rattle.cip_mol.specs.declared.site.Site.{Site}
use Rattle.cip_mol.specs.declared.site.Site.TheVariants.{Centre, Bond, Axis}
use Rattle.cip_digraph.specs.units.Ends.{End, ends_of}
use Rattle.cip_digraph.specs.graph.Graph.{Graph}
use Rattle.cip_digraph.specs.rings.Positions.{positions_of}
use Rattle.cip_digraph.specs.graph.SoundGraphs.{IsSound}
use Rattle.cip_digraph.specs.units.Units.{sites_of, units_of}
use Rattle.cip_symmetry.specs.Images.{Among, ligand_image, AreCrossed, AreForward, IsImageEnd, IsImageSite, crossed}
use Rattle.cip_laws.proofs.lemmas.units.AloneSites.{shown, sites_alone, units_alone}
use Rattle.cip_symmetry.proofs.lemmas.lists.Among.{among_map, from_map}
use Rattle.cip_symmetry.proofs.lemmas.lists.CarriedLists.{same_eq}
use Rattle.cip_digraph.proofs.lemmas.bonds.Tests.{or_swap}
use Rattle.cip_laws.proofs.lemmas.units.CarriedAxes.{sites_there}
use Rattle.cip_symmetry.specs.Renamed.{IsInjective, IsRenamed}
use Rattle.cip_laws.proofs.lemmas.units.CarriedSites.{SiteImage}
use Rattle.cip_symmetry.specs.CarriedUnits.{AreEndsCarried, IsCarriedEnd, IsCarriedPair, IsCarriedSite, IsCarriedGeometry, IsCarriedUnit, UnitsMatch, stands_at}
use Rattle.cip_symmetry.proofs.lemmas.lists.Exchanges.{permutation_from}
use Rattle.cip_laws.proofs.lemmas.graph.Inverses.{IsOnto, inverse, renamed_back}

-- without parities
end_is : (image : ℕ → ℕ) (odd : Bool) (one two : End) → IsCarriedEnd image odd one two → IsImageEnd image one two
end_is image odd one two e =
    record {
      at = e.at;
      ligands =
          permutation_from e.places (map (ligand_image image) one.ligands) two.ligands e.exchanged;
    }

pair_is : (image : ℕ → ℕ) (odd : Bool) (a b c d : End) → IsCarriedPair image odd a b c d
    → InPairs (IsImageEnd image) (a ∷ b ∷ []) (c ∷ d ∷ []) ⊎ InPairs (IsImageEnd image) (a ∷ b ∷ []) (d ∷ c ∷ [])
pair_is image odd a b c d p = elim p.ends [
  | inl e ↦ inl (end_is image e.first a c e.near_end, (end_is image e.second b d e.far, tt))
  | inr e ↦ inr (end_is image e.first a d e.near_end, (end_is image e.second b c e.far, tt))
]

ends_by : (image : ℕ → ℕ) (odd : Bool) (ones twos : List End) → AreEndsCarried image odd ones twos
    → InPairs (IsImageEnd image) ones twos ⊎ InPairs (IsImageEnd image) ones (crossed twos)
ends_by image odd ones twos (inl c) =
    inl (rw (c.is_one, c.is_other) (end_is image odd c.one c.other c.carried, tt))
ends_by image odd ones twos (inr c) =
    rw (c.are_ones, c.are_others) (pair_is image odd c.near_end c.far c.first c.second c.carried)

pub ends_are : (image : ℕ → ℕ) (odd : Bool) (one two : Site) → AreEndsCarried image odd (ends_of one) (ends_of two)
    → AreForward image one two ⊎ AreCrossed image one two
ends_are image odd one two ends = ends_by image odd (ends_of one) (ends_of two) ends

pub site_is : (image : ℕ → ℕ) (odd : Bool) (one two : Site) → IsCarriedSite image odd one two → IsImageSite image one two
site_is image odd one two c = record {
  shape = c.shape;
  between = c.between;
  ends = ends_are image odd one two c.ends;
}

-- a vertex is an end of a site exactly where its image is one of the image
stands_there : (image : ℕ → ℕ) → IsInjective image → (odd : Bool) (ones twos : List End)
    → AreEndsCarried image odd ones twos → (v : ℕ)
    → list_any (λ end. end.at == image v) twos ≡ list_any (λ end. end.at == v) ones
stands_there image injective odd ones twos (inl c) v =
    rw (c.is_one, c.is_other, c.carried.at, same_eq image injective c.one.at v)
stands_there image injective odd ones twos (inr c) v =
    let nearer = same_eq image injective c.near_end.at v in
    let far = same_eq image injective c.far.at v in
    elim c.carried.ends [
      | inl e ↦ rw (c.are_ones, c.are_others, e.near_end.at, e.far.at, nearer, far)
      | inr e ↦
          rw (c.are_ones, c.are_others, e.near_end.at, e.far.at, nearer, far) (or_swap (c.far.at == v) (c.near_end.at == v) false)
    ]

some_end : (site : Site) → (v : ℕ) × (stands_at v site ≡ true)
some_end (Centre at ligands) = (at, ap (λ b. b || false) (eq-eqb at at refl))
some_end (Bond a b first second) = (a, ap (λ t. t || ((b == a) || false)) (eq-eqb a a refl))
some_end (Axis a middle b first second) = (a, ap (λ t. t || ((b == a) || false)) (eq-eqb a a refl))

module _ (graph other : Graph) (image : ℕ → ℕ) (r : IsRenamed graph other image) (onto : IsOnto image)
    (sound : IsSound graph) (their_sound : IsSound other) where
  -- there by the inverse, and there again: two sites with a common end are one
  sites_back : (two : Site) → Among two (sites_of other (positions_of other))
      → (site : Site) × Among site (sites_of graph (positions_of graph)) × SiteImage image site two
  sites_back two h =
      let back = inverse image onto in
      let renamed = renamed_back graph other image r onto in
      let one = sites_there other graph back renamed sound two h in
      let again = sites_there graph other image r their_sound one.0 one.1 in
      let end = some_end two in
      let at : stands_at (image (back end.0)) again.0 ≡ true =
      stands_there image r.injective again.2.odd (ends_of one.0) (ends_of again.0) again.2.carried.ends (back end.0)
      ∙ stands_there back renamed.injective one.2.odd (ends_of two) (ends_of one.0) one.2.carried.ends end.0
      ∙ end.1 in (
        one.0,
        one.1,
        subst (SiteImage image one.0)
            (sites_alone other their_sound again.0 two again.1 h end.0
            (subst (λ v. stands_at v again.0 ≡ true) (sym (onto end.0).1) at) end.1) again.2,
      )

  module _ (geometry theirs : Site → Geometry)
      (senses : (site two : Site) → Among site (sites_of graph (positions_of graph))
      → Among two (sites_of other (positions_of other)) → (s : SiteImage image site two)
      → IsCarriedGeometry s.odd (geometry site) (theirs two)) where
    carried_unit : (site two : Site) → Among site (sites_of graph (positions_of graph))
        → Among two (sites_of other (positions_of other)) → SiteImage image site two
        → IsCarriedUnit image (shown geometry site) (shown theirs two)
    carried_unit site two h k s = record { odd = s.odd; site = s.carried; geometry = senses site two h k s }

    pub units_match : UnitsMatch image (units_of geometry graph (positions_of graph))
        (units_of theirs other (positions_of other))
    units_match = record {
      there = λ one h.
          let at = from_map (shown geometry) one (sites_of graph (positions_of graph)) h in
          let two = sites_there graph other image r their_sound at.0 at.1 in (
            shown theirs two.0,
            among_map (shown theirs) two.0 (sites_of other (positions_of other)) two.1,
            subst (λ u. IsCarriedUnit image u (shown theirs two.0)) (sym at.2)
                (carried_unit at.0 two.0 at.1 two.1 two.2),
          );
      back = λ two h.
          let by = from_map (shown theirs) two (sites_of other (positions_of other)) h in
          let one = sites_back by.0 by.1 in (
            shown geometry one.0,
            among_map (shown geometry) one.0 (sites_of graph (positions_of graph)) one.1,
            subst (IsCarriedUnit image (shown geometry one.0)) (sym by.2) (carried_unit one.0 by.0 one.1 by.1 one.2),
          );
      alone = units_alone graph sound geometry;
      theirs_alone = units_alone other their_sound theirs;
    }
