-- Units of which some centres are turned.
use Rattle.std.proofs.Common.{◌≡◌, ℕ, List, [], ◌∷◌, ◌∙◌, map, refl, ap, Bool, true}
use Rattle.std.proofs.Common.{false, cond}
use Rattle.cip_mol.specs.declared.labels.descriptor.Sense.TheVariants.{Plus, Minus}
use Rattle.cip_mol.specs.declared.site.Geometry.{Geometry}
use Rattle.cip_mol.specs.declared.site.Geometry.TheVariants.{Known, Unknown}
use Rattle.cip_mol.specs.declared.site.Ligand.{Ligand}
use Rattle.cip_mol.specs.declared.site.Site.{Site}
use Rattle.cip_mol.specs.declared.site.Site.TheVariants.{Centre, Bond, Axis}
use Rattle.cip_mol.specs.declared.site.Unit as units
use Rattle.cip_digraph.specs.rules.Exchange.{reflected_geometry, reflected_unit}
use Rattle.cip_digraph.specs.units.Inverted.{turned_geometry, is_centre_among, inverted_unit, inverted}
use Rattle.cip_digraph.specs.units.InversionLaws.{InversionsTurnBack, IsHeld, HoldEachCentre}
use Rattle.cip_digraph.specs.units.InversionLaws.{WholeInversionsMirror}
use Rattle.cip_digraph.proofs.lemmas.reflected.Units.{outcome_exchanged}

abbrev unit_at : Site → Geometry → units.Unit
unit_at site geometry = record { site = site; geometry = geometry }

turned_back : (geometry : Geometry) → turned_geometry (turned_geometry geometry) ≡ geometry
turned_back (Known Plus) = refl
turned_back (Known Minus) = refl
turned_back (Unknown cause) = refl

turned_back_by : (parities : Bool) (geometry : Geometry) →
    cond parities (turned_geometry (cond parities (turned_geometry geometry) geometry))
    (cond parities (turned_geometry geometry) geometry) ≡ geometry
turned_back_by true geometry = turned_back geometry
turned_back_by false geometry = refl

pub unit_turned_back : (atoms : List ℕ) (unit : units.Unit) → inverted_unit atoms (inverted_unit atoms unit) ≡ unit
unit_turned_back atoms unit = ap (unit_at unit.site) (turned_back_by (is_centre_among atoms unit.site) unit.geometry)

pub units_turned_back : (atoms : List ℕ) (all : List units.Unit) → inverted atoms (inverted atoms all) ≡ all
units_turned_back atoms [] = refl
units_turned_back atoms (unit ∷ others) =
    (λ i. unit_turned_back atoms unit i ∷ units_turned_back atoms others i)

pub sites_stay : (atoms : List ℕ) (all : List units.Unit) →
    map (λ (unit : units.Unit). unit.site) (inverted atoms all) ≡ map (λ (unit : units.Unit). unit.site) all
sites_stay atoms [] = refl
sites_stay atoms (unit ∷ others) = ap (λ sites. unit.site ∷ sites) (sites_stay atoms others)

pub inversions_turn_back : InversionsTurnBack
inversions_turn_back atoms all = record {
  twice = units_turned_back atoms all;
  each = unit_turned_back atoms;
  sites = sites_stay atoms all;
}

-- turning a held unit is reflecting it

turned_is_reflected : (at : ℕ) (ligands : List Ligand) (geometry : Geometry) →
    turned_geometry geometry ≡ reflected_geometry (Centre at ligands) geometry
turned_is_reflected at ligands (Known sense) = refl
turned_is_reflected at ligands (Unknown cause) = refl

bond_is_reflected : (a b : ℕ) (first second : List Ligand) (geometry : Geometry) →
    geometry ≡ reflected_geometry (Bond a b first second) geometry
bond_is_reflected a b first second (Known sense) = refl
bond_is_reflected a b first second (Unknown cause) = refl

held_geometry : (atoms : List ℕ) (site : Site) (geometry : Geometry) → IsHeld atoms site →
    cond (is_centre_among atoms site) (turned_geometry geometry) geometry ≡ reflected_geometry site geometry
held_geometry atoms (Centre at ligands) geometry held =
    ap (λ parities. cond parities (turned_geometry geometry) geometry) held ∙ turned_is_reflected at ligands geometry
held_geometry atoms (Bond a b first second) geometry held = bond_is_reflected a b first second geometry
held_geometry atoms (Axis a middle b first second) geometry held = absurd held

pub held_unit : (atoms : List ℕ) (unit : units.Unit) → IsHeld atoms unit.site →
    inverted_unit atoms unit ≡ reflected_unit unit
held_unit atoms unit held = ap (unit_at unit.site) (held_geometry atoms unit.site unit.geometry held)

pub held_units : (atoms : List ℕ) (all : List units.Unit) → HoldEachCentre atoms all →
    inverted atoms all ≡ map reflected_unit all
held_units atoms [] held = refl
held_units atoms (unit ∷ others) held =
    (λ i. held_unit atoms unit held.0 i ∷ held_units atoms others held.1 i)

pub whole_inversions_mirror : WholeInversionsMirror
whole_inversions_mirror rules graph positions atoms all bound unit held own =
    rw (held_unit atoms unit own, held_units atoms all held) (outcome_exchanged rules graph positions all bound unit)
