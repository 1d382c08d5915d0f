-- The senses of units go to their images: they turn with each exchange of ligands that ascending numbers make.
use Rattle.std.proofs.Common.{◌≡◌, inl, inr, ◌<◌, ◌≤◌, ◌+◌, ℕ, suc, List, [], ◌∷◌, map, length, swap, refl, sym, ap, subst, ◌∙◌, Bool, true, false, nat_lt, arith}
use Rattle.cip_mol.specs.Bonds as bonds
use Rattle.cip_mol.specs.Drawing.{Drawing}
use Rattle.cip_mol.specs.DrawnLigands.{drawn}
use Rattle.cip_mol.specs.Senses.{other_way}
use Rattle.cip_mol.specs.Geometry.{centre_geometry, bond_geometry, axis_geometry, of_centre, of_bond, of_axis, geometry_of}
use Rattle.cip_mol.specs.declared.labels.descriptor.Sense.TheVariants.{Plus, Minus}
use Rattle.cip_mol.specs.declared.site.Geometry.{Geometry}
use Rattle.cip_mol.specs.declared.site.Geometry.TheVariants.{Known, Unknown}
use Rattle.cip_mol.specs.declared.site.Ligand.{Ligand}
use Rattle.cip_mol.specs.declared.site.Ligand.TheVariants.{LonePair}
use Rattle.cip_mol.specs.declared.site.Ligand.TheVariants as ligands
use Rattle.cip_mol.specs.declared.site.Site.{Site}
use Rattle.cip_mol.specs.declared.site.Site.TheVariants.{Centre, Bond, Axis}
use Rattle.cip_laws.proofs.lemmas.senses.ExchangedLigands.{exchange_turns_centres}
use Rattle.cip_laws.proofs.lemmas.senses.ExchangedAtEnd.{exchange_turns_bonds, exchange_turns_axes}
use Rattle.cip_laws.proofs.lemmas.senses.ExchangedEnds.{exchanged_ends_keep_bonds, exchanged_ends_keep_axes}
use Rattle.cip_digraph.specs.units.Descriptors.{is_odd, shape_of}
use Rattle.cip_digraph.specs.units.Ends.{End, end_at, ends_of}
use Rattle.cip_digraph.specs.graph.Renumbering.{IsRenumbering}
use Rattle.cip_symmetry.specs.Images.{ligand_image}
use Rattle.cip_symmetry.specs.CarriedUnits.{IsCarriedEnd, AreCarriedEnds, AreEndsCarried, IsCarriedGeometry}
use Rattle.cip_symmetry.proofs.lemmas.digraph.CarriedEnds.{end_of, pair_of}
use Rattle.cip_symmetry.specs.Exchanged.{IsExchanged, turned_twice}
use Rattle.cip_laws.proofs.lemmas.drawings.RenamedGeometry.{centre_renamed, bond_renamed, axis_renamed}
use Rattle.cip_laws.proofs.lemmas.graph.RenumberedGraph.{carry, drawn_same}
use Rattle.cip_laws.proofs.lemmas.units.TurnedSenses.{flip, is_drawn, undrawn, behind, turned_together}

abbrev Few : ℕ → Type 0
Few m = m ≤ 2

-- a list of ligands as units have them: those drawn first, and one at most that isn't
pub record IsListed (atoms least most : ℕ) (ls : List Ligand) : Type 0 where
  pub few : undrawn atoms ls ≤ 1
  pub last : behind atoms ls ≡ 0
  pub some : least ≤ length (drawn atoms ls)
  pub less : length (drawn atoms ls) ≤ most

flip_geometry : (odd : Bool) (g h : Geometry) → h ≡ flip odd g → IsCarriedGeometry odd g h
flip_geometry odd g h e = subst (IsCarriedGeometry odd g) (sym e) (by odd g)
  where
    by : (odd : Bool) (g : Geometry) → IsCarriedGeometry odd g (flip odd g)
    by true (Known Plus) = refl
    by true (Known Minus) = refl
    by true (Unknown cause) = refl
    by false (Known sense) = refl
    by false (Unknown cause) = refl

flip_both : (a b : Bool) (g : Geometry) → flip a (flip b g) ≡ flip (turned_twice a b) g
flip_both true true (Known Plus) = refl
flip_both true true (Known Minus) = refl
flip_both true true (Unknown cause) = refl
flip_both true false g = refl
flip_both false b g = refl

module _ (drawing : Drawing) where
  abbrev n : ℕ
  n = length drawing.atoms

  abbrev Between : ℕ → Type 0
  Between m = (3 ≤ m) × (m ≤ 4)

  centre_turned : (at : ℕ) (places : List ℕ) (ls ms : List Ligand) → IsExchanged places ls ms → IsListed n 3 4 ls
      → behind n ms ≡ 0
      → centre_geometry drawing at ms ≡ flip (is_odd (length places)) (centre_geometry drawing at ls)
  centre_turned at places ls ms e l last =
      turned_together n (centre_geometry drawing at) Between
      (λ ls ms same. ap (of_centre drawing.atoms drawing.bonds at) same)
      (λ ls ms i fits lt same. exchange_turns_centres drawing at i (i + 1) ls ms fits.0 fits.1 (omega arith) lt same)
      places ls ms e l.few (l.some, l.less) l.last last

  first_of_two : (i m : ℕ) → i + 1 < m → m ≤ 2 → (i ≡ 0) × (m ≡ 2)
  first_of_two i m lt le = (omega (arith, lt, le), omega (arith, lt, le))

  -- at one of two ends, the other one as it is
  abbrev Turns : (List Ligand → Geometry) → Type 0
  Turns of =
      (places : List ℕ) (ls ms : List Ligand) → IsExchanged places ls ms → IsListed n 1 2 ls → behind n ms ≡ 0
      → of ms ≡ flip (is_odd (length places)) (of ls)

  end_turned : (of : List ℕ → Geometry)
      → ((ls ms : List Ligand) → length (drawn n ls) ≡ 2 → drawn n ms ≡ swap (drawn n ls) 0 1
      → of (drawn n ms) ≡ other_way (of (drawn n ls)))
      → Turns (λ ls. of (drawn n ls))
  end_turned of parities places ls ms e l last =
      turned_together n (λ ls. of (drawn n ls)) Few (λ ls ms same. ap of same)
      (λ ls ms i fits lt same.
      let two = first_of_two i (length (drawn n ls)) lt fits in
      let next : i + 1 ≡ 1 = let zero_i = two.0 in omega (arith, zero_i) in
      parities ls ms two.1 (same ∙ ap (λ j. swap (drawn n ls) j (i + 1)) two.0 ∙ ap (swap (drawn n ls) 0) next))
      places ls ms e l.few l.less l.last last

  bond_turned : (a b : ℕ) (second : List Ligand) → 1 ≤ length (drawn n second)
      → Turns (λ ls. bond_geometry drawing a b ls second)
  bond_turned a b second some =
      end_turned (λ ks. of_bond drawing.atoms drawing.bonds a b ks (drawn n second))
      (λ ls ms two same. exchange_turns_bonds drawing a b ls ms second two some same)

  axis_turned : (a b : ℕ) (second : List Ligand) → 1 ≤ length (drawn n second)
      → Turns (λ ls. axis_geometry drawing a b ls second)
  axis_turned a b second some =
      end_turned (λ ks. of_axis drawing.atoms drawing.bonds a b ks (drawn n second))
      (λ ls ms two same. exchange_turns_axes drawing a b ls ms second two some same)

-- what a site of a drawing is, as far as its geometry is concerned
pub record IsEndListed (drawing : Drawing) (end : End) : Type 0 where
  pub at : end.at < length drawing.atoms
  pub ligands : IsListed (length drawing.atoms) 1 2 end.ligands

abbrev pub IsSiteListed : Drawing → Site → Type 0
IsSiteListed drawing (Centre at ls) = (at < length drawing.atoms) × IsListed (length drawing.atoms) 3 4 ls
IsSiteListed drawing (Bond a b first second) =
    IsEndListed drawing (end_at a first) × IsEndListed drawing (end_at b second)
IsSiteListed drawing (Axis a middle b first second) =
    IsEndListed drawing (end_at a first) × IsEndListed drawing (end_at b second)

module _ (drawing other : Drawing) (image : ℕ → ℕ) (r : IsRenumbering drawing other image)
    (sound : bonds.IsSound (length drawing.atoms) drawing.bonds)
    (their_sound : bonds.IsSound (length other.atoms) other.bonds) where
  abbrev c : ℕ → ℕ
  c = carry drawing image

  -- the images of ligands are drawn where these are
  drawn_long : (ls : List Ligand)
      → length (drawn (length other.atoms) (map (ligand_image c) ls)) ≡ length (drawn (length drawing.atoms) ls)
  drawn_long [] = refl
  drawn_long (LonePair ∷ ls) = drawn_long ls
  drawn_long (ligands.Vertex v ∷ ls) = by (nat_lt v (length drawing.atoms)) refl (drawn_long ls)
    where
      by : (b : Bool) → nat_lt v (length drawing.atoms) ≡ b
          → length (drawn (length other.atoms) (map (ligand_image c) ls)) ≡ length (drawn (length drawing.atoms) ls)
          → length (drawn (length other.atoms) (map (ligand_image c) (ligands.Vertex v ∷ ls)))
          ≡ length (drawn (length drawing.atoms) (ligands.Vertex v ∷ ls))
      by true e rest = let f = drawn_same drawing other image r sound v ∙ e in rw (f, e) (ap suc rest)
      by false e rest = let f = drawn_same drawing other image r sound v ∙ e in rw (f, e) rest

  is_drawn_same : (l : Ligand) → is_drawn (length other.atoms) (ligand_image c l) ≡ is_drawn (length drawing.atoms) l
  is_drawn_same (ligands.Vertex v) = drawn_same drawing other image r sound v
  is_drawn_same LonePair = refl

  undrawn_same : (ls : List Ligand)
      → undrawn (length other.atoms) (map (ligand_image c) ls) ≡ undrawn (length drawing.atoms) ls
  undrawn_same [] = refl
  undrawn_same (l ∷ ls) = rw (undrawn_same ls, is_drawn_same l)

  behind_same : (ls : List Ligand)
      → behind (length other.atoms) (map (ligand_image c) ls) ≡ behind (length drawing.atoms) ls
  behind_same [] = refl
  behind_same (l ∷ ls) = rw (drawn_long ls, behind_same ls, is_drawn_same l)

  listed_image : (least most : ℕ) (ls : List Ligand) → IsListed (length drawing.atoms) least most ls
      → IsListed (length other.atoms) least most (map (ligand_image c) ls)
  listed_image least most ls l = record {
    few = subst (λ k. k ≤ 1) (sym (undrawn_same ls)) l.few;
    last = behind_same ls ∙ l.last;
    some = subst (λ k. least ≤ k) (sym (drawn_long ls)) l.some;
    less = subst (λ k. k ≤ most) (sym (drawn_long ls)) l.less;
  }

  centre_sense : (odd : Bool) (at there : ℕ) (ls ts : List Ligand)
      → IsCarriedEnd c odd (end_at at ls) (end_at there ts) → at < length drawing.atoms
      → IsListed (length drawing.atoms) 3 4 ls → IsListed (length other.atoms) 3 4 ts
      → centre_geometry other there ts ≡ flip odd (centre_geometry drawing at ls)
  centre_sense odd at there ls ts e lt l t =
      ap (λ v. centre_geometry other v ts) e.at
      ∙ centre_turned other (c at) e.places (map (ligand_image c) ls) ts e.exchanged (listed_image 3 4 ls l) t.last
      ∙ ap (λ b. flip b (centre_geometry other (c at) (map (ligand_image c) ls))) e.parity
      ∙ ap (flip odd) (centre_renamed drawing other image r sound their_sound at lt ls)

  -- of two ends, by a geometry that exchanges at an end turn, and that an exchange of the ends keeps
  module _ (of : Drawing → ℕ → ℕ → List Ligand → List Ligand → Geometry)
      (turned : (a b : ℕ) (second : List Ligand) → 1 ≤ length (drawn (length other.atoms) second)
      → Turns other (λ ls. of other a b ls second))
      (keep : (a b : ℕ) (first second : List Ligand) → of other b a second first ≡ of other a b first second)
      (renamed : (a b : ℕ) → a < length drawing.atoms → b < length drawing.atoms → (ks ls : List Ligand)
      → of other (c a) (c b) (map (ligand_image c) ks) (map (ligand_image c) ls) ≡ of drawing a b ks ls) where
    forward : (odd : Bool) (a b d e : ℕ) (ks ls us vs : List Ligand)
        → AreCarriedEnds c odd (end_at a ks) (end_at b ls) (end_at d us) (end_at e vs)
        → IsEndListed drawing (end_at a ks) → IsEndListed drawing (end_at b ls)
        → IsListed (length other.atoms) 1 2 us → IsListed (length other.atoms) 1 2 vs
        → of other d e us vs ≡ flip odd (of drawing a b ks ls)
    forward odd a b d e ks ls us vs x la lb lu lv =
        let first = map (ligand_image c) ks in
        let second = map (ligand_image c) ls in
        let one = is_odd (length x.near_end.places) in
        let two = is_odd (length x.far.places) in
        ap (λ v. of other v e us vs) x.near_end.at ∙ ap (λ v. of other (c a) v us vs) x.far.at
        ∙ turned (c a) (c b) vs lv.some x.near_end.places first us x.near_end.exchanged (listed_image 1 2 ks la.ligands) lu.last
        ∙ ap (flip one)
        (sym (keep (c a) (c b) first vs)
        ∙ turned (c b) (c a) first (listed_image 1 2 ks la.ligands).some x.far.places second vs x.far.exchanged
        (listed_image 1 2 ls lb.ligands) lv.last
        ∙ ap (flip two) (keep (c a) (c b) first second ∙ renamed a b la.at lb.at ks ls))
        ∙ flip_both one two (of drawing a b ks ls)
        ∙ ap (λ o. flip o (of drawing a b ks ls))
        (ap (λ o. turned_twice o two) x.near_end.parity ∙ ap (turned_twice x.first) x.far.parity ∙ sym x.sum)

    pair_sense : (odd : Bool) (a b d e : ℕ) (ks ls us vs : List Ligand)
        → AreEndsCarried c odd (end_at a ks ∷ end_at b ls ∷ []) (end_at d us ∷ end_at e vs ∷ [])
        → IsEndListed drawing (end_at a ks) × IsEndListed drawing (end_at b ls)
        → IsEndListed other (end_at d us) × IsEndListed other (end_at e vs)
        → IsCarriedGeometry odd (of drawing a b ks ls) (of other d e us vs)
    pair_sense odd a b d e ks ls us vs ends l t =
        flip_geometry odd (of drawing a b ks ls) (of other d e us vs)
        (elim (pair_of c odd (end_at a ks) (end_at b ls) (end_at d us) (end_at e vs) ends).ends [
          | inl x ↦ forward odd a b d e ks ls us vs x l.0 l.1 t.0.ligands t.1.ligands
          | inr x ↦ sym (keep d e us vs) ∙ forward odd a b e d ks ls vs us x l.0 l.1 t.1.ligands t.0.ligands
        ])

  -- the sense of a site that is listed as units are
  pub site_sense : (odd : Bool) (site two : Site) → shape_of two ≡ shape_of site
      → AreEndsCarried c odd (ends_of site) (ends_of two) → IsSiteListed drawing site → IsSiteListed other two
      → IsCarriedGeometry odd (geometry_of drawing site) (geometry_of other two)
  site_sense odd (Centre at ls) (Centre there ts) shape ends l t =
      flip_geometry odd (centre_geometry drawing at ls) (centre_geometry other there ts)
      (centre_sense odd at there ls ts (end_of c odd (end_at at ls) (end_at there ts) ends) l.0 l.1 t.1)
  site_sense odd (Bond a b first second) (Bond d e third fourth) shape ends l t =
      pair_sense bond_geometry (bond_turned other) (exchanged_ends_keep_bonds other)
      (bond_renamed drawing other image r sound their_sound) odd a b d e first second third fourth ends l t
  site_sense odd (Axis a middle b first second) (Axis d inner e third fourth) shape ends l t =
      pair_sense axis_geometry (axis_turned other) (exchanged_ends_keep_axes other)
      (axis_renamed drawing other image r sound their_sound) odd a b d e first second third fourth ends l t
  site_sense odd (Centre at ls) (Bond d e third fourth) shape ends l t = cc
  site_sense odd (Centre at ls) (Axis d inner e third fourth) shape ends l t = cc
  site_sense odd (Bond a b first second) (Centre there ts) shape ends l t = cc
  site_sense odd (Bond a b first second) (Axis d inner e third fourth) shape ends l t = cc
  site_sense odd (Axis a middle b first second) (Centre there ts) shape ends l t = cc
  site_sense odd (Axis a middle b first second) (Bond d e third fourth) shape ends l t = cc
