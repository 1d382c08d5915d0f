-- Renumbering carries the further units of a drawing and what is found of them along.
use Rattle.std.proofs.Common.{◌≡◌, ◌≢◌, ◌⊎◌, inl, inr, ◌<◌, ◌+◌, ◌-◌, ℕ, List, [], ◌∷◌, map, length, flat_map, refl, sym, ap, subst, ◌∙◌, Bool, true, false, cond, ◌==◌, ◌||◌, ◌&&◌, nat_lt, lt-ltb, ltb-true, ltb-false, arith}
use Rattle.std.specs.List.{AllByRecursion, list_any, range_with_len}
use Rattle.std.proofs.lemmas.List.{length-map}
use Rattle.cip_rank.specs.declared.rules.Rules.{Rules}
use Rattle.std.proofs.Math.Bool.{or-false, or_comm}
use Rattle.cip_mol.specs.Bonds as bonds
use Rattle.cip_mol.specs.Drawing.{Drawing}
use Rattle.cip_mol.specs.Marks.{is_crossed, is_either}
use Rattle.cip_mol.specs.declared.graph.molecule.Bond as molecules
use Rattle.cip_digraph.specs.graph.DrawnGraph.{graph_of}
use Rattle.cip_digraph.specs.graph.Graph.{Graph, vertex_at}
use Rattle.cip_digraph.specs.graph.Renumbering.{IsRenumbering}
use Rattle.cip_digraph.specs.graph.SoundGraphs.{IsSound}
use Rattle.cip_digraph.specs.rings.Alternating.{is_in}
use Rattle.cip_digraph.specs.rings.Positions.{positions_of}
use Rattle.cip_digraph.specs.units.Allenes.{doubles}
use Rattle.cip_digraph.specs.units.Descriptors.{is_odd}
use Rattle.cip_digraph.specs.units.DoubleBonds.{end_ligands}
use Rattle.cip_digraph.specs.units.Ends.{end_at}
use Rattle.cip_unit.specs.Sites.{LeadsToAtoms}
use Rattle.cip_unit.proofs.lemmas.Leads.{drawn_leads}
use Rattle.cip_axis.specs.Biaryls.{is_biaryl_end}
use Rattle.cip_axis.specs.Cumulenes.{any_bond, chain_from, chain_over, first_atom, last_atom}
use Rattle.cip_axis.specs.Further.{has_crossed, cumulene_unit, cumulenes_of, biaryl_unit, biaryls_of, further_of, further_in}
use Rattle.cip_axis.specs.declared.site.FurtherUnit.{FurtherUnit}
use Rattle.cip_axis.proofs.lemmas.Drawn.{chain_below, doubles_below}
use Rattle.cip_axis.proofs.lemmas.Sited.{biaryl_end_parts}
use Rattle.cip_axis.specs.FurtherOutcomes.{as_unit}
use Rattle.cip_laws.specs.FurtherLaws.{IsImageFurther, FurtherGo, FurtherOutcomesGo, RenumberingKeepsFurther}
use Rattle.cip_symmetry.specs.Images.{Among}
use Rattle.cip_symmetry.proofs.lemmas.lists.Among.{among_all, among_left, among_right, from_append}
use Rattle.cip_symmetry.specs.Renamed.{IsRenamed, Way, way_image}
use Rattle.cip_laws.proofs.lemmas.units.CarriedAxes.{differs}
use Rattle.cip_laws.proofs.lemmas.units.CarriedSites.{SameUnit, two_same}
use Rattle.cip_laws.proofs.lemmas.units.ListedSites.{end_listed, drawn_is, axis_end_listed}
use Rattle.cip_laws.proofs.lemmas.drawings.RenamedGeometry.{crossed_same}
use Rattle.cip_laws.proofs.lemmas.drawings.RenumberedBonds.{renumbered_sound}
use Rattle.cip_laws.proofs.lemmas.graph.Inverses.{IsOnto, inverse, renamed_back}
use Rattle.cip_laws.proofs.lemmas.graph.RenumberedGraph.{carry, carry_onto, of_atom}
use Rattle.cip_laws.proofs.lemmas.units.RenumberedSenses.{IsEndListed}
use Rattle.cip_symmetry.proofs.lemmas.lists.CarriedLists.{in_carried}
use Rattle.std.proofs.lemmas.Bool.{and_right, true≢false}
use Rattle.cip_laws.proofs.lemmas.graph.WaySymmetry.{back_way}
use Rattle.cip_laws.proofs.lemmas.further.CarriedChains.{over_carried}
use Rattle.cip_laws.proofs.lemmas.further.CarriedFurther.{SameAtoms, pair_atoms, IsCumuleneCore, IsBiarylCore, FoundCumulene, found_cumulene, cumulene_among, FoundBiaryl, found_biaryl, biaryl_among, last_image, last_carried, cumulene_there, biaryl_there, cumulene_back, biaryl_back}
use Rattle.cip_laws.proofs.lemmas.further.FurtherMatched.{renamed, one_sound, two_sound, TwoMatched, two_matched, GoEnds, pair_of}
use Rattle.cip_laws.proofs.lemmas.further.TurnedLists.{any_onto}

-- a double bond is crossed from either end
crossed_back : (bonds : List molecules.Bond) (a b : ℕ) → is_crossed a b bonds ≡ is_crossed b a bonds
crossed_back bonds a b i =
    list_any
    (λ bond. or_comm ((bond.a == a) && (bond.b == b)) ((bond.a == b) && (bond.b == a)) i && is_either bond.mark)
    bonds

-- of numbers for which it holds
mapped_below : (P : ℕ → Type 0) (image : ℕ → ℕ) (test tests : ℕ → ℕ → Bool)
    → ((x y : ℕ) → P x → P y → tests (image x) (image y) ≡ test x y) → (xs : List ℕ) → AllByRecursion P xs
    → any_bond tests (map image xs) ≡ any_bond test xs
mapped_below P image test tests same [] all = refl
mapped_below P image test tests same (x ∷ []) all = refl
mapped_below P image test tests same (x ∷ y ∷ ys) all =
    ap (λ b. b || any_bond tests (image y ∷ map image ys)) (same x y all.0 all.1.0)
    ∙ ap (λ b. test x y || b) (mapped_below P image test tests same (y ∷ ys) all.1)

lower_or : (a b : ℕ) → a ≢ b → nat_lt a b ≡ false → nat_lt b a ≡ true
lower_or a b differ e = let le = ltb-false a b e in lt-ltb b a (omega (arith, le, differ))

lower_drawn : (drawn a b : ℕ) → nat_lt b a ≡ true → nat_lt a drawn ≡ true → nat_lt b drawn ≡ true
lower_drawn drawn a b e f = let lt = ltb-true b a e in let high = ltb-true a drawn f in
    lt-ltb b drawn (omega (arith, lt, high))

-- two ends, in either order
abbrev AreEnds : ℕ → ℕ → ℕ → ℕ → Type 0
AreEnds a b x y = ((x ≡ a) × (y ≡ b)) ⊎ ((x ≡ b) × (y ≡ a))

-- the two kinds of a drawing's further units
module _ (drawing : Drawing) where
  abbrev g : Graph
  g = graph_of drawing

  in_cumulenes : (unit : FurtherUnit)
      → Among unit (flat_map (cumulenes_of drawing g) (range_with_len 0 g.drawn))
      → Among unit (further_in drawing)
  unfolding further_of
  in_cumulenes unit h = among_left unit _ _ h

  in_biaryls : (unit : FurtherUnit)
      → Among unit (flat_map (biaryls_of drawing g (positions_of g)) (range_with_len 0 g.drawn))
      → Among unit (further_in drawing)
  unfolding further_of
  in_biaryls unit h =
      among_right unit (flat_map (cumulenes_of drawing g) (range_with_len 0 g.drawn)) _ h

  found_further : (unit : FurtherUnit) → Among unit (further_in drawing)
      → FoundCumulene drawing g unit ⊎ FoundBiaryl drawing g unit
  unfolding further_of
  found_further unit h =
      elim (from_append unit (flat_map (cumulenes_of drawing g) (range_with_len 0 g.drawn)) _ h) [
        | inl k ↦ inl (found_cumulene drawing g unit k)
        | inr k ↦ inr (found_biaryl drawing g unit k)
      ]

  module _ (sound : IsSound g) where
    -- an end of a biaryl axis
    biaryl_end_listed : (unit : List ℕ) (v : ℕ) → nat_lt v g.drawn ≡ true
        → is_biaryl_end g (positions_of g) unit v ≡ true → IsEndListed drawing (end_at v (end_ligands g unit v))
    biaryl_end_listed unit v within e =
        let parts = biaryl_end_parts g (positions_of g) unit v e in
        end_listed drawing sound unit v (subst (λ d. v < d) (drawn_is drawing sound) (ltb-true v g.drawn within))
        parts.bonds
        (rw (parts.three, parts.two) (ap (λ b. 2 + cond b 1 0) (and_right ((vertex_at g v).z == 7) false refl)))

    -- a chain as it is listed, from its lower end
    record ListedChain (a next : ℕ) : Type 0 where
      at : ℕ
      on : ℕ
      core : IsCumuleneCore g at on
      rises : nat_lt at (last_atom (chain_over g at on)) ≡ true
      among : Among (cumulene_unit drawing g (chain_over g at on)) (further_in drawing)
      ends : AreEnds a (last_atom (chain_over g a next)) at (last_atom (chain_over g at on))
      same : SameAtoms (chain_over g at on) (chain_over g a next)
      long : length (chain_over g at on) ≡ length (chain_over g a next)
      crosses : has_crossed drawing.bonds (chain_over g at on) ≡ has_crossed drawing.bonds (chain_over g a next)
      lower : nat_lt a (last_atom (chain_over g a next)) ≡ true
          → cumulene_unit drawing g (chain_over g at on) ≡ cumulene_unit drawing g (chain_over g a next)

    listed_chain : (a next : ℕ) → IsCumuleneCore g a next
        → nat_lt a g.drawn ≡ true → a ≢ last_atom (chain_over g a next)
        → ListedChain a next
    listed_chain a next k drawn differ = by (nat_lt a b) refl
      where
        b : ℕ
        b = last_atom (chain_over g a next)

        by : (x : Bool) → nat_lt a b ≡ x → ListedChain a next
        by true e = record {
          at = a;
          on = next;
          core = k;
          rises = e;
          among = in_cumulenes _ (cumulene_among drawing g a next k drawn e);
          ends = inl (refl, refl);
          same = λ v. refl;
          long = refl;
          crosses = refl;
          lower = λ f. refl;
        }
        by false e =
            let t = cumulene_back g sound a next k in
            let lower = lower_or a b differ e in
            let rises : nat_lt b (last_atom (chain_over g b t.prev)) ≡ true = ap (nat_lt b) t.last ∙ lower in
            record {
              at = b;
              on = t.prev;
              core = t.core;
              rises = rises;
              among =
                  in_cumulenes _
                  (cumulene_among drawing g b t.prev t.core (lower_drawn g.drawn a b lower drawn) rises);
              ends = inr (refl, t.last);
              same = t.same;
              long = t.long;
              crosses = ap (has_crossed drawing.bonds) t.is
                  ∙ any_onto (λ x y. is_crossed x y drawing.bonds) (crossed_back drawing.bonds)
                  (chain_from g (length g.vertices) a next) a []
                  ∙ or-false (has_crossed drawing.bonds (chain_over g a next));
              lower = λ f. absurd (true≢false (sym f ∙ e));
            }

    -- a biaryl axis as it is listed
    record ListedBiaryl (a : ℕ) (w : Way) : Type 0 where
      at : ℕ
      on : Way
      core : IsBiarylCore g at on
      rises : nat_lt at on.to ≡ true
      among : Among (biaryl_unit drawing g at on.to) (further_in drawing)
      ends : AreEnds a w.to at on.to
      same : SameAtoms (at ∷ on.to ∷ []) (a ∷ w.to ∷ [])
      lower : nat_lt a w.to ≡ true
          → biaryl_unit drawing g at on.to ≡ biaryl_unit drawing g a w.to

    listed_biaryl : (a : ℕ) (w : Way) → IsBiarylCore g a w
        → a ≢ w.to → ListedBiaryl a w
    listed_biaryl a w k differ = by (nat_lt a w.to) refl
      where
        by : (x : Bool) → nat_lt a w.to ≡ x → ListedBiaryl a w
        by true e = record {
          at = a;
          on = w;
          core = k;
          rises = e;
          among = in_biaryls _ (biaryl_among drawing g a w k e);
          ends = inl (refl, refl);
          same = λ v. refl;
          lower = λ f. refl;
        }
        by false e =
            let back = biaryl_back g sound a w k in
            let rises = lower_or a w.to differ e in
            record {
              at = w.to;
              on = back_way g a w;
              core = back;
              rises = rises;
              among = in_biaryls _ (biaryl_among drawing g w.to (back_way g a w) back rises);
              ends = inr (refl, refl);
              same = pair_atoms a w.to;
              lower = λ f. absurd (true≢false (sym f ∙ e));
            }

module _ (drawing other : Drawing) (image : ℕ → ℕ) (r : IsRenumbering drawing other image)
    (sound : bonds.IsSound (length drawing.atoms) drawing.bonds)
    (their_sound : bonds.IsSound (length other.atoms) other.bonds) where
  abbrev d : ℕ → ℕ
  d = carry drawing image

  abbrev ours : Graph
  ours = graph_of drawing

  abbrev others : Graph
  others = graph_of other

  leads : LeadsToAtoms ours
  leads = drawn_leads drawing sound

  go : IsRenamed ours others d
  go = renamed drawing other image r sound their_sound

  first_sound : IsSound ours
  first_sound = one_sound drawing other image r sound their_sound

  second_sound : IsSound others
  second_sound = two_sound drawing other image r sound their_sound

  -- the way back
  abbrev all : IsOnto d
  all = carry_onto drawing other image r sound

  abbrev back : ℕ → ℕ
  back = inverse d all

  return : IsRenamed others ours back
  return = renamed_back ours others d go all

  record FurtherMatch (one two : FurtherUnit) : Type 0 where
    site : IsImageFurther d one.site two.site
    two_sites : TwoMatched drawing other image r sound their_sound (as_unit one).site (as_unit two).site one.geometry
        two.geometry

  go_ends : (a b p q x y z w : ℕ) → p ≡ d a → q ≡ d b → AreEnds a b x y → AreEnds p q z w
      → GoEnds drawing other image r sound their_sound x y z w
  go_ends a b p q x y z w e f (inl s) (inl t) = inl (t.0 ∙ e ∙ ap d (sym s.0), t.1 ∙ f ∙ ap d (sym s.1))
  go_ends a b p q x y z w e f (inl s) (inr t) = inr (t.0 ∙ f ∙ ap d (sym s.1), t.1 ∙ e ∙ ap d (sym s.0))
  go_ends a b p q x y z w e f (inr s) (inl t) = inr (t.0 ∙ e ∙ ap d (sym s.1), t.1 ∙ f ∙ ap d (sym s.0))
  go_ends a b p q x y z w e f (inr s) (inr t) = inl (t.0 ∙ f ∙ ap d (sym s.0), t.1 ∙ e ∙ ap d (sym s.1))

  -- marks along a chain
  crosses_there : (a next : ℕ) → nat_lt a ours.drawn ≡ true → Among next (doubles ours a)
      → has_crossed other.bonds (map d (chain_over ours a next)) ≡ has_crossed drawing.bonds (chain_over ours a next)
  crosses_there a next drawn h =
      mapped_below (λ v. v < length drawing.atoms) d (λ x y. is_crossed x y drawing.bonds)
      (λ x y. is_crossed x y other.bonds)
      (λ x y k l.
      ap (λ v. is_crossed v (d y) other.bonds) (of_atom drawing other image r sound x k)
      ∙ ap (λ v. is_crossed (image x) v other.bonds) (of_atom drawing other image r sound y l)
      ∙ crossed_same drawing other image r sound their_sound x y k l) (chain_over ours a next)
      (subst (λ n. AllByRecursion (λ v. v < n) (chain_over ours a next)) (drawn_is drawing first_sound)
      (chain_below ours leads a next (ltb-true a ours.drawn drawn)
      (among_all (λ v. v < ours.drawn) next (doubles ours a) (doubles_below ours leads a) h)))

  -- two chains, end by end
  chains_match : (a next p on : ℕ) → IsCumuleneCore ours a next → nat_lt a ours.drawn ≡ true
      → chain_over others p on ≡ map d (chain_over ours a next)
      → (s : ListedChain drawing first_sound a next) (t : ListedChain other second_sound p on)
      → FurtherMatch (cumulene_unit drawing ours (chain_over ours s.at s.on))
      (cumulene_unit other others (chain_over others t.at t.on))
  chains_match a next p on k drawn over s t =
      let xs = chain_over ours s.at s.on in
      let ys = chain_over others t.at t.on in
      let b = last_atom xs in
      let q = last_atom ys in
      let same : SameUnit ours others d go xs ys =
      (λ v. t.same (d v) ∙ ap (is_in (d v)) over ∙ in_carried d go.injective v (chain_over ours a next)
      ∙ sym (s.same v)) in
      let ends =
      go_ends a (last_atom (chain_over ours a next)) p (last_atom (chain_over others p on)) s.at b t.at q
      (ap first_atom over) (ap last_atom over ∙ last_image ours others d go a next) s.ends t.ends in
      let pair =
      pair_of drawing other image r sound their_sound xs ys s.at b t.at q same (differs s.at b s.rises) ends in
      let count : length ys - 1 ≡ length xs - 1 =
      ap (λ n. n - 1) (t.long ∙ ap length over ∙ length-map (chain_over ours a next) d ∙ sym s.long) in
      let m =
      two_matched drawing other image r sound their_sound (is_odd (length xs - 1)) (is_odd (length ys - 1)) pair.0
      (has_crossed drawing.bonds xs) (has_crossed other.bonds ys) (ap is_odd count)
      (t.crosses ∙ ap (has_crossed other.bonds) over ∙ crosses_there a next drawn k.nearer ∙ sym s.crosses) s.at b t.at q
      (end_ligands ours xs s.at) (end_ligands ours xs b) (end_ligands others ys t.at) (end_ligands others ys q) pair.1
      (axis_end_listed drawing first_sound xs s.at s.core.first) (axis_end_listed drawing first_sound xs b s.core.last)
      (axis_end_listed other second_sound ys t.at t.core.first)
      (axis_end_listed other second_sound ys q t.core.last) in
      record { site = (count, m.ends); two_sites = m }

  biaryls_match : (a : ℕ) (w : Way) (p : ℕ) (u : Way) → p ≡ d a → u.to ≡ d w.to
      → (s : ListedBiaryl drawing first_sound a w) (t : ListedBiaryl other second_sound p u)
      → FurtherMatch (biaryl_unit drawing ours s.at s.on.to) (biaryl_unit other others t.at t.on.to)
  biaryls_match a w p u e f s t =
      let b = s.on.to in
      let q = t.on.to in
      let xs = s.at ∷ b ∷ [] in
      let ys = t.at ∷ q ∷ [] in
      let same : SameUnit ours others d go xs ys =
      (λ v. t.same (d v) ∙ ap (λ x. is_in (d v) (x ∷ u.to ∷ [])) e ∙ ap (λ x. is_in (d v) (d a ∷ x ∷ [])) f
      ∙ two_same ours others d go a w.to v ∙ sym (s.same v)) in
      let pair =
      pair_of drawing other image r sound their_sound xs ys s.at b t.at q same (differs s.at b s.rises)
      (go_ends a w.to p u.to s.at b t.at q e f s.ends t.ends) in
      let m =
      two_matched drawing other image r sound their_sound false false pair.0 false false refl refl s.at b t.at q
      (end_ligands ours xs s.at) (end_ligands ours xs b) (end_ligands others ys t.at) (end_ligands others ys q) pair.1
      (biaryl_end_listed drawing first_sound xs s.at s.core.here s.core.first)
      (biaryl_end_listed drawing first_sound xs b s.core.there s.core.second)
      (biaryl_end_listed other second_sound ys t.at t.core.here t.core.first)
      (biaryl_end_listed other second_sound ys q t.core.there t.core.second) in
      record { site = m.ends; two_sites = m }

  cumulene_image : (one : FurtherUnit) → FoundCumulene drawing ours one
      → (two : FurtherUnit) × Among two (further_in other) × FurtherMatch one two
  cumulene_image one f =
      let differ = differs f.a (last_atom (chain_over ours f.a f.next)) f.lower in
      let s = listed_chain drawing first_sound f.a f.next f.core f.drawn differ in
      let t =
      listed_chain other second_sound (d f.a) (d f.next) (cumulene_there ours others d go f.a f.next f.core)
      (go.drawn f.a ∙ f.drawn) (λ e. differ (go.injective _ _ (e ∙ last_carried ours others d go f.a f.next))) in (
        cumulene_unit other others (chain_over others t.at t.on),
        t.among,
        subst (λ u. FurtherMatch u (cumulene_unit other others (chain_over others t.at t.on)))
            (s.lower f.lower ∙ sym f.is)
            (chains_match f.a f.next (d f.a) (d f.next) f.core f.drawn (over_carried ours others d go f.a f.next) s t),
      )

  cumulene_origin : (two : FurtherUnit) → FoundCumulene other others two
      → (one : FurtherUnit) × Among one (further_in drawing) × FurtherMatch one two
  cumulene_origin two f =
      let a = back f.a in
      let next = back f.next in
      let differ = differs f.a (last_atom (chain_over others f.a f.next)) f.lower in
      let core = cumulene_there others ours back return f.a f.next f.core in
      let drawn = return.drawn f.a ∙ f.drawn in
      let s =
      listed_chain drawing first_sound a next core drawn
      (λ e. differ (return.injective _ _ (e ∙ last_carried others ours back return f.a f.next))) in
      let t = listed_chain other second_sound f.a f.next f.core f.drawn differ in (
        cumulene_unit drawing ours (chain_over ours s.at s.on),
        s.among,
        subst (FurtherMatch (cumulene_unit drawing ours (chain_over ours s.at s.on))) (t.lower f.lower ∙ sym f.is)
            (chains_match a next f.a f.next core drawn
            (ap (λ v. chain_over others v f.next) (all f.a).1 ∙ ap (chain_over others (d a)) (all f.next).1
            ∙ over_carried ours others d go a next) s t),
      )

  biaryl_image : (one : FurtherUnit) → FoundBiaryl drawing ours one
      → (two : FurtherUnit) × Among two (further_in other) × FurtherMatch one two
  biaryl_image one f =
      let differ = differs f.a f.w.to f.lower in
      let s = listed_biaryl drawing first_sound f.a f.w f.core differ in
      let t =
      listed_biaryl other second_sound (d f.a) (way_image d f.w) (biaryl_there ours others d go f.a f.w f.core)
      (λ e. differ (go.injective _ _ e)) in (
        biaryl_unit other others t.at t.on.to,
        t.among,
        subst (λ u. FurtherMatch u (biaryl_unit other others t.at t.on.to)) (s.lower f.lower ∙ sym f.is)
            (biaryls_match f.a f.w (d f.a) (way_image d f.w) refl refl s t),
      )

  biaryl_origin : (two : FurtherUnit) → FoundBiaryl other others two
      → (one : FurtherUnit) × Among one (further_in drawing) × FurtherMatch one two
  biaryl_origin two f =
      let differ = differs f.a f.w.to f.lower in
      let s =
      listed_biaryl drawing first_sound (back f.a) (way_image back f.w)
      (biaryl_there others ours back return f.a f.w f.core) (λ e. differ (return.injective _ _ e)) in
      let t = listed_biaryl other second_sound f.a f.w f.core differ in (
        biaryl_unit drawing ours s.at s.on.to,
        s.among,
        subst (FurtherMatch (biaryl_unit drawing ours s.at s.on.to)) (t.lower f.lower ∙ sym f.is)
            (biaryls_match (back f.a) (way_image back f.w) f.a f.w (all f.a).1 (all f.w.to).1 s t),
      )

  together : (rules : Rules) (bound : ℕ) (one two : FurtherUnit) → Among one (further_in drawing)
      → Among two (further_in other) → FurtherMatch one two → FurtherGo rules bound drawing other image one two
  together rules bound one two h k m = record {
    first = h;
    second = k;
    site = m.site;
    outcome = m.two_sites.outcome rules bound;
    costs = m.two_sites.costs rules;
  }

  pub further_go : (rules : Rules) (bound : ℕ) → FurtherOutcomesGo rules bound drawing other image
  further_go rules bound = record {
    there = λ one h. elim (found_further drawing one h) [
      | inl f ↦ let m = cumulene_image one f in (m.0, together rules bound one m.0 h m.1 m.2)
      | inr f ↦ let m = biaryl_image one f in (m.0, together rules bound one m.0 h m.1 m.2)
    ];
    back = λ two h. elim (found_further other two h) [
      | inl f ↦ let m = cumulene_origin two f in (m.0, together rules bound m.0 two m.1 h m.2)
      | inr f ↦ let m = biaryl_origin two f in (m.0, together rules bound m.0 two m.1 h m.2)
    ];
  }

pub renumbering_keeps_further : RenumberingKeepsFurther
renumbering_keeps_further rules bound drawing other image sound r =
    further_go drawing other image r sound (renumbered_sound drawing other image r sound) rules bound
