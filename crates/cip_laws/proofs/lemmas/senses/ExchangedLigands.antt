-- Exchanging two drawn ligands turns the sense of a centre.
use Rattle.std.proofs.Common.{◌≡◌, ◌≤◌, ◌<◌, ◌+◌, ℕ, zero, suc, arith, refl, ◌∙◌, ap, List, [], ◌∷◌, length, map, Bool, true, false}
use Rattle.std.specs.Prelude.{if◌then◌else◌}
use Rattle.std.specs.List.{swap}
use Rattle.cip_num.specs.declared.plane.Sign.{Sign}
use Rattle.cip_num.specs.declared.plane.Vec2.{Vec2}
use Rattle.cip_num.specs.declared.plane.Vec3.{Vec3}
use Rattle.cip_mol.specs.declared.graph.molecule.Atom.{Atom}
use Rattle.cip_mol.specs.declared.graph.molecule.Bond.{Bond}
use Rattle.cip_mol.specs.declared.site.Cause.TheVariants.{Either}
use Rattle.cip_mol.specs.declared.labels.descriptor.Sense.TheVariants.{Plus, Minus}
use Rattle.cip_mol.specs.declared.site.Geometry.{Geometry}
use Rattle.cip_mol.specs.declared.site.Geometry.TheVariants.{Known, Unknown}
use Rattle.cip_mol.specs.DrawnLigands.{drawn}
use Rattle.cip_mol.specs.Senses.{other_way}
use Rattle.cip_mol.specs.Points.{point, flat_step, flat_steps, is_spatial}
use Rattle.cip_mol.specs.Marks.{has_either, mark_to}
use Rattle.cip_mol.specs.SpatialCentres.{in_space}
use Rattle.cip_mol.specs.FlatCentres.{in_plane}
use Rattle.cip_mol.specs.Geometry.{of_centre}
use Rattle.cip_mol.specs.GeometryLaws.{ExchangeTurnsCentres}
use Rattle.cip_laws.proofs.lemmas.senses.ExchangedInSpace.{first_of_three, last_of_three, first_of_four, middle_of_four, last_of_four}
use Rattle.cip_laws.proofs.lemmas.senses.ExchangedInPlane.{first_three, last_three, first_four, middle_four, last_four}

pub other_way_back : (geometry : Geometry) → other_way (other_way geometry) ≡ geometry
other_way_back (Known Plus) = refl
other_way_back (Known Minus) = refl
other_way_back (Unknown cause) = refl

module _ (atoms : List Atom) (bonds : List Bond) (at : ℕ) where
  abbrev spot : ℕ → Vec3
  spot n = point atoms n

  abbrev step_to : ℕ → Vec2
  step_to n = flat_step (point atoms at) (point atoms n)

  abbrev mark : ℕ → Sign
  mark n = mark_to at bonds n

  abbrev space : List ℕ → Geometry
  space ns = in_space (point atoms at) (map (point atoms) ns)

  abbrev plane : List ℕ → Geometry
  plane ns = in_plane (flat_steps atoms at ns) (map (mark_to at bonds) ns)

  turned_both : (ns ks : List ℕ) → space ks ≡ other_way (space ns) → plane ks ≡ other_way (plane ns) →
      of_centre atoms bonds at ks ≡ other_way (of_centre atoms bonds at ns)
  turned_both ns ks in_depth on_paper = by (has_either at bonds) (is_spatial atoms)
    where
      by : (either spatial : Bool) →
          (if either then Unknown Either else if spatial then space ks else plane ks)
          ≡ other_way (if either then Unknown Either else if spatial then space ns else plane ns)
      by true spatial = refl
      by false true = in_depth
      by false false = on_paper

  neighbours_exchanged : (ns : List ℕ) (i : ℕ) → 3 ≤ length ns → length ns ≤ 4 → i + 1 < length ns →
      of_centre atoms bonds at (swap ns i (i + 1)) ≡ other_way (of_centre atoms bonds at ns)
  neighbours_exchanged [] i three few within = absurd (omega arith)
  neighbours_exchanged (a ∷ []) i three few within = absurd (omega arith)
  neighbours_exchanged (a ∷ b ∷ []) i three few within = absurd (omega arith)
  neighbours_exchanged (a ∷ b ∷ c ∷ []) zero three few within =
      turned_both (a ∷ b ∷ c ∷ []) (b ∷ a ∷ c ∷ [])
      (first_of_three (point atoms at) (spot a) (spot b) (spot c) (point atoms at))
      (first_three (step_to a) (step_to b) (step_to c)
      (mark a) (mark b) (mark c))
  neighbours_exchanged (a ∷ b ∷ c ∷ []) (suc zero) three few within =
      turned_both (a ∷ b ∷ c ∷ []) (a ∷ c ∷ b ∷ [])
      (last_of_three (point atoms at) (spot a) (spot b) (spot c) (point atoms at))
      (last_three (step_to a) (step_to b) (step_to c)
      (mark a) (mark b) (mark c))
  neighbours_exchanged (a ∷ b ∷ c ∷ []) (suc (suc i)) three few within = absurd (omega arith)
  neighbours_exchanged (a ∷ b ∷ c ∷ d ∷ []) zero three few within =
      turned_both (a ∷ b ∷ c ∷ d ∷ []) (b ∷ a ∷ c ∷ d ∷ [])
      (first_of_four (point atoms at) (spot a) (spot b) (spot c) (spot d))
      (first_four (step_to a) (step_to b) (step_to c) (step_to d)
      (mark a) (mark b) (mark c) (mark d))
  neighbours_exchanged (a ∷ b ∷ c ∷ d ∷ []) (suc zero) three few within =
      turned_both (a ∷ b ∷ c ∷ d ∷ []) (a ∷ c ∷ b ∷ d ∷ [])
      (middle_of_four (point atoms at) (spot a) (spot b) (spot c) (spot d))
      (middle_four (step_to a) (step_to b) (step_to c) (step_to d)
      (mark a) (mark b) (mark c) (mark d))
  neighbours_exchanged (a ∷ b ∷ c ∷ d ∷ []) (suc (suc zero)) three few within =
      turned_both (a ∷ b ∷ c ∷ d ∷ []) (a ∷ b ∷ d ∷ c ∷ [])
      (last_of_four (point atoms at) (spot a) (spot b) (spot c) (spot d))
      (last_four (step_to a) (step_to b) (step_to c) (step_to d)
      (mark a) (mark b) (mark c) (mark d))
  neighbours_exchanged (a ∷ b ∷ c ∷ d ∷ []) (suc (suc (suc i))) three few within = absurd (omega arith)
  neighbours_exchanged (a ∷ b ∷ c ∷ d ∷ e ∷ ns) i three few within = absurd (omega arith)

  -- by three exchanges, each of which turns the sense
  thrice : (first second third last : List ℕ) →
      of_centre atoms bonds at second ≡ other_way (of_centre atoms bonds at first) →
      of_centre atoms bonds at third ≡ other_way (of_centre atoms bonds at second) →
      of_centre atoms bonds at last ≡ other_way (of_centre atoms bonds at third) →
      of_centre atoms bonds at last ≡ other_way (of_centre atoms bonds at first)
  thrice first second third last one two three =
      three ∙ ap other_way (two ∙ ap other_way one ∙ other_way_back (of_centre atoms bonds at first))

  first_and_third : (a b c : ℕ) (ns : List ℕ) → length ns ≤ 1 →
      of_centre atoms bonds at (c ∷ b ∷ a ∷ ns) ≡ other_way (of_centre atoms bonds at (a ∷ b ∷ c ∷ ns))
  first_and_third a b c ns few =
      thrice (a ∷ b ∷ c ∷ ns) (b ∷ a ∷ c ∷ ns) (b ∷ c ∷ a ∷ ns) (c ∷ b ∷ a ∷ ns)
      (neighbours_exchanged (a ∷ b ∷ c ∷ ns) 0 (omega arith) (omega (arith, few)) (omega arith))
      (neighbours_exchanged (b ∷ a ∷ c ∷ ns) 1 (omega arith) (omega (arith, few)) (omega arith))
      (neighbours_exchanged (b ∷ c ∷ a ∷ ns) 0 (omega arith) (omega (arith, few)) (omega arith))

  second_and_fourth : (a b c d : ℕ) →
      of_centre atoms bonds at (a ∷ d ∷ c ∷ b ∷ []) ≡ other_way (of_centre atoms bonds at (a ∷ b ∷ c ∷ d ∷ []))
  second_and_fourth a b c d =
      thrice (a ∷ b ∷ c ∷ d ∷ []) (a ∷ c ∷ b ∷ d ∷ []) (a ∷ c ∷ d ∷ b ∷ []) (a ∷ d ∷ c ∷ b ∷ [])
      (neighbours_exchanged (a ∷ b ∷ c ∷ d ∷ []) 1 (omega arith) (omega arith) (omega arith))
      (neighbours_exchanged (a ∷ c ∷ b ∷ d ∷ []) 2 (omega arith) (omega arith) (omega arith))
      (neighbours_exchanged (a ∷ c ∷ d ∷ b ∷ []) 1 (omega arith) (omega arith) (omega arith))

  first_and_fourth : (a b c d : ℕ) →
      of_centre atoms bonds at (d ∷ b ∷ c ∷ a ∷ []) ≡ other_way (of_centre atoms bonds at (a ∷ b ∷ c ∷ d ∷ []))
  first_and_fourth a b c d =
      thrice (a ∷ b ∷ c ∷ d ∷ []) (b ∷ a ∷ c ∷ d ∷ []) (b ∷ d ∷ c ∷ a ∷ []) (d ∷ b ∷ c ∷ a ∷ [])
      (neighbours_exchanged (a ∷ b ∷ c ∷ d ∷ []) 0 (omega arith) (omega arith) (omega arith))
      (second_and_fourth b a c d)
      (neighbours_exchanged (b ∷ d ∷ c ∷ a ∷ []) 0 (omega arith) (omega arith) (omega arith))

  exchanged : (ns : List ℕ) (i j : ℕ) → 3 ≤ length ns → length ns ≤ 4 → i < j → j < length ns →
      of_centre atoms bonds at (swap ns i j) ≡ other_way (of_centre atoms bonds at ns)
  exchanged [] i j three few up within = absurd (omega arith)
  exchanged (a ∷ []) i j three few up within = absurd (omega arith)
  exchanged (a ∷ b ∷ []) i j three few up within = absurd (omega arith)
  exchanged (a ∷ b ∷ c ∷ d ∷ e ∷ ns) i j three few up within = absurd (omega arith)
  exchanged ns i zero three few up within = absurd (omega arith)
  exchanged ns zero (suc zero) three few up within = neighbours_exchanged ns 0 three few within
  exchanged ns (suc i) (suc zero) three few up within = absurd (omega arith)
  exchanged (a ∷ b ∷ c ∷ []) zero (suc (suc zero)) three few up within = first_and_third a b c [] (omega arith)
  exchanged (a ∷ b ∷ c ∷ d ∷ []) zero (suc (suc zero)) three few up within =
      first_and_third a b c (d ∷ []) (omega arith)
  exchanged ns (suc zero) (suc (suc zero)) three few up within = neighbours_exchanged ns 1 three few within
  exchanged ns (suc (suc i)) (suc (suc zero)) three few up within = absurd (omega arith)
  exchanged (a ∷ b ∷ c ∷ []) i (suc (suc (suc j))) three few up within = absurd (omega arith)
  exchanged (a ∷ b ∷ c ∷ d ∷ []) zero (suc (suc (suc zero))) three few up within = first_and_fourth a b c d
  exchanged (a ∷ b ∷ c ∷ d ∷ []) (suc zero) (suc (suc (suc zero))) three few up within = second_and_fourth a b c d
  exchanged (a ∷ b ∷ c ∷ d ∷ []) (suc (suc zero)) (suc (suc (suc zero))) three few up within =
      neighbours_exchanged (a ∷ b ∷ c ∷ d ∷ []) 2 three few within
  exchanged (a ∷ b ∷ c ∷ d ∷ []) (suc (suc (suc i))) (suc (suc (suc zero))) three few up within = absurd (omega arith)
  exchanged (a ∷ b ∷ c ∷ d ∷ []) i (suc (suc (suc (suc j)))) three few up within = absurd (omega arith)

pub exchange_turns_centres : ExchangeTurnsCentres
exchange_turns_centres drawing at i j ligands others three few up within is =
    ap (of_centre drawing.atoms drawing.bonds at) is
    ∙ exchanged drawing.atoms drawing.bonds at (drawn (length drawing.atoms) ligands) i j three few up within
