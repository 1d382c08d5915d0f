-- Reflection turns the sense of every axis.
use Rattle.std.proofs.Common.{◌≡◌, ℕ, arith, refl, ap, ◌∙◌, List, [], ◌∷◌, map, length, Bool, true, false}
use Rattle.std.specs.Prelude.{ℤ, pos, negsuc, zero, suc, neg_ℤ, not, ◌||◌, if◌then◌else◌}
use Rattle.std.proofs.lemmas.List.{length-map}
use Rattle.cip_num.specs.declared.plane.Sign.{Sign}
use Rattle.cip_num.specs.declared.plane.Sign.TheVariants.{Minus, Zero, Plus}
use Rattle.cip_num.specs.declared.plane.Vec3.{Vec3}
use Rattle.cip_num.specs.Signs.{sign_of, opposite, is_zero}
use Rattle.cip_num.specs.Space.{determinant, negated, mirrored}
use Rattle.cip_num.proofs.lemmas.Signs.{sign_of-neg, is_zero-opposite, are_alike-opposite}
use Rattle.cip_laws.proofs.lemmas.senses.Determinants.{determinant-negated_second, determinant-negated_third}
use Rattle.cip_mol.specs.declared.graph.molecule.Atom.{Atom}
use Rattle.cip_mol.specs.declared.graph.molecule.Bond.{Bond}
use Rattle.cip_mol.specs.declared.site.Cause.TheVariants.{Either, Coincident, Contradictory, NoMark}
use Rattle.cip_mol.specs.declared.site.Geometry.{Geometry}
use Rattle.cip_mol.specs.declared.site.Geometry.TheVariants.{Unknown}
use Rattle.cip_mol.specs.DrawnLigands.{drawn}
use Rattle.cip_mol.specs.Senses.{shown_by, other_way}
use Rattle.cip_mol.specs.Points.{is_nought, point, step, steps, is_spatial}
use Rattle.cip_mol.specs.Marks.{has_either, has_mark, mark_at, mark_to}
use Rattle.cip_mol.specs.Pairs.{ligand_at, by_pairs}
use Rattle.cip_mol.specs.FlatAxes.{upright, repeats_mark, lead, is_coincident, is_contradictory, by_marks}
use Rattle.cip_mol.specs.Geometry.{twist, of_axis}
use Rattle.cip_mol.specs.Reflection.{mirrored_atom, mirrored_bond}
use Rattle.cip_mol.specs.GeometryLaws.{ReflectionTurnsAxes}
use Rattle.cip_mol.proofs.lemmas.ReflectedDrawing.{list_any-map, has_either-mirrored, marks-mirrored, is_spatial-mirrored}
use Rattle.cip_laws.proofs.lemmas.senses.ReflectedCentres.{shown_by-opposite, mark_at-opposite}
use Rattle.cip_laws.proofs.lemmas.senses.ReflectedPairs.{twist_mirrored}

has_mark-opposite : (marks : List Sign) → has_mark (map opposite marks) ≡ has_mark marks
has_mark-opposite marks = simp (list_any-map, is_zero-opposite)

repeats_mark-opposite : (marks : List Sign) → repeats_mark (map opposite marks) ≡ repeats_mark marks
repeats_mark-opposite marks = rw (length-map marks opposite) (simp (mark_at-opposite, is_zero-opposite, are_alike-opposite))

lead-opposite : (marks : List Sign) → lead (map opposite marks) ≡ opposite (lead marks)
lead-opposite marks =
    rw (mark_at-opposite marks 0, mark_at-opposite marks 1, is_zero-opposite (mark_at marks 0)) (by (is_zero (mark_at marks 0)) (opposite (mark_at marks 1)) (mark_at marks 0))
  where
    by : (unmarked : Bool) (s t : Sign) → (if unmarked then opposite s else opposite t) ≡ opposite (if unmarked then s else t)
    by true s t = refl
    by false s t = refl

pub upright-opposite : (s : Sign) → upright (opposite s) ≡ negated (upright s)
upright-opposite Plus = refl
upright-opposite Minus = refl
upright-opposite Zero = refl

first_upright : (axis ligand : Vec3) (marks : List Sign) → shown_by (sign_of (determinant axis (upright (lead (map opposite marks))) ligand)) ≡ other_way (shown_by (sign_of (determinant axis (upright (lead marks)) ligand)))
first_upright axis ligand marks =
    ap (λ v. shown_by (sign_of (determinant axis v ligand))) (ap upright (lead-opposite marks) ∙ upright-opposite (lead marks))
    ∙ ap (λ d. shown_by (sign_of d)) (determinant-negated_second axis (upright (lead marks)) ligand)
    ∙ ap shown_by (sign_of-neg (determinant axis (upright (lead marks)) ligand))
    ∙ shown_by-opposite (sign_of (determinant axis (upright (lead marks)) ligand))

second_upright : (axis ligand : Vec3) (marks : List Sign) → shown_by (sign_of (determinant axis ligand (upright (lead (map opposite marks))))) ≡ other_way (shown_by (sign_of (determinant axis ligand (upright (lead marks)))))
second_upright axis ligand marks =
    ap (λ v. shown_by (sign_of (determinant axis ligand v))) (ap upright (lead-opposite marks) ∙ upright-opposite (lead marks))
    ∙ ap (λ d. shown_by (sign_of d)) (determinant-negated_third axis ligand (upright (lead marks)))
    ∙ ap shown_by (sign_of-neg (determinant axis ligand (upright (lead marks))))
    ∙ shown_by-opposite (sign_of (determinant axis ligand (upright (lead marks))))

module _ (axis : Vec3) (marks other_marks : List Sign) (firsts seconds : List Vec3) where
  is_coincident-opposite : is_coincident axis (map opposite marks) (map opposite other_marks) firsts seconds ≡ is_coincident axis marks other_marks firsts seconds
  is_coincident-opposite = rw (has_mark-opposite marks, has_mark-opposite other_marks)

  is_contradictory-opposite : is_contradictory axis (map opposite marks) (map opposite other_marks) firsts seconds ≡ is_contradictory axis marks other_marks firsts seconds
  is_contradictory-opposite = rw (has_mark-opposite marks, has_mark-opposite other_marks, repeats_mark-opposite marks, repeats_mark-opposite other_marks)

  by_marks-opposite : by_marks axis (map opposite marks) (map opposite other_marks) firsts seconds ≡ other_way (by_marks axis marks other_marks firsts seconds)
  by_marks-opposite =
      rw (is_coincident-opposite, is_contradictory-opposite, has_mark-opposite marks, has_mark-opposite other_marks, first_upright axis (ligand_at seconds 0) marks, second_upright axis (ligand_at firsts 0) other_marks)
      (by (is_coincident axis marks other_marks firsts seconds) (is_contradictory axis marks other_marks firsts seconds) (has_mark marks) (has_mark other_marks) _ _)
    where
      by : (n c p q : Bool) (g h : Geometry) → (if n then Unknown Coincident else if c then Unknown Contradictory else if p then other_way g else if q then other_way h else Unknown NoMark) ≡ other_way (if n then Unknown Coincident else if c then Unknown Contradictory else if p then g else if q then h else Unknown NoMark)
      by true c p q g h = refl
      by false true p q g h = refl
      by false false true q g h = refl
      by false false false true g h = refl
      by false false false false g h = refl

-- a drawing in the plane is its own mirror image
mirrored_flat : (atoms : List Atom) → is_spatial atoms ≡ false → map mirrored_atom atoms ≡ atoms
mirrored_flat [] flat = refl
mirrored_flat (atom ∷ atoms) flat = ap (λ at. record atom { at = at } ∷ map mirrored_atom atoms) (same atom.at (none (is_nought atom.at.z) (is_spatial atoms) flat).0) ∙ ap (λ rest. atom ∷ rest) (mirrored_flat atoms (none (is_nought atom.at.z) (is_spatial atoms) flat).1)
  where
    none : (nought rest : Bool) → (not nought || rest) ≡ false → (nought ≡ true) × (rest ≡ false)
    none nought rest e = grind arith

    height : (z : ℤ) → is_nought z ≡ true → neg_ℤ z ≡ z
    height (pos zero) e = refl
    height (pos (suc n)) e = absurd cc
    height (negsuc n) e = absurd cc

    same : (at : Vec3) → is_nought at.z ≡ true → mirrored at ≡ at
    same at e = ap (λ z. record { x = at.x; y = at.y; z = z }) (height at.z e)

of_axis-mirrored : (atoms : List Atom) (bonds : List Bond) (a b : ℕ) (firsts seconds : List ℕ) → of_axis (map mirrored_atom atoms) (map mirrored_bond bonds) a b firsts seconds ≡ other_way (of_axis atoms bonds a b firsts seconds)
of_axis-mirrored atoms bonds a b firsts seconds =
    rw (has_either-mirrored a bonds, has_either-mirrored b bonds, is_spatial-mirrored atoms, marks-mirrored a bonds firsts, marks-mirrored b bonds seconds)
    (by (has_either a bonds || has_either b bonds) (is_spatial atoms) refl)
  where
    by_marks_of : List Atom → List Sign → List Sign → Geometry
    by_marks_of atoms marks other_marks = by_marks (step (point atoms a) (point atoms b)) marks other_marks (steps atoms a firsts) (steps atoms b seconds)

    by : (either spatial : Bool) → is_spatial atoms ≡ spatial →
        (if either then Unknown Either else if spatial then by_pairs (twist (step (point (map mirrored_atom atoms) a) (point (map mirrored_atom atoms) b))) (steps (map mirrored_atom atoms) a firsts) (steps (map mirrored_atom atoms) b seconds) else by_marks_of (map mirrored_atom atoms) (map opposite (map (mark_to a bonds) firsts)) (map opposite (map (mark_to b bonds) seconds)))
        ≡ other_way (if either then Unknown Either else if spatial then by_pairs (twist (step (point atoms a) (point atoms b))) (steps atoms a firsts) (steps atoms b seconds) else by_marks_of atoms (map (mark_to a bonds) firsts) (map (mark_to b bonds) seconds))
    by true spatial e = refl
    by false true e = twist_mirrored atoms a b firsts seconds
    by false false e =
        ap (λ l. by_marks_of l (map opposite (map (mark_to a bonds) firsts)) (map opposite (map (mark_to b bonds) seconds))) (mirrored_flat atoms e)
        ∙ by_marks-opposite (step (point atoms a) (point atoms b)) (map (mark_to a bonds) firsts) (map (mark_to b bonds) seconds) (steps atoms a firsts) (steps atoms b seconds)

pub reflection_turns_axes : ReflectionTurnsAxes
reflection_turns_axes drawing a b first second =
    rw (length-map drawing.atoms mirrored_atom)
    (of_axis-mirrored drawing.atoms drawing.bonds a b (drawn (length drawing.atoms) first) (drawn (length drawing.atoms) second))
