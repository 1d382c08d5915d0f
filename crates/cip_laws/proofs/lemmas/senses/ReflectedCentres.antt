-- Reflection turns the sense of every centre.
use Rattle.std.proofs.Common.{◌≡◌, ◌%◌, ℕ, refl, ap, ◌∙◌, List, [], ◌∷◌, map, length, Bool, true, false}
use Rattle.std.specs.Prelude.{◌==◌, ◌&&◌, ◌||◌, not, if◌then◌else◌}
use Rattle.std.proofs.lemmas.List.{length-map}
use Rattle.std.proofs.Math.ListN.{get_or-map}
use Rattle.cip_num.specs.declared.plane.Sign.{Sign}
use Rattle.cip_num.specs.declared.plane.Sign.TheVariants.{Minus, Zero, Plus}
use Rattle.cip_num.specs.declared.plane.Vec2.{Vec2}
use Rattle.cip_num.specs.declared.plane.Vec3.{Vec3}
use Rattle.cip_num.specs.Signs.{sign_of, opposite}
use Rattle.cip_num.specs.Space.{determinant, mirrored}
use Rattle.cip_num.specs.Around.{has_coincident, places}
use Rattle.cip_num.proofs.lemmas.Signs.{sign_of-neg, is_zero-opposite, is_plus-opposite, is_minus-opposite}
use Rattle.cip_laws.proofs.lemmas.senses.Determinants.{determinant-mirrored}
use Rattle.cip_mol.specs.declared.graph.molecule.Atom.{Atom}
use Rattle.cip_mol.specs.declared.graph.molecule.Bond.{Bond}
use Rattle.cip_mol.specs.declared.site.Cause.TheVariants.{Either, Coincident, Contradictory, Reentrant, NoMark}
use Rattle.cip_mol.specs.declared.site.Geometry.{Geometry}
use Rattle.cip_mol.specs.declared.site.Geometry.TheVariants.{Known, Unknown}
use Rattle.cip_mol.specs.DrawnLigands.{drawn}
use Rattle.cip_mol.specs.Senses.{sense_of, shown_by, other_way}
use Rattle.cip_mol.specs.Points.{point, is_spatial, flat_steps}
use Rattle.cip_mol.specs.Marks.{has_either, mark_at, mark_to}
use Rattle.cip_mol.specs.SpatialCentres.{corner, edge, in_space}
use Rattle.cip_mol.specs.FlatCentres.{turned, turned_by_place, votes, has_plus, has_minus, is_reentrant, inversions, by_votes, in_plane}
use Rattle.cip_mol.specs.Geometry.{of_centre}
use Rattle.cip_mol.specs.Reflection.{mirrored_atom, mirrored_bond}
use Rattle.cip_mol.specs.GeometryLaws.{ReflectionTurnsCentres}
use Rattle.cip_mol.proofs.lemmas.ReflectedDrawing.{list_any-map, has_either-mirrored, marks-mirrored, is_spatial-mirrored, point-mirrored, points-mirrored, step-mirrored, flat_steps-mirrored}

pub shown_by-opposite : (s : Sign) → shown_by (opposite s) ≡ other_way (shown_by s)
shown_by-opposite Plus = refl
shown_by-opposite Minus = refl
shown_by-opposite Zero = refl

edge-mirrored : (centre : Vec3) (points : List Vec3) (place : ℕ) → edge (mirrored centre) (map mirrored points) place ≡ mirrored (edge centre points place)
edge-mirrored centre points place =
    rw (get_or-map mirrored points 3 centre, get_or-map mirrored points place centre) (step-mirrored (corner centre points 3) (corner centre points place))

abbrev shows : Vec3 → Vec3 → Vec3 → Geometry
shows a b c = shown_by (sign_of (determinant a b c))

in_space-mirrored : (centre : Vec3) (points : List Vec3) → in_space (mirrored centre) (map mirrored points) ≡ other_way (in_space centre points)
in_space-mirrored centre points =
    ap (λ a. shows a (edge (mirrored centre) (map mirrored points) 1) (edge (mirrored centre) (map mirrored points) 2)) (edge-mirrored centre points 0)
    ∙ ap (λ b. shows (mirrored (edge centre points 0)) b (edge (mirrored centre) (map mirrored points) 2)) (edge-mirrored centre points 1)
    ∙ ap (λ c. shows (mirrored (edge centre points 0)) (mirrored (edge centre points 1)) c) (edge-mirrored centre points 2)
    ∙ ap (λ d. shown_by (sign_of d)) (determinant-mirrored (edge centre points 0) (edge centre points 1) (edge centre points 2))
    ∙ ap shown_by (sign_of-neg (determinant (edge centre points 0) (edge centre points 1) (edge centre points 2)))
    ∙ shown_by-opposite (sign_of (determinant (edge centre points 0) (edge centre points 1) (edge centre points 2)))

turned-opposite : (times : ℕ) (s : Sign) → turned times (opposite s) ≡ opposite (turned times s)
turned-opposite times s = by (times % 2 == 0)
  where
    by : (even : Bool) → (if even then opposite s else opposite (opposite s)) ≡ opposite (if even then s else opposite s)
    by true = refl
    by false = refl

turned_by_place-opposite : (ns : List ℕ) (marks : List Sign) → turned_by_place ns (map opposite marks) ≡ map opposite (turned_by_place ns marks)
turned_by_place-opposite [] marks = refl
turned_by_place-opposite (n ∷ ns) [] = refl
turned_by_place-opposite (n ∷ ns) (mark ∷ marks) = rw (turned-opposite n mark, turned_by_place-opposite ns marks)

votes-opposite : (ns : List ℕ) (marks : List Sign) → votes ns (map opposite marks) ≡ map opposite (votes ns marks)
votes-opposite ns marks = rw (turned_by_place-opposite ns marks) (by (length ns == 4))
  where
    by : (four : Bool) → (if four then map opposite (turned_by_place ns marks) else map opposite marks) ≡ map opposite (if four then turned_by_place ns marks else marks)
    by true = refl
    by false = refl

pub mark_at-opposite : (marks : List Sign) (place : ℕ) → mark_at (map opposite marks) place ≡ opposite (mark_at marks place)
mark_at-opposite marks place = get_or-map opposite marks place Zero

is_reentrant-opposite : (directions : List Vec2) (marks : List Sign) → is_reentrant directions (map opposite marks) ≡ is_reentrant directions marks
is_reentrant-opposite directions marks = simp (mark_at-opposite, is_zero-opposite)

-- by whether a vote is Plus and one is Minus, whether the drawing is reentrant, and whether the permutation is even
unfoldable pub tests : Bool → Bool → Bool → Bool → Geometry
tests p m r e =
    if p && m then Unknown Contradictory
    else if r then Unknown Reentrant
    else if not (p || m) then Unknown NoMark
    else Known (sense_of (if e then (if p then Plus else Minus) else opposite (if p then Plus else Minus)))

pub tests-turned : (p m r e : Bool) → tests m p r e ≡ other_way (tests p m r e)
unfolding tests
tests-turned true true r e = refl
tests-turned true false true e = refl
tests-turned true false false true = refl
tests-turned true false false false = refl
tests-turned false true true e = refl
tests-turned false true false true = refl
tests-turned false true false false = refl
tests-turned false false true e = refl
tests-turned false false false e = refl

by_votes-opposite : (reentrant : Bool) (ns : List ℕ) (votes : List Sign) → by_votes reentrant ns (map opposite votes) ≡ other_way (by_votes reentrant ns votes)
unfolding tests
by_votes-opposite reentrant ns votes =
    simp (list_any-map, is_plus-opposite, is_minus-opposite) (tests-turned (has_plus votes) (has_minus votes) reentrant (inversions ns % 2 == 0))

in_plane-opposite : (directions : List Vec2) (marks : List Sign) → in_plane directions (map opposite marks) ≡ other_way (in_plane directions marks)
in_plane-opposite directions marks =
    rw (is_reentrant-opposite directions marks, votes-opposite (places directions) marks, by_votes-opposite (is_reentrant directions marks) (places directions) (votes (places directions) marks))
    (by (has_coincident directions) (by_votes (is_reentrant directions marks) (places directions) (votes (places directions) marks)))
  where
    by : (clash : Bool) (shown : Geometry) → (if clash then Unknown Coincident else other_way shown) ≡ other_way (if clash then Unknown Coincident else shown)
    by true shown = refl
    by false shown = refl

of_centre-mirrored : (atoms : List Atom) (bonds : List Bond) (at : ℕ) (numbers : List ℕ) → of_centre (map mirrored_atom atoms) (map mirrored_bond bonds) at numbers ≡ other_way (of_centre atoms bonds at numbers)
of_centre-mirrored atoms bonds at numbers =
    rw (has_either-mirrored at bonds, is_spatial-mirrored atoms, flat_steps-mirrored atoms at numbers, points-mirrored atoms numbers, point-mirrored atoms at, marks-mirrored at bonds numbers)
    (by (has_either at bonds) (is_spatial atoms))
  where
    by : (either spatial : Bool) → (if either then Unknown Either else if spatial then in_space (mirrored (point atoms at)) (map mirrored (map (point atoms) numbers)) else in_plane (flat_steps atoms at numbers) (map opposite (map (mark_to at bonds) numbers))) ≡ other_way (if either then Unknown Either else if spatial then in_space (point atoms at) (map (point atoms) numbers) else in_plane (flat_steps atoms at numbers) (map (mark_to at bonds) numbers))
    by true spatial = refl
    by false true = in_space-mirrored (point atoms at) (map (point atoms) numbers)
    by false false = in_plane-opposite (flat_steps atoms at numbers) (map (mark_to at bonds) numbers)

pub reflection_turns_centres : ReflectionTurnsCentres
reflection_turns_centres drawing at ligands =
    rw (length-map drawing.atoms mirrored_atom) (of_centre-mirrored drawing.atoms drawing.bonds at (drawn (length drawing.atoms) ligands))
