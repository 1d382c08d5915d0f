-- Points and marks of the mirror image of a drawing.
use Rattle.std.proofs.Common.{◌≡◌, ℕ, refl, ap, List, [], ◌∷◌, map, Bool, true, false, arith}
use Rattle.std.specs.Prelude.{◌-ℤ◌, ◌==◌, ◌&&◌, neg_ℤ, ℤ, if◌then◌else◌}
use Rattle.std.specs.List.{list_any}
use Rattle.std.proofs.lemmas.Int.{ints}
use Rattle.std.proofs.lemmas.Simd.{map-map}
use Rattle.std.proofs.Math.ListN.{get_or-map}
use Rattle.cip_num.specs.declared.plane.Sign.{Sign}
use Rattle.cip_num.specs.declared.plane.Vec3.{Vec3}
use Rattle.cip_num.specs.Signs.{opposite}
use Rattle.cip_num.specs.Space.{mirrored}
use Rattle.cip_num.proofs.lemmas.Signs.{sign_of-neg, is_zero-opposite}
use Rattle.cip_mol.specs.declared.graph.molecule.Atom.{Atom}
use Rattle.cip_mol.specs.declared.graph.molecule.Bond.{Bond}
use Rattle.cip_mol.specs.declared.graph.molecule.Mark.{Mark}
use Rattle.cip_mol.specs.declared.graph.molecule.Mark.TheVariants.{Plain, Up, Down, Either}
use Rattle.cip_mol.specs.Points.{no_atom, point, step, flat_steps, steps, is_spatial}
use Rattle.cip_mol.specs.Marks.{is_either, mark_sign, is_narrow_at, has_either, is_crossed, mark_to}
use Rattle.cip_mol.specs.Reflection.{mirrored_atom, exchanged, mirrored_bond}

pub list_any-map : {X Y : Type 0} (p : Y → Bool) (f : X → Y) (xs : List X) → list_any p (map f xs) ≡ list_any (λ x. p (f x)) xs
list_any-map p f [] = refl
list_any-map p f (x ∷ xs) = rw (list_any-map p f xs)

pub is_either-exchanged : (mark : Mark) → is_either (exchanged mark) ≡ is_either mark
is_either-exchanged Plain = refl
is_either-exchanged Up = refl
is_either-exchanged Down = refl
is_either-exchanged Either = refl

mark_sign-exchanged : (mark : Mark) → mark_sign (exchanged mark) ≡ opposite (mark_sign mark)
mark_sign-exchanged Plain = refl
mark_sign-exchanged Up = refl
mark_sign-exchanged Down = refl
mark_sign-exchanged Either = refl

pub has_either-mirrored : (at : ℕ) (bonds : List Bond) → has_either at (map mirrored_bond bonds) ≡ has_either at bonds
has_either-mirrored at bonds = simp (list_any-map, is_either-exchanged)

pub is_crossed-mirrored : (a b : ℕ) (bonds : List Bond) → is_crossed a b (map mirrored_bond bonds) ≡ is_crossed a b bonds
is_crossed-mirrored a b bonds = simp (list_any-map, is_either-exchanged)

pub mark_to-mirrored : (at : ℕ) (bonds : List Bond) (neighbour : ℕ) → mark_to at (map mirrored_bond bonds) neighbour ≡ opposite (mark_to at bonds neighbour)
mark_to-mirrored at [] neighbour = refl
mark_to-mirrored at (bond ∷ bonds) neighbour = rw (mark_sign-exchanged bond.mark, mark_to-mirrored at bonds neighbour) (by (is_narrow_at at bond && (bond.b == neighbour)) (mark_sign bond.mark) (mark_to at bonds neighbour))
  where
    by : (here : Bool) (s t : Sign) → (if here then opposite s else opposite t) ≡ opposite (if here then s else t)
    by true s t = refl
    by false s t = refl

pub marks-mirrored : (at : ℕ) (bonds : List Bond) (neighbours : List ℕ) → map (mark_to at (map mirrored_bond bonds)) neighbours ≡ map opposite (map (mark_to at bonds) neighbours)
marks-mirrored at bonds [] = refl
marks-mirrored at bonds (neighbour ∷ neighbours) = rw (mark_to-mirrored at bonds neighbour, marks-mirrored at bonds neighbours)

pub is_spatial-mirrored : (atoms : List Atom) → is_spatial (map mirrored_atom atoms) ≡ is_spatial atoms
is_spatial-mirrored atoms = simp (list_any-map, sign_of-neg, is_zero-opposite)

pub point-mirrored : (atoms : List Atom) (atom : ℕ) → point (map mirrored_atom atoms) atom ≡ mirrored (point atoms atom)
point-mirrored atoms atom = ap (λ a. a.at) (get_or-map mirrored_atom atoms atom no_atom)

pub points-mirrored : (atoms : List Atom) (numbers : List ℕ) → map (point (map mirrored_atom atoms)) numbers ≡ map mirrored (map (point atoms) numbers)
points-mirrored atoms [] = refl
points-mirrored atoms (number ∷ numbers) = rw (point-mirrored atoms number, points-mirrored atoms numbers)

z_step : (a b : ℤ) → neg_ℤ b -ℤ neg_ℤ a ≡ neg_ℤ (b -ℤ a)
z_step a b = omega (arith, ints)

pub step-mirrored : (from to : Vec3) → step (mirrored from) (mirrored to) ≡ mirrored (step from to)
step-mirrored from to = ap (λ z. record { x = to.x -ℤ from.x; y = to.y -ℤ from.y; z = z }) (z_step from.z to.z)

pub steps-mirrored : (atoms : List Atom) (from : ℕ) (others : List ℕ) → steps (map mirrored_atom atoms) from others ≡ map mirrored (steps atoms from others)
steps-mirrored atoms from others = simp (point-mirrored, step-mirrored, map-map)

pub flat_steps-mirrored : (atoms : List Atom) (from : ℕ) (others : List ℕ) → flat_steps (map mirrored_atom atoms) from others ≡ flat_steps atoms from others
flat_steps-mirrored atoms from others = simp point-mirrored
