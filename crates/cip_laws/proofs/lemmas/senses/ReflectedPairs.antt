-- Reflection keeps what is shown of bonds, and turns the sense of axes drawn in space.
use Rattle.std.proofs.Common.{◌≡◌, ℕ, refl, ap, ◌∙◌, List, map, length, Bool, true, false}
use Rattle.std.specs.Prelude.{◌||◌, if◌then◌else◌}
use Rattle.std.proofs.lemmas.List.{length-map}
use Rattle.std.proofs.Math.ListN.{get_or-map}
use Rattle.cip_num.specs.declared.plane.Sign.{Sign}
use Rattle.cip_num.specs.declared.plane.Vec3.{Vec3}
use Rattle.cip_num.specs.Signs.{sign_of, opposite, is_zero, are_alike}
use Rattle.cip_num.specs.Space.{determinant, mirrored}
use Rattle.cip_num.proofs.lemmas.Signs.{sign_of-neg, is_zero-opposite, are_alike-opposite}
use Rattle.cip_laws.proofs.lemmas.senses.Determinants.{determinant-mirrored, facing-mirrored}
use Rattle.cip_mol.specs.declared.graph.molecule.Atom.{Atom}
use Rattle.cip_mol.specs.declared.graph.molecule.Bond.{Bond}
use Rattle.cip_mol.specs.declared.site.Cause.TheVariants.{Either, Coincident, Contradictory}
use Rattle.cip_mol.specs.declared.site.Geometry.TheVariants.{Unknown}
use Rattle.cip_mol.specs.DrawnLigands.{drawn}
use Rattle.cip_mol.specs.Senses.{shown_by, other_way}
use Rattle.cip_mol.specs.Points.{point, step, steps}
use Rattle.cip_mol.specs.Marks.{has_either, is_crossed}
use Rattle.cip_mol.specs.Pairs.{nowhere, ligand_at, are_two_alike, has_flat_pair, keeps_sign, by_pairs}
use Rattle.cip_mol.specs.Geometry.{sides, twist, of_bond}
use Rattle.cip_mol.specs.Reflection.{mirrored_atom, mirrored_bond}
use Rattle.cip_mol.specs.GeometryLaws.{ReflectionKeepsBonds}
use Rattle.cip_mol.proofs.lemmas.ReflectedDrawing.{list_any-map, has_either-mirrored, is_crossed-mirrored, point-mirrored, step-mirrored, steps-mirrored}
use Rattle.cip_laws.proofs.lemmas.senses.ReflectedCentres.{shown_by-opposite}

ligand_at-mirrored : (ligands : List Vec3) (place : ℕ) → ligand_at (map mirrored ligands) place ≡ mirrored (ligand_at ligands place)
ligand_at-mirrored ligands place = get_or-map mirrored ligands place nowhere

-- pairs of mirrored ligands, where the sign of each is another one's, changed in some way
module _ (changed : Sign → Sign) (zero : (s : Sign) → is_zero (changed s) ≡ is_zero s) (alike : (s t : Sign) → are_alike (changed s) (changed t) ≡ are_alike s t) where
  two_alike : (sign other : Vec3 → Sign) (ligands : List Vec3) → ((a : Vec3) → other (mirrored a) ≡ changed (sign a)) → are_two_alike other (map mirrored ligands) ≡ are_two_alike sign ligands
  two_alike sign other ligands is =
      rw (length-map ligands mirrored, ligand_at-mirrored ligands 0, ligand_at-mirrored ligands 1, is (ligand_at ligands 0), is (ligand_at ligands 1), alike (sign (ligand_at ligands 0)) (sign (ligand_at ligands 1)))

  module _ (sign other : Vec3 → Vec3 → Sign) (is : (a b : Vec3) → other (mirrored a) (mirrored b) ≡ changed (sign a b)) (firsts seconds : List Vec3) where
    flat_pair : has_flat_pair other (map mirrored firsts) (map mirrored seconds) ≡ has_flat_pair sign firsts seconds
    flat_pair = simp (list_any-map, is, zero)

    kept : keeps_sign other (map mirrored firsts) (map mirrored seconds) ≡ keeps_sign sign firsts seconds
    kept =
        simp (list_any-map, λ (a : Vec3). two_alike (λ b. sign a b) (λ b. other (mirrored a) b) seconds (λ b. is a b), λ (b : Vec3). two_alike (λ a. sign a b) (λ a. other a (mirrored b)) firsts (λ a. is a b))

    shown_changed : by_pairs other (map mirrored firsts) (map mirrored seconds) ≡ (if has_flat_pair sign firsts seconds then Unknown Coincident else if keeps_sign sign firsts seconds then Unknown Contradictory else shown_by (changed (sign (ligand_at firsts 0) (ligand_at seconds 0))))
    shown_changed = rw (flat_pair, kept, ligand_at-mirrored firsts 0, ligand_at-mirrored seconds 0, is (ligand_at firsts 0) (ligand_at seconds 0))

between-mirrored : (atoms : List Atom) (a b : ℕ) → step (point (map mirrored_atom atoms) a) (point (map mirrored_atom atoms) b) ≡ mirrored (step (point atoms a) (point atoms b))
between-mirrored atoms a b = rw (point-mirrored atoms a, point-mirrored atoms b) (step-mirrored (point atoms a) (point atoms b))

sides_mirrored : (atoms : List Atom) (a b : ℕ) (firsts seconds : List ℕ) →
    by_pairs (sides (step (point (map mirrored_atom atoms) a) (point (map mirrored_atom atoms) b))) (steps (map mirrored_atom atoms) a firsts) (steps (map mirrored_atom atoms) b seconds)
    ≡ by_pairs (sides (step (point atoms a) (point atoms b))) (steps atoms a firsts) (steps atoms b seconds)
sides_mirrored atoms a b firsts seconds =
    let between = step (point atoms a) (point atoms b) in
    ap (λ u. by_pairs (sides u) (steps (map mirrored_atom atoms) a firsts) (steps (map mirrored_atom atoms) b seconds)) (between-mirrored atoms a b)
    ∙ ap (λ vs. by_pairs (sides (mirrored between)) vs (steps (map mirrored_atom atoms) b seconds)) (steps-mirrored atoms a firsts)
    ∙ ap (by_pairs (sides (mirrored between)) (map mirrored (steps atoms a firsts))) (steps-mirrored atoms b seconds)
    ∙ shown_changed (λ s. s) (λ s. refl) (λ s t. refl) (sides between) (sides (mirrored between)) (λ v w. ap sign_of (facing-mirrored between v w)) (steps atoms a firsts) (steps atoms b seconds)

of_bond-mirrored : (atoms : List Atom) (bonds : List Bond) (a b : ℕ) (firsts seconds : List ℕ) → of_bond (map mirrored_atom atoms) (map mirrored_bond bonds) a b firsts seconds ≡ of_bond atoms bonds a b firsts seconds
of_bond-mirrored atoms bonds a b firsts seconds =
    rw (has_either-mirrored a bonds, has_either-mirrored b bonds, is_crossed-mirrored a b bonds)
    (ap (λ shown. if has_either a bonds || (has_either b bonds || is_crossed a b bonds) then Unknown Either else shown) (sides_mirrored atoms a b firsts seconds))

pub reflection_keeps_bonds : ReflectionKeepsBonds
reflection_keeps_bonds drawing a b first second =
    rw (length-map drawing.atoms mirrored_atom)
    (of_bond-mirrored drawing.atoms drawing.bonds a b (drawn (length drawing.atoms) first) (drawn (length drawing.atoms) second))

turned : (flat keeps : Bool) (s : Sign) → (if flat then Unknown Coincident else if keeps then Unknown Contradictory else shown_by (opposite s)) ≡ other_way (if flat then Unknown Coincident else if keeps then Unknown Contradictory else shown_by s)
turned true keeps s = refl
turned false true s = refl
turned false false s = shown_by-opposite s

pub twist_mirrored : (atoms : List Atom) (a b : ℕ) (firsts seconds : List ℕ) →
    by_pairs (twist (step (point (map mirrored_atom atoms) a) (point (map mirrored_atom atoms) b))) (steps (map mirrored_atom atoms) a firsts) (steps (map mirrored_atom atoms) b seconds)
    ≡ other_way (by_pairs (twist (step (point atoms a) (point atoms b))) (steps atoms a firsts) (steps atoms b seconds))
twist_mirrored atoms a b firsts seconds =
    let between = step (point atoms a) (point atoms b) in
    ap (λ u. by_pairs (twist u) (steps (map mirrored_atom atoms) a firsts) (steps (map mirrored_atom atoms) b seconds)) (between-mirrored atoms a b)
    ∙ ap (λ vs. by_pairs (twist (mirrored between)) vs (steps (map mirrored_atom atoms) b seconds)) (steps-mirrored atoms a firsts)
    ∙ ap (by_pairs (twist (mirrored between)) (map mirrored (steps atoms a firsts))) (steps-mirrored atoms b seconds)
    ∙ shown_changed opposite is_zero-opposite are_alike-opposite (twist between) (twist (mirrored between)) (λ v w. ap sign_of (determinant-mirrored between v w) ∙ sign_of-neg (determinant between v w)) (steps atoms a firsts) (steps atoms b seconds)
    ∙ turned (has_flat_pair (twist between) (steps atoms a firsts) (steps atoms b seconds)) (keeps_sign (twist between) (steps atoms a firsts) (steps atoms b seconds)) (twist between (ligand_at (steps atoms a firsts) 0) (ligand_at (steps atoms b seconds) 0))
