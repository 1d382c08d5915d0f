-- Atoms at other places.
use Rattle.std.proofs.Common.{◌≡◌, ℕ, suc, List, [], ◌∷◌, Option, Some, None, map, refl, sym, ap, ◌∙◌}
use Rattle.std.specs.Prelude.{slice_get}
use Rattle.std.specs.Option.{option_map}
use Rattle.std.proofs.lemmas.Option.{slice_get-map, same_Some}
use Rattle.cip_num.specs.declared.plane.Vec3.{Vec3}
use Rattle.cip_v2000.specs.declared.atoms.AtomLine.{AtomLine}
use Rattle.cip_v2000.specs.declared.atom_properties.Pair.{Pair}
use Rattle.cip_v2000.specs.Statements.{settled}
use Rattle.cip_v2000.specs.LastStatements.{settled_atom}
use Rattle.cip_v2000.proofs.lemmas.Settling.{atoms_settled}
use Rattle.cip_edit.specs.Laws.{moved, moved_line}

pub same_elements : {A : Type 0} (xs ys : List A) → ((k : ℕ) → slice_get xs k ≡ slice_get ys k) → xs ≡ ys
same_elements [] [] same = refl
same_elements [] (y ∷ ys) same = absurd (let e = same 0 in cc)
same_elements (x ∷ xs) [] same = absurd (let e = same 0 in cc)
same_elements (x ∷ xs) (y ∷ ys) same =
    let first : x ≡ y = same_Some x y (same 0) in
    rw (first, same_elements xs ys (λ k. same (suc k))) refl

moved_found : (place : Vec3 → Vec3) (pairs : List Pair) (k : ℕ) (found : Option AtomLine)
    → option_map (settled_atom pairs k) (option_map (moved_line place) found)
    ≡ option_map (moved place) (option_map (settled_atom pairs k) found)
moved_found place pairs k None = refl
moved_found place pairs k (Some line) = refl

-- statements leave an atom where it is
pub settled_moved : (place : Vec3 → Vec3) (pairs : List Pair) (lines : List AtomLine)
    → settled pairs (map (moved_line place) lines) ≡ map (moved place) (settled pairs lines)
settled_moved place pairs lines =
    same_elements (settled pairs (map (moved_line place) lines)) (map (moved place) (settled pairs lines)) (λ k.
    atoms_settled pairs (map (moved_line place) lines) k
    ∙ ap (option_map (settled_atom pairs k)) (slice_get-map (moved_line place) lines k)
    ∙ moved_found place pairs k (slice_get lines k)
    ∙ ap (option_map (moved place)) (sym (atoms_settled pairs lines k))
    ∙ sym (slice_get-map (moved place) (settled pairs lines) k))
