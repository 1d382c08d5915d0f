-- The mirror image of a molecule is one: its fields are in range, and its bonds have no fault.
use Rattle.std.proofs.Common.{◌≡◌, ◌≤◌, ℤ, pos, negsuc, neg_ℤ, map, length, refl, sym, ap, subst, inl, inr, unsigned_abs, zero, suc}
use Rattle.std.proofs.lemmas.List.{length-map}
use Rattle.std.proofs.lemmas.List.Elements.{All-map}
use Rattle.cip_mol.specs.Bonds.{IsSound}
use Rattle.cip_mol.specs.Drawing.{Drawing}
use Rattle.cip_mol.specs.Ranges.{IsAtom, IsBond, IsInRange}
use Rattle.cip_mol.specs.Reflection.{exchanged, mirrored_atom, mirrored_bond, reflected}
use Rattle.cip_mol.specs.declared.graph.molecule.Atom.{Atom}
use Rattle.cip_mol.specs.declared.graph.molecule.Bond.{Bond}
use Rattle.cip_mol.proofs.lemmas.SimpleBonds.{simple_from_sound, simple_map, sound_from_simple}

unsigned_abs-neg : (z : ℤ) → unsigned_abs (neg_ℤ z) ≡ unsigned_abs z
unsigned_abs-neg (pos zero) = refl
unsigned_abs-neg (pos (suc n)) = refl
unsigned_abs-neg (negsuc n) = refl

atom_mirrored : (atom : Atom) → IsAtom atom → IsAtom (mirrored_atom atom)
atom_mirrored atom is = record {
  element = is.element;
  known = is.known;
  isotope = is.isotope;
  charge = is.charge;
  radical = is.radical;
  valence_mark = is.valence_mark;
  place = record {
    x = is.place.x;
    y = is.place.y;
    z = subst (λ n. n ≤ 500000000) (sym (unsigned_abs-neg atom.at.z)) is.place.z;
  };
}

bond_mirrored : (bond : Bond) → IsBond bond → IsBond (mirrored_bond bond)
bond_mirrored bond is = record {
  some = is.some;
  few = is.few;
  double = λ two. elim (is.double two) [ inl plain ↦ inl (ap exchanged plain) | inr either ↦ inr (ap exchanged either) ];
  triple = λ three. ap exchanged (is.triple three);
}

pub range_mirrored : (drawing : Drawing) → IsInRange drawing → IsInRange (reflected drawing)
range_mirrored drawing range = record {
  few_atoms = subst (λ n. n ≤ 16384) (sym (length-map drawing.atoms mirrored_atom)) range.few_atoms;
  few_bonds = subst (λ n. n ≤ 32768) (sym (length-map drawing.bonds mirrored_bond)) range.few_bonds;
  atoms = All-map IsAtom mirrored_atom drawing.atoms (λ k d lt. atom_mirrored _ (range.atoms k d lt));
  bonds = All-map IsBond mirrored_bond drawing.bonds (λ k d lt. bond_mirrored _ (range.bonds k d lt));
}

pub sound_mirrored : (drawing : Drawing) → IsSound (length drawing.atoms) drawing.bonds →
    IsSound (length (reflected drawing).atoms) (reflected drawing).bonds
sound_mirrored drawing sound =
    let atoms = length drawing.atoms in
    subst (λ n. IsSound n (map mirrored_bond drawing.bonds)) (sym (length-map drawing.atoms mirrored_atom))
    (sound_from_simple atoms (map mirrored_bond drawing.bonds)
    (simple_map atoms drawing.bonds (simple_from_sound atoms drawing.bonds sound) mirrored_bond (λ atom. atom)
    (λ bond join. record { a = join.a; b = join.b; differ = join.differ }) (λ one other joins join. refl)
    (λ atom lt. lt) (λ atom lt bond join. refl)))
