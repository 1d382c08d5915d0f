-- A molecule with a mark at a centre is one: its fields are in range, and its bonds have no fault.
use Rattle.std.proofs.Common.{All, ◌≡◌, ◌≤◌, inl, ℕ, List, map, length, refl, sym, subst, Bool, true, false, cond, ◌==◌, ◌&&◌, eqb-true, arith}
use Rattle.std.proofs.lemmas.Bool.{and_parts}
use Rattle.std.proofs.lemmas.List.{length-map}
use Rattle.std.proofs.lemmas.List.Elements.{All-map}
use Rattle.cip_mol.specs.Bonds.{IsSound}
use Rattle.cip_mol.specs.Drawing.{Drawing}
use Rattle.cip_mol.specs.Marks.{is_narrow_at, joins}
use Rattle.cip_mol.specs.Ranges.{IsBond, IsInRange}
use Rattle.cip_mol.specs.declared.graph.molecule.Bond.{Bond}
use Rattle.cip_mol.specs.declared.graph.molecule.Mark.{Mark}
use Rattle.cip_mol.specs.declared.graph.molecule.Mark.TheVariants.{Plain}
use Rattle.cip_mol.proofs.lemmas.Redrawn.{map_redrawn, sound_redrawn}
use Rattle.cip_edit.specs.Marking.{without_mark, bare_bonds, bare, is_plain, can_be_marked, marked_to, marked}
use Rattle.cip_edit.proofs.lemmas.SetMarks.{marked_joins, bare_joins}

-- without marks at an atom
module _ (atom : ℕ) where
  bare_range : (bond : Bond) → IsBond bond → IsBond (without_mark atom bond)
  bare_range bond is = by (is_narrow_at atom bond)
    where
      by : (b : Bool) → IsBond (cond b (record bond { mark = Plain }) bond)
      by true = record { some = is.some; few = is.few; double = λ two. inl refl; triple = λ three. refl }
      by false = is

  pub sound_bare : (drawing : Drawing) → IsSound (length drawing.atoms) drawing.bonds
      → IsSound (length drawing.atoms) (bare_bonds atom drawing.bonds)
  sound_bare drawing sound =
      sound_redrawn (length drawing.atoms) drawing.bonds (bare_bonds atom drawing.bonds) sound
      (map_redrawn (without_mark atom) (λ bond. bare_joins atom 0 bond) drawing.bonds)

  bonds_bare : (bonds : List Bond) → All IsBond bonds → All IsBond (bare_bonds atom bonds)
  bonds_bare bonds all = All-map IsBond (without_mark atom) bonds (λ k d lt. bare_range _ (all k d lt))

  pub range_bare : (drawing : Drawing) → IsInRange drawing → IsInRange (bare drawing atom)
  range_bare drawing range = record {
    few_atoms = range.few_atoms;
    few_bonds = subst (λ n. n ≤ 32768) (sym (length-map drawing.bonds (without_mark atom))) range.few_bonds;
    atoms = range.atoms;
    bonds = bonds_bare drawing.bonds range.bonds;
  }

-- with a mark at a bond of an atom
module _ (atom neighbour : ℕ) (mark : Mark) where
  marked_range : (bond : Bond) → IsBond bond → IsBond (marked_to atom neighbour mark bond)
  marked_range bond is = by (can_be_marked atom neighbour bond) refl
    where
      by : (b : Bool) → can_be_marked atom neighbour bond ≡ b
          → IsBond (cond b (record { a = atom; b = neighbour; order = bond.order; mark = mark }) bond)
      by true e =
          let single : bond.order ≡ 1 =
          eqb-true bond.order 1
          (and_parts (bond.order == 1) (is_plain bond.mark)
          (and_parts (joins atom neighbour bond) ((bond.order == 1) && is_plain bond.mark) e).1).0 in
          record {
            some = is.some;
            few = is.few;
            double = λ two. absurd (omega (arith, single, two));
            triple = λ three. absurd (omega (arith, single, three));
          }
      by false e = is

  pub sound_marked : (drawing : Drawing) → IsSound (length drawing.atoms) drawing.bonds
      → IsSound (length drawing.atoms) (marked drawing atom neighbour mark).bonds
  sound_marked drawing sound =
      sound_redrawn (length drawing.atoms) drawing.bonds (marked drawing atom neighbour mark).bonds sound
      (map_redrawn (marked_to atom neighbour mark) (λ bond. marked_joins atom neighbour bond mark) drawing.bonds)

  bonds_marked : (bonds : List Bond) → All IsBond bonds → All IsBond (map (marked_to atom neighbour mark) bonds)
  bonds_marked bonds all = All-map IsBond (marked_to atom neighbour mark) bonds (λ k d lt. marked_range _ (all k d lt))

  pub range_marked : (drawing : Drawing) → IsInRange drawing → IsInRange (marked drawing atom neighbour mark)
  range_marked drawing range = record {
    few_atoms = range.few_atoms;
    few_bonds =
        subst (λ n. n ≤ 32768) (sym (length-map drawing.bonds (marked_to atom neighbour mark))) range.few_bonds;
    atoms = range.atoms;
    bonds = bonds_marked drawing.bonds range.bonds;
  }

  -- of the drawing for which a mark is answered
  pub bonds_set : (bonds : List Bond) → All IsBond bonds
      → All IsBond (map (marked_to atom neighbour mark) (bare_bonds atom bonds))
  bonds_set bonds all = bonds_marked (bare_bonds atom bonds) (bonds_bare atom bonds all)
