-- A molecule in another numbering is one: its fields are in range, and its bonds have no fault.
use Rattle.std.proofs.Common.{◌≡◌, ◌<◌, ◌≤◌, ◌==◌, ◌||◌, ℕ, List, map, length, refl, sym, ap, subst, ◌∙◌, eqb-true, eq-eqb, inl, inr}
use Rattle.std.proofs.lemmas.Bool.{cases_eq, ne_eqb}
use Rattle.std.proofs.lemmas.List.{length-map}
use Rattle.std.proofs.lemmas.List.Elements.{All-map}
use Rattle.cip_mol.specs.Bonds.{joins_same, touches, IsSound}
use Rattle.cip_mol.specs.Drawing.{Drawing}
use Rattle.cip_mol.specs.Permutations.{ArePlaces}
use Rattle.cip_mol.specs.Points.{no_atom}
use Rattle.cip_mol.specs.Ranges.{IsAtom, IsBond, IsInRange}
use Rattle.cip_mol.specs.RenumberedDrawing.{index_of, no_bond, placed, place_of, renamed, renumbered}
use Rattle.cip_mol.specs.declared.graph.molecule.Bond.{Bond}
use Rattle.cip_mol.proofs.lemmas.Permutations.{place_below, index_below, place_of_index, index_of_place}
use Rattle.cip_mol.proofs.lemmas.Placing.{length-placed, All-placed}
use Rattle.cip_mol.proofs.lemmas.SimpleBonds.{IsJoin, simple_from_sound, simple_map, simple_placed, sound_from_simple}

module _ (atoms : ℕ) (places : List ℕ) (p : ArePlaces atoms places) where
  abbrev image : ℕ → ℕ
  image = place_of places

  pub same_image : (j k : ℕ) → j < atoms → k < atoms → (image j == image k) ≡ (j == k)
  same_image j k in_j in_k = elim (cases_eq j k) [
    | inl same ↦ eq-eqb (image j) (image k) (ap image same) ∙ sym (eq-eqb j k same)
    | inr differ ↦
        ne_eqb (image j) (image k) (λ e. differ
        (sym (index_of_place atoms places p j j in_j) ∙ ap (λ n. index_of n places) e
        ∙ index_of_place atoms places p k k in_k))
        ∙ sym (ne_eqb j k differ)
  ]

  join_renamed : (bond : Bond) → IsJoin atoms bond → IsJoin atoms (renamed image bond)
  join_renamed bond join = record {
    a = place_below atoms places p bond.a bond.a join.a;
    b = place_below atoms places p bond.b bond.b join.b;
    differ = λ e. join.differ
        (eqb-true bond.a bond.b (sym (same_image bond.a bond.b join.a join.b) ∙ eq-eqb (image bond.a) (image bond.b) e));
  }

  joins_renamed : (one other : Bond) → IsJoin atoms one → IsJoin atoms other →
      joins_same (renamed image one) (renamed image other) ≡ joins_same one other
  joins_renamed one other i j =
      rw (
        same_image one.a other.a i.a j.a,
        same_image one.b other.b i.b j.b,
        same_image one.a other.b i.a j.b,
        same_image one.b other.a i.b j.a,
      ) refl

  touches_renamed : (atom : ℕ) → atom < atoms → (bond : Bond) → IsJoin atoms bond →
      touches atom (renamed image bond) ≡ touches (index_of atom places) bond
  touches_renamed atom lt bond join =
      let from = index_of atom places in
      let within = index_below atoms places p atom lt in
      let is : atom ≡ image from = sym (place_of_index atoms places p atom from lt) in
      ap (λ n. (image bond.a == n) || (image bond.b == n)) is
      ∙ ap (λ t. t || (image bond.b == image from)) (same_image bond.a from join.a within)
      ∙ ap (λ t. (bond.a == from) || t) (same_image bond.b from join.b within)

module _ (drawing : Drawing) (atoms bonds : List ℕ) (p : ArePlaces (length drawing.atoms) atoms)
    (q : ArePlaces (length drawing.bonds) bonds) where
  abbrev rename : Bond → Bond
  rename = renamed (place_of atoms)

  abbrev renamed_bonds : List Bond
  renamed_bonds = map rename drawing.bonds

  pub for_renamed : ArePlaces (length renamed_bonds) bonds
  for_renamed = subst (λ n. ArePlaces n bonds) (sym (length-map drawing.bonds rename)) q

  bond_renamed : (bond : Bond) → IsBond bond → IsBond (rename bond)
  bond_renamed bond is = record { some = is.some; few = is.few; double = is.double; triple = is.triple }

  pub range_renumbered : IsInRange drawing → IsInRange (renumbered atoms bonds drawing)
  range_renumbered range = record {
    few_atoms = subst (λ n. n ≤ 16384) (sym (length-placed atoms drawing.atoms p no_atom)) range.few_atoms;
    few_bonds =
        subst (λ n. n ≤ 32768)
        (sym (length-placed bonds renamed_bonds for_renamed no_bond ∙ length-map drawing.bonds rename)) range.few_bonds;
    atoms = All-placed atoms drawing.atoms p no_atom IsAtom range.atoms;
    bonds =
        All-placed bonds renamed_bonds for_renamed no_bond IsBond
        (All-map IsBond rename drawing.bonds (λ k d lt. bond_renamed _ (range.bonds k d lt)));
  }

  pub sound_renumbered : IsSound (length drawing.atoms) drawing.bonds →
      IsSound (length (renumbered atoms bonds drawing).atoms) (renumbered atoms bonds drawing).bonds
  sound_renumbered sound =
      let n = length drawing.atoms in
      subst (λ count. IsSound count (placed no_bond bonds renamed_bonds))
      (sym (length-placed atoms drawing.atoms p no_atom))
      (sound_from_simple n (placed no_bond bonds renamed_bonds)
      (simple_placed n renamed_bonds
      (simple_map n drawing.bonds (simple_from_sound n drawing.bonds sound) rename (λ atom. index_of atom atoms)
      (join_renamed n atoms p) (joins_renamed n atoms p) (index_below n atoms p) (touches_renamed n atoms p)) no_bond
      bonds for_renamed))
