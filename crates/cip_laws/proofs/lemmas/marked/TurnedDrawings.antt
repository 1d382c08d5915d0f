-- A drawing in which the free bond to a neighbour is turned is a renumbering that leaves each vertex where it is.
use Rattle.std.proofs.Common.{◌≡◌, ◌∙◌, ◌+◌, inl, inr, ap, sym, subst, refl, ℕ, List, [], ◌∷◌, Bool, true, false, cond, map, length, sum, ◌==◌, ◌&&◌, ◌||◌, eqb-true}
use Rattle.std.specs.List.{range_with_len}
use Rattle.std.specs.List.Sorted.{IsPermutation}
use Rattle.std.proofs.lemmas.Bool.{and_parts, or_cases}
use Rattle.std.proofs.lemmas.List.{map-id}
use Rattle.std.proofs.lemmas.List.Sorted.{IsPermutation-refl}
use Rattle.cip_rank.specs.Matching.{InPairs}
use Rattle.cip_mol.specs.Bonds.{touches}
use Rattle.cip_mol.specs.Drawing.{Drawing}
use Rattle.cip_mol.specs.Marks.{joins}
use Rattle.cip_mol.specs.declared.graph.molecule.Bond.{Bond}
use Rattle.cip_mol.specs.declared.graph.molecule.Mark.{Mark}
use Rattle.cip_mol.specs.declared.graph.molecule.Mark.TheVariants.{Plain, Up, Down, Either}
use Rattle.cip_digraph.specs.graph.Hydrogens.{atom_at, bond_orders, hydrogens, hydrogens_of}
use Rattle.cip_digraph.specs.graph.Renumbering.{IsImage, IsRenumbering}
use Rattle.std.proofs.Math.Bool.{or_comm}
use Rattle.cip_laws.proofs.lemmas.drawings.RenumberedAtoms.{orders_alike}
use Rattle.cip_edit.specs.Marking.{can_be_marked, is_plain, marked, marked_to}
use Rattle.cip_laws.proofs.lemmas.graph.RenumberedGraph.{carry}

abbrev pub still : ℕ → ℕ
still vertex = vertex

plain_is : (mark : Mark) → is_plain mark ≡ true → mark ≡ Plain
plain_is Plain e = refl
plain_is Up e = let bad : false ≡ true = e in cc
plain_is Down e = let bad : false ≡ true = e in cc
plain_is Either e = let bad : false ≡ true = e in cc

both_same : (b : Bool) (v : ℕ) → cond b v v ≡ v
both_same true v = refl
both_same false v = refl

pub carried_still : (drawing : Drawing) (v : ℕ) → carry drawing still v ≡ v
carried_still drawing v = both_same _ v

module _ (k : ℕ) where
  touched : (one other : Bond) → IsImage still one other → touches k other ≡ touches k one
  touched one other image =
      elim image.ends [
        | inl forward ↦ (λ i. (forward.a i == k) || (forward.b i == k))
        | inr turned ↦ (λ i. (turned.a i == k) || (turned.b i == k)) ∙ or_comm (one.b == k) (one.a == k)
      ]

  orders_same : (some others : List Bond) → InPairs (IsImage still) some others
      → bond_orders k others ≡ bond_orders k some
  orders_same = orders_alike (IsImage still) k k touched (λ n m image. image.order)

module _ (atom neighbour : ℕ) where
  abbrev turned : Bond → Bond
  turned = marked_to atom neighbour Plain

  image_bond : (bond : Bond) → IsImage still bond (turned bond)
  image_bond bond = by (can_be_marked atom neighbour bond) refl
    where
      by : (free : Bool) → can_be_marked atom neighbour bond ≡ free
          → IsImage still bond
          (cond free (record { a = atom; b = neighbour; order = bond.order; mark = Plain }) bond)
      by false e = record { order = refl; mark = refl; ends = inl (record { a = refl; b = refl }) }
      by true e =
          let parts = and_parts (joins atom neighbour bond) ((bond.order == 1) && is_plain bond.mark) e in
          let plain = plain_is bond.mark (and_parts (bond.order == 1) (is_plain bond.mark) parts.1).1 in
          record {
            order = refl;
            mark = sym plain;
            ends =
                elim (or_cases ((bond.a == atom) && (bond.b == neighbour)) ((bond.a == neighbour) && (bond.b == atom))
                parts.0) [
                  | inl it ↦
                      (let both = and_parts (bond.a == atom) (bond.b == neighbour) it in
                      inl (record {
                        a = sym (eqb-true bond.a atom both.0);
                        b = sym (eqb-true bond.b neighbour both.1);
                      }))
                  | inr it ↦
                      (let both = and_parts (bond.a == neighbour) (bond.b == atom) it in
                      inr (record {
                        may = inl plain;
                        a = sym (eqb-true bond.b atom both.1);
                        b = sym (eqb-true bond.a neighbour both.0);
                      }))
                ];
          }

  image_bonds : (bonds : List Bond) → InPairs (IsImage still) bonds (map turned bonds)
  image_bonds [] = tt
  image_bonds (bond ∷ bonds) = (image_bond bond, image_bonds bonds)

  module _ (drawing : Drawing) where
    abbrev other : Drawing
    other = marked drawing atom neighbour Plain

    hydrogens_same : (k : ℕ) → hydrogens_of drawing k ≡ hydrogens_of other k
    hydrogens_same k =
        ap (hydrogens (atom_at drawing k))
        (sym (orders_same k drawing.bonds other.bonds (image_bonds drawing.bonds)))

    pub turned_still : IsRenumbering drawing other still
    turned_still =
        let all = range_with_len 0 (length drawing.atoms) in
        record {
          len = refl;
          permutation = subst (λ vs. IsPermutation vs all) (sym (map-id all)) (IsPermutation-refl all);
          atoms = λ k lt d. refl;
          bonds = record {
            one = drawing.bonds;
            other = other.bonds;
            of_one = IsPermutation-refl drawing.bonds;
            of_other = IsPermutation-refl other.bonds;
            pairs = image_bonds drawing.bonds;
          };
          hydrogens = λ k index lt few.
              ap (λ (count : ℕ → ℕ). length drawing.atoms + sum (map count (range_with_len 0 k)) + index)
              (λ i atom. hydrogens_same atom i);
        }
