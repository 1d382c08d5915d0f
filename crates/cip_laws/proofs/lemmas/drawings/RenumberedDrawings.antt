-- A drawing with its atoms and bonds at the places of two permutations is a renumbering of it.
use Rattle.std.proofs.Common.{◌≡◌, ◌<◌, ◌+◌, ◌-◌, ℕ, zero, suc, cond, List, [], ◌∷◌, map, length, sum, get_or, refl, sym, ap, subst, ◌∙◌, lt-ltb, le-ltb, inl, arith}
use Rattle.std.specs.List.{AllByRecursion, range_with_len}
use Rattle.std.specs.List.Sorted.{IsPermutation}
use Rattle.std.proofs.lemmas.List.{get_or_default, same_lists}
use Rattle.std.proofs.lemmas.List.FromFn.{get_or-map-range_with_len, length-map-range_with_len}
use Rattle.std.proofs.lemmas.List.Sums.{sum_by-cons}
use Rattle.std.proofs.lemmas.List.Sorted.{IsPermutation-refl}
use Rattle.cip_rank.specs.Matching.{InPairs}
use Rattle.cip_mol.specs.Bonds.{IsSound}
use Rattle.cip_mol.specs.Drawing.{Drawing}
use Rattle.cip_mol.specs.Permutations.{ArePlaces}
use Rattle.cip_mol.specs.Points.{no_atom}
use Rattle.cip_mol.specs.RenumberedDrawing.{no_bond, place_of, renamed, renumbered}
use Rattle.cip_mol.specs.declared.graph.molecule.Bond.{Bond}
use Rattle.cip_mol.proofs.lemmas.Permutations.{as_many}
use Rattle.cip_mol.proofs.lemmas.Placing.{length-placed, placed_at, IsPermutation-placed}
use Rattle.cip_mol.proofs.lemmas.Renumbered.{for_renamed}
use Rattle.cip_mol.proofs.lemmas.SoundBonds.{finds_room}
use Rattle.cip_digraph.specs.graph.Hydrogens.{hydrogens_of}
use Rattle.cip_digraph.specs.graph.Renumbering.{hydrogen_number, IsImage, IsRenumbering}
use Rattle.cip_digraph.proofs.lemmas.lists.Elements.{by_recursion}
use Rattle.cip_laws.specs.VertexImages.{hydrogen_image, vertex_image, RenumberedDrawingsAreRenumberings}
use Rattle.cip_symmetry.proofs.lemmas.lists.CarriedLists.{mapped_below}

places_listed : (count : ℕ) (places : List ℕ) → ArePlaces count places
    → map (place_of places) (range_with_len 0 count) ≡ places
places_listed count places p =
    let many = as_many count places p in
    let long = length-map-range_with_len (place_of places) 0 count in
    same_lists (map (place_of places) (range_with_len 0 count)) places (omega (arith, many, long)) (λ k d lt.
    let inside : k < count = omega (arith, lt, long) in
    get_or-map-range_with_len (place_of places) 0 count k k d inside (omega arith)
    ∙ get_or_default places k k d (omega (arith, inside, many)))

module _ (drawing : Drawing) (atoms bonds : List ℕ) (p : ArePlaces (length drawing.atoms) atoms)
    (q : ArePlaces (length drawing.bonds) bonds) where
  abbrev n : ℕ
  n = length drawing.atoms

  abbrev other : Drawing
  other = renumbered atoms bonds drawing

  abbrev image : ℕ → ℕ
  image = vertex_image drawing other atoms

  abbrev h : ℕ → ℕ
  h = hydrogens_of drawing

  of_atom : (k : ℕ) → k < n → image k ≡ place_of atoms k
  of_atom k lt =
      ap (λ b. cond b (place_of atoms k) (hydrogen_image drawing other atoms (range_with_len 0 n) (k - n)))
      (lt-ltb k n lt)

  -- the hydrogens of the atoms before one are passed
  passed : (start count before index : ℕ) → before < count → index < h (start + before)
      → hydrogen_image drawing other atoms (range_with_len start count)
      (sum (map h (range_with_len start before)) + index)
      ≡ hydrogen_number other (place_of atoms (start + before)) index
  passed start zero before index lt few = absurd (omega (arith, lt))
  passed start (suc count) zero index lt few =
      let same : start + 0 ≡ start = omega arith in
      let few_here : index < h start = subst (λ atom. index < h atom) same few in
      let none : 0 + index ≡ index = omega arith in
      rw (none, lt-ltb index (h start) few_here)
      (ap (λ atom. hydrogen_number other (place_of atoms atom) index) (sym same))
  passed start (suc count) (suc before) index lt few =
      let rest = sum (map h (range_with_len (start + 1) before)) in
      let left = sum (map h (range_with_len start (suc before))) + index in
      let grown : sum (map h (range_with_len start (suc before))) ≡ h start + rest =
      sum_by-cons (λ x. x) (h start) (map h (range_with_len (start + 1) before)) in
      let next : start + 1 + before ≡ start + suc before = omega arith in
      ap (λ b. cond b (hydrogen_number other (place_of atoms start) left)
      (hydrogen_image drawing other atoms (range_with_len (start + 1) count) (left - h start)))
      (le-ltb left (h start) (omega (arith, grown)))
      ∙ ap (hydrogen_image drawing other atoms (range_with_len (start + 1) count))
      (let e : left - h start ≡ rest + index = omega (arith, grown) in e)
      ∙ passed (start + 1) count before index (omega (arith, lt)) (subst (λ atom. index < h atom) (sym next) few)
      ∙ ap (λ atom. hydrogen_number other (place_of atoms atom) index) next

  of_hydrogen : (k index : ℕ) → k < n → index < h k
      → image (hydrogen_number drawing k index) ≡ hydrogen_number other (image k) index
  of_hydrogen k index lt few =
      let v = hydrogen_number drawing k index in
      let start : 0 + k ≡ k = omega arith in
      ap (λ b. cond b (place_of atoms v) (hydrogen_image drawing other atoms (range_with_len 0 n) (v - n)))
      (le-ltb v n (omega arith))
      ∙ ap (hydrogen_image drawing other atoms (range_with_len 0 n))
      (let e : v - n ≡ sum (map h (range_with_len 0 k)) + index = omega arith in e)
      ∙ passed 0 n k index lt (subst (λ atom. index < h atom) (sym start) few)
      ∙ ap (λ atom. hydrogen_number other (place_of atoms atom) index) start
      ∙ ap (λ atom. hydrogen_number other atom index) (sym (of_atom k lt))

  pairs : (some : List Bond) → AllByRecursion (λ bond. (bond.a < n) × (bond.b < n)) some
      → InPairs (IsImage image) some (map (renamed (place_of atoms)) some)
  pairs [] all = tt
  pairs (bond ∷ some) all = (
    record {
      order = refl;
      mark = refl;
      ends = inl (record { a = sym (of_atom bond.a all.0.0); b = sym (of_atom bond.b all.0.1) });
    },
    pairs some all.1,
  )

  is_renumbering : IsSound n drawing.bonds → IsRenumbering drawing other image
  is_renumbering sound = record {
    len = length-placed atoms drawing.atoms p no_atom;
    permutation =
        subst (λ images. IsPermutation images (range_with_len 0 n))
        (sym (mapped_below image (place_of atoms) 0 n (λ k low high. of_atom k (omega (arith, high)))
        ∙ places_listed n atoms p)) p;
    atoms = λ k lt d.
        ap (λ place. get_or other.atoms place d) (of_atom k lt) ∙ placed_at atoms drawing.atoms p no_atom k d lt;
    bonds = record {
      one = drawing.bonds;
      other = map (renamed (place_of atoms)) drawing.bonds;
      of_one = IsPermutation-refl drawing.bonds;
      of_other =
          IsPermutation-placed bonds (map (renamed (place_of atoms)) drawing.bonds)
          (for_renamed drawing atoms bonds p q) no_bond;
      pairs =
          pairs drawing.bonds
          (by_recursion (λ bond. (bond.a < n) × (bond.b < n)) drawing.bonds
          (λ k d lt. let f = finds_room _ _ _ (sound.each k lt d) in (f.a, f.b)));
    };
    hydrogens = of_hydrogen;
  }

pub renumbered_drawings_are_renumberings : RenumberedDrawingsAreRenumberings
renumbered_drawings_are_renumberings drawing atoms bonds sound p q = is_renumbering drawing atoms bonds p q sound
