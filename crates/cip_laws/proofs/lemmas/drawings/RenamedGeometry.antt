-- What a drawing shows of a unit is what the renumbered one shows of its image, with the ligands in the same order.
use Rattle.std.proofs.Common.{◌≡◌, ◌⊎◌, inl, inr, ◌<◌, ℕ, List, [], ◌∷◌, map, length, get_or, refl, sym, ap, subst, ◌∙◌, Bool, true, false, not, ◌==◌, ◌&&◌, ◌||◌, nat_lt, eqb-true, eq-eqb, ltb-true, arith, if◌then◌else◌}
use Rattle.std.specs.List.{AllByRecursion, list_any, range_with_len}
use Rattle.std.specs.List.Sorted.{IsPermutation}
use Rattle.std.proofs.lemmas.List.Sorted.{IsPermutation-refl, IsPermutation-cons, IsPermutation-trans, IsPermutation-map, IsPermutation-append_left, IsPermutation-append_comm, list_any-IsPermutation}
use Rattle.cip_num.specs.declared.plane.Sign.{Sign}
use Rattle.cip_num.specs.declared.plane.Sign.TheVariants.{Zero}
use Rattle.cip_rank.specs.Matching.{InPairs}
use Rattle.cip_mol.specs.Bonds as bonds
use Rattle.cip_mol.specs.Drawing.{Drawing}
use Rattle.cip_mol.specs.DrawnLigands.{drawn}
use Rattle.cip_mol.specs.Geometry.{of_centre, of_bond, of_axis, centre_geometry, bond_geometry, axis_geometry}
use Rattle.cip_mol.specs.Marks.{is_either, mark_sign, is_narrow_at, has_either, joins, is_crossed, mark_to}
use Rattle.cip_mol.specs.Points.{no_atom, point, step, flat_step, steps, flat_steps, is_nought, is_spatial}
use Rattle.cip_mol.specs.declared.graph.molecule.Atom.{Atom}
use Rattle.cip_mol.specs.declared.graph.molecule.Bond.{Bond}
use Rattle.cip_mol.specs.declared.graph.molecule.Mark.{Mark}
use Rattle.cip_mol.specs.declared.graph.molecule.Mark.TheVariants.{Plain}
use Rattle.cip_mol.specs.declared.site.Geometry.{Geometry}
use Rattle.cip_mol.specs.declared.site.Ligand.{Ligand}
use Rattle.cip_mol.specs.declared.site.Ligand.TheVariants.{Vertex, LonePair}
use Rattle.cip_mol.proofs.lemmas.SimpleBonds.{Once}
use Rattle.cip_digraph.specs.graph.Renumbering.{IsForward, IsTurned, IsRenumbering}
use Rattle.cip_digraph.proofs.lemmas.lists.Elements.{Pairwise}
use Rattle.cip_symmetry.specs.Images.{ligand_image}
use Rattle.cip_symmetry.proofs.lemmas.lists.Arranged.{arranged}
use Rattle.cip_symmetry.proofs.lemmas.lists.CarriedLists.{mapped_twice, mapped_below}
use Rattle.cip_laws.proofs.lemmas.drawings.BondsOnce.{once_back, bonds_once}
use Rattle.cip_symmetry.proofs.lemmas.outcomes.LastReasons.{elements, pairwise_arranged}
use Rattle.cip_laws.proofs.lemmas.drawings.RenumberedAtoms.{IsImageBond, image_eq, bond_pairs}
use Rattle.cip_laws.proofs.lemmas.drawings.RenumberedBonds.{joins_image}
use Rattle.cip_laws.proofs.lemmas.graph.RenumberedGraph.{carry, drawn_same, of_atom}
use Rattle.std.proofs.lemmas.Bool.{and_parts, and_right}
use Rattle.cip_symmetry.proofs.lemmas.lists.Truths.{middle_false}

mapped_image : {Y : Type 0} (P : ℕ → Type 0) (image : ℕ → ℕ) (f g : ℕ → Y) → ((k : ℕ) → P k → f (image k) ≡ g k)
    → (ks : List ℕ) → AllByRecursion P ks → map f (map image ks) ≡ map g ks
mapped_image P image f g same [] all = refl
mapped_image P image f g same (k ∷ ks) all =
    ap (λ y. y ∷ map f (map image ks)) (same k all.0) ∙ ap (λ ys. g k ∷ ys) (mapped_image P image f g same ks all.1)

module _ (at to : ℕ) where
  abbrev leads : Bond → Bool
  leads bond = is_narrow_at at bond && (bond.b == to)

  leads_twice : (one other : Bond) → Once one other → leads one ≡ true → leads other ≡ false
  leads_twice one other once e = by (leads other) refl
    where
      narrow : (bond : Bond) → leads bond ≡ true → (bond.a ≡ at) × (bond.b ≡ to)
      narrow bond f =
          let p = and_parts ((bond.a == at) && (bond.order == 1)) (bond.b == to) f in
          (eqb-true bond.a at (and_parts (bond.a == at) (bond.order == 1) p.0).0, eqb-true bond.b to p.1)

      by : (x : Bool) → leads other ≡ x → x ≡ false
      by false f = refl
      by true f =
          let p = narrow one e in
          let q = narrow other f in
          let both : (((one.a == other.a) && (one.b == other.b)) || ((one.a == other.b) && (one.b == other.a))) ≡ true =
          rw (eq-eqb one.a other.a (p.0 ∙ sym q.0), eq-eqb one.b other.b (p.1 ∙ sym q.1)) in
          sym both ∙ once

  mark_by : (bond : Bond) (rest : List Bond) → leads bond ≡ false → mark_to at (bond ∷ rest) to ≡ mark_to at rest to
  mark_by bond rest e = ap (λ x. if x then mark_sign bond.mark else mark_to at rest to) e

  none_after : (bond : Bond) (rest : List Bond) → AllByRecursion (Once bond) rest → leads bond ≡ true
      → mark_to at rest to ≡ Zero
  none_after bond [] all e = refl
  none_after bond (next ∷ rest) all e = mark_by next rest (leads_twice bond next all.0 e) ∙ none_after bond rest all.1 e

  mark_flip : (x y : Bond) (rest : List Bond) → Once x y → (a b : Bool) → leads x ≡ a → leads y ≡ b
      → mark_to at (x ∷ y ∷ rest) to ≡ mark_to at (y ∷ x ∷ rest) to
  mark_flip x y rest once false b e f =
      mark_by x (y ∷ rest) e ∙ ap (λ s. if leads y then mark_sign y.mark else s) (sym (mark_by x rest e))
  mark_flip x y rest once true b e f =
      let none = leads_twice x y once e in
      ap (λ s. if leads x then mark_sign x.mark else s) (mark_by y rest none) ∙ sym (mark_by y (x ∷ rest) none)

  mark_arranged : (xs ys : List Bond) → IsPermutation xs ys → Pairwise Once xs → mark_to at xs to ≡ mark_to at ys to
  mark_arranged xs ys p once =
      (arranged (λ xs ys. IsPermutation xs ys × (Pairwise Once xs → mark_to at xs to ≡ mark_to at ys to))
      (λ xs. (IsPermutation-refl xs, λ q. refl))
      (λ x xs ys h. (IsPermutation-cons x xs ys h.0, λ q. ap (λ s. if leads x then mark_sign x.mark else s) (h.1 q.1)))
      (λ x y xs. (
        IsPermutation-append_left xs (x ∷ y ∷ []) (y ∷ x ∷ []) (IsPermutation-append_comm (x ∷ []) (y ∷ [])),
        λ q. mark_flip x y xs q.0.0 (leads x) (leads y) refl refl,
      ))
      (λ xs ys zs g h. (
        IsPermutation-trans xs ys zs g.0 h.0,
        λ q. g.1 q
            ∙ h.1 (pairwise_arranged Once once_back xs ys g.0 q),
      ))
      xs ys p).1 once

module _ (drawing other : Drawing) (image : ℕ → ℕ) (r : IsRenumbering drawing other image)
    (sound : bonds.IsSound (length drawing.atoms) drawing.bonds)
    (their_sound : bonds.IsSound (length other.atoms) other.bonds) where
  abbrev n : ℕ
  n = length drawing.atoms

  point_same : (k : ℕ) → k < n → point other.atoms (image k) ≡ point drawing.atoms k
  point_same k lt = ap (λ (a : Atom). a.at) (r.atoms k lt no_atom)

  order_two : (bond : Bond) → bond.order ≡ 2 → (bond.order == 1) ≡ false
  order_two bond e = ap (λ o. o == 1) e

  plain_not : (mark : Mark) → mark ≡ Plain → is_either mark ≡ false
  plain_not mark e = ap is_either e

  -- a test at the narrow end of a bond
  either_test : (k : ℕ) → k < n → (bond two : Bond) → IsImageBond image n bond two
      → (is_narrow_at (image k) two && is_either two.mark) ≡ (is_narrow_at k bond && is_either bond.mark)
  either_test k lt bond two b = by b.is.ends
    where
      by : IsForward image bond two ⊎ IsTurned image bond two
          → (is_narrow_at (image k) two && is_either two.mark) ≡ (is_narrow_at k bond && is_either bond.mark)
      by (inl f) =
          rw (f.a, image_eq drawing other image r sound bond.a k b.joins.a lt, b.is.order, b.is.mark)
      by (inr t) = elim t.may [
        | inl plain ↦
            and_right (is_narrow_at (image k) two) (is_either two.mark) (plain_not two.mark (b.is.mark ∙ plain))
            ∙ sym (and_right (is_narrow_at k bond) (is_either bond.mark) (plain_not bond.mark plain))
        | inr double ↦
            middle_false (two.a == image k) (two.order == 1) (is_either two.mark) (order_two two (b.is.order ∙ double))
            ∙ sym (middle_false (bond.a == k) (bond.order == 1) (is_either bond.mark) (order_two bond double))
      ]

  any_pairs : (test their_test : Bond → Bool)
      → ((bond two : Bond) → IsImageBond image n bond two → their_test two ≡ test bond) → (ns ms : List Bond)
      → InPairs (IsImageBond image n) ns ms → list_any their_test ms ≡ list_any test ns
  any_pairs test their_test same [] [] p = refl
  any_pairs test their_test same [] (m ∷ ms) p = absurd p
  any_pairs test their_test same (k ∷ ns) [] p = absurd p
  any_pairs test their_test same (k ∷ ns) (m ∷ ms) p =
      ap (λ b. b || list_any their_test ms) (same k m p.0)
      ∙ ap (λ b. test k || b) (any_pairs test their_test same ns ms p.1)

  any_same : (test their_test : Bond → Bool)
      → ((bond two : Bond) → IsImageBond image n bond two → their_test two ≡ test bond)
      → list_any their_test other.bonds ≡ list_any test drawing.bonds
  any_same test their_test same =
      list_any-IsPermutation their_test other.bonds r.bonds.other r.bonds.of_other
      ∙ any_pairs test their_test same r.bonds.one r.bonds.other (bond_pairs drawing other image r sound)
      ∙ sym (list_any-IsPermutation test drawing.bonds r.bonds.one r.bonds.of_one)

  either_same : (k : ℕ) → k < n → has_either (image k) other.bonds ≡ has_either k drawing.bonds
  either_same k lt =
      any_same (λ bond. is_narrow_at k bond && is_either bond.mark)
      (λ bond. is_narrow_at (image k) bond && is_either bond.mark) (either_test k lt)

  pub crossed_same : (a b : ℕ) → a < n → b < n → is_crossed (image a) (image b) other.bonds ≡ is_crossed a b drawing.bonds
  crossed_same a b lt_a lt_b =
      any_same (λ bond. joins a b bond && is_either bond.mark)
      (λ bond. joins (image a) (image b) bond && is_either bond.mark)
      (λ bond two i. rw (joins_image drawing other image r sound a b lt_a lt_b bond two i, i.is.mark))

  -- marks
  once : Pairwise Once drawing.bonds
  once = bonds_once drawing sound

  their_once : Pairwise Once other.bonds
  their_once = bonds_once other their_sound

  abbrev mark_if : Bool → Mark → Sign → Sign
  mark_if b mark rest = if b then mark_sign mark else rest

  marks_pairs : (k j : ℕ) → k < n → j < n → (ns ms : List Bond) → InPairs (IsImageBond image n) ns ms
      → Pairwise Once ns → Pairwise Once ms → mark_to (image k) ms (image j) ≡ mark_to k ns j
  marks_pairs k j lt_k lt_j [] [] p one two = refl
  marks_pairs k j lt_k lt_j [] (m ∷ ms) p one two = absurd p
  marks_pairs k j lt_k lt_j (b ∷ ns) [] p one two = absurd p
  marks_pairs k j lt_k lt_j (b ∷ ns) (m ∷ ms) p one two =
      by p.0.is.ends (marks_pairs k j lt_k lt_j ns ms p.1 one.1 two.1)
    where
      plain : m.mark ≡ Plain → b.mark ≡ Plain → mark_to (image k) ms (image j) ≡ mark_to k ns j → (x y : Bool)
          → leads (image k) (image j) m ≡ x → leads k j b ≡ y
          → mark_if x m.mark (mark_to (image k) ms (image j)) ≡ mark_if y b.mark (mark_to k ns j)
      plain e f rest true true g h = ap mark_sign (e ∙ sym f)
      plain e f rest true false g h = ap mark_sign e ∙ sym (none_after (image k) (image j) m ms two.0 g) ∙ rest
      plain e f rest false true g h = rest ∙ none_after k j b ns one.0 h ∙ sym (ap mark_sign f)
      plain e f rest false false g h = rest

      by : IsForward image b m ⊎ IsTurned image b m → mark_to (image k) ms (image j) ≡ mark_to k ns j
          → mark_to (image k) (m ∷ ms) (image j) ≡ mark_to k (b ∷ ns) j
      by (inl f) rest =
          rw (
            f.a,
            f.b,
            image_eq drawing other image r sound b.a k p.0.joins.a lt_k,
            image_eq drawing other image r sound b.b j p.0.joins.b lt_j,
            p.0.is.order,
            p.0.is.mark,
            rest,
          )
      by (inr t) rest = elim t.may [
        | inl e ↦ plain (p.0.is.mark ∙ e) e rest (leads (image k) (image j) m) (leads k j b) refl refl
        | inr e ↦
            mark_by (image k) (image j) m ms
            (middle_false (m.a == image k) (m.order == 1) (m.b == image j) (order_two m (p.0.is.order ∙ e))) ∙ rest
            ∙ sym (mark_by k j b ns (middle_false (b.a == k) (b.order == 1) (b.b == j) (order_two b e)))
      ]

  mark_same : (k j : ℕ) → k < n → j < n → mark_to (image k) other.bonds (image j) ≡ mark_to k drawing.bonds j
  mark_same k j lt_k lt_j =
      mark_arranged (image k) (image j) other.bonds r.bonds.other r.bonds.of_other their_once
      ∙ marks_pairs k j lt_k lt_j r.bonds.one r.bonds.other (bond_pairs drawing other image r sound)
      (pairwise_arranged Once once_back drawing.bonds r.bonds.one r.bonds.of_one once)
      (pairwise_arranged Once once_back other.bonds r.bonds.other r.bonds.of_other their_once)
      ∙ sym (mark_arranged k j drawing.bonds r.bonds.one r.bonds.of_one once)

  -- the atoms are the same ones in another order
  atoms_arranged : IsPermutation drawing.atoms other.atoms
  atoms_arranged =
      let here = λ (k : ℕ). get_or drawing.atoms k no_atom in
      let there = λ (k : ℕ). get_or other.atoms k no_atom in
      let range = range_with_len 0 n in
      let ours : map here range ≡ drawing.atoms = elements no_atom [] drawing.atoms 0 refl in
      let theirs : map there range ≡ other.atoms =
      ap (λ m. map there (range_with_len 0 m)) (sym r.len) ∙ elements no_atom [] other.atoms 0 refl in
      let same : map there (map image range) ≡ drawing.atoms =
      mapped_twice image there range
      ∙ mapped_below (λ k. there (image k)) here 0 n
      (λ v le lt. r.atoms v (omega (arith, lt)) no_atom) ∙ ours in
      subst (λ xs. IsPermutation xs other.atoms) same
      (subst (IsPermutation (map there (map image range))) theirs
      (IsPermutation-map there (map image range) range r.permutation))

  spatial_same : is_spatial other.atoms ≡ is_spatial drawing.atoms
  spatial_same =
      sym (list_any-IsPermutation (λ (a : Atom). not (is_nought a.at.z)) drawing.atoms other.atoms atoms_arranged)

  abbrev Below : List ℕ → Type 0
  Below ks = AllByRecursion (λ k. k < n) ks

  step_same : (a b : ℕ) → a < n → b < n
      → step (point other.atoms (image a)) (point other.atoms (image b))
      ≡ step (point drawing.atoms a) (point drawing.atoms b)
  step_same a b lt_a lt_b = rw (point_same a lt_a, point_same b lt_b)

  steps_same : (at : ℕ) → at < n → (ks : List ℕ) → Below ks
      → steps other.atoms (image at) (map image ks) ≡ steps drawing.atoms at ks
  steps_same at lt ks all =
      mapped_image (λ k. k < n) image (λ k. step (point other.atoms (image at)) (point other.atoms k))
      (λ k. step (point drawing.atoms at) (point drawing.atoms k)) (λ k low. step_same at k lt low) ks all

  flat_same : (at : ℕ) → at < n → (ks : List ℕ) → Below ks
      → flat_steps other.atoms (image at) (map image ks) ≡ flat_steps drawing.atoms at ks
  flat_same at lt ks all =
      mapped_image (λ k. k < n) image (λ k. flat_step (point other.atoms (image at)) (point other.atoms k))
      (λ k. flat_step (point drawing.atoms at) (point drawing.atoms k))
      (λ k low. rw (point_same at lt, point_same k low)) ks all

  points_same : (ks : List ℕ) → Below ks → map (point other.atoms) (map image ks) ≡ map (point drawing.atoms) ks
  points_same = mapped_image (λ k. k < n) image (point other.atoms) (point drawing.atoms) point_same

  marks_same : (at : ℕ) → at < n → (ks : List ℕ) → Below ks
      → map (mark_to (image at) other.bonds) (map image ks) ≡ map (mark_to at drawing.bonds) ks
  marks_same at lt =
      mapped_image (λ k. k < n) image (mark_to (image at) other.bonds) (mark_to at drawing.bonds)
      (λ k low. mark_same at k lt low)

  centre_same : (at : ℕ) → at < n → (ks : List ℕ) → Below ks
      → of_centre other.atoms other.bonds (image at) (map image ks) ≡ of_centre drawing.atoms drawing.bonds at ks
  centre_same at lt ks all =
      rw (
        points_same ks all,
        flat_same at lt ks all,
        marks_same at lt ks all,
        either_same at lt,
        spatial_same,
        point_same at lt,
      )

  bond_same : (a b : ℕ) → a < n → b < n → (ks ls : List ℕ) → Below ks → Below ls
      → of_bond other.atoms other.bonds (image a) (image b) (map image ks) (map image ls)
      ≡ of_bond drawing.atoms drawing.bonds a b ks ls
  bond_same a b lt_a lt_b ks ls all_k all_l =
      rw (
        steps_same a lt_a ks all_k,
        steps_same b lt_b ls all_l,
        either_same a lt_a,
        either_same b lt_b,
        crossed_same a b lt_a lt_b,
        point_same a lt_a,
        point_same b lt_b,
      )

  axis_same : (a b : ℕ) → a < n → b < n → (ks ls : List ℕ) → Below ks → Below ls
      → of_axis other.atoms other.bonds (image a) (image b) (map image ks) (map image ls)
      ≡ of_axis drawing.atoms drawing.bonds a b ks ls
  axis_same a b lt_a lt_b ks ls all_k all_l =
      rw (
        steps_same a lt_a ks all_k,
        steps_same b lt_b ls all_l,
        marks_same a lt_a ks all_k,
        marks_same b lt_b ls all_l,
        either_same a lt_a,
        either_same b lt_b,
        spatial_same,
        point_same a lt_a,
        point_same b lt_b,
      )

  -- drawn ligands
  abbrev c : ℕ → ℕ
  c = carry drawing image

  drawn_image : (ls : List Ligand)
      → (drawn (length other.atoms) (map (ligand_image c) ls) ≡ map image (drawn n ls)) × Below (drawn n ls)
  drawn_image [] = (refl, tt)
  drawn_image (LonePair ∷ ls) = drawn_image ls
  drawn_image (Vertex v ∷ ls) = by (nat_lt v n) refl (drawn_image ls)
    where
      by : (b : Bool) → nat_lt v n ≡ b
          → (drawn (length other.atoms) (map (ligand_image c) ls) ≡ map image (drawn n ls)) × Below (drawn n ls)
          → (drawn (length other.atoms) (Vertex (c v) ∷ map (ligand_image c) ls) ≡ map image (drawn n (Vertex v ∷ ls)))
          × Below (drawn n (Vertex v ∷ ls))
      by true e rest =
          let f = drawn_same drawing other image r sound v ∙ e in
          let lt = ltb-true v n e in
          (rw (f, e, of_atom drawing other image r sound v lt) (ap (λ vs. image v ∷ vs) rest.0), rw e (lt, rest.1))
      by false e rest = let f = drawn_same drawing other image r sound v ∙ e in (rw (f, e) rest.0, rw e rest.1)

  pub centre_renamed : (at : ℕ) → at < n → (ls : List Ligand)
      → centre_geometry other (c at) (map (ligand_image c) ls) ≡ centre_geometry drawing at ls
  centre_renamed at lt ls =
      let d = drawn_image ls in
      ap (λ v. of_centre other.atoms other.bonds v (drawn (length other.atoms) (map (ligand_image c) ls)))
      (of_atom drawing other image r sound at lt)
      ∙ ap (of_centre other.atoms other.bonds (image at)) d.0 ∙ centre_same at lt (drawn n ls) d.1

  -- of two ends
  two_renamed : (of : ℕ → ℕ → List ℕ → List ℕ → Geometry) (a b : ℕ) → a < n → b < n → (ks ls : List Ligand)
      → of (c a) (c b) (drawn (length other.atoms) (map (ligand_image c) ks))
      (drawn (length other.atoms) (map (ligand_image c) ls))
      ≡ of (image a) (image b) (map image (drawn n ks)) (map image (drawn n ls))
  two_renamed of a b lt_a lt_b ks ls =
      rw (
        of_atom drawing other image r sound a lt_a,
        of_atom drawing other image r sound b lt_b,
        (drawn_image ks).0,
        (drawn_image ls).0,
      )

  pub bond_renamed : (a b : ℕ) → a < n → b < n → (ks ls : List Ligand)
      → bond_geometry other (c a) (c b) (map (ligand_image c) ks) (map (ligand_image c) ls)
      ≡ bond_geometry drawing a b ks ls
  bond_renamed a b lt_a lt_b ks ls =
      two_renamed (of_bond other.atoms other.bonds) a b lt_a lt_b ks ls
      ∙ bond_same a b lt_a lt_b (drawn n ks) (drawn n ls) (drawn_image ks).1 (drawn_image ls).1

  pub axis_renamed : (a b : ℕ) → a < n → b < n → (ks ls : List Ligand)
      → axis_geometry other (c a) (c b) (map (ligand_image c) ks) (map (ligand_image c) ls)
      ≡ axis_geometry drawing a b ks ls
  axis_renamed a b lt_a lt_b ks ls =
      two_renamed (of_axis other.atoms other.bonds) a b lt_a lt_b ks ls
      ∙ axis_same a b lt_a lt_b (drawn n ks) (drawn n ls) (drawn_image ks).1 (drawn_image ls).1
