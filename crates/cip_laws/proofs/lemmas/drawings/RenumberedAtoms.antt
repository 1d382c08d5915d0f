-- A renumbered drawing: its atoms have the same hydrogens and lone pairs, and its bonds are counted alike.
use Rattle.std.proofs.Common.{◌≡◌, ◌≢◌, ◌⊎◌, inl, inr, ◌<◌, ◌+◌, ℕ, zero, suc, List, [], ◌∷◌, map, length, filter, count_by, refl, sym, ap, ◌∙◌, Bool, true, false, not, cond, ◌==◌, ◌&&◌, ◌||◌, nat_le, eqb-true, eq-eqb, arith}
use Rattle.std.specs.List.{AllByRecursion, range_with_len}
use Rattle.std.specs.List.Sorted.{IsPermutation}
use Rattle.std.proofs.lemmas.Bool.{eqb-false, ne_eqb}
use Rattle.std.proofs.lemmas.List.Sums.{sum_by-cons}
use Rattle.std.proofs.lemmas.List.Sorted.{IsPermutation-sym, IsPermutation-map, sum_by-IsPermutation}
use Rattle.cip_rank.specs.Matching.{InPairs}
use Rattle.cip_mol.specs.Bonds.{touches, degree}
use Rattle.cip_mol.specs.Bonds as bonds
use Rattle.cip_mol.specs.Drawing.{Drawing}
use Rattle.cip_mol.specs.Points.{no_atom}
use Rattle.cip_mol.specs.declared.graph.molecule.Bond.{Bond}
use Rattle.cip_mol.proofs.lemmas.SimpleBonds.{IsJoin, simple_from_sound}
use Rattle.cip_digraph.specs.graph.Hydrogens.{atom_at, bond_orders, hydrogens_of}
use Rattle.cip_digraph.specs.graph.LonePairs.{lone_pair_of}
use Rattle.cip_digraph.specs.graph.Neglected.{neglects_at, is_counted}
use Rattle.cip_digraph.specs.graph.Renumbering.{IsForward, IsTurned, IsImage, IsRenumbering}
use Rattle.cip_digraph.proofs.lemmas.lists.Elements.{Pairwise, by_recursion, all_arranged}
use Rattle.cip_symmetry.specs.Images.{Among}
use Rattle.cip_symmetry.proofs.lemmas.lists.Among.{among_map, from_map, among_arranged, among_range, from_range, among_all}
use Rattle.cip_symmetry.proofs.lemmas.lists.Arranged.{filter_arranged}
use Rattle.cip_symmetry.proofs.lemmas.outcomes.LastReasons.{pairwise_arranged}
use Rattle.std.proofs.Math.Bool.{or_comm}

-- a bond of a drawing and its image
pub record IsImageBond (image : ℕ → ℕ) (atoms : ℕ) (bond other : Bond) : Type 0 where
  pub is : IsImage image bond other
  pub joins : IsJoin atoms bond

pub range_apart : (start count : ℕ) → Pairwise ◌≢◌ (range_with_len start count)
range_apart start zero = tt
range_apart start (suc count) = (above start (start + 1) count (omega arith), range_apart (start + 1) count)
  where
    above : (v start count : ℕ) → v < start → AllByRecursion (λ w. v ≢ w) (range_with_len start count)
    above v start zero lt = tt
    above v start (suc count) lt = (λ e. absurd (omega (arith, e, lt)), above v (start + 1) count (omega (arith, lt)))

-- elements with different images are the same where their images are
pub one_of : {X : Type 0} (f : X → ℕ) (xs : List X) → Pairwise ◌≢◌ (map f xs) → (x y : X) → Among x xs → Among y xs
    → f x ≡ f y → x ≡ y
one_of f [] differ x y h k e = absurd h
one_of f (z ∷ zs) differ x y (inl p) (inl q) e = p ∙ sym q
one_of f (z ∷ zs) differ x y (inl p) (inr k) e =
    absurd (among_all (λ v. f z ≢ v) (f y) (map f zs) differ.0 (among_map f y zs k) (sym (ap f p) ∙ e))
one_of f (z ∷ zs) differ x y (inr h) (inl q) e =
    absurd (among_all (λ v. f z ≢ v) (f x) (map f zs) differ.0 (among_map f x zs h) (sym (ap f q) ∙ sym e))
one_of f (z ∷ zs) differ x y (inr h) (inr k) e = one_of f zs differ.1 x y h k e

pub pairs_all : {N : Type 0} (Q T : N → N → Type 0) (P : N → Type 0) → ((n m : N) → Q n m → P n → T n m)
    → (ns ms : List N) → AllByRecursion P ns → InPairs Q ns ms → InPairs T ns ms
pairs_all Q T P f [] [] all h = tt
pairs_all Q T P f [] (m ∷ ms) all h = h
pairs_all Q T P f (n ∷ ns) [] all h = h
pairs_all Q T P f (n ∷ ns) (m ∷ ms) all h = (f n m h.0 all.0, pairs_all Q T P f ns ms all.1 h.1)

-- bonds in pairs that touch alike and have the same orders
pub orders_alike : (R : Bond → Bond → Type 0) (k j : ℕ) → ((n m : Bond) → R n m → touches j m ≡ touches k n)
    → ((n m : Bond) → R n m → m.order ≡ n.order) → (ns ms : List Bond) → InPairs R ns ms
    → bond_orders j ms ≡ bond_orders k ns
orders_alike R k j touch order [] [] h = refl
orders_alike R k j touch order [] (m ∷ ms) h = absurd h
orders_alike R k j touch order (n ∷ ns) [] h = absurd h
orders_alike R k j touch order (n ∷ ns) (m ∷ ms) h =
    by (touches k n) refl (orders_alike R k j touch order ns ms h.1)
  where
    by : (t : Bool) → touches k n ≡ t → bond_orders j ms ≡ bond_orders k ns
        → bond_orders j (m ∷ ms) ≡ bond_orders k (n ∷ ns)
    by true e rest =
        let f = touch n m h.0 ∙ e in
        rw (f, e)
        (sum_by-cons (λ o. o) m.order (map (λ (b : Bond). b.order) (filter (touches j) ms))
        ∙ ap (λ o. o + bond_orders j ms) (order n m h.0) ∙ ap (λ s. n.order + s) rest
        ∙ sym (sum_by-cons (λ o. o) n.order (map (λ (b : Bond). b.order) (filter (touches k) ns))))
    by false e rest = let f = touch n m h.0 ∙ e in rw (f, e) rest

module _ (drawing other : Drawing) (image : ℕ → ℕ) (r : IsRenumbering drawing other image)
    (sound : bonds.IsSound (length drawing.atoms) drawing.bonds) where
  abbrev pub atoms : ℕ
  atoms = length drawing.atoms

  abbrev range : List ℕ
  range = range_with_len 0 atoms

  pub image_below : (k : ℕ) → k < atoms → image k < atoms
  image_below k lt =
      let h =
      among_arranged (image k) (map image range) range r.permutation
      (among_map image k range (among_range 0 atoms k (omega arith) (omega (arith, lt)))) in
      let e = (from_range 0 atoms (image k) h).1 in
      omega (arith, e)

  pub image_onto : (m : ℕ) → m < atoms → (k : ℕ) × (k < atoms) × (m ≡ image k)
  image_onto m lt =
      let h =
      among_arranged m range (map image range) (IsPermutation-sym (map image range) range r.permutation)
      (among_range 0 atoms m (omega arith) (omega (arith, lt))) in
      let found = from_map image m range h in
      let e = (from_range 0 atoms found.0 found.1).1 in
      (found.0, omega (arith, e), found.2)

  pub image_injective : (j k : ℕ) → j < atoms → k < atoms → image j ≡ image k → j ≡ k
  image_injective j k lt_j lt_k e =
      one_of image range
      (pairwise_arranged ◌≢◌ (λ a b differ e. differ (sym e)) range (map image range)
      (IsPermutation-sym (map image range) range r.permutation) (range_apart 0 atoms)) j k
      (among_range 0 atoms j (omega arith) (omega (arith, lt_j)))
      (among_range 0 atoms k (omega arith) (omega (arith, lt_k))) e

  pub image_eq : (j k : ℕ) → j < atoms → k < atoms → (image j == image k) ≡ (j == k)
  image_eq j k lt_j lt_k = by (j == k) refl
    where
      by : (b : Bool) → (j == k) ≡ b → (image j == image k) ≡ b
      by true e = eq-eqb (image j) (image k) (ap image (eqb-true j k e))
      by false e = ne_eqb (image j) (image k) (λ same. eqb-false j k e (image_injective j k lt_j lt_k same))

  pub bonds_join : AllByRecursion (IsJoin atoms) drawing.bonds
  bonds_join =
      by_recursion (IsJoin atoms) drawing.bonds (simple_from_sound atoms drawing.bonds sound).joins

  -- the bonds in pairs
  abbrev pub ones : List Bond
  ones = r.bonds.one

  abbrev pub twos : List Bond
  twos = r.bonds.other

  pub bond_pairs : InPairs (IsImageBond image atoms) r.bonds.one r.bonds.other
  bond_pairs =
      pairs_all (IsImage image) (IsImageBond image atoms) (IsJoin atoms)
      (λ b c is joins. record { is = is; joins = joins }) r.bonds.one r.bonds.other
      (all_arranged (IsJoin atoms) drawing.bonds r.bonds.one r.bonds.of_one bonds_join) r.bonds.pairs

  pub touches_carried : (k : ℕ) → k < atoms → (bond two : Bond) → IsImageBond image atoms bond two
      → touches (image k) two ≡ touches k bond
  touches_carried k lt bond two b = by b.is.ends
    where
      by : IsForward image bond two ⊎ IsTurned image bond two → touches (image k) two ≡ touches k bond
      by (inl f) = rw (f.a, f.b, image_eq bond.a k b.joins.a lt, image_eq bond.b k b.joins.b lt)
      by (inr t) =
          rw (t.a, t.b, image_eq bond.b k b.joins.b lt, image_eq bond.a k b.joins.a lt)
          (or_comm (bond.b == k) (bond.a == k))

  abbrev weight : ℕ → Bond → ℕ
  weight k bond = cond (touches k bond) bond.order 0

  count_pairs : (k : ℕ) → k < atoms → (ns ms : List Bond) → InPairs (IsImageBond image atoms) ns ms
      → count_by (touches (image k)) ms ≡ count_by (touches k) ns
  count_pairs k lt [] [] h = refl
  count_pairs k lt [] (m ∷ ms) h = absurd h
  count_pairs k lt (n ∷ ns) [] h = absurd h
  count_pairs k lt (n ∷ ns) (m ∷ ms) h =
      sum_by-cons (λ b. cond (touches (image k) b) 1 0) m ms
      ∙ ap (λ t. cond t 1 0 + count_by (touches (image k)) ms) (touches_carried k lt n m h.0)
      ∙ ap (λ c. cond (touches k n) 1 0 + c) (count_pairs k lt ns ms h.1)
      ∙ sym (sum_by-cons (λ b. cond (touches k b) 1 0) n ns)

  pub degree_same : (k : ℕ) → k < atoms → degree (image k) other.bonds ≡ degree k drawing.bonds
  degree_same k lt =
      sym (sum_by-IsPermutation (λ b. cond (touches (image k) b) 1 0) other.bonds r.bonds.other r.bonds.of_other)
      ∙ count_pairs k lt r.bonds.one r.bonds.other bond_pairs
      ∙ sum_by-IsPermutation (λ b. cond (touches k b) 1 0) drawing.bonds r.bonds.one r.bonds.of_one

  orders_pairs : (k : ℕ) → k < atoms → (ns ms : List Bond) → InPairs (IsImageBond image atoms) ns ms
      → bond_orders (image k) ms ≡ bond_orders k ns
  orders_pairs k lt =
      orders_alike (IsImageBond image atoms) k (image k) (λ n m b. touches_carried k lt n m b) (λ n m b. b.is.order)

  orders_arranged : (k : ℕ) (ns ms : List Bond) → IsPermutation ns ms → bond_orders k ms ≡ bond_orders k ns
  orders_arranged k ns ms p =
      sum_by-IsPermutation (λ o. o) (map (λ (b : Bond). b.order) (filter (touches k) ns))
      (map (λ (b : Bond). b.order) (filter (touches k) ms))
      (IsPermutation-map (λ (b : Bond). b.order) (filter (touches k) ns) (filter (touches k) ms)
      (filter_arranged (touches k) ns ms p))

  orders_same : (k : ℕ) → k < atoms → bond_orders (image k) other.bonds ≡ bond_orders k drawing.bonds
  orders_same k lt =
      sym (orders_arranged (image k) other.bonds r.bonds.other r.bonds.of_other)
      ∙ orders_pairs k lt r.bonds.one r.bonds.other bond_pairs
      ∙ orders_arranged k drawing.bonds r.bonds.one r.bonds.of_one

  pub atom_same : (k : ℕ) → k < atoms → atom_at other (image k) ≡ atom_at drawing k
  atom_same k lt = r.atoms k lt no_atom

  pub hydrogens_same : (k : ℕ) → k < atoms → hydrogens_of other (image k) ≡ hydrogens_of drawing k
  hydrogens_same k lt = rw (atom_same k lt, orders_same k lt)

  pub lone_same : (k : ℕ) → k < atoms → lone_pair_of other (image k) ≡ lone_pair_of drawing k
  lone_same k lt = rw (hydrogens_same k lt, atom_same k lt, orders_same k lt)

  neglects_same : (k : ℕ) → k < atoms → neglects_at other (image k) ≡ neglects_at drawing k
  neglects_same k lt =
      rw (lone_same k lt, hydrogens_same k lt, degree_same k lt, atom_same k lt)

  pub counted_same : (bond two : Bond) → IsImageBond image atoms bond two
      → is_counted other two ≡ is_counted drawing bond
  counted_same bond two b =
      ap (λ o. nat_le 2 o && not (neglects_at other two.a || neglects_at other two.b)) b.is.order
      ∙ ap (λ x. nat_le 2 bond.order && not x) (by b.is.ends)
    where
      by : IsForward image bond two ⊎ IsTurned image bond two
          → (neglects_at other two.a || neglects_at other two.b)
          ≡ (neglects_at drawing bond.a || neglects_at drawing bond.b)
      by (inl f) = rw (f.a, f.b, neglects_same bond.a b.joins.a, neglects_same bond.b b.joins.b)
      by (inr t) =
          rw (t.a, t.b, neglects_same bond.b b.joins.b, neglects_same bond.a b.joins.a)
          (or_comm (neglects_at drawing bond.b) (neglects_at drawing bond.a))
