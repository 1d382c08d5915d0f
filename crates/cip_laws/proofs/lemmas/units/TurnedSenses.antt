-- The sense of ligands in whichever order, with the ligands that aren't drawn last: each exchange of two neighbours
-- turns it.
use Rattle.std.proofs.Common.{◌≡◌, ◌<◌, ◌≤◌, ◌+◌, ℕ, zero, suc, List, [], ◌∷◌, length, get_or, set, swap, refl, sym, ap, subst, ◌∙◌, Bool, true, false, not, cond, nat_lt, arith, if◌then◌else◌}
use Rattle.std.specs.Prelude.{None, Some}
use Rattle.std.specs.List.{AllByRecursion, cons_option}
use Rattle.cip_mol.specs.declared.site.Geometry.{Geometry}
use Rattle.cip_mol.specs.declared.site.Ligand.{Ligand}
use Rattle.cip_mol.specs.declared.site.Ligand.TheVariants.{Vertex, LonePair}
use Rattle.cip_mol.specs.DrawnLigands.{drawn}
use Rattle.cip_mol.specs.Senses.{other_way}
use Rattle.cip_laws.proofs.lemmas.senses.ExchangedLigands.{other_way_back}
use Rattle.cip_digraph.specs.units.Descriptors.{is_odd}
use Rattle.cip_symmetry.proofs.lemmas.lists.Exchanges.{exchange_long, exchanges_long}
use Rattle.cip_symmetry.specs.Exchanged.{exchange, exchanges, IsExchanged}

abbrev pub flip : Bool → Geometry → Geometry
flip true g = other_way g
flip false g = g

flip_not : (b : Bool) (g : Geometry) → flip (not b) g ≡ other_way (flip b g)
flip_not true g = sym (other_way_back g)
flip_not false g = refl

-- an exchange of neighbours is the swap of two places
pub as_swap : {X : Type 0} (i : ℕ) (xs : List X) → i + 1 < length xs → exchange i xs ≡ swap xs i (i + 1)
as_swap i [] lt = absurd (omega (arith, lt))
as_swap {X} i (x ∷ xs) lt = in_place i (x ∷ xs) x lt
  where
    in_place : (i : ℕ) (ys : List X) (d : X) → i + 1 < length ys
        → exchange i ys ≡ set (set ys i (get_or ys (i + 1) d)) (i + 1) (get_or ys i d)
    in_place i [] d lt = absurd (omega (arith, lt))
    in_place zero (y ∷ []) d lt = absurd (omega (arith, lt))
    in_place zero (y ∷ z ∷ ys) d lt = refl
    in_place (suc i) (y ∷ ys) d lt =
        let next : suc i + 1 ≡ suc (i + 1) = omega arith in
        ap (λ zs. y ∷ zs) (in_place i ys d (omega (arith, lt)))
        ∙ ap (λ j. set (set (y ∷ ys) (suc i) (get_or (y ∷ ys) j d)) j (get_or (y ∷ ys) (suc i) d)) (sym next)

module _ (atoms : ℕ) where
  abbrev pub is_drawn : Ligand → Bool
  is_drawn (Vertex vertex) = nat_lt vertex atoms
  is_drawn LonePair = false

  abbrev pub undrawn : List Ligand → ℕ
  undrawn [] = 0
  undrawn (l ∷ ls) = cond (is_drawn l) 0 1 + undrawn ls

  -- how many drawn ligands follow one that isn't
  abbrev pub behind : List Ligand → ℕ
  behind [] = 0
  behind (l ∷ ls) = cond (is_drawn l) 0 (length (drawn atoms ls)) + behind ls

  drawn_first : (l : Ligand) → is_drawn l ≡ true
      → (v : ℕ) × ((ls : List Ligand) → drawn atoms (l ∷ ls) ≡ v ∷ drawn atoms ls)
  drawn_first (Vertex v) e = (v, λ ls. ap (λ b. cons_option (if b then Some v else None) (drawn atoms ls)) e)
  drawn_first LonePair e = let bad : false ≡ true = e in cc

  left_out : (l : Ligand) → is_drawn l ≡ false → (ls : List Ligand) → drawn atoms (l ∷ ls) ≡ drawn atoms ls
  left_out (Vertex v) e ls = ap (λ b. cons_option (if b then Some v else None) (drawn atoms ls)) e
  left_out LonePair e ls = refl

  -- what an exchange of two neighbours does
  data Exchanged (ls ms : List Ligand) : Type 0 where
    Past : drawn atoms ms ≡ drawn atoms ls → is_odd (behind ms) ≡ not (is_odd (behind ls)) → Exchanged ls ms
    Moved : (i : ℕ) → i + 1 < length (drawn atoms ls) → drawn atoms ms ≡ exchange i (drawn atoms ls)
        → behind ms ≡ behind ls → Exchanged ls ms

  odd_more : (n : ℕ) → is_odd (n + 1) ≡ not (is_odd n)
  odd_more n = ap is_odd (let e : n + 1 ≡ suc n = omega arith in e)

  odd_sum : (a m n : ℕ) → is_odd m ≡ not (is_odd n) → is_odd (a + m) ≡ not (is_odd (a + n))
  odd_sum zero m n e =
      ap is_odd (let f : 0 + m ≡ m = omega arith in f) ∙ e
      ∙ ap (λ k. not (is_odd k)) (let f : n ≡ 0 + n = omega arith in f)
  odd_sum (suc a) m n e =
      ap is_odd (let f : suc a + m ≡ suc (a + m) = omega arith in f) ∙ ap not (odd_sum a m n e)
      ∙ ap (λ k. not (is_odd k)) (let f : suc (a + n) ≡ suc a + n = omega arith in f)

  not_back : (a b : Bool) → a ≡ not b → b ≡ not a
  not_back true true e = e
  not_back true false e = refl
  not_back false true e = refl
  not_back false false e = e

  -- two of which the second isn't drawn
  one_undrawn : (x y : Ligand) (ls : List Ligand) → is_drawn x ≡ true → is_drawn y ≡ false
      → (drawn atoms (y ∷ x ∷ ls) ≡ drawn atoms (x ∷ y ∷ ls))
      × (is_odd (behind (y ∷ x ∷ ls)) ≡ not (is_odd (behind (x ∷ y ∷ ls))))
  one_undrawn x y ls e f =
      let one = drawn_first x e in
      let long : length (drawn atoms (x ∷ ls)) ≡ suc (length (drawn atoms ls)) = ap length (one.1 ls) in
      let here : behind (x ∷ y ∷ ls) ≡ length (drawn atoms ls) + behind ls = rw (e, f) (omega arith) in
      let there : behind (y ∷ x ∷ ls) ≡ length (drawn atoms ls) + behind ls + 1 = rw (e, f) (omega (arith, long)) in (
        left_out y f (x ∷ ls) ∙ one.1 ls ∙ sym (one.1 (y ∷ ls) ∙ ap (λ vs. one.0 ∷ vs) (left_out y f ls)),
        ap is_odd there ∙ odd_more (length (drawn atoms ls) + behind ls) ∙ ap (λ k. not (is_odd k)) (sym here),
      )

  -- two at the front, by whether each is drawn
  fronts : (x y : Ligand) (ls : List Ligand) → undrawn (x ∷ y ∷ ls) ≤ 1 → (a b : Bool) → is_drawn x ≡ a
      → is_drawn y ≡ b → Exchanged (x ∷ y ∷ ls) (y ∷ x ∷ ls)
  fronts x y ls few true true e f =
      let one = drawn_first x e in
      let two = drawn_first y f in
      let here : drawn atoms (x ∷ y ∷ ls) ≡ one.0 ∷ two.0 ∷ drawn atoms ls =
      one.1 (y ∷ ls) ∙ ap (λ vs. one.0 ∷ vs) (two.1 ls) in
      let long : length (drawn atoms (x ∷ y ∷ ls)) ≡ suc (suc (length (drawn atoms ls))) = ap length here in
      Moved 0 (omega (arith, long))
      (two.1 (x ∷ ls) ∙ ap (λ vs. two.0 ∷ vs) (one.1 ls) ∙ sym (ap (exchange 0) here)) (rw (e, f))
  fronts x y ls few true false e f = let h = one_undrawn x y ls e f in Past h.0 h.1
  fronts x y ls few false true e f =
      let h = one_undrawn y x ls f e in
      Past (sym h.0) (not_back (is_odd (behind (x ∷ y ∷ ls))) (is_odd (behind (y ∷ x ∷ ls))) h.1)
  fronts x y ls few false false e f =
      absurd
      (let one : cond (is_drawn x) 0 1 ≡ 1 = ap {A = Bool} {B = ℕ} (λ b. cond b 0 1) e in
      let two : cond (is_drawn y) 0 1 ≡ 1 = ap {A = Bool} {B = ℕ} (λ b. cond b 0 1) f in
      omega (arith, few, one, two))

  under_front : (l : Ligand) (ls ms : List Ligand) → Exchanged ls ms
      → length (drawn atoms ms) ≡ length (drawn atoms ls) → (a : Bool) → is_drawn l ≡ a → Exchanged (l ∷ ls) (l ∷ ms)
  under_front l ls ms x long a e = by x
    where
      is_sum : (ks : List Ligand) → behind (l ∷ ks) ≡ cond a 0 (length (drawn atoms ks)) + behind ks
      is_sum ks = ap (λ b. cond b 0 (length (drawn atoms ks)) + behind ks) e

      same_front : (l : Ligand) → drawn atoms ms ≡ drawn atoms ls → drawn atoms (l ∷ ms) ≡ drawn atoms (l ∷ ls)
      same_front (Vertex v) same = ap (cons_option (if nat_lt v atoms then Some v else None)) same
      same_front LonePair same = same

      moved : (a : Bool) → is_drawn l ≡ a → (i : ℕ) → i + 1 < length (drawn atoms ls)
          → drawn atoms ms ≡ exchange i (drawn atoms ls) → behind (l ∷ ms) ≡ behind (l ∷ ls)
          → Exchanged (l ∷ ls) (l ∷ ms)
      moved true g i lt same none =
          let one = drawn_first l g in
          let long : length (drawn atoms (l ∷ ls)) ≡ suc (length (drawn atoms ls)) = ap length (one.1 ls) in
          Moved (suc i) (omega (arith, long, lt))
          (one.1 ms ∙ ap (λ vs. one.0 ∷ vs) same ∙ sym (ap (exchange (suc i)) (one.1 ls))) none
      moved false g i lt same none =
          Moved i (subst (λ vs. i + 1 < length vs) (sym (left_out l g ls)) lt)
          (left_out l g ms ∙ same ∙ sym (ap (exchange i) (left_out l g ls))) none

      by : Exchanged ls ms → Exchanged (l ∷ ls) (l ∷ ms)
      by (Past same odd) =
          Past (same_front l same)
          (ap is_odd (is_sum ms ∙ ap (λ k. cond a 0 k + behind ms) long)
          ∙ odd_sum (cond a 0 (length (drawn atoms ls))) (behind ms) (behind ls) odd
          ∙ ap (λ k. not (is_odd k)) (sym (is_sum ls)))
      by (Moved i lt same none) =
          moved a e i lt same
          (is_sum ms ∙ ap (λ k. cond a 0 k + behind ms) long ∙ ap (λ k. cond a 0 (length (drawn atoms ls)) + k) none
          ∙ sym (is_sum ls))

  exchanged_drawn : (ls ms : List Ligand) → Exchanged ls ms → length (drawn atoms ms) ≡ length (drawn atoms ls)
  exchanged_drawn ls ms (Past same odd) = ap length same
  exchanged_drawn ls ms (Moved i lt same none) = ap length same ∙ exchange_long i (drawn atoms ls)

  few_tail : (l : Ligand) (ls : List Ligand) → undrawn (l ∷ ls) ≤ 1 → undrawn ls ≤ 1
  few_tail l ls few = omega (arith, few)

  exchange_does : (place : ℕ) (ls : List Ligand) → place + 1 < length ls → undrawn ls ≤ 1
      → Exchanged ls (exchange place ls)
  exchange_does place [] lt few = absurd (omega (arith, lt))
  exchange_does zero (x ∷ []) lt few = absurd (omega (arith, lt))
  exchange_does zero (x ∷ y ∷ ls) lt few = fronts x y ls few (is_drawn x) (is_drawn y) refl refl
  exchange_does (suc place) (l ∷ ls) lt few =
      let x = exchange_does place ls (omega (arith, lt)) (few_tail l ls few) in
      under_front l ls (exchange place ls) x (exchanged_drawn ls (exchange place ls) x) (is_drawn l) refl

  undrawn_same : (place : ℕ) (ls : List Ligand) → undrawn (exchange place ls) ≡ undrawn ls
  undrawn_same place [] = refl
  undrawn_same zero (x ∷ []) = refl
  undrawn_same zero (x ∷ y ∷ ls) = omega arith
  undrawn_same (suc place) (l ∷ ls) = ap (λ n. cond (is_drawn l) 0 1 + n) (undrawn_same place ls)

  -- what is shown of ligands, where an exchange of two drawn neighbours turns it
  module _ (G : List Ligand → Geometry) (Fits : ℕ → Type 0)
      (same : (ls ms : List Ligand) → drawn atoms ms ≡ drawn atoms ls → G ms ≡ G ls)
      (parities : (ls ms : List Ligand) (i : ℕ) → Fits (length (drawn atoms ls)) → i + 1 < length (drawn atoms ls)
      → drawn atoms ms ≡ swap (drawn atoms ls) i (i + 1) → G ms ≡ other_way (G ls)) where
    abbrev pub with_last : List Ligand → Geometry
    with_last ls = flip (is_odd (behind ls)) (G ls)

    flip_other : (b : Bool) (g : Geometry) → flip b (other_way g) ≡ other_way (flip b g)
    flip_other true g = refl
    flip_other false g = refl

    one_turn : (place : ℕ) (ls : List Ligand) → place + 1 < length ls → undrawn ls ≤ 1 → Fits (length (drawn atoms ls))
        → with_last (exchange place ls) ≡ other_way (with_last ls)
    one_turn place ls lt few fits = by (exchange_does place ls lt few)
      where
        by : Exchanged ls (exchange place ls) → with_last (exchange place ls) ≡ other_way (with_last ls)
        by (Past equal odd) =
            ap (λ b. flip b (G (exchange place ls))) odd
            ∙ ap (flip (not (is_odd (behind ls)))) (same ls (exchange place ls) equal)
            ∙ flip_not (is_odd (behind ls)) (G ls)
        by (Moved i within moved none) =
            ap (λ n. flip (is_odd n) (G (exchange place ls))) none
            ∙ ap (flip (is_odd (behind ls)))
            (parities ls (exchange place ls) i fits within (moved ∙ as_swap i (drawn atoms ls) within))
            ∙ flip_other (is_odd (behind ls)) (G ls)

    record Kept (places : List ℕ) (ls : List Ligand) : Type 0 where
      turned : with_last (exchanges places ls) ≡ flip (is_odd (length places)) (with_last ls)
      few : undrawn (exchanges places ls) ≤ 1
      long : length (drawn atoms (exchanges places ls)) ≡ length (drawn atoms ls)

    kept : (places : List ℕ) (ls : List Ligand) → AllByRecursion (λ place. place + 1 < length ls) places
        → undrawn ls ≤ 1 → Fits (length (drawn atoms ls)) → Kept places ls
    kept [] ls within few fits = record { turned = refl; few = few; long = refl }
    kept (place ∷ places) ls within few fits =
        let k = kept places ls within.1 few fits in
        let before = exchanges places ls in
        let lt : place + 1 < length before = subst (λ n. place + 1 < n) (sym (exchanges_long places ls)) within.0 in
        let x = exchange_does place before lt k.few in
        record {
          turned =
              one_turn place before lt k.few (subst Fits (sym k.long) fits) ∙ ap other_way k.turned
              ∙ sym (flip_not (is_odd (length places)) (with_last ls));
          few = subst (λ n. n ≤ 1) (sym (undrawn_same place before)) k.few;
          long = exchanged_drawn before (exchange place before) x ∙ k.long;
        }

    -- with the ligands that aren't drawn last in both lists
    pub turned_together : (places : List ℕ) (ls ms : List Ligand) → IsExchanged places ls ms → undrawn ls ≤ 1
        → Fits (length (drawn atoms ls)) → behind ls ≡ 0 → behind ms ≡ 0 → G ms ≡ flip (is_odd (length places)) (G ls)
    turned_together places ls ms e few fits last their_last =
        let k = kept places ls e.within few fits in
        sym (ap (λ n. flip (is_odd n) (G ms)) their_last) ∙ ap with_last e.is ∙ k.turned
        ∙ ap (λ n. flip (is_odd (length places)) (flip (is_odd n) (G ls))) last
