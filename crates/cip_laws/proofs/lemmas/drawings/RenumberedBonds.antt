-- A renumbered drawing has no fault where the drawing has none: its bonds join atoms, no two of them the same ones, and
-- no atom has more of them.
use Rattle.std.proofs.Common.{◌≡◌, ◌⊎◌, inl, inr, ◌<◌, ◌≤◌, ℕ, ◌==◌, ◌&&◌, ◌||◌, List, [], ◌∷◌, length, refl, sym, ap, subst, ◌∙◌, arith}
use Rattle.std.specs.List.{AllByRecursion}
use Rattle.std.proofs.lemmas.List.Elements.{All-from_recursion}
use Rattle.std.proofs.lemmas.List.Sorted.{IsPermutation-sym}
use Rattle.cip_rank.specs.Matching.{InPairs}
use Rattle.cip_mol.specs.Bonds.{degree}
use Rattle.cip_mol.specs.Bonds as bonds
use Rattle.cip_mol.specs.Drawing.{Drawing}
use Rattle.cip_mol.specs.Marks.{joins}
use Rattle.cip_mol.specs.declared.graph.molecule.Bond.{Bond}
use Rattle.cip_mol.proofs.lemmas.SimpleBonds.{IsJoin, Once, simple_from_sound, sound_from_simple}
use Rattle.cip_digraph.specs.graph.Renumbering.{IsForward, IsTurned, IsRenumbering}
use Rattle.cip_digraph.proofs.lemmas.lists.Elements.{Pairwise, pairs_from_pairwise, all_arranged}
use Rattle.cip_laws.proofs.lemmas.drawings.BondsOnce.{once_back, bonds_once}
use Rattle.cip_symmetry.proofs.lemmas.outcomes.LastReasons.{pairwise_arranged}
use Rattle.cip_laws.proofs.lemmas.drawings.RenumberedAtoms.{IsImageBond, image_below, image_onto, image_injective, image_eq, bond_pairs, degree_same}
use Rattle.std.proofs.Math.Bool.{and_comm, or_comm}

module _ (drawing other : Drawing) (image : ℕ → ℕ) (r : IsRenumbering drawing other image)
    (sound : bonds.IsSound (length drawing.atoms) drawing.bonds) where
  abbrev n : ℕ
  n = length drawing.atoms

  abbrev IsPair : Bond → Bond → Type 0
  IsPair = IsImageBond image n

  joins_there : (bond two : Bond) → IsPair bond two → IsJoin n two
  joins_there bond two i = by i.is.ends
    where
      below : (k : ℕ) → k < n → image k < n
      below k lt = image_below drawing other image r sound k lt

      same_atom : image bond.a ≡ image bond.b → bond.a ≡ bond.b
      same_atom e = image_injective drawing other image r sound bond.a bond.b i.joins.a i.joins.b e

      by : IsForward image bond two ⊎ IsTurned image bond two → IsJoin n two
      by (inl f) = record {
        a = subst (λ v. v < n) (sym f.a) (below bond.a i.joins.a);
        b = subst (λ v. v < n) (sym f.b) (below bond.b i.joins.b);
        differ = λ e. i.joins.differ (same_atom (sym f.a ∙ e ∙ f.b));
      }
      by (inr t) = record {
        a = subst (λ v. v < n) (sym t.a) (below bond.b i.joins.b);
        b = subst (λ v. v < n) (sym t.b) (below bond.a i.joins.a);
        differ = λ e. i.joins.differ (same_atom (sym (sym t.a ∙ e ∙ t.b)));
      }

  pub joins_image : (a b : ℕ) → a < n → b < n → (bond two : Bond) → IsPair bond two
      → joins (image a) (image b) two ≡ joins a b bond
  joins_image a b lt_a lt_b bond two i = by i.is.ends
    where
      same : (j k : ℕ) → j < n → k < n → (image j == image k) ≡ (j == k)
      same j k lt_j lt_k = image_eq drawing other image r sound j k lt_j lt_k

      four : (c d : ℕ) → c < n → d < n
          → (((image c == image a) && (image d == image b)) || ((image c == image b) && (image d == image a)))
          ≡ (((c == a) && (d == b)) || ((c == b) && (d == a)))
      four c d lt_c lt_d =
          rw (same c a lt_c lt_a, same d b lt_d lt_b, same c b lt_c lt_b, same d a lt_d lt_a) refl

      by : IsForward image bond two ⊎ IsTurned image bond two → joins (image a) (image b) two ≡ joins a b bond
      by (inl f) = rw (f.a, f.b) (four bond.a bond.b i.joins.a i.joins.b)
      by (inr t) = rw (t.a, t.b) (four bond.b bond.a i.joins.b i.joins.a ∙ turned bond.b bond.a)
        where
          turned : (c d : ℕ) → (((c == a) && (d == b)) || ((c == b) && (d == a)))
              ≡ (((d == a) && (c == b)) || ((d == b) && (c == a)))
          turned c d =
              rw (and_comm (c == a) (d == b), and_comm (c == b) (d == a))
              (or_comm ((d == b) && (c == a)) ((d == a) && (c == b)))

  once_image : (one two his hers : Bond) → IsPair one his → IsPair two hers → Once one two → Once his hers
  once_image one two his hers i j e = by j.is.ends
    where
      by : IsForward image two hers ⊎ IsTurned image two hers → Once his hers
      by (inl f) =
          rw (f.a, f.b) (joins_image two.a two.b j.joins.a j.joins.b one his i ∙ e)
      by (inr t) =
          rw (t.a, t.b)
          (joins_image two.b two.a j.joins.b j.joins.a one his i
          ∙ or_comm ((one.a == two.b) && (one.b == two.a)) ((one.a == two.a) && (one.b == two.b)) ∙ e)

  all_join : (ns ms : List Bond) → InPairs IsPair ns ms → AllByRecursion (IsJoin n) ms
  all_join [] [] h = tt
  all_join [] (m ∷ ms) h = absurd h
  all_join (bond ∷ ns) [] h = absurd h
  all_join (bond ∷ ns) (m ∷ ms) h = (joins_there bond m h.0, all_join ns ms h.1)

  all_once : (ns ms : List Bond) → InPairs IsPair ns ms → Pairwise Once ns → Pairwise Once ms
  all_once [] [] h once = tt
  all_once [] (m ∷ ms) h once = absurd h
  all_once (bond ∷ ns) [] h once = absurd h
  all_once (bond ∷ ns) (m ∷ ms) h once = (each ns ms h.1 once.0, all_once ns ms h.1 once.1)
    where
      each : (ns ms : List Bond) → InPairs IsPair ns ms → AllByRecursion (Once bond) ns → AllByRecursion (Once m) ms
      each [] [] p all = tt
      each [] (two ∷ twos) p all = absurd p
      each (one ∷ ones) [] p all = absurd p
      each (one ∷ ones) (two ∷ twos) p all = (once_image bond one m two h.0 p.0 all.0, each ones twos p.1 all.1)

  few : (atom : ℕ) → atom < n → degree atom other.bonds ≤ 8
  few atom lt =
      let from = image_onto drawing other image r sound atom lt in
      let most = (simple_from_sound n drawing.bonds sound).few from.0 from.1 in
      let same : degree atom other.bonds ≡ degree from.0 drawing.bonds =
      ap (λ v. degree v other.bonds) from.2 ∙ degree_same drawing other image r sound from.0 from.1 in
      omega (arith, most, same)

  pub renumbered_sound : bonds.IsSound (length other.atoms) other.bonds
  renumbered_sound =
      let pairs = bond_pairs drawing other image r sound in
      let back = IsPermutation-sym other.bonds r.bonds.other r.bonds.of_other in
      subst (λ count. bonds.IsSound count other.bonds) (sym r.len)
      (sound_from_simple n other.bonds (record {
        joins =
            All-from_recursion (IsJoin n) other.bonds
            (all_arranged (IsJoin n) r.bonds.other other.bonds back (all_join _ _ pairs));
        once =
            pairs_from_pairwise Once other.bonds
            (pairwise_arranged Once once_back r.bonds.other other.bonds back
            (all_once r.bonds.one r.bonds.other pairs
            (pairwise_arranged Once once_back drawing.bonds r.bonds.one r.bonds.of_one (bonds_once drawing sound))));
        few = few;
      }))
