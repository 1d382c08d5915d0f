-- Where all branches that are unresolved have their last nodes further out, no ligands of different vertices become
-- alike.
use Rattle.std.proofs.Common.{◌≡◌, ◌<◌, ◌≤◌, ◌-◌, ◌==◌, ◌⊎◌, ℕ, Bool, true, false, not, cond, List, [], ◌∷◌, None, Some}
use Rattle.std.proofs.Common.{length, slice_index, refl, sym, ap, ◌∙◌, arith, inl, inr, eqb-true, eq-eqb}
use Rattle.std.specs.List.{AllByRecursion, list_all}
use Rattle.std.specs.declared.option.Option.{Option}
use Rattle.std.proofs.lemmas.Bool.{and_parts, cases_Bool}
use Rattle.cip_arena.specs.Growth.{Growth, Holds}
use Rattle.cip_branches.specs.Deciding.{Branched}
use Rattle.cip_digraph.specs.declared.nodes.NodeData.{NodeData}
use Rattle.cip_digraph.specs.digraph.Digraph.{Node, real_node, sphere}
use Rattle.cip_digraph.specs.digraph.NodeList.{parents_of, told_at}
use Rattle.cip_digraph.specs.digraph.View.{view_children}
use Rattle.cip_digraph.specs.graph.Graph.{Graph}
use Rattle.cip_digraph.specs.graph.SoundGraphs.{IsSound}
use Rattle.cip_digraph.specs.rules.Auxiliary.{ligand_node}
use Rattle.cip_digraph.specs.units.Ranked.{every_pair}
use Rattle.cip_mol.specs.declared.site.Ligand.{Ligand}
use Rattle.cip_mol.specs.declared.site.Ligand.TheVariants.{LonePair, Vertex}
use Rattle.cip_mol.specs.declared.site.Unit as units
use Rattle.cip_rank.specs.Tree.{children_of}
use Rattle.cip_rank.specs.declared.rules.Rules.{Rules}
use Rattle.cip_partition.specs.Parting.{has_flag}
use Rattle.cip_constitution.specs.Ending.{EachPair, ElsewhereBy, EndsElsewhere, NotAnew, are_unlike}
use Rattle.cip_constitution.specs.Following.{Follows, numbers_of}
use Rattle.cip_constitution.specs.Standing.{first_standing, have_other_ranks, ligand_number, stands_told}
use Rattle.cip_constitution.proofs.lemmas.anew.LastSphere.{branch_in, number_is}
use Rattle.cip_constitution.proofs.lemmas.node_data.Differ.{IsFirst, LigandAt, ligand_at}

-- what stands for a vertex is of it
first_vertex : (all : List NodeData) (vertex : ℕ) (ns : List ℕ) (n : ℕ) → first_standing all vertex ns ≡ Some n
    → (told_at all n).vertex ≡ vertex
first_vertex all vertex [] n e = let bad : None ≡ Some n = e in cc
first_vertex all vertex (k ∷ ks) n e = by (stands_told vertex (told_at all k)) refl (first_vertex all vertex ks n) e
  where
    by : (b : Bool) → stands_told vertex (told_at all k) ≡ b
        → (first_standing all vertex ks ≡ Some n → (told_at all n).vertex ≡ vertex)
        → cond b (Some k) (first_standing all vertex ks) ≡ Some n → (told_at all n).vertex ≡ vertex
    by true stands later h =
        let same : Some k ≡ Some n = h in
        let here : k ≡ n = cc in
        ap (λ m. (told_at all m).vertex) (sym here)
        ∙ eqb-true (told_at all k).vertex vertex
        (and_parts ((told_at all k).vertex == vertex) _ stands).0
    by false stands later h = later h

module _ (g : Graph) (positions : List (List ℕ)) (a : Growth) (h : Holds g positions a) (some : 0 < a.sphere)
    (sound : IsSound g) (fits : length a.nodes ≤ a.bound) (last : 0 < length (sphere g positions a.root a.sphere))
    (branched : Branched) (f : Follows g positions a.root a.bound a.sphere branched) (rules : Rules)
    (all : List units.Unit) (further : 1 < a.sphere)
    (elsewhere : (branch : ℕ) → branch < length branched.unresolved → has_flag branched.unresolved branch ≡ true
    → EndsElsewhere g positions a branched branch) where
  abbrev stand : Ligand → List Node
  stand = ligand_node (view_children g positions (a.root ∷ []) (real_node a.root []))

  abbrev Anew : Ligand → Ligand → Type 0
  Anew = NotAnew rules g positions all a branched

  -- two branches that tie are unresolved
  tied_wanted : (m n : ℕ) → IsFirst g positions a h some sound m → IsFirst g positions a h some sound n → (m ≡ n → ⊥)
      → slice_index (numbers_of branched) m ≡ slice_index (numbers_of branched) n
      → EndsElsewhere g positions a branched (m - 1)
  tied_wanted m n p q differ tie =
      let low = branch_in g positions a h some sound fits last branched f m p in
      let high = branch_in g positions a h some sound fits last branched f n q in
      let one = p.behind in
      let two = q.behind in
      elsewhere (m - 1) low
      (f.decided.tie (m - 1) (n - 1) low high (λ same. differ (omega (arith, same, one, two)))
      (sym (number_is g positions a h some sound fits last branched f m p) ∙ tie
      ∙ number_is g positions a h some sound fits last branched f n q))

  by : (o q : Option ℕ) (xs ys : List Node) → LigandAt g positions a h some sound o xs
      → LigandAt g positions a h some sound q ys
      → ((m n : ℕ) → o ≡ Some m → q ≡ Some n → m ≡ n → ⊥)
      → (have_other_ranks (numbers_of branched) o q ≡ true)
      ⊎ (ElsewhereBy g positions a branched o × ElsewhereBy g positions a branched q)
  by None None xs ys at_o at_q differ = inr (tt, tt)
  by None (Some n) xs ys at_o at_q differ = inl refl
  by (Some m) None xs ys at_o at_q differ = inl refl
  by (Some m) (Some n) xs ys at_o at_q differ =
      elim (cases_Bool (slice_index (numbers_of branched) m == slice_index (numbers_of branched) n)) [
        | inr parted ↦ inl (ap not parted)
        | inl tie ↦
            let same = eqb-true (slice_index (numbers_of branched) m) (slice_index (numbers_of branched) n) tie in
            inr (
              tied_wanted m n at_o.1 at_q.1 (differ m n refl refl) same,
              tied_wanted n m at_q.1 at_o.1 (λ e. differ m n refl refl (sym e)) (sym same),
            )
      ]

  other_nodes : (x y : Ligand) → are_unlike x y ≡ true → (m n : ℕ) → ligand_number a.nodes x ≡ Some m
      → ligand_number a.nodes y ≡ Some n → m ≡ n → ⊥
  other_nodes LonePair y unlike m n is_m is_n same = let bad : None ≡ Some m = is_m in cc
  other_nodes (Vertex v) LonePair unlike m n is_m is_n same = let bad : None ≡ Some n = is_n in cc
  other_nodes (Vertex v) (Vertex w) unlike m n is_m is_n same =
      let kids = children_of (parents_of a.nodes) 0 in
      let both : v ≡ w = sym (first_vertex a.nodes v kids m is_m) ∙ ap (λ k. (told_at a.nodes k).vertex) same
      ∙ first_vertex a.nodes w kids n is_n in
      let bad : false ≡ true = sym (ap not (eq-eqb v w both)) ∙ unlike in cc

  pair_anew : (x y : Ligand) → are_unlike x y ≡ true → Anew x y
  pair_anew x y unlike =
      elim (by (ligand_number a.nodes x) (ligand_number a.nodes y) (stand x) (stand y)
      (ligand_at g positions a h some sound x) (ligand_at g positions a h some sound y) (other_nodes x y unlike)) [
        | inl parted ↦ inl parted
        | inr both ↦ inr (inl (further, both.0, both.1))
      ]

  all_anew : (x : Ligand) (ys : List Ligand) → list_all (are_unlike x) ys ≡ true → AllByRecursion (Anew x) ys
  all_anew x [] e = tt
  all_anew x (y ∷ ys) e =
      let parts = and_parts (are_unlike x y) (list_all (are_unlike x) ys) e in
      (pair_anew x y parts.0, all_anew x ys parts.1)

  pub each_anew : (xs : List Ligand) → every_pair are_unlike xs ≡ true → EachPair Anew xs
  each_anew [] e = tt
  each_anew (x ∷ xs) e =
      let parts = and_parts (list_all (are_unlike x) xs) (every_pair are_unlike xs) e in
      (all_anew x xs parts.0, each_anew xs parts.1)
