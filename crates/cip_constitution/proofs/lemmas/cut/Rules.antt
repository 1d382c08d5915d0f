-- Rules 1b and 2 over branches followed by Rule 1a: the numbers of those that have ended compare by all three.
use Rattle.std.proofs.Common.{◌≡◌, ◌<◌, ◌≤◌, ◌-◌, ℕ, ℤ, suc, pos, List, [], map, length, slice_index, refl}
use Rattle.std.proofs.Common.{sym, ap, ◌∙◌, subst, arith, inl, inr}
use Rattle.std.proofs.lemmas.List.{get_or_past}
use Rattle.std.specs.Cmp.{IsTotalOrder}
use Rattle.std.specs.declared.cmp.Ordering.{Ordering}
use Rattle.std.proofs.lemmas.Bool.{cases_lt}
use Rattle.cip_rank.specs.Comparison.{comparison}
use Rattle.cip_rank.specs.Ranking.{by_number}
use Rattle.cip_rank.specs.declared.rules.Rules.{Rules}
use Rattle.cip_rank.specs.declared.rules.Rules.TheVariants.{Wording2013, Wording2018}
use Rattle.cip_rank.proofs.lemmas.TotalOrder.{comparison_total}
use Rattle.cip_mol.specs.declared.labels.outcome.Rule.TheVariants.{R1b, R2}
use Rattle.cip_branches.specs.Deciding.{Branched}
use Rattle.cip_branches.specs.Standing.{node_in, WantedIn, AreKeysOf, StandsBy}
use Rattle.cip_branches.specs.Views.{IsEnded}
use Rattle.cip_digraph.specs.declared.nodes.NodeData.{NodeData}
use Rattle.cip_digraph.specs.digraph.Digraph.{Node, children, digraph, sphere}
use Rattle.cip_digraph.specs.digraph.NodeList.{told_at, distance_told}
use Rattle.cip_digraph.specs.digraph.Telling.{node_at}
use Rattle.cip_digraph.specs.graph.Graph.{Graph}
use Rattle.cip_digraph.specs.graph.SoundGraphs.{IsSound}
use Rattle.cip_digraph.specs.rules.Keys.{mass_key, distance_key, sphere_in_digraph, lower_precedes}
use Rattle.cip_digraph.specs.rules.Orders.{all_tie}
use Rattle.cip_digraph.specs.digraph.SameBranch.{EndsWithin}
use Rattle.cip_digraph.proofs.lemmas.tree.Ended.{IsPath, Anywhere}
use Rattle.cip_digraph.proofs.lemmas.numbered.PlaceTrees.{count_is, some_nodes}
use Rattle.cip_arena.specs.Growth.{Growth, Holds}
use Rattle.cip_rules.proofs.lemmas.FoundRules.{stands_after, ends_after, keys_after, same_nodes, same_count, same_end}
use Rattle.cip_constitution.specs.Alike.{TakesWhole}
use Rattle.cip_constitution.specs.Following.{Follows, numbers_of}
use Rattle.cip_constitution.proofs.lemmas.cut.Branches.{key, name, kids, few, first_path, ended_cut, stands_first}
use Rattle.cip_constitution.proofs.lemmas.cut.Nodes.{IsOver, cut_over}
use Rattle.cip_constitution.proofs.lemmas.seen.AllTie.{tie_total}
use Rattle.cip_constitution.proofs.lemmas.node_data.Differ.{IsFirst}
use Rattle.cip_constitution.proofs.lemmas.followed.Names.{named_is}
use Rattle.cip_rules.proofs.lemmas.NodeKeys.{keys_at}
use Rattle.cip_constitution.proofs.lemmas.seen.Rules.{IsEnded as HasEnded, by_atoms, by_distances, by_masses}

module _ (g : Graph) (positions : List (List ℕ)) (a : Growth) (h : Holds g positions a) (some : 0 < a.sphere)
    (fits : length a.nodes ≤ a.bound) (end : 0 < length (sphere g positions a.root a.sphere)) (branched : Branched)
    (f : Follows g positions a.root a.bound a.sphere branched) (rules : Rules) where
  abbrev nodes : List Node
  nodes = digraph g positions a.root a.sphere

  abbrev k1 : Node → ℤ
  k1 = key g positions a h some fits end branched f

  abbrev nm : ℕ → Node
  nm = name g positions a h some fits end branched f

  abbrev below : Node → List Node
  below = kids g positions a h some fits end branched f

  abbrev k2 : Node → ℤ
  k2 node = lower_precedes (distance_key rules sphere_in_digraph node)

  abbrev k3 : Node → ℤ
  k3 node = pos (mass_key g node)

  abbrev pub distances : List ℤ
  distances = map (λ (node_data : NodeData). lower_precedes (distance_told rules node_data)) a.nodes

  abbrev pub masses : List ℤ
  masses = map (λ (node_data : NodeData). pos node_data.mass) a.nodes

  abbrev d : ℕ
  d = branched.last

  abbrev one : Node → Node → Ordering
  one = comparison below all_tie k1 d

  abbrev two : Node → Node → Ordering
  two = comparison below one k2 d

  abbrev three : Node → Node → Ordering
  three = comparison below two k3 d

  total_one : IsTotalOrder one
  total_one = comparison_total below k1 tie_total d

  total_two : IsTotalOrder two
  total_two = comparison_total below k2 total_one d

  -- each place has a node, and what isn't a place has the root
  node_low : (place : ℕ) → slice_index branched.layers.place_tree.nodes place < length a.nodes
  node_low place =
      let node_data = h.tells.len in
      elim (cases_lt place (length branched.layers.place_tree.place_parents)) [
        | inl lt ↦ let low = f.keyed.each place lt in omega (arith, low, node_data)
        | inr out ↦
            let same = f.followed.nodes_len in
            let none = get_or_past branched.layers.place_tree.nodes place 0 (omega (arith, out, same)) in
            let first = some_nodes g positions a.root a.sphere in
            omega (arith, none, first, node_data)
      ]

  keyed_by : (of : NodeData → ℤ) (k : Node → ℤ)
      → ((n : ℕ) → n < length a.nodes → of (told_at a.nodes n) ≡ k (node_at nodes n))
      → AreKeysOf nm k (map of a.nodes) branched
  keyed_by of k same = record {
    each = λ t place p.
        let n = slice_index branched.layers.place_tree.nodes place in
        let lt = node_low place in
        let len = h.tells.len in
        keys_at of a.nodes n lt ∙ same n lt
        ∙ ap k (sym (named_is g positions a.root a.bound a.sphere n (few g positions a h some fits end branched f)
        (omega (arith, lt, len))));
  }

  distance_by : (w : Rules) (n : ℕ) → n < length a.nodes
      → distance_told w (told_at a.nodes n) ≡ distance_key w sphere_in_digraph (node_at nodes n)
  distance_by Wording2013 n lt = (h.tells.each n lt).as_printed
  distance_by Wording2018 n lt = (h.tells.each n lt).as_corrected

  pub keyed_2 : AreKeysOf nm k2 distances branched
  keyed_2 = keyed_by (λ (node_data : NodeData). lower_precedes (distance_told rules node_data)) k2
      (λ n lt. ap lower_precedes (distance_by rules n lt))

  pub keyed_3 : AreKeysOf nm k3 masses branched
  keyed_3 = keyed_by (λ (node_data : NodeData). pos node_data.mass) k3 (λ n lt. ap (λ m. pos m) (h.tells.each n lt).mass)

  module _ (second third : Branched) (takes_2 : TakesWhole branched distances R1b second)
      (takes_3 : TakesWhole second masses R2 third) where
    ended : IsEnded below (node_in nm branched) (WantedIn branched) branched.last
    ended = ended_cut g positions a h some fits end branched f

    first_stands : StandsBy below nm one branched
    first_stands = stands_first g positions a h some fits end branched f

    second_stands : StandsBy below nm two second
    second_stands = stands_after below nm one total_one k2 branched first_stands ended distances keyed_2 R1b [] []
        second takes_2.takes d (omega arith) takes_2.reached

    second_ended : IsEnded below (node_in nm second) (WantedIn second) second.last
    second_ended = ends_after below nm one total_one k2 branched first_stands ended distances keyed_2 R1b [] []
        second takes_2.takes d (omega arith)

    second_keyed : AreKeysOf nm k3 masses second
    second_keyed = keys_after below nm one total_one k2 branched first_stands ended distances keyed_2 R1b [] []
        second takes_2.takes d (omega arith) k3 masses keyed_3

    second_end : second.last ≡ d
    second_end = same_end below nm one total_one k2 branched first_stands ended distances keyed_2 R1b [] [] second
        takes_2.takes d (omega arith)

    third_stands : StandsBy below nm three third
    third_stands = stands_after below nm two total_two k3 second second_stands second_ended masses second_keyed R2 []
        [] third takes_3.takes d (omega (arith, second_end)) takes_3.reached

    third_count : length third.unresolved ≡ length branched.unresolved
    third_count = same_count below nm two total_two k3 second second_stands second_ended masses second_keyed R2 [] []
        third takes_3.takes d (omega (arith, second_end))
        ∙ same_count below nm one total_one k2 branched first_stands ended distances keyed_2 R1b [] [] second
        takes_2.takes d (omega arith)

    third_node : (k : ℕ) → node_in nm third k ≡ node_in nm branched k
    third_node k = same_nodes below nm two total_two k3 second second_stands second_ended masses second_keyed R2 [] []
        third takes_3.takes d (omega (arith, second_end)) k
        ∙ same_nodes below nm one total_one k2 branched first_stands ended distances keyed_2 R1b [] [] second
        takes_2.takes d (omega arith) k

    third_told : (x y : ℕ) → x < length branched.unresolved → y < length branched.unresolved
        → by_number third.layers.ranked.numbers x y ≡ three (node_in nm branched x) (node_in nm branched y)
    third_told x y lx ly =
        third_stands.tops.node_data x y (omega (arith, lx, third_count)) (omega (arith, ly, third_count))
        ∙ ap (λ n. three n (node_in nm third y)) (third_node x) ∙ ap (three (node_in nm branched x)) (third_node y)

    module _ (sound : IsSound g) (high : ℕ) where
      abbrev First : ℕ → Type 0
      First = IsFirst g positions a h some sound

      branch_in : (n : ℕ) → First n → n - 1 < length branched.unresolved
      branch_in n p =
          let count = f.count in
          let low = p.low in
          let behind = p.behind in
          omega (arith, count, low, behind, count_is g positions a.root 1)

      back : (n : ℕ) → First n → n ≡ suc (n - 1)
      back n p = let behind = p.behind in omega (arith, behind)

      top_is : (n : ℕ) → First n → node_in nm branched (n - 1) ≡ node_at nodes n
      top_is n p =
          ap nm (f.top (n - 1) (branch_in n p) ∙ sym (back n p))
          ∙ named_is g positions a.root a.bound a.sphere n (few g positions a h some fits end branched f)
          (let lt = p.within in let len = h.tells.len in omega (arith, lt, len))

      over : (n : ℕ) → First n → HasEnded g positions a.root d high (node_at nodes n)
          → IsOver g positions a.sphere (node_at nodes n)
      over n p e =
          let far = f.last in
          let count = f.count in
          let lt = branch_in n p in
          let rest : d ≡ a.sphere - 1 = omega (arith, far) in
          record {
            number = 1;
            path = subst (IsPath Anywhere 1) (top_is n p)
                (subst (λ k. IsPath Anywhere 1 (nm k)) (sym (f.top (n - 1) lt))
                (first_path g positions a h some fits end branched f (n - 1) (omega (arith, lt, count))));
            low = omega (arith, some);
            ends = subst (λ k. EndsWithin (children g positions) k (node_at nodes n)) rest e.within;
          }

      -- branches that have ended
      over_told : (n m : ℕ) → First n → First m → HasEnded g positions a.root d high (node_at nodes n)
          → HasEnded g positions a.root d high (node_at nodes m)
          → by_number (numbers_of third) n m ≡ by_masses g positions a.root d high rules (node_at nodes n)
          (node_at nodes m)
      over_told n m p q e e2 =
          let atoms = by_atoms g positions a.root d high in
          let dists = by_distances g positions a.root d high rules in
          let of_n = over n p e in
          let of_m = over m q e2 in
          let same_one : (x y : Node) → IsOver g positions a.sphere x → IsOver g positions a.sphere y
          → one x y ≡ atoms x y = λ x y u v.
          cut_over g positions a.sphere all_tie all_tie (λ _ _ _ _. refl) tie_total k1 d x y u v in
          let same_two : (x y : Node) → IsOver g positions a.sphere x → IsOver g positions a.sphere y
          → two x y ≡ dists x y = λ x y u v.
          cut_over g positions a.sphere atoms one same_one total_one k2 d x y u v in
          ap (λ i. by_number (numbers_of third) i m) (back n p)
          ∙ ap (λ j. by_number (numbers_of third) (suc (n - 1)) j) (back m q)
          ∙ third_told (n - 1) (m - 1) (branch_in n p) (branch_in m q)
          ∙ ap (λ x. three x (node_in nm branched (m - 1))) (top_is n p) ∙ ap (three (node_at nodes n)) (top_is m q)
          ∙ cut_over g positions a.sphere dists two same_two total_two k3 d (node_at nodes n) (node_at nodes m) of_n
          of_m

      pub over_within : (depth : ℕ) → branched.last ≡ depth → (n m : ℕ) → First n → First m
          → HasEnded g positions a.root depth high (node_at nodes n)
          → HasEnded g positions a.root depth high (node_at nodes m)
          → by_number (numbers_of third) n m ≡ by_masses g positions a.root depth high rules (node_at nodes n)
          (node_at nodes m)
      over_within depth is = subst (λ k. (n m : ℕ) → First n → First m
          → HasEnded g positions a.root k high (node_at nodes n) → HasEnded g positions a.root k high (node_at nodes m)
          → by_number (numbers_of third) n m ≡ by_masses g positions a.root k high rules (node_at nodes n)
          (node_at nodes m)) is over_told
