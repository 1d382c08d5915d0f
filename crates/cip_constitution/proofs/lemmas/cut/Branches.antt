-- Branches of a root's children as those of the digraph cut after the last sphere, where all of them have ended.
use Rattle.std.proofs.Common.{◌≡◌, ◌<◌, ◌≤◌, ◌-◌, ◌∷◌, ℕ, ℤ, zero, suc, pos, List, [], map, length, slice_index, refl}
use Rattle.std.proofs.Common.{sym, ap, ◌∙◌, subst, arith}
use Rattle.std.specs.Prelude.{slice_index_or, flat_map}
use Rattle.std.specs.List.{AllByRecursion}
use Rattle.std.specs.List.Sorted.{IsPermutation}
use Rattle.std.proofs.lemmas.List.{get_or-map}
use Rattle.std.proofs.lemmas.List.Elements.{All-from_recursion}
use Rattle.std.proofs.lemmas.List.Sorted.{All-permutation, IsPermutation-sym}
use Rattle.cip_rank.specs.Comparison.{comparison}
use Rattle.cip_branches.specs.Deciding.{Branched, AreDecided}
use Rattle.cip_partition.specs.Kids.{kids_of}
use Rattle.cip_branches.specs.Standing.{node_in, WantedIn, StandsBy}
use Rattle.cip_branches.specs.Views.{IsEnded}
use Rattle.cip_branches.proofs.lemmas.taken.Rules.{followed_taken, rule_stands}
use Rattle.cip_digraph.specs.digraph.Digraph.{Node, real_node, children, digraph, sphere}
use Rattle.cip_digraph.specs.digraph.View.{real_at}
use Rattle.cip_digraph.specs.graph.Graph.{Graph}
use Rattle.cip_digraph.specs.rules.Keys.{atomic_key}
use Rattle.cip_digraph.specs.rules.Orders.{all_tie}
use Rattle.cip_digraph.proofs.lemmas.tree.Ended.{IsPath, Anywhere, leads_anywhere, paths_pass}
use Rattle.cip_digraph.proofs.lemmas.lists.Elements.{all_append}
use Rattle.cip_arena.specs.Growth.{Growth, Holds}
use Rattle.cip_constitution.specs.Following.{named, Follows}
use Rattle.cip_constitution.proofs.lemmas.cut.Nodes.{cut, kept, last, below_paths, IsNear, cut_first}
use Rattle.cip_constitution.proofs.lemmas.seen.AllTie.{tie_total}
use Rattle.cip_constitution.proofs.lemmas.followed.Names.{few_spheres, named_is}

module _ (g : Graph) (positions : List (List ℕ)) (a : Growth) (h : Holds g positions a) (some : 0 < a.sphere)
    (fits : length a.nodes ≤ a.bound) (end : 0 < length (sphere g positions a.root a.sphere)) (branched : Branched)
    (f : Follows g positions a.root a.bound a.sphere branched) where
  abbrev pub key : Node → ℤ
  key node = pos (atomic_key g positions node)

  abbrev pub name : ℕ → Node
  name = named g positions a.root a.bound

  abbrev pub kids : Node → List Node
  kids = cut g positions a.sphere

  pub few : a.sphere ≤ a.bound
  few = let lt = few_spheres g positions a.root a.sphere end in let len = h.tells.len in omega (arith, lt, len, fits)

  -- what the root's children have, the tops of branches have
  pub first_has : (P : Node → Type 0) → AllByRecursion P (children g positions (real_node a.root [])) → (k : ℕ)
      → suc k < length (digraph g positions a.root 1) → P (name (suc k))
  first_has P all k lt =
      subst P (sym (named_is g positions a.root a.bound 1 (suc k) (omega (arith, some, few)) lt))
      (All-from_recursion P (flat_map (children g positions) (real_node a.root [] ∷ []))
      (all_append P (children g positions (real_node a.root [])) [] all tt) k (real_at []) (omega (arith, lt)))

  pub first_path : (k : ℕ) → suc k < length (digraph g positions a.root 1) → IsPath Anywhere 1 (name (suc k))
  first_path =
      let passes = paths_pass g positions Anywhere (λ vertex _. leads_anywhere g vertex) a.root tt in
      first_has (IsPath Anywhere 1) (passes.step 0 (real_node a.root []) passes.at_root)

  -- and what goes from nodes to their children, the nodes at places of each sphere have
  pub along : (P : ℕ → Node → Type 0) → AllByRecursion (P 1) (children g positions (real_node a.root []))
      → ((number : ℕ) (node : Node) → P number node → AllByRecursion (P (suc number)) (children g positions node))
      → (t place : ℕ) → WantedIn branched t place → P (suc t) (node_in name branched place)
  along P first step zero place p =
      let lt = f.decided.only place p.at in
      let count = f.count in
      subst (λ n. P 1 (name n)) (sym (f.top place lt)) (first_has (P 1) first place (omega (arith, lt, count)))
  along P first step (suc t) place p =
      let inner = f.decided.ruled.view.within (suc t) place p in
      let lt : t < branched.last = omega (arith, inner) in
      let above = f.decided.ruled.above t place lt p in
      let parent_place = slice_index branched.layers.place_tree.place_parents place in
      let here = kids_of branched.layers.place_tree parent_place in
      let below = step (suc t) (node_in name branched parent_place) (along P first step t parent_place above.parent_place) in
      let all = All-permutation (P (suc (suc t))) (children g positions (node_in name branched parent_place))
      (map (node_in name branched) here)
      (IsPermutation-sym (map (node_in name branched) here) (children g positions (node_in name branched parent_place))
      (f.decided.ruled.view.node_data t parent_place lt above.parent_place))
      (λ k d within. All-from_recursion (P (suc (suc t))) (children g positions (node_in name branched parent_place)) below k d
      within) in
      let kid = above.kid in
      let is : slice_index_or (map (node_in name branched) here) kid.at (real_at [])
      ≡ node_in name branched place =
      get_or-map (node_in name branched) here kid.at 0 (real_at []) kid.within
      ∙ ap (node_in name branched) kid.here in
      subst (P (suc (suc t))) is
      (all kid.at (real_at []) (subst (λ n. kid.at < n) (sym (mapped_len (node_in name branched) here)) kid.within))
    where
      mapped_len : {X Y : Type 0} (f : X → Y) (xs : List X) → length (map f xs) ≡ length xs
      mapped_len f [] = refl
      mapped_len f (x ∷ xs) = ap (λ n. suc n) (mapped_len f xs)

  -- a node at a place of a sphere is that far from the root
  pub path_at : (t place : ℕ) → WantedIn branched t place → IsPath Anywhere (suc t) (node_in name branched place)
  path_at =
      let passes = paths_pass g positions Anywhere (λ vertex _. leads_anywhere g vertex) a.root tt in
      along (IsPath Anywhere) (passes.step 0 (real_node a.root []) passes.at_root)
      (below_paths g positions a.sphere)

  near_at : (t place : ℕ) → t ≤ branched.last → WantedIn branched t place
      → IsNear g positions a.sphere (branched.last - t) (node_in name branched place)
  near_at t place le p = record {
    number = suc t;
    path = path_at t place p;
    low = let far = f.last in omega (arith, far, le);
  }

  near_top : (k : ℕ) → k < length branched.unresolved
      → IsNear g positions a.sphere branched.last (node_in name branched k)
  near_top k lt = record {
    number = 1;
    path = let count = f.count in subst (λ n. IsPath Anywhere 1 (name n)) (sym (f.top k lt))
        (first_path k (omega (arith, lt, count)));
    low = let far = f.last in omega (arith, far);
  }

  -- Rule 1a compares them there as it does in the digraph
  decided_cut : AreDecided kids all_tie key name branched
  decided_cut = record {
    ruled = record {
      inherits = f.decided.ruled.inherits;
      above = f.decided.ruled.above;
      view = record {
        within = f.decided.ruled.view.within;
        next = f.decided.ruled.view.next;
        node_data = λ t place lt p.
            let far = f.last in
            subst (IsPermutation (map (node_in name branched) (kids_of branched.layers.place_tree place)))
            (sym (kept g positions a.sphere (suc t) (node_in name branched place) (path_at t place p)
            (omega (arith, far, lt)))) (f.decided.ruled.view.node_data t place lt p);
      };
      reaches = record {
        each = λ t le. record {
          each = λ x y p q. (f.decided.ruled.reaches.each t le).each x y p q
              ∙ sym (cut_first g positions a.sphere key (branched.last - t) (node_in name branched x)
              (node_in name branched y) (near_at t x le p) (near_at t y le q));
        };
      };
    };
    top = f.decided.top;
    only = f.decided.only;
    branch = f.decided.branch;
    node_data = λ x y lx ly. f.decided.node_data x y lx ly
        ∙ sym (cut_first g positions a.sphere key branched.last (node_in name branched x) (node_in name branched y)
        (near_top x lx) (near_top y ly));
    tie = f.decided.tie;
  }

  pub ended_cut : IsEnded kids (node_in name branched) (WantedIn branched) branched.last
  ended_cut = record {
    none = λ place p. last g positions a.sphere (node_in name branched place)
        (subst (λ number. IsPath Anywhere number (node_in name branched place)) f.last (path_at branched.last place p));
  }

  -- and the next rule goes on from there
  pub stands_first : StandsBy kids name (comparison kids all_tie key branched.last) branched
  stands_first = rule_stands kids name all_tie tie_total key branched ended_cut
      (followed_taken kids name all_tie tie_total key branched decided_cut) branched.last (omega arith)
