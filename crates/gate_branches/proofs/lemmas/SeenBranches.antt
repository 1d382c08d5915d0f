-- Branches next to the node that a tree is seen from: the nodes at their places are nodes of the tree, and there is room
-- for the next ones.
use Rattle.std.proofs.Common.{◌≡◌, ◌<◌, ◌≤◌, ◌+◌, ◌-◌, ◌++◌, ◌∷◌, ℕ, ℤ, Bool, List, [], length, slice_index, sym, ap, ◌∙◌, subst, arith, refl}
use Rattle.std.specs.List.{AllByRecursion, range_with_len}
use Rattle.cip_rank.specs.Tree.{IsTree, children_of}
use Rattle.cip_rank.proofs.lemmas.Ranges.{range_more}
use Rattle.cip_rank.specs.View.{on_way, parent_list}
use Rattle.cip_rank.proofs.lemmas.ChildrenSeen.{all_at, off_below}
use Rattle.cip_rank.proofs.lemmas.SeenRoot.{seen_root}
use Rattle.cip_rank.proofs.lemmas.Times.{times}
use Rattle.cip_branches.specs.ViewedTree.{kids_around}
use Rattle.cip_branches.specs.Deciding.{Branched, AreFollowed}
use Rattle.cip_branches.specs.Following.{Begins, Follows}
use Rattle.cip_partition.specs.PlaceTree.{PlaceTree}
use Rattle.cip_branches.specs.SphereColumns.{SphereColumns}
use Rattle.cip_partition.specs.Parting.{has_flag}
use Rattle.cip_partition.specs.Keys.{AreKeyed}
use Rattle.cip_branches.specs.Walking.{kids_left, wanted_kids}
use Rattle.cip_branches.proofs.lemmas.room.Seen.{AreSeen, around_is, seen_first, few_seen, seen_next}

pub range_one : (first child : ℕ) → first ≤ child → range_with_len first (child + 1 - first)
    ≡ range_with_len first (child - first) ++ child ∷ []
range_one first child h =
    let one : child + 1 - first ≡ (child - first) + 1 = omega arith in
    ap (range_with_len first) one ∙ range_more first (child - first) child (omega arith)

-- a node's children, and then its parent
abbrev pub next_to : List ℕ → ℕ → List ℕ
next_to ps n = children_of ps n ++ parent_list ps n

-- places are followed, and nodes are seen once each
pub record AreWalked (ps : List ℕ) (way : List Bool) (from : ℕ) (now : Branched) : Type 0 where
  pub followed : AreFollowed now
  pub seen : AreSeen ps way from now.first now.layers.place_tree.nodes

module _ (ps : List ℕ) (tree : IsTree ps) (from : ℕ) (inside : from < length ps) (way : List Bool)
    (on : (x : ℕ) → x < length ps → has_flag way x ≡ on_way ps from x) where
  abbrev around : ℕ → List ℕ
  around = kids_around ps way

  abbrev tops : List ℕ
  tops = next_to ps from

  -- all of them lead away
  lead_away : around from ≡ tops
  lead_away = around_is ps tree from inside way on from inside ∙ seen_root ps tree from inside

  below : AllByRecursion (λ n. n < length ps) tops
  below = subst (AllByRecursion (λ n. n < length ps)) lead_away (off_below (has_flag way) ps tree from inside)

  seen_tops : AreSeen ps way from 0 tops
  seen_tops = seen_first ps tree from inside way on tops below (λ x.
      let all = ap (times x) lead_away in omega (arith, all))

  pub tops_few : (nodes : List ℕ) → nodes ≡ tops → length nodes < length ps
  tops_few nodes are = subst (λ (ns : List ℕ). length ns < length ps) (sym are)
      (let few = few_seen ps tree from inside way on 0 tops (omega arith) seen_tops in omega (arith, few))

  pub tops_below : (nodes : List ℕ) → nodes ≡ tops → (k : ℕ) → k < length nodes → slice_index nodes k < length ps
  tops_below nodes are k lt =
      all_at (λ n. n < length ps) nodes k (subst (AllByRecursion (λ n. n < length ps)) (sym are) below) lt

  pub walked_first : (nodes : List ℕ) (keys : List ℤ) (now : Branched) → nodes ≡ tops → Begins nodes keys now.layers
      → AreFollowed now → now.first ≡ 0 → AreWalked ps way from now
  walked_first nodes keys now are begins followed first = record {
    followed = followed;
    seen = subst (λ (ns : List ℕ). AreSeen ps way from now.first ns) (sym are ∙ sym begins.nodes)
        (subst (λ n. AreSeen ps way from n tops) (sym first) seen_tops);
  }

  module _ (old : Branched) (was : AreWalked ps way from old) where
    nodes_len : length old.layers.place_tree.nodes ≡ length old.layers.place_tree.place_parents
    nodes_len = was.followed.nodes_len

    within : old.first ≤ length old.layers.place_tree.nodes
    within = let le = was.followed.within in omega (arith, le, nodes_len)

    pub walked_keyed : AreKeyed (length ps) old.layers.place_tree
    walked_keyed = record {
      each = λ p lt. all_at (λ n. n < length ps) old.layers.place_tree.nodes p was.seen.below (omega (arith, lt, nodes_len));
    }

    pub walked_room : length old.layers.place_tree.place_parents + kids_left around old.layers.place_tree.nodes old.first
        (length old.layers.place_tree.place_parents - old.first) < length ps
    walked_room =
        subst (λ n. n + kids_left around old.layers.place_tree.nodes old.first (n - old.first) < length ps) nodes_len
        (few_seen ps tree from inside way on old.first old.layers.place_tree.nodes within was.seen)

    pub walked_next : (keys : List ℤ) (new : Branched) → Follows old.layers old.first old.last (length ps) around
        old.unresolved keys new.layers → AreFollowed new → new.first ≡ length old.layers.place_tree.place_parents → AreWalked ps way from new
    walked_next keys new walks followed first =
        let w = walks.walked in
        let listed = ap (λ (k : PlaceTree). k.nodes) (walks.place_tree ∙ ap (λ (l : SphereColumns). l.place_tree) w.ended) ∙ w.walks.listed
        ∙ ap (λ n. old.layers.place_tree.nodes ++ wanted_kids around old.unresolved old.layers.place_tree old.first (n - old.first))
        (sym nodes_len) in
        record {
          followed = followed;
          seen = subst (λ n. AreSeen ps way from n new.layers.place_tree.nodes) (nodes_len ∙ sym first)
              (seen_next ps tree from inside way on old.first old.layers.place_tree.nodes within was.seen old.unresolved
              old.layers.place_tree refl new.layers.place_tree.nodes listed);
        }
