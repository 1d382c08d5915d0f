-- Where the ways from the root to two nodes part, and how far from each other these are.
use Rattle.std.proofs.Common.{◌≡◌, ◌<◌, ◌≤◌, ◌+◌, ◌-◌, ◌∷◌, ◌&&◌, ℕ, zero, suc, Bool, true, false, List, length, slice_index, refl, sym, ap, ◌∙◌, arith, inl, inr}
use Rattle.std.proofs.lemmas.Bool.{cases_order}
use Rattle.cip_rank.specs.Tree.{IsTree, spheres_of}
use Rattle.cip_rank.specs.View.{on_way}
use Rattle.cip_rank.proofs.lemmas.Way.{from_above}
use Rattle.cip_rank.proofs.lemmas.Walked.{root_above}
use Rattle.cip_partition.specs.Parting.{has_flag}
use Rattle.cip_digraph.specs.digraph.Digraph.{is_real}
use Rattle.cip_digraph.specs.digraph.NodeList.{parents_of}
use Rattle.cip_digraph.specs.digraph.Telling.{node_at}
use Rattle.cip_digraph.specs.digraph.View.{is_end_of, common, apart}
use Rattle.cip_aux.proofs.lemmas.PathEnds.{common_end, common_off, end_itself, end_long, end_short}
use Rattle.cip_aux.proofs.lemmas.SeenChildren.{way_is}
use Rattle.cip_aux.proofs.lemmas.Spheres.{sphere_root, sphere_next}
use Rattle.cip_aux.proofs.lemmas.Standing.{hangs, long, path_below, root_path}
use Rattle.cip_aux.specs.Views.{DigraphView, Shows, IsReal, path_at}
use Rattle.cip_aux_rank.specs.Keys.{IsFlagged, IsMeet}

root_way : (ps : List ℕ) → IsTree ps → (n : ℕ) → n < length ps → on_way ps n 0 ≡ true
unfolding on_way
root_way ps tree n h = from_above ps n n 0 (root_above ps tree n n (omega arith) h)

-- a node on the way from another one to the root, not above where the ways part
pub record ComesUp (sight : DigraphView) (from node at : ℕ) : Type 0 where
  pub is_real : IsReal sight.nodes at
  pub both : common (path_at sight.nodes from) (path_at sight.nodes at)
      ≡ common (path_at sight.nodes from) (path_at sight.nodes node)
  pub high : slice_index (spheres_of (parents_of sight.node_data)) at
      ≤ slice_index (spheres_of (parents_of sight.node_data)) node

pub comes_first : (sight : DigraphView) (from node : ℕ) → IsReal sight.nodes node → ComesUp sight from node node
comes_first sight from node real = record { is_real = real; both = refl; high = omega arith }

module _ (sight : DigraphView) (shows : Shows sight) where
  abbrev parents : List ℕ
  parents = parents_of sight.node_data

  abbrev sphere : ℕ → ℕ
  sphere n = slice_index (spheres_of parents) n

  abbrev path : ℕ → List ℕ
  path n = path_at sight.nodes n

  low : (n : ℕ) → IsReal sight.nodes n → n < length parents
  low n r = let lt = r.within in let len = shows.node_data.len in omega (arith, lt, len)

  length_by : (most n : ℕ) → n < most → n < length parents → is_real (node_at sight.nodes n).kind ≡ true
      → length (path n) ≡ sphere n + 1
  length_by zero n short h real = absurd (omega arith)
  length_by (suc most) n short h real = elim (cases_order 0 n) [
    | inl first ↦
        let root = root_path sight.graph sight.positions sight.root sight.nodes parents shows.node_data.whole in
        let at = ap (λ k. length (path k)) (sym first) in
        let none = ap sphere (sym first) ∙ sphere_root parents in
        omega (arith, root, at, none)
    | inr (inl some) ↦
        let whole = shows.node_data.whole in
        let m = slice_index parents n in
        let behind : m < n = whole.tree.behind n some h in
        let below = path_below sight.graph sight.positions sight.root sight.nodes parents whole n some h real in
        let parent_place = (hangs sight.graph sight.positions sight.root sight.nodes parents whole n some h).real in
        omega (
          arith,
          ap length below.1,
          length_by most m (omega arith) (omega arith) parent_place,
          sphere_next parents whole.tree n some h,
        )
    | inr (inr less) ↦ absurd (omega arith)
  ]

  -- the path of a real node has its sphere's length
  pub length_is : (n : ℕ) → IsReal sight.nodes n → length (path n) ≡ sphere n + 1
  length_is n r = length_by (n + 1) n (omega arith) (low n r) r.real

  -- seen from the root the ways to all nodes begin there
  common_root : (most n : ℕ) → n < most → n < length parents → is_real (node_at sight.nodes n).kind ≡ true
      → common (path 0) (path n) ≡ 1
  common_root zero n short h real = absurd (omega arith)
  common_root (suc most) n short h real =
      let whole = shows.node_data.whole in
      let root = root_path sight.graph sight.positions sight.root sight.nodes parents whole in
      elim (cases_order 0 n) [
        | inl first ↦
            ap (λ k. common (path 0) (path k)) (sym first) ∙ common_end (path 0) (path 0) (end_itself (path 0)) ∙ root
        | inr (inl some) ↦
            let m = slice_index parents n in
            let behind : m < n = whole.tree.behind n some h in
            let below = path_below sight.graph sight.positions sight.root sight.nodes parents whole n some h real in
            let parent_place = (hangs sight.graph sight.positions sight.root sight.nodes parents whole n some h).real in
            let more = long sight.graph sight.positions sight.root sight.nodes parents whole n some h real in
            let same = ap length below.1 in
            ap (common (path 0)) below.1
            ∙ common_off (path 0) (below.0) (path m)
            (end_long (below.0 ∷ path m) (path 0) (omega (arith, root, more, same)))
            ∙ common_root most m (omega (arith, behind, short)) (omega (arith, behind, h)) parent_place
        | inr (inr less) ↦ absurd (omega arith)
      ]

  pub meets_root : (from : ℕ) → from ≡ 0 → (node : ℕ) → IsReal sight.nodes node → IsMeet sight from node 0
  meets_root from first node real =
      let none = sphere_root parents in
      let some = shows.node_data.whole.some in
      let len = shows.node_data.len in
      let one = common_root (node + 1) node (omega arith) (low node real) real.real in
      let at = ap (λ k. common (path k) (path node)) first in
      record {
        within = omega (arith, some, len);
        both = omega (arith, one, at, none);
        low = omega (arith, none);
        ligand_branches = omega (arith, none);
      }

  module _ (from : ℕ) (real : IsReal sight.nodes from) (node : ℕ) (node_real : IsReal sight.nodes node) where
    module _ (way : List Bool) (flagged : IsFlagged parents from way) (at : ℕ)
        (comes : ComesUp sight from node at) where
      on_end : (b : Bool) → has_flag way at ≡ b → is_end_of (path at) (path from) ≡ b
      on_end b e =
          let r = comes.is_real in
          sym (ap (λ t. t && is_end_of (path at) (path from)) r.real)
          ∙ way_is sight.graph sight.positions sight.root sight.nodes parents shows.node_data.whole shows.sound from at
          (low from real) (low at r) real.real
          ∙ sym (flagged.each at (low at r)) ∙ e

      pub comes_next : 0 < at → has_flag way at ≡ false → (parent : ℕ) → parent ≡ slice_index parents at
          → ComesUp sight from node parent
      comes_next some off parent is =
          let whole = shows.node_data.whole in
          let r = comes.is_real in
          let h = low at r in
          let below = path_below sight.graph sight.positions sight.root sight.nodes parents whole at some h r.real in
          let parent_place = (hangs sight.graph sight.positions sight.root sight.nodes parents whole at some h).real in
          let behind : slice_index parents at < at = whole.tree.behind at some h in
          let len = shows.node_data.len in
          let sooner = sphere_next parents whole.tree at some h in
          let same = ap sphere is in
          let before = comes.high in
          record {
            is_real = record {
              within = omega (arith, is, behind, h, len);
              real = ap (λ n. is_real (node_at sight.nodes n).kind) is ∙ parent_place;
            };
            both = ap (λ n. common (path from) (path n)) is
                ∙ sym (common_off (path from) (below.0) (path (slice_index parents at))
                (sym (ap (λ p. is_end_of p (path from)) below.1) ∙ on_end false off))
                ∙ sym (ap (common (path from)) below.1) ∙ comes.both;
            high = omega (arith, sooner, same, before);
          }

      meets_on : has_flag way at ≡ true → IsMeet sight from node at
      meets_on on =
          let end = on_end true on in
          let r = comes.is_real in
          let whole = common_end (path from) (path at) end in
          let len = length_is at r in
          let long = length_is from real in
          let short = end_short (path at) (path from) end in
          let both = comes.both in
          record {
            within = r.within;
            both = omega (arith, both, whole, len);
            low = comes.high;
            ligand_branches = omega (arith, short, len, long);
          }

      pub meets_there : (0 < at → has_flag way at ≡ true) → IsMeet sight from node at
      meets_there on = elim (cases_order 0 at) [
        | inl first ↦ meets_on (ap (has_flag way) (sym first)
            ∙ flagged.each 0 (let some = low from real in omega (arith, some))
            ∙ root_way parents shows.node_data.whole.tree from (low from real))
        | inr (inl some) ↦ meets_on (on some)
        | inr (inr less) ↦ absurd (omega arith)
      ]

    pub steps_are : (meet : ℕ) → IsMeet sight from node meet
        → (sphere from - sphere meet) + (sphere node - sphere meet) ≡ apart (path from) (path node)
    steps_are meet is =
        let both = is.both in
        let low = is.low in
        let ligand_branches = is.ligand_branches in
        omega (arith, both, low, ligand_branches, length_is from real, length_is node node_real)
