-- How the nodes of a whole digraph compare by their numbers.
use Rattle.std.proofs.Common.{◌≡◌, ◌≢◌, ℕ, zero, suc, ◌+◌, ◌<◌, ◌≤◌, Bool, true, false, cond, List, [], ◌∷◌, map, length, slice_index, refl, sym, ap, ◌∙◌, subst, arith, inl, inr}
use Rattle.std.specs.List.{AllByRecursion, filter}
use Rattle.std.proofs.lemmas.Bool.{cases_order}
use Rattle.std.proofs.lemmas.Map.Steps.{length-le_from_distinct_below}
use Rattle.cip_rank.specs.Tree.{children_of}
use Rattle.cip_digraph.specs.declared.nodes.NodeKind.{NodeKind}
use Rattle.cip_digraph.specs.declared.nodes.NodeKind.TheVariants.{Real, Closure, Multiple, Delocalised}
use Rattle.cip_digraph.specs.digraph.Digraph.{Node, real_node, duplicate, is_real, real_children, children}
use Rattle.cip_digraph.specs.digraph.View.{real_at}
use Rattle.cip_digraph.specs.graph.Graph.{Graph}
use Rattle.cip_digraph.specs.Laws.{real_paths}
use Rattle.cip_digraph.specs.graph.SoundGraphs.{IsSound}
use Rattle.cip_digraph.specs.digraph.Telling.{node_at}
use Rattle.cip_digraph.proofs.lemmas.tree.Apart.{Different, children_differ, tail_of}
use Rattle.cip_digraph.proofs.lemmas.tree.Children.{Passes, children_have}
use Rattle.cip_digraph.proofs.lemmas.tree.Ended.{IsPath, Anywhere, leads_anywhere, leads_below, paths_pass, member_below}
use Rattle.cip_digraph.proofs.lemmas.lists.Elements.{all_by, Pairwise, all_unmapped}
use Rattle.cip_aux.specs.WholeDigraph.{IsWhole}
use Rattle.cip_aux.proofs.lemmas.Members.{child_has, pair_has}

-- how a node hangs below the real node of a path
pub record Hangs (up : List ℕ) (node : Node) : Type 0 where
  pub real : is_real node.kind ≡ true → (vertex : ℕ) × (node ≡ real_node vertex up)
  pub other : is_real node.kind ≡ false → node.path ≡ up

-- a node below another one, which is real
pub record IsBelow (node child : Node) : Type 0 where
  pub real : is_real node.kind ≡ true
  pub hangs : Hangs node.path child

module _ (graph : Graph) (positions : List (List ℕ)) where
  hanging : (vertex : ℕ) (up : List ℕ) → AllByRecursion (Hangs (vertex ∷ up)) (real_children graph positions vertex up)
  hanging vertex up =
      children_have Anywhere vertex up (Hangs (vertex ∷ up)) (record {
        reals = λ other w e. record { real = λ t. (other, refl); other = λ f. let bad : true ≡ false = f in cc };
        closures = λ other w e. record { real = λ t. let bad : false ≡ true = t in cc; other = λ f. refl };
        multiples = λ other w. record { real = λ t. let bad : false ≡ true = t in cc; other = λ f. refl };
        delocaliseds = record { real = λ t. let bad : false ≡ true = t in cc; other = λ f. refl };
      }) graph positions (leads_anywhere graph vertex)

  below_by : (kind : NodeKind) (path : List ℕ) (vertex : ℕ)
      → AllByRecursion (IsBelow (duplicate kind vertex path)) (children graph positions (duplicate kind vertex path))
  below_by Real [] vertex = tt
  below_by Real (first ∷ up) vertex =
      all_by (Hangs (first ∷ up)) (IsBelow (duplicate Real vertex (first ∷ up)))
      (λ child h. record { real = refl; hangs = h })
      (real_children graph positions first up) (hanging first up)
  below_by Closure path vertex = tt
  below_by Multiple path vertex = tt
  below_by Delocalised path vertex = tt

  pub all_below : (node : Node) → AllByRecursion (IsBelow node) (children graph positions node)
  all_below node = below_by node.kind node.path node.vertex

  differ_by : IsSound graph → (kind : NodeKind) (path : List ℕ) (vertex : ℕ)
      → Different (real_paths (children graph positions (duplicate kind vertex path)))
  differ_by sound Real [] vertex = tt
  differ_by sound Real (first ∷ up) vertex = children_differ graph positions sound first up
  differ_by sound Closure path vertex = tt
  differ_by sound Multiple path vertex = tt
  differ_by sound Delocalised path vertex = tt

  pub all_differ : IsSound graph → (node : Node) → Different (real_paths (children graph positions node))
  all_differ sound node = differ_by sound node.kind node.path node.vertex

-- two real nodes have different paths
abbrev pub AreApart : Node → Node → Type 0
AreApart one other = is_real one.kind ≡ true → is_real other.kind ≡ true → one.path ≢ other.path

module _ (at : ℕ → Node) where
  apart_from : (one : Node) → is_real one.kind ≡ true → (ns : List ℕ)
      → AllByRecursion (λ path. one.path ≢ path) (real_paths (map at ns)) → AllByRecursion (λ n. AreApart one (at n)) ns
  apart_from one real [] all = tt
  apart_from one real (n ∷ ns) all = by (is_real (at n).kind) refl all (λ rest. apart_from one real ns rest)
    where
      by : (b : Bool) → is_real (at n).kind ≡ b
          → AllByRecursion (λ path. one.path ≢ path)
          (map (λ (node : Node). node.path)
          (cond b (at n ∷ filter (λ node. is_real node.kind) (map at ns))
          (filter (λ node. is_real node.kind) (map at ns))))
          → (AllByRecursion (λ path. one.path ≢ path) (real_paths (map at ns))
          → AllByRecursion (λ m. AreApart one (at m)) ns)
          → AllByRecursion (λ m. AreApart one (at m)) (n ∷ ns)
      by true e h rest = ((λ first second. h.0), rest h.1)
      by false e h rest = ((λ first second. let bad : true ≡ false = sym second ∙ e in cc), rest h)

  off_all : (one : Node) → is_real one.kind ≡ false → (ns : List ℕ) → AllByRecursion (λ n. AreApart one (at n)) ns
  off_all one e [] = tt
  off_all one e (n ∷ ns) = ((λ first second. let bad : true ≡ false = sym first ∙ e in cc), off_all one e ns)

  pub pairs_apart : (ns : List ℕ) → Different (real_paths (map at ns)) → Pairwise (λ n m. AreApart (at n) (at m)) ns
  pairs_apart [] d = tt
  pairs_apart (n ∷ ns) d = by (is_real (at n).kind) refl d (λ rest. pairs_apart ns rest)
    where
      by : (b : Bool) → is_real (at n).kind ≡ b
          → Different
          (map (λ (node : Node). node.path)
          (cond b (at n ∷ filter (λ node. is_real node.kind) (map at ns))
          (filter (λ node. is_real node.kind) (map at ns))))
          → (Different (real_paths (map at ns)) → Pairwise (λ n m. AreApart (at n) (at m)) ns)
          → Pairwise (λ n m. AreApart (at n) (at m)) (n ∷ ns)
      by true e h rest = (apart_from (at n) e ns h.0, rest h.1)
      by false e h rest = (off_all (at n) e ns, rest h)

module _ (graph : Graph) (positions : List (List ℕ)) (root : ℕ) (nodes : List Node) (parents : List ℕ)
    (whole : IsWhole graph positions root nodes parents) where
  -- what passes to the children of a node, a node has from its parent
  pub from_parent : (P : Node → Type 0) (n : ℕ) → 0 < n → n < length parents
      → AllByRecursion P (children graph positions (node_at nodes (slice_index parents n))) → P (node_at nodes n)
  from_parent P n some h all =
      let m = slice_index parents n in
      let less : m < n = whole.tree.behind n some h in
      child_has (λ c. P (node_at nodes c)) parents m n some h refl
      (all_unmapped P (node_at nodes) (children_of parents m)
      (subst (AllByRecursion P) (sym (whole.children m (omega arith))) all))

  pub hangs : (n : ℕ) → 0 < n → n < length parents → IsBelow (node_at nodes (slice_index parents n)) (node_at nodes n)
  hangs n some h =
      from_parent (IsBelow (node_at nodes (slice_index parents n))) n some h
      (all_below graph positions (node_at nodes (slice_index parents n)))

  path_by : (W : ℕ → Type 0) → Passes graph positions root (IsPath W) → (most n : ℕ) → n < most → n < length parents
      → (number : ℕ) × IsPath W number (node_at nodes n)
  path_by W p zero n short h = absurd (omega arith)
  path_by W p (suc most) n short h = elim (cases_order 0 n) [
    | inl at ↦ (0, subst (λ k. IsPath W 0 (node_at nodes k)) at (subst (IsPath W 0) (sym whole.at_root) p.at_root))
    | inr (inl some) ↦
        let m = slice_index parents n in
        let less : m < n = whole.tree.behind n some h in
        let above = path_by W p most m (omega arith) (omega arith) in
        (suc (above.0), from_parent (IsPath W (suc (above.0))) n some h (p.step (above.0) (node_at nodes m) above.1))
    | inr (inr less) ↦ absurd (omega arith)
  ]

  -- no path is longer than there are vertices
  pub few : IsSound graph → root < length graph.vertices → (n : ℕ) → n < length parents
      → length (node_at nodes n).path ≤ length graph.vertices
  few sound lt n h =
      let W : ℕ → Type 0 = λ vertex. vertex < length graph.vertices in
      let is = path_by W (paths_pass graph positions W (leads_below graph sound) root lt) (n + 1) n (omega arith) h in
      length-le_from_distinct_below (node_at nodes n).path (length graph.vertices) is.1.once
      (member_below (length graph.vertices) (node_at nodes n).path is.1.all)

  -- a real node is that of its path
  pub record IsReal (n : ℕ) : Type 0 where
    pub vertex : ℕ
    pub up : List ℕ
    pub is : node_at nodes n ≡ real_node vertex up

  pub real_is : (n : ℕ) → n < length parents → is_real (node_at nodes n).kind ≡ true → IsReal n
  real_is n h real = elim (cases_order 0 n) [
    | inl at ↦ record { vertex = root; up = []; is = ap (node_at nodes) (sym at) ∙ whole.at_root }
    | inr (inl some) ↦ let found = (hangs n some h).hangs.real real in
        record { vertex = found.0; up = (node_at nodes (slice_index parents n)).path; is = found.1 }
    | inr (inr less) ↦ absurd (omega arith)
  ]

  pub path_below : (n : ℕ) → 0 < n → n < length parents → is_real (node_at nodes n).kind ≡ true
      → (vertex : ℕ) × ((node_at nodes n).path ≡ vertex ∷ (node_at nodes (slice_index parents n)).path)
  path_below n some h real = let found = (hangs n some h).hangs.real real in
      (found.0, ap (λ (node : Node). node.path) found.1)

  -- below the root paths have two vertices or more
  pub long : (n : ℕ) → 0 < n → n < length parents → is_real (node_at nodes n).kind ≡ true
      → 1 < length (node_at nodes n).path
  long n some h real =
      let m = slice_index parents n in
      let less : m < n = whole.tree.behind n some h in
      let up = real_is m (omega arith) (hangs n some h).real in
      omega (arith, ap length (path_below n some h real).1, ap (λ (node : Node). length node.path) up.is)

  pub root_path : length (node_at nodes 0).path ≡ 1
  root_path = ap (λ (node : Node). length node.path) whole.at_root

  same_path_by : IsSound graph → (most i j : ℕ) → i < most → i < length parents → j < length parents
      → is_real (node_at nodes i).kind ≡ true → is_real (node_at nodes j).kind ≡ true
      → (node_at nodes i).path ≡ (node_at nodes j).path → i ≡ j
  same_path_by sound zero i j short hi hj ri rj e = absurd (omega arith)
  same_path_by sound (suc most) i j short hi hj ri rj e = elim (cases_order 0 i) [
    | inl zi ↦ elim (cases_order 0 j) [
      | inl zj ↦ sym zi ∙ zj
      | inr (inl some) ↦
          absurd (omega (arith, root_path, long j some hj rj, ap length e, ap (λ k. length (node_at nodes k).path) zi))
      | inr (inr less) ↦ absurd (omega arith)
    ]
    | inr (inl some) ↦ elim (cases_order 0 j) [
      | inl zj ↦
          absurd (omega (arith, root_path, long i some hi ri, ap length e, ap (λ k. length (node_at nodes k).path) zj))
      | inr (inl more) ↦ both some more (λ k l. same_path_by sound most k l)
      | inr (inr less) ↦ absurd (omega arith)
    ]
    | inr (inr less) ↦ absurd (omega arith)
  ]
    where
      both : 0 < i → 0 < j
          → ((k l : ℕ) → k < most → k < length parents → l < length parents → is_real (node_at nodes k).kind ≡ true
          → is_real (node_at nodes l).kind ≡ true → (node_at nodes k).path ≡ (node_at nodes l).path → k ≡ l)
          → i ≡ j
      both some more again =
          let m = slice_index parents i in
          let behind : m < i = whole.tree.behind i some hi in
          let after : slice_index parents j < j = whole.tree.behind j more hj in
          let up_i = path_below i some hi ri in
          let up_j = path_below j more hj rj in
          let place_parents : (node_at nodes m).path ≡ (node_at nodes (slice_index parents j)).path =
          tail_of (sym up_i.1 ∙ e ∙ up_j.1) in
          let same : m ≡ slice_index parents j =
          again m (slice_index parents j) (omega arith) (omega arith) (omega arith) (hangs i some hi).real
          (hangs j more hj).real place_parents in
          let differ : Pairwise (λ a b. AreApart (node_at nodes a) (node_at nodes b)) (children_of parents m) =
          pairs_apart (node_at nodes) (children_of parents m)
          (subst (λ ns. Different (real_paths ns)) (sym (whole.children m (omega arith)))
          (all_differ graph positions sound (node_at nodes m))) in
          elim (cases_order i j) [
            | inl is ↦ is
            | inr (inl less) ↦
                absurd
                (pair_has (λ a b. AreApart (node_at nodes a) (node_at nodes b)) parents m i j some less hj refl
                (sym same) differ ri rj e)
            | inr (inr above) ↦
                absurd
                (pair_has (λ a b. AreApart (node_at nodes a) (node_at nodes b)) parents m j i more above hi (sym same)
                refl differ rj ri (sym e))
          ]

  -- the real node of a path has one number
  pub same_path : IsSound graph → (i j : ℕ) → i < length parents → j < length parents
      → is_real (node_at nodes i).kind ≡ true → is_real (node_at nodes j).kind ≡ true
      → (node_at nodes i).path ≡ (node_at nodes j).path → i ≡ j
  same_path sound i j hi hj ri rj e = same_path_by sound (i + 1) i j (omega arith) hi hj ri rj e

-- the real node of a path has it
pub real_path : (path : List ℕ) → (real_at path).path ≡ path
real_path [] = refl
real_path (vertex ∷ up) = refl

pub real_kind : (path : List ℕ) → is_real (real_at path).kind ≡ true
real_kind [] = refl
real_kind (vertex ∷ up) = refl
