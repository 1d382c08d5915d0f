-- A digraph cut after a sphere: how its branches compare, as far as that sphere and where they have ended.
use Rattle.std.proofs.Common.{◌≡◌, ◌<◌, ◌≤◌, ◌+◌, ◌-◌, ℕ, ℤ, suc, Bool, true, false, cond, List, [], map, length}
use Rattle.std.proofs.Common.{refl, sym, ap, ◌∙◌, subst, arith, inl, inr}
use Rattle.std.proofs.lemmas.List.{map-id}
use Rattle.std.specs.Prelude.{nat_le}
use Rattle.std.specs.List.{AllByRecursion}
use Rattle.std.specs.List.Sorted.{IsPermutation}
use Rattle.std.specs.Cmp.{IsTotalOrder}
use Rattle.std.specs.declared.cmp.Ordering.{Ordering}
use Rattle.std.proofs.lemmas.Bool.{cases_lt}
use Rattle.std.proofs.lemmas.Bool.Decides.{nat_tests}
use Rattle.std.proofs.lemmas.List.Sorted.{IsPermutation-refl}
use Rattle.cip_rank.specs.Comparison.{comparison}
use Rattle.cip_rank.specs.Embedding.{Embeds}
use Rattle.cip_rank.proofs.lemmas.Embedded.{embedded_comparison}
use Rattle.cip_digraph.specs.declared.nodes.NodeKind.{NodeKind}
use Rattle.cip_digraph.specs.declared.nodes.NodeKind.TheVariants.{Real, Closure, Multiple, Delocalised}
use Rattle.cip_digraph.specs.digraph.Digraph.{Node, children, path_children}
use Rattle.cip_digraph.specs.digraph.SameBranch.{EndsWithin}
use Rattle.cip_digraph.specs.graph.Graph.{Graph}
use Rattle.cip_digraph.specs.rules.Orders.{all_tie}
use Rattle.cip_digraph.proofs.lemmas.tree.Ended.{IsPath, Anywhere, leads_anywhere, paths_pass}
use Rattle.cip_digraph.proofs.lemmas.lists.Elements.{all_by}
use Rattle.cip_digraph.proofs.lemmas.lists.Elements.{all_both}
use Rattle.cip_constitution.proofs.lemmas.seen.AllTie.{tie_total}

le_true : (a b : ℕ) → a ≤ b → nat_le a b ≡ true
le_true a b le = grind (arith, nat_tests)

le_false : (a b : ℕ) → b < a → nat_le a b ≡ false
le_false a b lt = grind (arith, nat_tests)

if_same : {X : Type 0} (b : Bool) (xs : List X) → cond b xs xs ≡ xs
if_same true xs = refl
if_same false xs = refl

module _ (g : Graph) (positions : List (List ℕ)) (s : ℕ) where
  -- its nodes have the children that they have, but for those of that sphere
  abbrev pub cut : Node → List Node
  cut node = cond (nat_le (length node.path) s) (children g positions node) []

  kept_by : (number : ℕ) (kind : NodeKind) (path : List ℕ) (vertex : ℕ)
      → IsPath Anywhere number (record { kind = kind; path = path; vertex = vertex }) → number < s
      → cut (record { kind = kind; path = path; vertex = vertex })
      ≡ children g positions (record { kind = kind; path = path; vertex = vertex })
  kept_by number Real path vertex h lt =
      let len = h.len in
      ap (λ b. cond b (path_children g positions path) []) (le_true (length path) s (omega (arith, len, lt)))
  kept_by number Closure path vertex h lt = if_same (nat_le (length path) s) []
  kept_by number Multiple path vertex h lt = if_same (nat_le (length path) s) []
  kept_by number Delocalised path vertex h lt = if_same (nat_le (length path) s) []

  pub kept : (number : ℕ) (node : Node) → IsPath Anywhere number node → number < s
      → cut node ≡ children g positions node
  kept number node h lt = kept_by number node.kind node.path node.vertex h lt

  last_by : (kind : NodeKind) (path : List ℕ) (vertex : ℕ)
      → IsPath Anywhere s (record { kind = kind; path = path; vertex = vertex })
      → cut (record { kind = kind; path = path; vertex = vertex }) ≡ []
  last_by Real path vertex h =
      let len = h.len in
      ap (λ b. cond b (path_children g positions path) []) (le_false (length path) s (omega (arith, len)))
  last_by Closure path vertex h = if_same (nat_le (length path) s) []
  last_by Multiple path vertex h = if_same (nat_le (length path) s) []
  last_by Delocalised path vertex h = if_same (nat_le (length path) s) []

  pub last : (node : Node) → IsPath Anywhere s node → cut node ≡ []
  last node h = last_by node.kind node.path node.vertex h

  pub below_paths : (number : ℕ) (node : Node) → IsPath Anywhere number node
      → AllByRecursion (IsPath Anywhere (suc number)) (children g positions node)
  below_paths number node h = (paths_pass g positions Anywhere (λ vertex _. leads_anywhere g vertex) 0 tt).step number
      node h

  -- n spheres below a node there are still nodes before that sphere
  pub record IsNear (depth : ℕ) (node : Node) : Type 0 where
    pub number : ℕ
    pub path : IsPath Anywhere number node
    pub low : number + depth ≤ s

  moved : (node : Node) → cut node ≡ children g positions node
      → IsPermutation (map (λ n. n) (children g positions node)) (cut node)
  moved node is = subst (IsPermutation (map (λ n. n) (children g positions node)))
      (map-id (children g positions node) ∙ sym is)
      (IsPermutation-refl (map (λ n. n) (children g positions node)))

  pub cut_first : (key : Node → ℤ) (depth : ℕ) (a b : Node) → IsNear depth a → IsNear depth b
      → comparison cut all_tie key depth a b ≡ comparison (children g positions) all_tie key depth a b
  cut_first key depth a b of_a of_b =
      embedded_comparison (λ node. node) IsNear (children g positions) cut all_tie all_tie key key embeds tie_total
      depth a b of_a of_b
    where
      embeds : Embeds (λ node. node) IsNear (children g positions) cut all_tie all_tie key key
      embeds = record {
        moved = λ depth node h. moved node (kept h.number node h.path (let low = h.low in omega (arith, low)));
        below = λ depth node h.
            all_by (IsPath Anywhere (suc h.number)) (IsNear depth)
            (λ child p. record { number = suc h.number; path = p; low = let low = h.low in omega (arith, low) })
            (children g positions node) (below_paths h.number node h.path);
        less = λ depth node h. record { number = h.number; path = h.path; low = let low = h.low in omega (arith, low) };
        orders = λ a b _ _. refl;
        keys = λ a _. refl;
      }

  -- a node whose branch ends with that sphere, or before it
  pub record IsOver (node : Node) : Type 0 where
    pub number : ℕ
    pub path : IsPath Anywhere number node
    pub low : number ≤ s
    pub ends : EndsWithin (children g positions) (s - number) node

  over_kept : (node : Node) → IsOver node → cut node ≡ children g positions node
  over_kept node h = elim (cases_lt h.number s) [
    | inl lt ↦ kept h.number node h.path lt
    | inr out ↦
        let low = h.low in
        let at : h.number ≡ s = omega (arith, low, out) in
        let none : s - h.number ≡ 0 = omega (arith, at) in
        last node (subst (λ number. IsPath Anywhere number node) at h.path)
        ∙ sym (subst (λ k. EndsWithin (children g positions) k node) none h.ends)
  ]

  over_below : (node : Node) → IsOver node → AllByRecursion IsOver (children g positions node)
  over_below node h = elim (cases_lt h.number s) [
    | inl lt ↦
        let next : s - h.number ≡ suc (s - suc h.number) = omega (arith, lt) in
        all_by (λ child. IsPath Anywhere (suc h.number) child
        × EndsWithin (children g positions) (s - suc h.number) child) IsOver
        (λ child p. record { number = suc h.number; path = p.0; low = omega (arith, lt); ends = p.1 })
        (children g positions node)
        (all_both (IsPath Anywhere (suc h.number)) (EndsWithin (children g positions) (s - suc h.number))
        (children g positions node) (below_paths h.number node h.path)
        (subst (λ k. EndsWithin (children g positions) k node) next h.ends))
    | inr out ↦
        let none : s - h.number ≡ 0 = omega (arith, out) in
        subst (AllByRecursion IsOver) (sym (subst (λ k. EndsWithin (children g positions) k node) none h.ends)) tt
  ]

  -- and such branches compare as they do in the digraph
  pub cut_over : (earlier theirs : Node → Node → Ordering)
      → ((a b : Node) → IsOver a → IsOver b → theirs a b ≡ earlier a b) → IsTotalOrder theirs → (key : Node → ℤ)
      (depth : ℕ) (a b : Node) → IsOver a → IsOver b
      → comparison cut theirs key depth a b ≡ comparison (children g positions) earlier key depth a b
  cut_over earlier theirs same o key depth a b of_a of_b =
      embedded_comparison (λ node. node) (λ depth node. IsOver node) (children g positions) cut earlier theirs key key
      embeds o depth a b of_a of_b
    where
      embeds : Embeds (λ node. node) (λ depth node. IsOver node) (children g positions) cut earlier theirs key key
      embeds = record {
        moved = λ depth node h. moved node (over_kept node h);
        below = λ depth node h. over_below node h;
        less = λ depth node h. h;
        orders = same;
        keys = λ a _. refl;
      }
