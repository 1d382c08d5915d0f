-- The children in the numbered list are the children of the nodes.
use Rattle.std.proofs.Common.{◌≡◌, ◌<◌, ◌≤◌, ◌+◌, ◌-◌, ◌==◌, ℕ, zero, suc, Bool, true, false, cond, List, [], ◌∷◌, ◌++◌}
use Rattle.std.proofs.Common.{map, length, refl, sym, ap, ◌∙◌, subst, arith, length-append, append_assoc, inl, inr, ◌⊎◌}
use Rattle.std.specs.List.{AllByRecursion}
use Rattle.std.proofs.lemmas.Bool.{cases_lt, ne_eqb, eq-eqb}
use Rattle.std.proofs.lemmas.List.{append-nil}
use Rattle.cip_rank.specs.Tree.{children_from, children_of}
use Rattle.cip_digraph.specs.graph.Graph.{Graph}
use Rattle.cip_digraph.specs.digraph.Digraph.{Node, children}
use Rattle.cip_digraph.proofs.lemmas.numbered.Linked.{placed_at, at_left, at_end}
use Rattle.cip_digraph.proofs.lemmas.numbered.Placing.{Placed, next_sphere, spheres, placed, parents, hung}
use Rattle.cip_digraph.proofs.lemmas.lists.Elements.{all_by, all_append}

abbrev pub node_at : List Placed → ℕ → Node
node_at ns k = (placed_at ns k).node

-- the nodes with this parent
abbrev pub hanging : ℕ → List Placed → List Node
hanging k [] = []
hanging k (p ∷ ps) = cond (p.parent == k) (p.node ∷ hanging k ps) (hanging k ps)

hanging_append : (k : ℕ) (xs ys : List Placed) → hanging k (xs ++ ys) ≡ hanging k xs ++ hanging k ys
hanging_append k [] ys = refl
hanging_append k (x ∷ xs) ys =
    ap (λ zs. cond (x.parent == k) (x.node ∷ zs) zs) (hanging_append k xs ys)
    ∙ elim (x.parent == k) as (λ b. cond b (x.node ∷ (hanging k xs ++ hanging k ys)) (hanging k xs ++ hanging k ys)
    ≡ cond b (x.node ∷ hanging k xs) (hanging k xs) ++ hanging k ys) [ true ↦ refl | false ↦ refl ]

-- by the numbers of the children
numbers_hang : (done qs : List Placed) (k : ℕ) → map (node_at (done ++ qs)) (children_from (length done) (parents qs) k)
    ≡ hanging k qs
numbers_hang done [] k = refl
numbers_hang done (q ∷ qs) k =
    let more : length (done ++ q ∷ []) ≡ length done + 1 = length-append done (q ∷ []) in
    let whole : (done ++ q ∷ []) ++ qs ≡ done ++ q ∷ qs = append_assoc done (q ∷ []) qs in
    let here : node_at (done ++ q ∷ qs) (length done) ≡ q.node =
    rw (← whole) (ap (λ (p : Placed). p.node) (at_left (done ++ q ∷ []) qs (length done) (omega (arith, more))
    ∙ at_end done q)) in
    let rest : map (node_at (done ++ q ∷ qs)) (children_from (length done + 1) (parents qs) k) ≡ hanging k qs =
    rw (← whole, ← more) (numbers_hang (done ++ q ∷ []) qs k) in
    elim (q.parent == k) as (λ b. map (node_at (done ++ q ∷ qs))
    (cond b (length done ∷ children_from (length done + 1) (parents qs) k) (children_from (length done + 1)
    (parents qs) k)) ≡ cond b (q.node ∷ hanging k qs) (hanging k qs)) [
      | true ↦ rw (here, rest) refl
      | false ↦ rest
    ]

hanging_none : (k : ℕ) (qs : List Placed) → AllByRecursion (λ (q : Placed). (q.parent == k) ≡ false) qs
    → hanging k qs ≡ []
hanging_none k [] all = refl
hanging_none k (q ∷ qs) all = rw (all.0) (hanging_none k qs all.1)

hanging_same : (k i : ℕ) (b : Bool) → (i == k) ≡ b → (cs : List Node)
    → hanging k (map (λ c. record { parent = i; node = c }) cs) ≡ cond b cs []
hanging_same k i true e [] = refl
hanging_same k i false e [] = refl
hanging_same k i true e (c ∷ cs) = rw (e, hanging_same k i true e cs) refl
hanging_same k i false e (c ∷ cs) = rw e (hanging_same k i false e cs)

module _ (g : Graph) (positions : List (List ℕ)) where
  placed_range : (lo hi i : ℕ) → lo ≤ i → i < hi → (cs : List Node)
      → AllByRecursion (λ (p : Placed). (lo ≤ p.parent) × (p.parent < hi)) (map (λ c. record { parent = i; node = c })
      cs)
  placed_range lo hi i a b [] = tt
  placed_range lo hi i a b (c ∷ cs) = ((a, b), placed_range lo hi i a b cs)

  -- the next sphere's parents are the nodes of the sphere
  pub next_range : (i : ℕ) (ns : List Placed)
      → AllByRecursion (λ (p : Placed). (i ≤ p.parent) × (p.parent < i + length ns)) (next_sphere g positions i ns)
  next_range i [] = tt
  next_range i (n ∷ ns) = all_append (λ (p : Placed). (i ≤ p.parent) × (p.parent < i + length (n ∷ ns)))
      (map (λ c. record { parent = i; node = c }) (children g positions n.node)) (next_sphere g positions (i + 1) ns)
      (placed_range i (i + length (n ∷ ns)) i (omega arith) (omega arith) (children g positions n.node))
      (all_by (λ (p : Placed). (i + 1 ≤ p.parent) × (p.parent < i + 1 + length ns))
      (λ (p : Placed). (i ≤ p.parent) × (p.parent < i + length (n ∷ ns))) (λ p h. let a = h.0 in let b = h.1 in
      (omega (arith, a), omega (arith, b))) (next_sphere g positions (i + 1) ns) (next_range (i + 1) ns))

  -- none hang below what isn't in the sphere
  next_none : (i k : ℕ) (ns : List Placed) → (k < i) ⊎ (i + length ns ≤ k) → hanging k (next_sphere g positions i ns)
      ≡ []
  next_none i k ns out = hanging_none k (next_sphere g positions i ns)
      (all_by (λ (p : Placed). (i ≤ p.parent) × (p.parent < i + length ns)) (λ (p : Placed). (p.parent == k) ≡ false)
      (λ p h. let a = h.0 in let b = h.1 in ne_eqb p.parent k
      (λ e. elim out [
        | inl low ↦ absurd (omega (arith, a, e, low))
        | inr high ↦ absurd (omega (arith, b, e, high))
      ])) (next_sphere g positions i ns) (next_range i ns))

  next_hanging : (i m : ℕ) (ns : List Placed) → m < length ns → hanging (i + m) (next_sphere g positions i ns)
      ≡ children g positions (node_at ns m)
  next_hanging i m [] lt = absurd (omega arith)
  next_hanging i zero (n ∷ ns) lt =
      let at : i + 0 ≡ i = omega arith in
      let kids = children g positions n.node in
      rw (
        hanging_append (i + 0) (hung i kids) (next_sphere g positions (i + 1) ns),
        hanging_same (i + 0) i true (eq-eqb i (i + 0) (sym at)) kids,
        next_none (i + 1) (i + 0) ns (inl (omega arith)),
      ) (append-nil kids)
  next_hanging i (suc m) (n ∷ ns) lt =
      let at : i + suc m ≡ i + 1 + m = omega arith in
      let kids = children g positions n.node in
      rw (
        hanging_append (i + suc m) (hung i kids) (next_sphere g positions (i + 1) ns),
        hanging_same (i + suc m) i false (ne_eqb i (i + suc m) (λ e. absurd (omega (arith, e)))) kids,
        at,
      )
      (next_hanging (i + 1) m ns (omega arith))

  -- all nodes but the root
  abbrev pub others : List Placed → List Placed
  others [] = []
  others (p ∷ ps) = ps

  others_append : (xs ys : List Placed) → 0 < length xs → others (xs ++ ys) ≡ others xs ++ ys
  others_append [] ys some = absurd (omega arith)
  others_append (x ∷ xs) ys some = refl

  pub some_node : (root s : ℕ) → 0 < length (placed g positions root s)
  some_node root zero = omega arith
  some_node root (suc s) = let rest = some_node root s in let up = spheres g positions root s in
      omega (arith, rest, length-append (up.before ++ up.last) (next_sphere g positions (length up.before) up.last))

  pub low_parents : (root s : ℕ) → AllByRecursion (λ (p : Placed). p.parent < length
      (spheres g positions root s).before) (others (placed g positions root s))
  low_parents root zero = tt
  low_parents root (suc s) =
      let up = spheres g positions root s in
      let all = placed g positions root s in
      let len = length-append up.before up.last in
      subst (AllByRecursion (λ (p : Placed). p.parent < length all))
      (sym (others_append all (next_sphere g positions (length up.before) up.last) (some_node root s)))
      (all_append (λ (p : Placed). p.parent < length all) (others all) (next_sphere g positions (length up.before)
      up.last)
      (all_by (λ (p : Placed). p.parent < length up.before) (λ (p : Placed). p.parent < length all)
      (λ p h. omega (arith, h, len)) (others all) (low_parents root s))
      (all_by (λ (p : Placed). (length up.before ≤ p.parent) × (p.parent < length up.before + length up.last))
      (λ (p : Placed). p.parent < length all) (λ p h. let b = h.1 in omega (arith, b, len))
      (next_sphere g positions (length up.before) up.last) (next_range (length up.before) up.last)))

  -- below the last sphere nothing hangs
  pub last_kids : (root s k : ℕ) → length (spheres g positions root s).before ≤ k
      → hanging k (others (placed g positions root s)) ≡ []
  last_kids root s k high = hanging_none k (others (placed g positions root s))
      (all_by (λ (p : Placed). p.parent < length (spheres g positions root s).before)
      (λ (p : Placed). (p.parent == k) ≡ false) (λ p h. ne_eqb p.parent k (λ e. absurd (omega (arith, h, e, high))))
      (others (placed g positions root s)) (low_parents root s))

  pub at_behind : (done last : List Placed) (m : ℕ) → placed_at (done ++ last) (length done + m) ≡ placed_at last m
  at_behind [] last m = ap (placed_at last) (omega arith)
  at_behind (d ∷ done) last m =
      let next : length (d ∷ done) + m ≡ suc (length done + m) = omega arith in
      ap (placed_at (d ∷ done ++ last)) next ∙ at_behind done last m

  -- and below each node before it its children do
  pub all_hanging : (root s k : ℕ) → k < length (spheres g positions root s).before
      → hanging k (others (placed g positions root s)) ≡ children g positions (node_at (placed g positions root s) k)
  all_hanging root zero k lt = absurd (omega arith)
  all_hanging root (suc s) k lt =
      let up = spheres g positions root s in
      let all = placed g positions root s in
      let next = next_sphere g positions (length up.before) up.last in
      let len : length all ≡ length up.before + length up.last = length-append up.before up.last in
      ap (hanging k) (others_append all next (some_node root s)) ∙ hanging_append k (others all) next
      ∙ elim (cases_lt k (length up.before)) [
        | inl old ↦ rw (all_hanging root s k old, next_none (length up.before) k up.last (inl old))
            (append-nil (children g positions (node_at all k))
            ∙ ap (λ (p : Placed). children g positions p.node) (sym (at_left all next k lt)))
        | inr new ↦
            let back : length up.before + (k - length up.before) ≡ k = omega arith in
            let at : placed_at up.last (k - length up.before) ≡ placed_at (all ++ next) k =
            sym (at_behind up.before up.last (k - length up.before)) ∙ ap (placed_at all) back
            ∙ sym (at_left all next k lt) in
            rw (last_kids root s k new)
            (subst (λ j. hanging j next ≡ children g positions (node_at (all ++ next) k)) back
            (next_hanging (length up.before) (k - length up.before) up.last (omega (arith, len, lt))
            ∙ ap (λ (p : Placed). children g positions p.node) at))
      ]

  pub by_numbers : (ns : List Placed) (k : ℕ) → map (node_at ns) (children_of (parents ns) k) ≡ hanging k (others ns)
  by_numbers [] k = refl
  by_numbers (n ∷ ns) k = numbers_hang (n ∷ []) ns k

  -- the numbers of a node's children, in the digraph cut after sphere s, are those of its children, where it is not in
  -- the last sphere
  pub numbered_kids : (root s k : ℕ) → k < length (spheres g positions root s).before
      → map (node_at (placed g positions root s)) (children_of (parents (placed g positions root s)) k) ≡ children g
      positions (node_at (placed g positions root s) k)
  numbered_kids root s k lt = by_numbers (placed g positions root s) k ∙ all_hanging root s k lt
