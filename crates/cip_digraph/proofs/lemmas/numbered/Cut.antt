-- Comparisons of numbered nodes in the digraph cut after a sphere are those of the nodes in the whole digraph.
use Rattle.std.proofs.Common.{◌≡◌, ◌<◌, ◌≤◌, ◌+◌, ◌-◌, ℕ, zero, suc, ℤ, List, [], ◌∷◌, ◌++◌, map, length, slice_index}
use Rattle.std.proofs.Common.{refl, sym, ap, ◌∙◌, subst, arith, length-append, inl, inr, Ordering}
use Rattle.std.specs.List.{AllByRecursion}
use Rattle.std.specs.List.Sorted.{IsPermutation}
use Rattle.std.specs.Cmp.{IsTotalOrder}
use Rattle.std.proofs.lemmas.Bool.{cases_lt}
use Rattle.std.proofs.lemmas.List.{get_or-map, length-map}
use Rattle.std.proofs.lemmas.List.Sorted.{IsPermutation-refl}
use Rattle.std.proofs.lemmas.List.Elements.{All-from_recursion}
use Rattle.cip_rank.specs.Comparison.{comparison}
use Rattle.cip_rank.specs.Tree.{children_of}
use Rattle.cip_rank.specs.Embedding.{Embeds}
use Rattle.cip_rank.proofs.lemmas.Children.{IsChild, children_are}
use Rattle.cip_rank.proofs.lemmas.Embedded.{embedded_comparison}
use Rattle.cip_digraph.specs.graph.Graph.{Graph}
use Rattle.cip_digraph.specs.digraph.Digraph.{Node, children}
use Rattle.cip_digraph.specs.digraph.SameBranch.{EndsWithin}
use Rattle.cip_digraph.proofs.lemmas.lists.Elements.{all_by, all_both, all_unmapped}
use Rattle.cip_digraph.proofs.lemmas.numbered.Linked.{no_placed, placed_at, at_left}
use Rattle.cip_digraph.proofs.lemmas.numbered.Placing.{Placed, next_sphere, spheres, placed, parents}
use Rattle.cip_digraph.proofs.lemmas.numbered.Hanging.{node_at, next_range, at_behind, by_numbers, numbered_kids, last_kids}

pub none_mapped : (f : ℕ → Node) (cs : List ℕ) → map f cs ≡ [] → cs ≡ []
none_mapped f [] e = refl
none_mapped f (c ∷ cs) e = absurd cc

module _ (g : Graph) (positions : List (List ℕ)) (root : ℕ) where
  abbrev pub size : ℕ → ℕ
  size s = length (placed g positions root s)

  size_next : (s : ℕ) → size s ≤ size (suc s)
  size_next s = let up = spheres g positions root s in
      omega (arith, length-append (up.before ++ up.last) (next_sphere g positions (length up.before) up.last))

  pub size_le : (s t : ℕ) → s ≤ t → size s ≤ size t
  size_le s zero h = let none : s ≡ 0 = omega arith in rw none (omega arith)
  size_le s (suc t) h = elim (cases_lt t s) [
    | inl here ↦ let same : s ≡ suc t = omega arith in rw same (omega arith)
    | inr below ↦ let rest = size_le s t below in let next = size_next t in omega (arith, rest, next)
  ]

  -- the parents of a sphere's nodes are the nodes of the sphere before
  sphere_parents : (s c : ℕ) → size s ≤ c → c < size (suc s)
      → (length (spheres g positions root s).before ≤ (placed_at (placed g positions root (suc s)) c).parent)
      × ((placed_at (placed g positions root (suc s)) c).parent < size s)
  sphere_parents s c high low =
      let up = spheres g positions root s in
      let all = placed g positions root s in
      let next = next_sphere g positions (length up.before) up.last in
      let back : size s + (c - size s) ≡ c = omega arith in
      let at : placed_at (all ++ next) c ≡ placed_at next (c - size s) = ap (placed_at (all ++ next)) (sym back)
      ∙ at_behind g positions all next (c - size s) in
      let range = All-from_recursion
      (λ (p : Placed). (length up.before ≤ p.parent) × (p.parent < length up.before + length up.last)) next
      (next_range g positions (length up.before) up.last) (c - size s) no_placed
      (omega (arith, length-append all next, low, high)) in
      let below : (placed_at next (c - size s)).parent < length up.before + length up.last = range.1 in
      rw at (range.0, omega (arith, below, length-append up.before up.last))

  -- a node beyond sphere t + 1 hangs below a node beyond sphere t
  late : (s t c : ℕ) → size (suc t) ≤ c → c < size s → size t ≤ (placed_at (placed g positions root s) c).parent
  late zero t c high low = let some = size_le zero (suc t) (omega arith) in absurd (omega (arith, some, high, low))
  late (suc s) t c high low =
      let up = spheres g positions root s in
      let all = placed g positions root s in
      let next = next_sphere g positions (length up.before) up.last in
      elim (cases_lt c (size s)) [
        | inl old ↦ rw (at_left all next c old) (late s t c high old)
        | inr new ↦
            let from = (sphere_parents s c new low).0 in
            let far : size t ≤ length up.before = before_high s t c high low in
            omega (arith, from, far)
      ]
    where
      before_high : (s t c : ℕ) → size (suc t) ≤ c → c < size (suc s)
          → size t ≤ length (spheres g positions root s).before
      before_high zero t c high low = elim (cases_lt t 0) [
        | inl low' ↦ absurd (omega arith)
        | inr high' ↦ let le =
            size_le (suc zero) (suc t) (omega arith) in absurd (omega (arith, le, high, low))
      ]
      before_high (suc s) t c high low = elim (cases_lt s t) [
        | inl far ↦ let le = size_le (suc (suc s)) (suc t) (omega arith) in absurd (omega (arith, le, high, low))
        | inr nearer ↦ size_le t s nearer
      ]

  -- a node up to sphere t + 1 hangs below a node up to sphere t
  soon : (s t c : ℕ) → c < size (suc t) → c < size s → (placed_at (placed g positions root s) c).parent < size t
  soon zero t c high low = let some = size_le zero t (omega arith) in let first : c ≡ 0 = omega (arith, low) in
      rw first (omega (arith, some))
  soon (suc s) t c high low =
      let up = spheres g positions root s in
      let all = placed g positions root s in
      let next = next_sphere g positions (length up.before) up.last in
      elim (cases_lt c (size s)) [
        | inl old ↦ rw (at_left all next c old) (soon s t c high old)
        | inr new ↦
            let below = (sphere_parents s c new low).1 in
            let nearer : size s ≤ size t = close s t c high new in
            omega (arith, below, nearer)
      ]
    where
      close : (s t c : ℕ) → c < size (suc t) → size s ≤ c → size s ≤ size t
      close s t c high low = elim (cases_lt t s) [
        | inl short ↦ let le = size_le (suc t) s (omega arith) in absurd (omega (arith, le, high, low))
        | inr long ↦ size_le s t long
      ]

  module _ (s : ℕ) where
    abbrev all : List Placed
    all = placed g positions root s

    abbrev numbers : List ℕ
    numbers = parents all

    parent_at : (c : ℕ) → c < size s → slice_index numbers c ≡ (placed_at all c).parent
    parent_at c lt = get_or-map (λ (p : Placed). p.parent) all c no_placed 0 lt

    -- a child is at most a sphere further out
    pub kids_near : (t n : ℕ) → n < size t → AllByRecursion (λ c. c < size (suc t)) (children_of numbers n)
    kids_near t n lt = all_by (IsChild numbers n) (λ c. c < size (suc t)) (λ c h.
        let low : c < size s = let a = h.below in omega (arith, a, length-map all (λ (p : Placed). p.parent)) in
        elim (cases_lt c (size (suc t))) [
          | inl good ↦ good
          | inr high ↦ let is = h.parent in let at = parent_at c low in let far = late s t c high low in
              absurd (omega (arith, is, at, far, lt))
        ])
        (children_of numbers n) (children_are numbers n)

    -- and at least one
    pub kids_far : (t n : ℕ) → size t ≤ n → AllByRecursion (λ c. size (suc t) ≤ c) (children_of numbers n)
    kids_far t n le = all_by (IsChild numbers n) (λ c. size (suc t) ≤ c) (λ c h.
        let low : c < size s = let a = h.below in omega (arith, a, length-map all (λ (p : Placed). p.parent)) in
        elim (cases_lt c (size (suc t))) [
          | inl nearer ↦ let is = h.parent in let at = parent_at c low in let early = soon s t c nearer low in
              absurd (omega (arith, is, at, early, le))
          | inr good ↦ good
        ])
        (children_of numbers n) (children_are numbers n)

    before_size : (d : ℕ) → suc d ≤ s → (n : ℕ) → n < size (s - suc d) → n < length (spheres g positions root s).before
    before_size d h n lt = go s (omega arith) lt
      where
        go : (t : ℕ) → suc d ≤ t → n < size (t - suc d) → n < length (spheres g positions root t).before
        go zero h lt = absurd (omega arith)
        go (suc t) h lt = let le = size_le (suc t - suc d) t (omega arith) in omega (arith, le, lt)

    -- numbered nodes that have d more spheres in the cut tree
    pub record Deep (d n : ℕ) : Type 0 where
      pub few : d ≤ s
      pub low : n < size (s - d)

    module _ (prior : Node → Node → Ordering) (node_data : ℕ → ℕ → Ordering) (key : Node → ℤ) (told_key : ℕ → ℤ)
        (same : (a b : ℕ) → a < size s → b < size s → prior (node_at all a) (node_at all b) ≡ node_data a b)
        (keys : (a : ℕ) → a < size s → key (node_at all a) ≡ told_key a) where
      deep_low : (n : ℕ) → Deep 0 n → n < size s
      deep_low n p = let at : s - 0 ≡ s = omega arith in subst (λ t. n < size t) at p.low

      cut_embeds : Embeds (node_at all) Deep (children_of numbers) (children g positions) node_data prior told_key key
      cut_embeds = record {
        moved = λ d n p. subst (IsPermutation (map (node_at all) (children_of numbers n)))
            (numbered_kids g positions root s n (before_size d p.few n p.low))
            (IsPermutation-refl (map (node_at all) (children_of numbers n)));
        below = λ d n p. let at : suc (s - suc d) ≡ s - d = let few = p.few in omega arith in
            all_by (λ c. c < size (suc (s - suc d))) (Deep d) (λ c h. record {
              few = let few = p.few in omega arith;
              low = subst (λ t. c < size t) at h;
            }) (children_of numbers n) (kids_near (s - suc d) n p.low);
        less = λ d n p. record {
          few = let few = p.few in omega arith;
          low = let le = size_le (s - suc d) (s - d)
              (omega arith) in let low = p.low in omega (arith, le, low);
        };
        orders = λ a b p q. same a b (deep_low a p) (deep_low b q);
        keys = λ a p. keys a (deep_low a p);
      }

      -- in the digraph cut after sphere s, nodes comparison at depth d as in the whole one, where they have d more
      -- spheres
      pub cut_compare : IsTotalOrder prior → (d a b : ℕ) → Deep d a → Deep d b → comparison (children g positions) prior
          key d (node_at all a) (node_at all b) ≡ comparison (children_of numbers) node_data told_key d a b
      cut_compare o d a b pa pb = embedded_comparison (node_at all) Deep (children_of numbers) (children g positions)
          node_data prior told_key key cut_embeds o d a b pa pb

    -- numbered nodes whose whole branch is in the cut tree
    pub record Whole (n : ℕ) : Type 0 where
      pub depth : ℕ
      pub few : depth ≤ s
      pub low : n < size (s - depth)
      pub ends : EndsWithin (children g positions) depth (node_at all n)

    no_kids : (n : ℕ) → n < size s → children g positions (node_at all n) ≡ []
        → map (node_at all) (children_of numbers n) ≡ children g positions (node_at all n)
    no_kids n lt none = elim (cases_lt n (length (spheres g positions root s).before)) [
      | inl old ↦ numbered_kids g positions root s n old
      | inr last ↦ by_numbers g positions all n ∙ last_kids g positions root s n last ∙ sym none
    ]

    whole_moved : (n d : ℕ) → d ≤ s → n < size (s - d) → EndsWithin (children g positions) d (node_at all n)
        → map (node_at all) (children_of numbers n) ≡ children g positions (node_at all n)
    whole_moved n zero few low e = let same : s - 0 ≡ s = omega arith in no_kids n (subst (λ t. n < size t) same low) e
    whole_moved n (suc d) few low e = numbered_kids g positions root s n (before_size d few n low)

    whole_below : (n d : ℕ) → d ≤ s → n < size (s - d) → EndsWithin (children g positions) d (node_at all n)
        → AllByRecursion Whole (children_of numbers n)
    whole_below n zero few low e =
        rw (none_mapped (node_at all) (children_of numbers n) (whole_moved n zero few low e ∙ e)) tt
    whole_below n (suc d) few low e =
        let at : suc (s - suc d) ≡ s - d = omega arith in
        let kids = all_unmapped (EndsWithin (children g positions) d) (node_at all) (children_of numbers n)
        (subst (AllByRecursion (EndsWithin (children g positions) d)) (sym (whole_moved n (suc d) few low e)) e) in
        all_by (λ c. (c < size (suc (s - suc d))) × EndsWithin (children g positions) d (node_at all c)) Whole
        (λ c h. record { depth = d; few = omega arith; low = subst (λ t. c < size t) at h.0; ends = h.1 })
        (children_of numbers n) (all_both (λ c. c < size (suc (s - suc d))) (λ c. EndsWithin (children g positions) d
        (node_at all c)) (children_of numbers n) (kids_near (s - suc d) n low) kids)

    pub whole_low : (n : ℕ) → Whole n → n < size s
    whole_low n p = let le = size_le (s - p.depth) s (omega arith) in let low = p.low in omega (arith, le, low)

    module _ (prior : Node → Node → Ordering) (node_data : ℕ → ℕ → Ordering) (key : Node → ℤ) (told_key : ℕ → ℤ)
        (same : (a b : ℕ) → Whole a → Whole b → prior (node_at all a) (node_at all b) ≡ node_data a b)
        (keys : (a : ℕ) → a < size s → key (node_at all a) ≡ told_key a) where
      whole_embeds : Embeds (node_at all) (λ d n. Whole n) (children_of numbers) (children g positions) node_data prior
          told_key key
      whole_embeds = record {
        moved = λ d n p. subst (IsPermutation (map (node_at all) (children_of numbers n))) (whole_moved n p.depth p.few
            p.low p.ends) (IsPermutation-refl (map (node_at all) (children_of numbers n)));
        below = λ d n p. whole_below n p.depth p.few p.low p.ends;
        less = λ d n p. p;
        orders = same;
        keys = λ a p. keys a (whole_low a p);
      }

      -- nodes whose branches are whole comparison at every depth as in the whole digraph, also over an earlier rule
      pub whole_compare : IsTotalOrder prior → (d a b : ℕ) → Whole a → Whole b → comparison (children g positions) prior
          key d (node_at all a) (node_at all b) ≡ comparison (children_of numbers) node_data told_key d a b
      whole_compare o d a b pa pb = embedded_comparison (node_at all) (λ d n. Whole n) (children_of numbers)
          (children g positions) node_data prior told_key key whole_embeds o d a b pa pb
