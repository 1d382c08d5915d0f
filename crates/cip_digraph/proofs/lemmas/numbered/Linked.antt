-- Each node hangs below an earlier one, as its child.
use Rattle.std.proofs.Common.{◌≡◌, ◌+◌, ◌<◌, ℕ, zero, suc, true, false, List, [], ◌∷◌, ◌++◌, map, length, refl, ap, sym}
use Rattle.std.proofs.Common.{◌∙◌, arith, subst, append_assoc, length-append, inl, inr}
use Rattle.std.specs.List.{AllByRecursion, slice_index_or}
use Rattle.std.proofs.lemmas.Bool.{cases_lt}
use Rattle.std.proofs.lemmas.List.{get_or_append_left, append-nil}
use Rattle.cip_digraph.specs.rings.Alternating.{is_in}
use Rattle.cip_digraph.specs.digraph.Digraph.{NodeKind, Real, Closure, Node, real_node, children}
use Rattle.cip_digraph.specs.graph.Graph.{Graph}
use Rattle.cip_digraph.specs.digraph.View.{real_at}
use Rattle.cip_digraph.proofs.lemmas.tree.Children.{Passed, children_have}
use Rattle.cip_digraph.proofs.lemmas.tree.Ended.{Anywhere, leads_anywhere}
use Rattle.cip_digraph.proofs.lemmas.lists.Elements.{all_by, all_append}
use Rattle.cip_digraph.proofs.lemmas.numbered.Placing.{Placed, next_sphere, spheres, placed}

abbrev pub no_placed : Placed
no_placed = record { parent = 0; node = real_at [] }

abbrev pub placed_at : List Placed → ℕ → Placed
placed_at ns k = slice_index_or ns k no_placed

abbrev pub ChildBy : NodeKind → List ℕ → List ℕ → ℕ → Type 0
ChildBy Real up path vertex = (path ≡ vertex ∷ up) × (is_in vertex up ≡ false)
ChildBy Closure up path vertex = (path ≡ up) × (is_in vertex up ≡ true)
ChildBy kind up path vertex = (path ≡ up) × (path ≡ up)

-- how a child hangs below a real node
pub record ChildOf (up n : Node) : Type 0 where
  pub above : up.kind ≡ Real
  pub child : ChildBy n.kind up.path n.path n.vertex

pub record HangsIn (ns : List Placed) (p : Placed) : Type 0 where
  pub earlier : p.parent < length ns
  pub hung : ChildOf (placed_at ns p.parent).node p.node

-- the first node is the root, and each later one hangs below an earlier one
pub record Linked (root : ℕ) (ns : List Placed) : Type 0 where
  pub some : 0 < length ns
  pub first : placed_at ns 0 ≡ record { parent = 0; node = real_node root [] }
  pub earlier : (k : ℕ) → 0 < k → k < length ns → (placed_at ns k).parent < k
  pub hung : (k : ℕ) → 0 < k → k < length ns → ChildOf (placed_at ns (placed_at ns k).parent).node (placed_at ns k).node

pub at_left : (ns ps : List Placed) (k : ℕ) → k < length ns → placed_at (ns ++ ps) k ≡ placed_at ns k
at_left ns ps k lt = get_or_append_left ns ps no_placed k lt

pub at_end : (ns : List Placed) (p : Placed) → placed_at (ns ++ p ∷ []) (length ns) ≡ p
at_end [] p = refl
at_end (n ∷ ns) p = at_end ns p

pub hangs_more : (ns ps : List Placed) (p : Placed) → HangsIn ns p → HangsIn (ns ++ ps) p
hangs_more ns ps p h = record {
  earlier = omega (arith, h.earlier, length-append ns ps);
  hung = subst (λ (q : Placed). ChildOf q.node p.node) (sym (at_left ns ps p.parent h.earlier)) h.hung;
}

pub linked_push : (root : ℕ) (ns : List Placed) (p : Placed) → Linked root ns → HangsIn ns p
    → Linked root (ns ++ p ∷ [])
linked_push root ns p l h =
    let more : length (ns ++ p ∷ []) ≡ length ns + 1 = length-append ns (p ∷ []) in
    record {
      some = omega (arith, more);
      first = at_left ns (p ∷ []) 0 l.some ∙ l.first;
      earlier = λ k some lt. elim (cases_lt k (length ns)) [
        | inl old ↦ subst (λ (q : Placed). q.parent < k) (sym (at_left ns (p ∷ []) k old)) (l.earlier k some old)
        | inr new ↦ let here : length ns ≡ k = omega (arith, lt, more) in
            rw (← here, at_end ns p) h.earlier
      ];
      hung = λ k some lt. elim (cases_lt k (length ns)) [
        | inl old ↦ let low = l.earlier k some old in
            rw (at_left ns (p ∷ []) k old, at_left ns (p ∷ []) (placed_at ns k).parent (omega arith))
            (l.hung k some old)
        | inr new ↦ let here : length ns ≡ k = omega (arith, lt, more) in
            rw (← here, at_end ns p) (hangs_more ns (p ∷ []) p h).hung
      ];
    }

all_hang_more : (ns qs ps : List Placed) → AllByRecursion (HangsIn ns) ps → AllByRecursion (HangsIn (ns ++ qs)) ps
all_hang_more ns qs ps all = all_by (HangsIn ns) (HangsIn (ns ++ qs)) (λ p h. hangs_more ns qs p h) ps all

pub linked_append : (root : ℕ) (ns ps : List Placed) → Linked root ns → AllByRecursion (HangsIn ns) ps
    → Linked root (ns ++ ps)
linked_append root ns [] l all = rw (append-nil ns) l
linked_append root ns (p ∷ ps) l all = rw (← append_assoc ns (p ∷ []) ps)
    (linked_append root (ns ++ p ∷ []) ps (linked_push root ns p l all.0) (all_hang_more ns (p ∷ []) ps all.1))

-- the children of a node hang below it
kids_of_real : (v : ℕ) (up : List ℕ) (w : ℕ) → Passed Anywhere v up
    (ChildOf (record { kind = Real; path = v ∷ up; vertex = w }))
kids_of_real v up w = record {
  reals = λ u _ e. record { above = refl; child = (refl, e) };
  closures = λ u _ e. record { above = refl; child = (refl, e) };
  multiples = λ u _. record { above = refl; child = (refl, refl) };
  delocaliseds = record { above = refl; child = (refl, refl) };
}

kids_hang_by : (g : Graph) (positions : List (List ℕ)) (kind : NodeKind) (path : List ℕ) (w : ℕ)
    → AllByRecursion (ChildOf (record { kind = kind; path = path; vertex = w }))
    (children g positions (record { kind = kind; path = path; vertex = w }))
kids_hang_by g positions Real (v ∷ up) w = children_have Anywhere v up
    (ChildOf (record { kind = Real; path = v ∷ up; vertex = w })) (kids_of_real v up w) g positions (leads_anywhere g v)
kids_hang_by g positions kind path w = tt

pub kids_hang : (g : Graph) (positions : List (List ℕ)) (n : Node) → AllByRecursion (ChildOf n) (children g positions n)
kids_hang g positions n = kids_hang_by g positions n.kind n.path n.vertex

-- the next sphere's nodes hang below those numbered from length done on
placed_hang : (all : List Placed) (i : ℕ) (n : Node) → i < length all → (placed_at all i).node ≡ n → (cs : List Node)
    → AllByRecursion (ChildOf n) cs → AllByRecursion (HangsIn all) (map (λ c. record { parent = i; node = c }) cs)
placed_hang all i n lt e [] h = tt
placed_hang all i n lt e (c ∷ cs) h = (
  record { earlier = lt; hung = subst (λ m. ChildOf m c) (sym e) h.0 },
  placed_hang
      all i n lt e cs h.1,
)

pub next_hang : (g : Graph) (positions : List (List ℕ)) (done ns : List Placed) → AllByRecursion (HangsIn (done ++ ns))
    (next_sphere g positions (length done) ns)
next_hang g positions done [] = tt
next_hang g positions done (n ∷ ns) =
    let more : length (done ++ n ∷ []) ≡ length done + 1 = length-append done (n ∷ []) in
    let lt : length done < length (done ++ n ∷ ns) = omega (arith, length-append done (n ∷ ns)) in
    let here : placed_at (done ++ n ∷ ns) (length done) ≡ n = rw (← append_assoc done (n ∷ []) ns)
    (at_left (done ++ n ∷ []) ns (length done) (omega (arith, more)) ∙ at_end done n) in
    all_append (HangsIn (done ++ n ∷ ns)) (map (λ c. record { parent = length done; node = c })
    (children g positions n.node)) (next_sphere g positions (length done + 1) ns)
    (placed_hang (done ++ n ∷ ns) (length done) n.node lt (ap (λ (p : Placed). p.node) here)
    (children g positions n.node) (kids_hang g positions n.node))
    (rw (← append_assoc done (n ∷ []) ns, ← more) (next_hang g positions (done ++ n ∷ []) ns))

-- in the digraph each node's parent is an earlier one, of which it is a child
pub digraph_linked : (g : Graph) (positions : List (List ℕ)) (root s : ℕ) → Linked root (placed g positions root s)
digraph_linked g positions root zero = record {
  some = omega arith;
  first = refl;
  earlier = λ k some lt. absurd
      (omega arith);
  hung = λ k some lt. absurd (omega arith);
}
digraph_linked g positions root (suc s) =
    let up = spheres g positions root s in
    linked_append root (up.before ++ up.last) (next_sphere g positions (length up.before) up.last)
    (digraph_linked g positions root s) (next_hang g positions up.before up.last)
