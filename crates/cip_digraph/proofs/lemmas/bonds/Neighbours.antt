-- In a sound graph the neighbours of a vertex are all different, and the order of the edges at it loses none.
use Rattle.std.proofs.Common.{◌≡◌, ◌≢◌, ◌<◌, ◌≤◌, arith, ℕ, Bool, true, false, cond, ◌&&◌, ◌||◌, ◌==◌, List, [], ◌∷◌}
use Rattle.std.proofs.Common.{map, refl, sym, ◌∙◌, nat_lt, filter, eqb-true, eq-eqb, ltb-true, ltb-false}
use Rattle.std.specs.List.{AllByRecursion}
use Rattle.std.proofs.lemmas.Bool.{or_right}
use Rattle.cip_digraph.specs.declared.drawing.graph.Edge.{Edge}
use Rattle.cip_digraph.specs.graph.Graph.{Graph, edges_at, insert_up, sorted_up, other_end, touches}
use Rattle.cip_digraph.specs.graph.SoundGraphs.{join_same, IsSound}
use Rattle.cip_digraph.proofs.lemmas.lists.Elements.{all_by, Pairwise, pairwise_filtered, pairwise_mapped, pairwise_from_pairs}
use Rattle.cip_digraph.proofs.lemmas.lists.Elements.{all_told}

if_later : (P : Edge → Type 0) (later : Bool) (edge next : Edge) (edges others : List Edge) → P edge → P next
    → AllByRecursion P edges
    → AllByRecursion P others → AllByRecursion P (cond later (next ∷ others) (edge ∷ next ∷ edges))
if_later P true edge next edges others p q all more = (q, more)
if_later P false edge next edges others p q all more = (p, (q, all))

insert_all : (P : Edge → Type 0) (vertex : ℕ) (edge : Edge) (edges : List Edge) → P edge → AllByRecursion P edges
    → AllByRecursion P (insert_up vertex edge edges)
insert_all P vertex edge [] p all = (p, tt)
insert_all P vertex edge (next ∷ edges) p all =
    if_later P (nat_lt (other_end vertex next) (other_end vertex edge)) edge next edges
    (insert_up vertex edge edges) p all.0 all.1
    (insert_all P vertex edge edges p all.1)

pub sorted_all : (P : Edge → Type 0) (vertex : ℕ) (edges : List Edge) → AllByRecursion P edges
    → AllByRecursion P (sorted_up vertex edges)
sorted_all P vertex [] all = tt
sorted_all P vertex (edge ∷ edges) all =
    insert_all P vertex edge (sorted_up vertex edges) all.0 (sorted_all P vertex edges all.1)

-- two edges lead from a vertex to different ones
abbrev LeadApart : ℕ → Edge → Edge → Type 0
LeadApart vertex one other = other_end vertex one ≢ other_end vertex other

if_apart : (vertex : ℕ) (later : Bool) (edge next : Edge) (edges others : List Edge)
    → AllByRecursion (LeadApart vertex edge) (next ∷ edges)
    → Pairwise (LeadApart vertex) (next ∷ edges) → AllByRecursion (LeadApart vertex next) others
    → Pairwise (LeadApart vertex) others
    → Pairwise (LeadApart vertex) (cond later (next ∷ others) (edge ∷ next ∷ edges))
if_apart vertex true edge next edges others all pairs more other = (more, other)
if_apart vertex false edge next edges others all pairs more other = (all, pairs)

insert_apart : (vertex : ℕ) (edge : Edge) (edges : List Edge) → AllByRecursion (LeadApart vertex edge) edges
    → Pairwise (LeadApart vertex) edges
    → Pairwise (LeadApart vertex) (insert_up vertex edge edges)
insert_apart vertex edge [] all pairs = (tt, tt)
insert_apart vertex edge (next ∷ edges) all pairs =
    if_apart vertex (nat_lt (other_end vertex next) (other_end vertex edge)) edge next edges
    (insert_up vertex edge edges) all pairs
    (insert_all (LeadApart vertex next) vertex edge edges (λ e. all.0 (sym e)) pairs.0)
    (insert_apart vertex edge edges all.1 pairs.1)

sorted_apart : (vertex : ℕ) (edges : List Edge) → Pairwise (LeadApart vertex) edges
    → Pairwise (LeadApart vertex) (sorted_up vertex edges)
sorted_apart vertex [] pairs = tt
sorted_apart vertex (edge ∷ edges) pairs =
    insert_apart vertex edge (sorted_up vertex edges) (sorted_all (LeadApart vertex edge) vertex edges pairs.0)
    (sorted_apart vertex edges pairs.1)

straight : (one other : Edge) → one.a ≡ other.a → one.b ≡ other.b → join_same one other ≡ true
straight one other e f = rw (eq-eqb one.a other.a e, eq-eqb one.b other.b f) refl

crossed : (one other : Edge) → one.a ≡ other.b → one.b ≡ other.a → join_same one other ≡ true
crossed one other e f =
    or_right ((one.a == other.a) && (one.b == other.b)) ((one.a == other.b) && (one.b == other.a))
    (rw (eq-eqb one.a other.b e, eq-eqb one.b other.a f) refl)

-- by which end of each edge is the vertex
apart_by : (vertex : ℕ) (one other : Edge) → join_same one other ≡ false → (p q : Bool) → (one.a == vertex) ≡ p
    → (other.a == vertex) ≡ q
    → (p || (one.b == vertex)) ≡ true → (q || (other.b == vertex)) ≡ true → cond p one.b one.a ≢ cond q other.b other.a
apart_by vertex one other differ true true e f t u same =
    let bad : true ≡ false = sym (straight one other (eqb-true one.a vertex e ∙ sym (eqb-true other.a vertex f)) same)
    ∙ differ in cc
apart_by vertex one other differ true false e f t u same =
    let bad : true ≡ false = sym (crossed one other (eqb-true one.a vertex e ∙ sym (eqb-true other.b vertex u)) same)
    ∙ differ in cc
apart_by vertex one other differ false true e f t u same =
    let bad : true ≡ false = sym (crossed one other same (eqb-true one.b vertex t ∙ sym (eqb-true other.a vertex f)))
    ∙ differ in cc
apart_by vertex one other differ false false e f t u same =
    let bad : true ≡ false = sym (straight one other same (eqb-true one.b vertex t ∙ sym (eqb-true other.b vertex u)))
    ∙ differ in cc

lead_apart : (vertex : ℕ) (edges : List Edge) → AllByRecursion (λ edge. touches vertex edge ≡ true) edges
    → Pairwise (λ one other. join_same one other ≡ false) edges
    → Pairwise (LeadApart vertex) edges
lead_apart vertex [] touch pairs = tt
lead_apart vertex (edge ∷ edges) touch pairs = (each edges touch.1 pairs.0, lead_apart vertex edges touch.1 pairs.1)
  where
    each : (others : List Edge) → AllByRecursion (λ other. touches vertex other ≡ true) others
        → AllByRecursion (λ other. join_same edge other ≡ false) others
        → AllByRecursion (LeadApart vertex edge) others
    each [] t d = tt
    each (other ∷ others) t d = (
      apart_by vertex edge other d.0 (edge.a == vertex) (other.a == vertex) refl refl touch.0 t.0,
      each others t.1 d.1,
    )

pub neighbours_differ : (graph : Graph) → IsSound graph → (vertex : ℕ)
    → Pairwise ◌≢◌ (map (other_end vertex) (edges_at graph vertex))
neighbours_differ graph sound vertex =
    let at = filter (touches vertex) graph.edges in
    let once : Pairwise (λ one other. join_same one other ≡ false) graph.edges =
    pairwise_from_pairs (λ one other. join_same one other ≡ false) graph.edges sound.once in
    pairwise_mapped ◌≢◌ (other_end vertex) (edges_at graph vertex)
    (sorted_apart vertex at
    (lead_apart vertex at (all_told (λ edge. touches vertex edge ≡ true) (touches vertex) (λ edge e. e) graph.edges)
    (pairwise_filtered (λ one other. join_same one other ≡ false) (touches vertex) graph.edges once)))

-- one edge leads from a vertex to no higher one than another does
abbrev LeadsUp : ℕ → Edge → Edge → Type 0
LeadsUp vertex one other = other_end vertex one ≤ other_end vertex other

if_up : (vertex : ℕ) (later : Bool) (edge next : Edge) (edges others : List Edge)
    → nat_lt (other_end vertex next) (other_end vertex edge) ≡ later
    → Pairwise (LeadsUp vertex) (next ∷ edges)
    → (LeadsUp vertex next edge → AllByRecursion (LeadsUp vertex next) others) → Pairwise (LeadsUp vertex) others
    → Pairwise (LeadsUp vertex) (cond later (next ∷ others) (edge ∷ next ∷ edges))
if_up vertex true edge next edges others e pairs more other =
    (more (let lt = ltb-true _ _ e in omega (arith, lt)), other)
if_up vertex false edge next edges others e pairs more other =
    let le = ltb-false _ _ e in
    ((le, all_by (LeadsUp vertex next) (LeadsUp vertex edge) (λ other h. omega (arith, le, h)) edges pairs.0), pairs)

insert_ascends : (vertex : ℕ) (edge : Edge) (edges : List Edge) → Pairwise (LeadsUp vertex) edges
    → Pairwise (LeadsUp vertex) (insert_up vertex edge edges)
insert_ascends vertex edge [] pairs = (tt, tt)
insert_ascends vertex edge (next ∷ edges) pairs =
    if_up vertex (nat_lt (other_end vertex next) (other_end vertex edge)) edge next edges
    (insert_up vertex edge edges) refl pairs
    (λ le. insert_all (LeadsUp vertex next) vertex edge edges le pairs.0) (insert_ascends vertex edge edges pairs.1)

sorted_ascends : (vertex : ℕ) (edges : List Edge) → Pairwise (LeadsUp vertex) (sorted_up vertex edges)
sorted_ascends vertex [] = tt
sorted_ascends vertex (edge ∷ edges) = insert_ascends vertex edge (sorted_up vertex edges) (sorted_ascends vertex edges)

both_hold : (P Q R : ℕ → Type 0) → ((n : ℕ) → P n → Q n → R n) → (ns : List ℕ) → AllByRecursion P ns
    → AllByRecursion Q ns → AllByRecursion R ns
both_hold P Q R f [] p q = tt
both_hold P Q R f (n ∷ ns) p q = (f n p.0 q.0, both_hold P Q R f ns p.1 q.1)

both_pairwise : (ns : List ℕ) → Pairwise ◌≤◌ ns → Pairwise ◌≢◌ ns → Pairwise ◌<◌ ns
both_pairwise [] p q = tt
both_pairwise (n ∷ ns) p q = (
  both_hold (λ m. n ≤ m) (λ m. n ≢ m) (λ m. n < m) (λ m le ne. omega (arith, le, ne)) ns p.0 q.0,
  both_pairwise ns p.1 q.1,
)

pub neighbours_ascend : (graph : Graph) → IsSound graph → (vertex : ℕ)
    → Pairwise ◌<◌ (map (other_end vertex) (edges_at graph vertex))
neighbours_ascend graph sound vertex =
    both_pairwise (map (other_end vertex) (edges_at graph vertex))
    (pairwise_mapped ◌≤◌ (other_end vertex) (edges_at graph vertex)
    (sorted_ascends vertex (filter (touches vertex) graph.edges)))
    (neighbours_differ graph sound vertex)
