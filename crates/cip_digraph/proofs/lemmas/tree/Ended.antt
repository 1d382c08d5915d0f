-- Paths never repeat a vertex, so a digraph ends.
use Rattle.std.proofs.Common.{◌≡◌, ◌+◌, ◌<◌, ◌≤◌, ℕ, suc, Bool, true, false, cond, ◌==◌, eqb, List, [], ◌∷◌, length}
use Rattle.std.proofs.Common.{refl, sym, ◌∙◌, arith, eqb-true, subst, inl, inr}
use Rattle.std.proofs.lemmas.Bool.{or_parts, or_cases, ne_eqb, cases_eq, eq-eqb}
use Rattle.std.specs.List.{AllByRecursion, list_any, IsDistinct, filter}
use Rattle.std.proofs.lemmas.Map.Keys.{IsDistinct-cons}
use Rattle.std.proofs.lemmas.Map.Steps.{length-le_from_distinct_below}
use Rattle.cip_digraph.specs.rings.Alternating.{is_in}
use Rattle.cip_digraph.specs.digraph.Digraph.{NodeKind, Real, Node, real_node, children}
use Rattle.cip_digraph.specs.digraph.Digraph.{sphere}
use Rattle.cip_digraph.specs.declared.drawing.graph.Edge.{Edge}
use Rattle.cip_digraph.specs.graph.Graph.{Graph, edges_at, other_end, touches}
use Rattle.cip_digraph.specs.graph.SoundGraphs.{JoinsBelow, IsSound}
use Rattle.cip_digraph.proofs.lemmas.tree.Children.{Leads, Passed, Passes, children_have, sphere_has}
use Rattle.cip_digraph.proofs.lemmas.bonds.Neighbours.{sorted_all}
use Rattle.cip_digraph.proofs.lemmas.lists.Elements.{all_by, all_filtered, by_recursion, all_each}

-- one for a real node
abbrev pub own : NodeKind → ℕ
own Real = 1
own kind = 0

-- the path of a node of a sphere, of which W holds: no vertex twice, as long as the sphere says
pub record IsPath (W : ℕ → Type 0) (number : ℕ) (node : Node) : Type 0 where
  pub len : length node.path ≡ number + own node.kind
  pub once : IsDistinct eqb node.path
  pub all : AllByRecursion W node.path

eqb_turned : (a b : ℕ) → eqb a b ≡ eqb b a
eqb_turned a b =
    elim (cases_eq a b) [
      | inl same ↦ eq-eqb a b same ∙ sym (eq-eqb b a (sym same))
      | inr other ↦ ne_eqb a b other
          ∙ sym (ne_eqb b a (λ e. other (sym e)))
    ]

not_in : (vertex : ℕ) (path : List ℕ) → is_in vertex path ≡ false
    → AllByRecursion (λ other. eqb vertex other ≡ false) path
not_in vertex [] h = tt
not_in vertex (other ∷ path) h =
    let parts = or_parts (eqb other vertex) (is_in vertex path) h in
    (eqb_turned vertex other ∙ parts.0, not_in vertex path parts.1)

pub member_below : (count : ℕ) (path : List ℕ) → AllByRecursion (λ vertex. vertex < count) path → (q : ℕ)
    → list_any (eqb q) path ≡ true → q < count
member_below count [] all q h = let bad : false ≡ true = h in cc
member_below count (vertex ∷ path) all q h =
    elim (or_cases (eqb q vertex) (list_any (eqb q) path) h) [
      | inl here ↦ subst (λ v. v < count) (sym (eqb-true q vertex here)) all.0
      | inr later ↦ member_below count path all.1 q later
    ]

module _ (graph : Graph) (positions : List (List ℕ)) (W : ℕ → Type 0)
    (leads : (vertex : ℕ) → W vertex → Leads graph W vertex) where
  real_step : (number vertex : ℕ) (up : List ℕ) → IsPath W number (real_node vertex up)
      → Passed W vertex up (IsPath W (suc number))
  real_step number vertex up h = record {
    reals = λ other w e. record {
      len = omega (arith, h.len);
      once =
          IsDistinct-cons eqb other (vertex ∷ up) (not_in other (vertex ∷ up) e) h.once;
      all = (w, h.all);
    };
    closures = λ other w e. record { len = omega (arith, h.len); once = h.once; all = h.all };
    multiples = λ other w. record { len = omega (arith, h.len); once = h.once; all = h.all };
    delocaliseds = record { len = omega (arith, h.len); once = h.once; all = h.all };
  }

  path_step : (number : ℕ) (kind : NodeKind) (path : List ℕ) (vertex : ℕ)
      → IsPath W number (record { kind = kind; path = path; vertex = vertex })
      → AllByRecursion (IsPath W (suc number))
      (children graph positions (record { kind = kind; path = path; vertex = vertex }))
  path_step number Real (first ∷ up) vertex h =
      children_have W first up (IsPath W (suc number))
      (real_step number first up (record { len = h.len; once = h.once; all = h.all }))
      graph positions (leads first h.all.0)
  path_step number kind path vertex h = tt

  alone : (root : ℕ) → IsDistinct eqb (root ∷ [])
  unfolding IsDistinct
  alone root = (tt, tt)

  pub paths_pass : (root : ℕ) → W root → Passes graph positions root (IsPath W)
  paths_pass root w = record {
    at_root = record { len = refl; once = alone root; all = (w, tt) };
    step = λ number node h. path_step number node.kind node.path node.vertex h;
  }

-- any vertex
abbrev pub Anywhere : ℕ → Type 0
Anywhere vertex = Unit {0}

pub leads_anywhere : (graph : Graph) (vertex : ℕ) → Leads graph Anywhere vertex
leads_anywhere graph vertex = all_each (λ edge. Anywhere (other_end vertex edge)) (λ _. tt) (edges_at graph vertex)

end_below : (count vertex : ℕ) (edge : Edge) → JoinsBelow count edge → other_end vertex edge < count
end_below count vertex edge j = by (edge.a == vertex)
  where
    by : (b : Bool) → cond b edge.b edge.a < count
    by true = j.b
    by false = j.a

-- in a sound graph edges lead to vertices of it
pub leads_below : (graph : Graph) → IsSound graph → (vertex : ℕ) → vertex < length graph.vertices
    → Leads graph (λ other. other < length graph.vertices) vertex
leads_below graph sound vertex lt =
    let count = length graph.vertices in
    all_by (JoinsBelow count) (λ edge. other_end vertex edge < count) (λ edge j. end_below count vertex edge j)
    (edges_at graph vertex)
    (sorted_all (JoinsBelow count) vertex (filter (touches vertex) graph.edges)
    (all_filtered (JoinsBelow count) (touches vertex) graph.edges
    (by_recursion (JoinsBelow count) graph.edges sound.edges)))

sphere_few : (count number : ℕ) (node : Node) → IsPath (λ vertex. vertex < count) number node → number ≤ count
sphere_few count number node h =
    let few : length node.path ≤ count =
    length-le_from_distinct_below node.path count h.once (member_below count node.path h.all) in
    omega (arith, few, h.len)

none_left : (count number : ℕ) → count < number → (nodes : List Node)
    → AllByRecursion (IsPath (λ vertex. vertex < count) number) nodes → nodes ≡ []
none_left count number far [] all = refl
none_left count number far (node ∷ nodes) all = let few = sphere_few count number node all.0 in absurd (omega arith)

pub ended : (graph : Graph) (positions : List (List ℕ)) (root number : ℕ) → IsSound graph → root < length graph.vertices
    → length graph.vertices < number → sphere graph positions root number ≡ []
ended graph positions root number sound lt far =
    let W : ℕ → Type 0 = λ vertex. vertex < length graph.vertices in
    none_left (length graph.vertices) number far (sphere graph positions root number)
    (sphere_has graph positions root (IsPath W) (paths_pass graph positions W (leads_below graph sound) root lt) number)
