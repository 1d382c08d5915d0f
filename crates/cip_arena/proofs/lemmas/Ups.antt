-- The way up in the list, and the path.
use Rattle.std.proofs.Common.{◌≡◌, ◌<◌, ◌-◌, ◌==◌, ◌||◌, ℕ, zero, suc, Bool, true, false, cond, List, [], ◌∷◌, length}
use Rattle.std.proofs.Common.{None, Some, refl, sym, ap, ◌∙◌, subst, arith, inl, inr}
use Rattle.std.specs.declared.option.Option.{Option}
use Rattle.std.proofs.lemmas.Bool.{cases_order, eqb-true, eqb-false}
use Rattle.std.proofs.lemmas.List.{get_or-map, length-map}
use Rattle.cip_rank.specs.declared.rules.Rules.TheVariants.{Wording2013}
use Rattle.cip_digraph.specs.declared.nodes.NodeKind.TheVariants.{Real}
use Rattle.cip_digraph.specs.declared.nodes.NodeData.{NodeData}
use Rattle.cip_digraph.specs.rings.Alternating.{is_in}
use Rattle.cip_digraph.specs.digraph.Digraph.{Node, begins_with}
use Rattle.cip_digraph.specs.graph.Graph.{Graph}
use Rattle.cip_digraph.specs.rules.Keys.{distance_key, path_from, sphere_in_digraph}
use Rattle.cip_digraph.specs.digraph.NodeList.{told_at}
use Rattle.cip_digraph.specs.digraph.Telling.{node_at, StandsAt, Stands, TellsOf}
use Rattle.cip_digraph.specs.digraph.View.{real_at}
use Rattle.cip_digraph.proofs.lemmas.numbered.Linked.{no_placed, placed_at, ChildBy, Linked}
use Rattle.cip_digraph.proofs.lemmas.numbered.Placing.{Placed, nodes_of}
use Rattle.cip_arena.specs.Walk.{walk_on, is_above}

-- the list describes nodes that each have the number of their parent
pub record TellsPlaced (graph : Graph) (positions : List (List ℕ)) (root : ℕ) (ns : List Placed) (ts : List NodeData) : Type
    0 where
  pub linked : Linked root ns
  pub len : length ts ≡ length ns
  pub parents : (k : ℕ) → k < length ns → (told_at ts k).parent ≡ (placed_at ns k).parent
  pub each : (k : ℕ) → k < length ns → TellsOf graph positions (nodes_of ns) (placed_at ns k).node (told_at ts k)

-- the path above a node
abbrev pub path_above : List Placed → ℕ → List ℕ
path_above ns k = cond (k == 0) [] (placed_at ns (placed_at ns k).parent).node.path

-- found at the node of the way, or nowhere
abbrev pub FoundBy : List Placed → Bool → List ℕ → Option ℕ → Type 0
FoundBy ns true way r = Stands (nodes_of ns) way r
FoundBy ns false way r = r ≡ None

pub not_zero : (i : ℕ) → (i == 0) ≡ false → 0 < i
not_zero i z = elim (cases_order i 0) [
  | inl e ↦ absurd (eqb-false i 0 z e)
  | inr (inl below) ↦ absurd (omega arith)
  | inr (inr more) ↦ more
]

pub node_of : (ns : List Placed) (k : ℕ) → k < length ns → node_at (nodes_of ns) k ≡ (placed_at ns k).node
node_of ns k lt = get_or-map (λ (p : Placed). p.node) ns k no_placed (real_at []) lt

pub is_real : (node : Node) (vertex : ℕ) (up : List ℕ) → node.kind ≡ Real → node.path ≡ vertex ∷ up
    → node.vertex ≡ vertex → node ≡ real_at (vertex ∷ up)
is_real node vertex up kind path last =
    ap (λ k. record { kind = k; path = node.path; vertex = node.vertex }) kind
    ∙ ap (λ p. record { kind = Real; path = p; vertex = node.vertex }) path
    ∙ ap (λ v. record { kind = Real; path = vertex ∷ up; vertex = v }) last

pub sphere_of_real : (way : List ℕ) → distance_key Wording2013 sphere_in_digraph (real_at way) ≡ length way - 1
sphere_of_real [] = refl
sphere_of_real (vertex ∷ up) = refl

module _ (g : Graph) (positions : List (List ℕ)) (root : ℕ) (ns : List Placed) (ts : List NodeData)
    (t : TellsPlaced g positions root ns ts) where
  child_path : (k : ℕ) → k < length ns → (placed_at ns k).node.kind ≡ Real → (b : Bool) → (k == 0) ≡ b
      → ((placed_at ns k).node.path ≡ (placed_at ns k).node.vertex ∷ cond b []
      (placed_at ns (placed_at ns k).parent).node.path)
      × (is_in (placed_at ns k).node.vertex (cond b [] (placed_at ns (placed_at ns k).parent).node.path) ≡ false)
  child_path k lt real true z =
      let at : k ≡ 0 = eqb-true k 0 z in
      let first : placed_at ns k ≡ record {
        parent = 0;
        node = record {
          kind = Real;
          path = root ∷ [];
          vertex = root;
        };
      } = ap (placed_at ns) at ∙ t.linked.first in
      (ap (λ (p : Placed). p.node.path) first ∙ sym (ap (λ (p : Placed). p.node.vertex ∷ []) first), refl)
  child_path k lt real false z =
      subst (λ kind. ChildBy kind (placed_at ns (placed_at ns k).parent).node.path (placed_at ns k).node.path
      (placed_at ns k).node.vertex) real (t.linked.hung k (not_zero k z) lt).child

  pub real_path : (k : ℕ) → k < length ns → (placed_at ns k).node.kind ≡ Real
      → (placed_at ns k).node.path ≡ (placed_at ns k).node.vertex ∷ path_above ns k
  real_path k lt real = (child_path k lt real (k == 0) refl).0

  pub told_vertex : (k : ℕ) → k < length ns → (told_at ts k).vertex ≡ (placed_at ns k).node.vertex
  told_vertex k lt = (t.each k lt).vertex

  distance_by : (n : Node) → n.kind ≡ Real → distance_key Wording2013 sphere_in_digraph n ≡ length n.path - 1
  distance_by n real = ap (λ kind. distance_key Wording2013 sphere_in_digraph
      (record { kind = kind; path = n.path; vertex = n.vertex })) real

  pub told_near : (k : ℕ) → k < length ns → (placed_at ns k).node.kind ≡ Real → (told_at ts k).as_printed ≡ length
      (placed_at ns k).node.path - 1
  told_near k lt real = (t.each k lt).as_printed ∙ distance_by (placed_at ns k).node real

  pub told_stands : (k : ℕ) (way : List ℕ) → StandsAt (nodes_of ns) way k → (told_at ts k).as_printed ≡ length way - 1
  told_stands k way s =
      let lt : k < length ns = let within = s.within in omega (arith, within, length-map ns (λ (p : Placed). p.node)) in
      (t.each k lt).as_printed ∙ ap (distance_key Wording2013 sphere_in_digraph) (sym (node_of ns k lt) ∙ s.node)
      ∙ sphere_of_real way

  -- where the list finds a vertex on the way up is where it is on the path
  module _ (w : ℕ) where
    here_or : (i v : ℕ) (up : List ℕ) (b : Bool) (rest : Option ℕ) → i < length ns → (placed_at ns i).node ≡ real_at
        (v ∷ up)
        → FoundBy ns (is_in w up) (path_from w up) rest → FoundBy ns (b || is_in w up)
        (cond b (v ∷ up) (path_from w up)) (cond b (Some i) rest)
    here_or i v up true rest lt is h = record {
      within = omega (arith, lt, length-map ns (λ (p : Placed). p.node));
      node = node_of ns i lt ∙ is;
    }
    here_or i v up false rest lt is h = h

    rest_by : (i : ℕ) (b : Bool) (rest : Option ℕ) → ((i == 0) ≡ b)
        → ((i == 0) ≡ false → FoundBy ns (is_in w (placed_at ns (placed_at ns i).parent).node.path)
        (path_from w (placed_at ns (placed_at ns i).parent).node.path) rest)
        → FoundBy ns (is_in w (cond b [] (placed_at ns (placed_at ns i).parent).node.path))
        (path_from w (cond b [] (placed_at ns (placed_at ns i).parent).node.path)) (cond b None rest)
    rest_by i true rest z h = refl
    rest_by i false rest z h = h z

    pub walk_is : (m i : ℕ) → i < m → i < length ns → (placed_at ns i).node.kind ≡ Real
        → FoundBy ns (is_in w (placed_at ns i).node.path) (path_from w (placed_at ns i).node.path) (walk_on ts m i w)
    walk_is zero i a lt real = absurd (omega arith)
    walk_is (suc m) i a lt real =
        let v = (placed_at ns i).node.vertex in
        let up = path_above ns i in
        let parent : (told_at ts i).parent ≡ (placed_at ns i).parent = t.parents i lt in
        let rest : FoundBy ns (is_in w up) (path_from w up) (cond (i == 0) None (walk_on ts m (told_at ts i).parent
        w)) =
        rest_by i (i == 0) (walk_on ts m (told_at ts i).parent w) refl (λ z.
        let some = not_zero i z in
        let earlier = t.linked.earlier i some lt in
        subst (λ p. FoundBy ns (is_in w (placed_at ns (placed_at ns i).parent).node.path)
        (path_from w (placed_at ns (placed_at ns i).parent).node.path) (walk_on ts m p w)) (sym parent)
        (walk_is m (placed_at ns i).parent (omega arith) (omega arith) (t.linked.hung i some lt).above)) in
        subst (λ (path : List ℕ). FoundBy ns (is_in w path) (path_from w path) (walk_on ts (suc m) i w))
        (sym (real_path i lt real))
        (subst (λ o. FoundBy ns (is_in w (v ∷ up)) (path_from w (v ∷ up))
        (cond (o == w) (Some i) (cond (i == 0) None (walk_on ts m (told_at ts i).parent w))))
        (sym (told_vertex i lt))
        (here_or i v up (v == w) (cond (i == 0) None (walk_on ts m (told_at ts i).parent w)) lt
        (is_real (placed_at ns i).node v up real (real_path i lt real) refl) rest))

    above_by : (i : ℕ) (b : Bool) → (i == 0) ≡ b → i < length ns
        → cond b false ((told_at ts (told_at ts i).parent).vertex == w) ≡ begins_with w
        (cond b [] (placed_at ns (placed_at ns i).parent).node.path)
    above_by i true z lt = refl
    above_by i false z lt =
        let some = not_zero i z in
        let p = (placed_at ns i).parent in
        let earlier = t.linked.earlier i some lt in
        let plt : p < length ns = omega arith in
        let above = (t.linked.hung i some lt).above in
        ap (λ q. (told_at ts q).vertex == w) (t.parents i lt)
        ∙ ap (λ o. o == w) (told_vertex p plt)
        ∙ sym (ap (begins_with w) (real_path p plt above))

    -- the parent's vertex begins the path above
    pub parent_is : (i : ℕ) → i < length ns → is_above ts i w ≡ begins_with w (path_above ns i)
    parent_is i lt = above_by i (i == 0) refl lt
