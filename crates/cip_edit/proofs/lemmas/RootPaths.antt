-- Paths from a root that meet it at their end alone: those of all real nodes of its digraph, from wherever it is seen.
use Rattle.std.proofs.Common.{◌≡◌, ◌≢◌, ℕ, List, [], ◌∷◌, ◌++◌, refl, sym, ap, ◌∙◌, Bool, true, false, cond, not, ◌==◌, ◌||◌, eq-eqb}
use Rattle.std.specs.Prelude.{filter}
use Rattle.std.specs.List.{AllByRecursion, list_all}
use Rattle.std.proofs.lemmas.Bool.{and_parts}
use Rattle.cip_digraph.specs.declared.nodes.NodeKind.{NodeKind}
use Rattle.cip_digraph.specs.declared.nodes.NodeKind.TheVariants.{Real, Closure, Multiple, Delocalised}
use Rattle.cip_digraph.specs.digraph.Digraph.{Node, children}
use Rattle.cip_digraph.specs.digraph.View.{parent, is_on_way, view_children}
use Rattle.cip_digraph.specs.graph.Graph.{Graph}
use Rattle.cip_digraph.specs.rings.Alternating.{is_in}
use Rattle.cip_digraph.proofs.lemmas.tree.Children.{Passed, children_have}
use Rattle.cip_digraph.proofs.lemmas.tree.Ended.{Anywhere, leads_anywhere}
use Rattle.cip_digraph.proofs.lemmas.lists.Elements.{all_append, all_filtered}

-- by the path back to the root
abbrev pub EndsAt : ℕ → List ℕ → Type 0
EndsAt root [] = ⊥
EndsAt root (vertex ∷ []) = vertex ≡ root
EndsAt root (vertex ∷ next ∷ up) = (vertex ≢ root) × EndsAt root (next ∷ up)

-- a node, or the one that carries it
abbrev pub IsBelow : ℕ → Node → Type 0
IsBelow root node = EndsAt root node.path

pub or_right : (a b : Bool) → b ≡ true → (a || b) ≡ true
or_right true b e = refl
or_right false b e = e

root_met : (root : ℕ) (path : List ℕ) → EndsAt root path → is_in root path ≡ true
root_met root [] h = absurd h
root_met root (vertex ∷ []) h = ap (λ b. b || false) (eq-eqb vertex root h)
root_met root (vertex ∷ next ∷ up) h =
    or_right (vertex == root) (is_in root (next ∷ up)) (root_met root (next ∷ up) h.1)

-- what isn't on the path isn't the root
pub not_root : (root vertex : ℕ) (path : List ℕ) → EndsAt root path → is_in vertex path ≡ false → vertex ≢ root
not_root root vertex path h none e =
    let bad : true ≡ false = sym (root_met root path h) ∙ ap (λ v. is_in v path) (sym e) ∙ none in cc

pub longer : (root vertex : ℕ) (path : List ℕ) → vertex ≢ root → EndsAt root path → EndsAt root (vertex ∷ path)
longer root vertex [] other h = absurd h
longer root vertex (next ∷ up) other h = (other, h)

not_true : (b : Bool) → not b ≡ true → b ≡ false
not_true true e = let bad : false ≡ true = e in cc
not_true false e = refl

-- with vertices in front that aren't on the path
pub longer_by : (root : ℕ) (path others : List ℕ) → EndsAt root path
    → list_all (λ vertex. not (is_in vertex path)) others ≡ true → EndsAt root (others ++ path)
longer_by root path [] h none = h
longer_by root path (vertex ∷ others) h none =
    let both = and_parts (not (is_in vertex path)) (list_all (λ v. not (is_in v path)) others) none in
    longer root vertex (others ++ path) (not_root root vertex path h (not_true (is_in vertex path) both.0))
    (longer_by root path others h both.1)

module _ (graph : Graph) (positions : List (List ℕ)) (root : ℕ) where
  below_real : (vertex : ℕ) (up : List ℕ) → EndsAt root (vertex ∷ up) → Passed Anywhere vertex up (IsBelow root)
  below_real vertex up h = record {
    reals = λ other _ e. (not_root root other (vertex ∷ up) h e, h);
    closures = λ other _ e. h;
    multiples = λ other _. h;
    delocaliseds = h;
  }

  below_by : (kind : NodeKind) (path : List ℕ) (vertex : ℕ) → EndsAt root path
      → AllByRecursion (IsBelow root)
      (children graph positions (record { kind = kind; path = path; vertex = vertex }))
  below_by Real [] vertex h = absurd h
  below_by Real (first ∷ up) vertex h =
      children_have Anywhere first up (IsBelow root) (below_real first up h) graph positions
      (leads_anywhere graph first)
  below_by Closure path vertex h = tt
  below_by Multiple path vertex h = tt
  below_by Delocalised path vertex h = tt

  parent_below : (path : List ℕ) → EndsAt root path → AllByRecursion (IsBelow root) (parent path)
  parent_below [] h = tt
  parent_below (vertex ∷ []) h = tt
  parent_below (vertex ∷ next ∷ up) h = (h.1, tt)

  view_by : (from : List ℕ) (node : Node) (b : Bool) → IsBelow root node → AllByRecursion (IsBelow root)
      (cond b (filter (λ child. not (is_on_way from child)) (children graph positions node) ++ parent node.path)
      (children graph positions node))
  view_by from node true h =
      all_append (IsBelow root) (filter (λ child. not (is_on_way from child)) (children graph positions node))
      (parent node.path)
      (all_filtered (IsBelow root) (λ child. not (is_on_way from child)) (children graph positions node)
      (below_by node.kind node.path node.vertex h)) (parent_below node.path h)
  view_by from node false h = below_by node.kind node.path node.vertex h

  -- from wherever a digraph is seen
  pub view_below : (from : List ℕ) (node : Node) → IsBelow root node
      → AllByRecursion (IsBelow root) (view_children graph positions from node)
  unfolding view_children
  view_below from node h = view_by from node (is_on_way from node) h
