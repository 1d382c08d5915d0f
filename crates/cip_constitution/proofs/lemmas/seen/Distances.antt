-- Seen from the root, spheres of a digraph's paths are those of the digraph.
use Rattle.std.proofs.Common.{◌≡◌, ◌≤◌, ◌+◌, ◌-◌, ◌==◌, ◌&&◌, ◌||◌, ℕ, Bool, true, false, cond, List, [], ◌∷◌, length}
use Rattle.std.proofs.Common.{refl, sym, ap, ◌∙◌, arith}
use Rattle.std.specs.Prelude.{drop}
use Rattle.std.specs.List.{AllByRecursion}
use Rattle.std.proofs.lemmas.Bool.{eq-eqb, lt-leb}
use Rattle.cip_rank.specs.declared.rules.Rules.{Rules}
use Rattle.cip_rank.specs.declared.rules.Rules.TheVariants.{Wording2013, Wording2018}
use Rattle.cip_digraph.specs.rings.Alternating.{is_in}
use Rattle.cip_digraph.specs.declared.nodes.NodeKind.{NodeKind}
use Rattle.cip_digraph.specs.declared.nodes.NodeKind.TheVariants.{Real, Closure, Multiple, Delocalised}
use Rattle.cip_digraph.specs.digraph.Digraph.{Node, children}
use Rattle.cip_digraph.specs.graph.Graph.{Graph}
use Rattle.cip_digraph.specs.rules.Keys.{path_from, counterpart, distance_key, sphere_in_digraph}
use Rattle.cip_digraph.specs.digraph.View.{same_numbers, common, apart}
use Rattle.cip_digraph.proofs.lemmas.tree.Children.{children_have}
use Rattle.cip_digraph.proofs.lemmas.tree.Ended.{Anywhere, leads_anywhere}

-- a path that ends at the root
abbrev pub EndsAt : ℕ → List ℕ → Type 0
EndsAt root [] = ⊥
EndsAt root (vertex ∷ []) = vertex ≡ root
EndsAt root (vertex ∷ next ∷ parent_place) = EndsAt root (next ∷ parent_place)

common_step : (root vertex next : ℕ) (parent_place : List ℕ) → common (root ∷ []) (vertex ∷ next ∷ parent_place) ≡ common (root ∷ [])
    (next ∷ parent_place)
common_step root vertex next parent_place =
    let long = vertex ∷ next ∷ parent_place in
    ap (λ b. cond (b && same_numbers (drop (length (root ∷ []) - length long) (root ∷ [])) long)
    (length (next ∷ parent_place) + 1) (common (root ∷ []) (next ∷ parent_place)))
    (lt-leb (length long) (length (root ∷ [])) (omega arith))

common_one : (root : ℕ) (path : List ℕ) → EndsAt root path → common (root ∷ []) path ≡ 1
common_one root [] h = absurd h
common_one root (vertex ∷ []) h = ap (λ b. cond (b && true) 1 0) (eq-eqb root vertex (sym h))
common_one root (vertex ∷ next ∷ parent_place) h = common_step root vertex next parent_place ∙ common_one root (next ∷ parent_place) h

some_path : (root : ℕ) (path : List ℕ) → EndsAt root path → 1 ≤ length path
some_path root [] h = absurd h
some_path root (vertex ∷ parent_place) h = omega arith

pub apart_is : (root : ℕ) (path : List ℕ) → EndsAt root path → apart (root ∷ []) path ≡ sphere_in_digraph path
apart_is root path h = let one = common_one root path h in let some = some_path root path h in omega (arith, one, some)

from_ends_by : (root vertex first : ℕ) (parent_place : List ℕ) (b : Bool) → EndsAt root (first ∷ parent_place)
    → (is_in vertex parent_place ≡ true → EndsAt root (path_from vertex parent_place)) → (b || is_in vertex parent_place) ≡ true
    → EndsAt root (cond b (first ∷ parent_place) (path_from vertex parent_place))
from_ends_by root vertex first parent_place true h rest e = h
from_ends_by root vertex first parent_place false h rest e = rest e

tail_ends : (root first : ℕ) (parent_place : List ℕ) (vertex : ℕ) → EndsAt root (first ∷ parent_place) → is_in vertex parent_place ≡ true
    → EndsAt root parent_place
tail_ends root first [] vertex h e = let bad : false ≡ true = e in cc
tail_ends root first (next ∷ parent_place) vertex h e = h

from_ends : (root vertex : ℕ) (path : List ℕ) → EndsAt root path → is_in vertex path ≡ true
    → EndsAt root (path_from vertex path)
from_ends root vertex [] h e = absurd h
from_ends root vertex (first ∷ parent_place) h e =
    from_ends_by root vertex first parent_place (first == vertex) h (λ later. from_ends root vertex parent_place
    (tail_ends root first parent_place vertex h later) later) e

longer_ends : (root vertex : ℕ) (path : List ℕ) → EndsAt root path → EndsAt root (vertex ∷ path)
longer_ends root vertex [] h = absurd h
longer_ends root vertex (first ∷ parent_place) h = h

counterpart_by : (root vertex : ℕ) (path : List ℕ) (b : Bool) → is_in vertex path ≡ b → EndsAt root path
    → EndsAt root (cond b (path_from vertex path) (vertex ∷ path))
counterpart_by root vertex path true e h = from_ends root vertex path h e
counterpart_by root vertex path false e h = longer_ends root vertex path h

counterpart_ends : (root : ℕ) (node : Node) → EndsAt root node.path → EndsAt root (counterpart node)
counterpart_ends root node h = counterpart_by root node.vertex node.path (is_in node.vertex node.path) refl h

distance_by : (root : ℕ) (rules : Rules) (kind : NodeKind) (path : List ℕ) (vertex : ℕ) → EndsAt root path
    → distance_key rules (apart (root ∷ [])) (record { kind = kind; path = path; vertex = vertex }) ≡ distance_key rules
    sphere_in_digraph (record { kind = kind; path = path; vertex = vertex })
distance_by root Wording2013 Real path vertex h = apart_is root path h
distance_by root Wording2018 Real path vertex h = apart_is root path h
distance_by root Wording2013 Closure path vertex h = apart_is root _ (counterpart_by root vertex path
    (is_in vertex path) refl h)
distance_by root Wording2018 Closure path vertex h = apart_is root _ (counterpart_by root vertex path
    (is_in vertex path) refl h)
distance_by root Wording2013 Multiple path vertex h = apart_is root _ (counterpart_by root vertex path
    (is_in vertex path) refl h)
distance_by root Wording2018 Multiple path vertex h = apart_is root path h
distance_by root Wording2013 Delocalised path vertex h = apart_is root path h
distance_by root Wording2018 Delocalised path vertex h = apart_is root path h

-- so distances are those of the digraph
pub distance_is : (root : ℕ) (rules : Rules) (node : Node) → EndsAt root node.path
    → distance_key rules (apart (root ∷ [])) node ≡ distance_key rules sphere_in_digraph node
distance_is root rules node h = distance_by root rules node.kind node.path node.vertex h

module _ (graph : Graph) (positions : List (List ℕ)) (root : ℕ) where
  below_by : (kind : NodeKind) (path : List ℕ) (vertex : ℕ) → EndsAt root path
      → AllByRecursion (λ (node : Node). EndsAt root node.path)
      (children graph positions (record { kind = kind; path = path; vertex = vertex }))
  below_by Real [] vertex h = tt
  below_by Real (first ∷ parent_place) vertex h =
      children_have Anywhere first parent_place (λ (node : Node). EndsAt root node.path)
      (record { reals = λ other _ e. h; closures = λ other _ e. h; multiples = λ other _. h; delocaliseds = h })
      graph positions (leads_anywhere graph first)
  below_by Closure path vertex h = tt
  below_by Multiple path vertex h = tt
  below_by Delocalised path vertex h = tt

  pub below_ends : (node : Node) → EndsAt root node.path → AllByRecursion (λ (child : Node). EndsAt root child.path)
      (children graph positions node)
  below_ends node h = below_by node.kind node.path node.vertex h
