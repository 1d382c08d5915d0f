-- Nodes next to each other where a digraph is seen from one of them, and how far they are from it.
use Rattle.std.proofs.Common.{◌≡◌, ℕ, ◌+◌, ◌&&◌, not, Bool, true, false, cond, List, [], ◌∷◌, ◌++◌, refl, sym, ap, ◌∙◌}
use Rattle.std.specs.List.{AllByRecursion, filter}
use Rattle.std.proofs.lemmas.Bool.{and_parts, both_ways, false_from_ne_true}
use Rattle.cip_digraph.specs.digraph.Digraph.{Node, is_real, children}
use Rattle.cip_digraph.specs.graph.Graph.{Graph}
use Rattle.cip_digraph.specs.digraph.View.{is_end_of, is_on_way, parent, view_children, apart}
use Rattle.cip_digraph.proofs.lemmas.lists.Elements.{all_by, all_append}
use Rattle.cip_aux.proofs.lemmas.PathEnds.{end_up, apart_off, apart_up}
use Rattle.cip_aux.proofs.lemmas.Standing.{IsBelow, all_below}

-- a node next to another one in a view from the end of a path: that one is real, and this one a sphere further off if
-- it is real
pub record IsNext (from : List ℕ) (node child : Node) : Type 0 where
  pub real : is_real node.kind ≡ true
  pub further : is_real child.kind ≡ true → apart from child.path ≡ apart from node.path + 1

off_child : (from : List ℕ) (node child : Node) → IsBelow node child
    → (is_real child.kind ≡ true → is_end_of child.path from ≡ false) → IsNext from node child
off_child from node child below off = record {
  real = below.real;
  further = λ real.
      let found = below.hangs.real real in
      let path : child.path ≡ found.0 ∷ node.path = ap (λ (n : Node). n.path) found.1 in
      ap (apart from) path ∙ apart_off from (found.0) node.path (sym (ap (λ p. is_end_of p from) path) ∙ off real);
}

-- no node below one off the way is on it
off_below : (from : List ℕ) (node child : Node) → is_on_way from node ≡ false → IsBelow node child
    → is_real child.kind ≡ true → is_end_of child.path from ≡ false
off_below from node child off below real =
    let found = below.hangs.real real in
    let path : child.path ≡ found.0 ∷ node.path = ap (λ (n : Node). n.path) found.1 in
    let end : is_end_of node.path from ≡ false = sym (ap (λ b. b && is_end_of node.path from) below.real) ∙ off in
    false_from_ne_true (is_end_of child.path from)
    (λ on. both_ways (is_end_of node.path from) end
    (end_up (found.0) node.path from (sym (ap (λ p. is_end_of p from) path) ∙ on)))

kept_off : (from : List ℕ) (node : Node) (ns : List Node) → AllByRecursion (IsBelow node) ns
    → AllByRecursion (IsNext from node) (filter (λ child. not (is_on_way from child)) ns)
kept_off from node [] all = tt
kept_off from node (child ∷ ns) all = by (is_on_way from child) refl (kept_off from node ns all.1)
  where
    by : (b : Bool) → is_on_way from child ≡ b
        → AllByRecursion (IsNext from node) (filter (λ child. not (is_on_way from child)) ns)
        → AllByRecursion (IsNext from node)
        (cond (not b) (child ∷ filter (λ child. not (is_on_way from child)) ns)
        (filter (λ child. not (is_on_way from child)) ns))
    by true e rest = rest
    by false e rest =
        (off_child from node child all.0 (λ real. sym (ap (λ b. b && is_end_of child.path from) real) ∙ e), rest)

back_by : (from : List ℕ) (node : Node) → is_real node.kind ≡ true → (path : List ℕ) → node.path ≡ path
    → is_end_of path from ≡ true → AllByRecursion (IsNext from node) (parent path)
back_by from node real [] e on = tt
back_by from node real (vertex ∷ []) e on = tt
back_by from node real (vertex ∷ next ∷ up) e on = (
  record { real = real; further = λ r. apart_up from vertex (next ∷ up) on ∙ ap (λ p. apart from p + 1) (sym e) },
  tt,
)

module _ (graph : Graph) (positions : List (List ℕ)) where
  next_by : (from : List ℕ) (node : Node) (b : Bool) → is_on_way from node ≡ b
      → AllByRecursion (IsNext from node)
      (cond b (filter (λ child. not (is_on_way from child)) (children graph positions node) ++ parent node.path)
      (children graph positions node))
  next_by from node true e =
      let parts = and_parts (is_real node.kind) (is_end_of node.path from) e in
      all_append (IsNext from node) (filter (λ child. not (is_on_way from child)) (children graph positions node))
      (parent node.path)
      (kept_off from node (children graph positions node) (all_below graph positions node))
      (back_by from node parts.0 node.path refl parts.1)
  next_by from node false e =
      all_by (IsBelow node) (IsNext from node)
      (λ child below. off_child from node child below (off_below from node child e below))
      (children graph positions node) (all_below graph positions node)

  pub all_next : (from : List ℕ) (node : Node)
      → AllByRecursion (IsNext from node) (view_children graph positions from node)
  unfolding view_children
  all_next from node = next_by from node (is_on_way from node) refl
