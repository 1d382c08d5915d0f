-- The digraph of a root up to a sphere, in boxes. Own.
use Rattle.std.specs.Prelude.{ℕ, zero, suc, List, [], map}
use Rattle.cip_rank.specs.declared.rules.Rules.TheVariants.{Wording2013, Wording2018}
use Rattle.cip_digraph.specs.digraph.Digraph.{Node, real_node, children}
use Rattle.cip_digraph.specs.graph.Graph.{Graph}
use Rattle.cip_digraph.specs.rules.Keys.{atomic_key, mass_key, distance_key, sphere_in_digraph}
use Rattle.cip_tree.specs.Branches.{Label, Branch, none, gathered}

module _ (graph : Graph) (positions : List (List ℕ)) where
  abbrev pub label_of : Node → Label
  label_of node = record {
    node = node;
    atomic = atomic_key graph positions node;
    mass = mass_key graph node;
    as_printed = distance_key Wording2013 sphere_in_digraph node;
    as_corrected = distance_key Wording2018 sphere_in_digraph node;
  }

  abbrev pub bare : Node → Branch
  bare node = record { label = label_of node; below = none }

  -- a node with n spheres below it
  unfoldable pub grown : ℕ → Node → Branch
  grown zero node = bare node
  grown (suc spheres) node =
      record { label = label_of node; below = gathered (map (grown spheres) (children graph positions node)) }

  abbrev pub boxed_digraph : ℕ → ℕ → Branch
  boxed_digraph root sphere = grown sphere (real_node root [])
