-- The node that stands for a neighbour of the root, by its number.
use Rattle.std.proofs.Common.{◌≡◌, ◌<◌, ℕ, true, List, [], ◌∷◌, None, Some, sym, subst}
use Rattle.std.specs.Prelude.{unwrap_or}
use Rattle.std.specs.declared.option.Option.{Option}
use Rattle.cip_mol.specs.declared.site.Ligand.TheVariants.{Vertex}
use Rattle.cip_digraph.specs.rings.Alternating.{is_in}
use Rattle.cip_digraph.specs.digraph.Digraph.{real_node, digraph}
use Rattle.cip_digraph.specs.digraph.Telling.{node_at}
use Rattle.cip_digraph.specs.graph.Graph.{Graph, neighbours}
use Rattle.cip_digraph.specs.graph.SoundGraphs.{IsSound}
use Rattle.cip_arena.specs.Growth.{Growth, Holds}
use Rattle.cip_constitution.specs.Standing.{ligand_number, number_at}
use Rattle.cip_constitution.proofs.lemmas.node_data.Differ.{IsFirst, LigandAt, ligand_at}
use Rattle.cip_label.proofs.lemmas.LigandNodes.{one_node}

module _ (g : Graph) (positions : List (List ℕ)) (a : Growth) (h : Holds g positions a) (some : 0 < a.sphere)
    (sound : IsSound g) where
  -- the first node that stands for a vertex is its real node below the root
  pub record IsNumber (vertex number : ℕ) : Type 0 where
    pub first : IsFirst g positions a h some sound number
    pub node : node_at (digraph g positions a.root a.sphere) number ≡ real_node vertex (a.root ∷ [])

  number_by : (vertex : ℕ) (found : Option ℕ)
      → LigandAt g positions a h some sound found (real_node vertex (a.root ∷ []) ∷ [])
      → IsNumber vertex (unwrap_or found 0)
  number_by vertex None at = let bad : real_node vertex (a.root ∷ []) ∷ [] ≡ [] = at in cc
  number_by vertex (Some number) at =
      let is : real_node vertex (a.root ∷ []) ∷ [] ≡ node_at (digraph g positions a.root a.sphere) number ∷ [] = at.0 in
      let node : real_node vertex (a.root ∷ []) ≡ node_at (digraph g positions a.root a.sphere) number = cc in
      record { first = at.1; node = sym node }

  pub number_is : (vertex : ℕ) → is_in vertex (neighbours g a.root) ≡ true → IsNumber vertex (number_at a.nodes vertex)
  number_is vertex beside =
      number_by vertex (ligand_number a.nodes (Vertex vertex))
      (subst (LigandAt g positions a h some sound (ligand_number a.nodes (Vertex vertex)))
      (one_node g sound a.root positions vertex beside) (ligand_at g positions a h some sound (Vertex vertex)))
