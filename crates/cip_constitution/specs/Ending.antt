-- Branches that have their last nodes in another sphere than the last one, and ligands that are not alike within the
-- last sphere unless they were before. Own.
use Rattle.std.specs.Prelude.{◌≡◌, ◌≢◌, ◌<◌, ◌≤◌, ◌-◌, ◌⊎◌, ◌==◌, ℕ, Bool, true, false, not, List, [], ◌∷◌, length, None, Some, slice_index}
use Rattle.std.specs.List.{AllByRecursion}
use Rattle.std.specs.declared.option.Option.{Option}
use Rattle.cip_branches.specs.Deciding.{Branched}
use Rattle.cip_partition.specs.Parting.{has_flag}
use Rattle.cip_rank.specs.declared.rules.Rules.{Rules}
use Rattle.cip_mol.specs.declared.site.Ligand.{Ligand}
use Rattle.cip_mol.specs.declared.site.Ligand.TheVariants.{LonePair, Vertex}
use Rattle.cip_mol.specs.declared.site.Unit as units
use Rattle.cip_digraph.specs.outcome.Deciding.{is_empty}
use Rattle.cip_digraph.specs.digraph.Digraph.{children, digraph}
use Rattle.cip_digraph.specs.graph.Graph.{Graph}
use Rattle.cip_digraph.specs.digraph.Telling.{node_at}
use Rattle.cip_arena.specs.Growth.{Growth}
use Rattle.cip_constitution.specs.Alike.{is_closed_ligand}
use Rattle.cip_constitution.specs.Following.{numbers_of}
use Rattle.cip_constitution.specs.Standing.{ligand_number, differ_told}

-- a place of the last sphere, in a branch, has a node with children
pub record GoesOn (graph : Graph) (positions : List (List ℕ)) (growth : Growth) (branched : Branched) (branch : ℕ) :
    Type 0 where
  pub at : ℕ
  pub low : branched.first ≤ at
  pub high : at < length branched.layers.place_tree.place_parents
  pub below : slice_index branched.layers.place_tree.branches at ≡ branch
  pub some : is_empty (children graph positions (node_at (digraph graph positions growth.root growth.sphere)
      (slice_index branched.layers.place_tree.nodes at))) ≡ false

-- no place of the last sphere is in a branch
pub record EndedBefore (branched : Branched) (branch : ℕ) : Type 0 where
  pub none : (place : ℕ) → branched.first ≤ place → place < length branched.layers.place_tree.place_parents
      → slice_index branched.layers.place_tree.branches place ≢ branch

-- a branch is followed still, and the last sphere is not the one in which it ends
pub record EndsElsewhere (graph : Graph) (positions : List (List ℕ)) (growth : Growth) (branched : Branched)
    (branch : ℕ) : Type 0 where
  pub unresolved : has_flag branched.unresolved branch ≡ true
  pub elsewhere : GoesOn graph positions growth branched branch ⊎ EndedBefore branched branch

-- the same of the root's child of a number, of which a lone pair has none
abbrev pub ElsewhereBy : Graph → List (List ℕ) → Growth → Branched → Option ℕ → Type 0
ElsewhereBy graph positions growth branched None = Unit {0}
ElsewhereBy graph positions growth branched (Some top) = EndsElsewhere graph positions growth branched (top - 1)

abbrev pub LigandEndsElsewhere : Graph → List (List ℕ) → Growth → Branched → Ligand → Type 0
LigandEndsElsewhere graph positions growth branched ligand =
    ElsewhereBy graph positions growth branched (ligand_number growth.nodes ligand)

-- two ligands differ, or neither branch has its last nodes in the last sphere, or one of them isn't closed
abbrev pub NotAnew : Rules → Graph → List (List ℕ) → List units.Unit → Growth → Branched → Ligand → Ligand → Type 0
NotAnew rules graph positions all growth branched a b =
    (differ_told (numbers_of branched) growth.nodes a b ≡ true)
    ⊎ (((1 < growth.sphere) × LigandEndsElsewhere graph positions growth branched a
    × LigandEndsElsewhere graph positions growth branched b)
    ⊎ ((is_closed_ligand rules graph positions all growth a ≡ false)
    ⊎ (is_closed_ligand rules graph positions all growth b ≡ false)))

-- each two of some
abbrev pub EachPair : {X : Type 0} → (X → X → Type 0) → List X → Type 0
EachPair R [] = Unit {0}
EachPair R (x ∷ xs) = AllByRecursion (R x) xs × EachPair R xs

-- two ligands aren't of the same vertex
abbrev pub are_unlike : Ligand → Ligand → Bool
are_unlike LonePair b = true
are_unlike (Vertex v) LonePair = true
are_unlike (Vertex v) (Vertex w) = not (v == w)
