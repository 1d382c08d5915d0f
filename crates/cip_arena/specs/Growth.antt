-- A digraph that grows sphere by sphere, and the columns that hold it. Own.
use Rattle.std.specs.Prelude.{◌≡◌, ◌<◌, ◌≤◌, ◌+◌, ◌^◌, ℕ, suc, List, length, vec_capacity}
use Rattle.cip_digraph.specs.declared.nodes.NodeData.{NodeData}
use Rattle.cip_digraph.specs.digraph.Digraph.{sphere}
use Rattle.cip_digraph.specs.graph.Graph.{Graph}
use Rattle.cip_digraph.specs.digraph.NodeList.{told_at, parents_of}
use Rattle.cip_digraph.specs.digraph.Telling.{first_of, Tells}
use Rattle.cip_arena.specs.Walk.{IsEarlier, IsFlagged}
use Rattle.cip_arena.specs.declared.arena.Arena.TheInside.{Inside}
use Rattle.cip_arena.specs.declared.arena.Grown.{Grown as Answer}
use Rattle.cip_arena.specs.declared.arena.Grown.TheVariants.{Grown, Whole, Over}

-- the nodes up to a sphere, which begins at a first one, and how many there is room for
pub record Growth : Type 0 where
  pub bound : ℕ
  pub root : ℕ
  pub sphere : ℕ
  pub first : ℕ
  pub nodes : List NodeData

abbrev pub growth_of : Inside → Growth
growth_of columns = record {
  bound = columns.bound;
  root = columns.root;
  sphere = columns.sphere;
  first = columns.first;
  nodes = columns.nodes.items;
}

pub record HoldGrowth (columns : Inside) : Type 0 where
  pub few : columns.bound < 2 ^ 32
  pub table_bound : columns.table.bound ≡ columns.bound
  pub parents : columns.table.parents ≡ parents_of columns.nodes.items
  pub fits : length columns.nodes.items ≤ columns.bound
  pub room : columns.bound ≤ vec_capacity columns.nodes
  pub earlier : IsEarlier columns.nodes.items
  pub nearer : (node : ℕ) → node < length columns.nodes.items → (told_at columns.nodes.items node).as_printed ≤ node
  pub first : columns.first ≤ length columns.nodes.items
  pub sphere : columns.sphere ≤ length columns.nodes.items
  pub flags_room : columns.bound ≤ vec_capacity columns.present
  pub flagged : IsFlagged columns.present.items columns.nodes.items

-- it is the digraph of a graph up to its last sphere
pub record Holds (graph : Graph) (positions : List (List ℕ)) (growth : Growth) : Type 0 where
  pub tells : Tells graph positions growth.root growth.sphere growth.nodes
  pub first : growth.first ≡ first_of graph positions growth.root growth.sphere

-- how many nodes the next sphere has
abbrev pub next_size : Graph → List (List ℕ) → Growth → ℕ
next_size graph positions growth = length (sphere graph positions growth.root (suc growth.sphere))

-- what growing answers, and what becomes of the nodes and the steps
abbrev pub GrownAs : Graph → List (List ℕ) → Growth → Growth → ℕ → ℕ → Answer → Type 0
GrownAs graph positions old new before after Grown =
    (new ≡ record old { sphere = old.sphere + 1; first = length old.nodes; nodes = new.nodes })
    × (after ≡ before + next_size graph positions old) × (0 < next_size graph positions old)
GrownAs graph positions old new before after Whole =
    (new ≡ old) × (after ≡ before) × (next_size graph positions old ≡ 0)
GrownAs graph positions old new before after Over =
    (new ≡ old) × (after ≡ before) × (old.bound < length old.nodes + next_size graph positions old)
