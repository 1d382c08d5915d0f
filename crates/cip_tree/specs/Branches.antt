-- Branches in boxes: a node with what is known of it, and the branches below it. Own.
use Rattle.std.specs.Prelude.{ℕ, suc, ◌+◌, List, [], ◌∷◌, max}
use Rattle.cip_rank.specs.declared.rules.Rules.{Rules}
use Rattle.cip_rank.specs.declared.rules.Rules.TheVariants.{Wording2013, Wording2018}
use Rattle.cip_digraph.specs.digraph.Digraph.{Node}

-- a node, with its keys by Rules 1a and 2, and those by Rule 1b in both wordings
pub record Label : Type 0 where
  pub node : Node
  pub atomic : ℕ
  pub mass : ℕ
  pub as_printed : ℕ
  pub as_corrected : ℕ

-- branches in order: of the first one its label and the branches below, and after these the others
pub data Branches : Type 0 where
  none : Branches
  more : Label → Branches → Branches → Branches

pub record Branch : Type 0 where
  pub label : Label
  pub below : Branches

abbrev pub gathered : List Branch → Branches
gathered [] = none
gathered (branch ∷ branches) = more branch.label branch.below (gathered branches)

abbrev pub listed : Branches → List Branch
listed none = []
listed (more label below others) = record { label = label; below = below } ∷ listed others

abbrev pub children : Branch → List Branch
children branch = listed branch.below

-- how many nodes there are
abbrev pub count : Branches → ℕ
count none = 0
count (more label below others) = suc (count below + count others)

abbrev pub node_count : Branch → ℕ
node_count branch = suc (count branch.below)

-- how many spheres there are
abbrev pub depth : Branches → ℕ
depth none = 0
depth (more label below others) = max (depth below + 1) (depth others)

-- the outermost sphere, counted from the node of a branch
abbrev pub height : Branch → ℕ
height branch = depth branch.below

abbrev pub distance : Rules → Label → ℕ
distance Wording2013 label = label.as_printed
distance Wording2018 label = label.as_corrected
